-- What the fields of a reader show.
use Rattle.xsk_recording.specs.Feeding.{Reader}
use Rattle.xsk_recording.specs.declared.reading.Reading.TheInside.{Inside}

abbrev pub reader_of : Inside → Reader
reader_of r = record { header = r.head; time = r.time; lines = r.lines; begun = r.begun.items }
