use Rattle.std.proofs.Common.{◌≡◌, ◌-◌, length}
use Rattle.xsk_recording.specs.Line.{entries_at}
use Rattle.xsk_recording.proofs.Entries.{front_of}
use Rattle.xsk_recording.proofs.words.read_entries.Given as goal

abbrev pub invariant-loop-entry : goal.invariant-loop-entry
invariant-loop-entry l = (length l.entries.items ≡ l._entry) × (front_of l.entries.items (entries_at (32 - l._entry) l.rest) ≡ entries_at 32 l.text)
