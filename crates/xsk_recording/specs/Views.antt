-- What readers of the code read, with the entries that stand beside it.
use Rattle.std.specs.Prelude.{ℕ, Option, None, Some, List}
use Rattle.std.specs.Borrow.{Bor}
use Rattle.xsk_umem.specs.declared.batch.XdpDesc.{XdpDesc}
use Rattle.xsk_lines.specs.Reading.{Reads}

abbrev pub entries_view : Option (Bor (List ℕ)) → List XdpDesc → Reads (List XdpDesc)
entries_view None entries = None
entries_view (Some rest) entries = Some (entries, rest.now)
