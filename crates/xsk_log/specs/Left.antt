-- What a walk over a log tells: the entries that it hasn't passed, and of how many pairs their lines are.
use Rattle.std.specs.Prelude.{ℕ, List, drop}
use Rattle.xsk_model.specs.Entry.{Entry}
use Rattle.xsk_log.specs.Log.{entries_of}
use Rattle.xsk_log.specs.declared.lines.Lines.{Lines}

abbrev pub left_of : Lines → List Entry
left_of lines = drop lines.row (entries_of lines.log.now)

abbrev pub pairs_of : Lines → ℕ
pairs_of lines = lines.pairs
