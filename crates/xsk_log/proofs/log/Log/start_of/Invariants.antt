use Rattle.std.proofs.Common.{◌≡◌, take}
use Rattle.std.specs.Prelude.{sum_by}
use Rattle.xsk_log.specs.Pieces.{count_of}
use Rattle.xsk_log.proofs.log.Log.start_of.Given as goal

abbrev pub invariant-loop-k : goal.invariant-loop-k
invariant-loop-k l = l.start ≡ sum_by count_of (take l.k l.self.rows.items)
