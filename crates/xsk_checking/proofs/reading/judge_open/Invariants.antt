use Rattle.std.proofs.Common.{◌<◌, vec_len}
use Rattle.xsk_checking.specs.Ending.{HasBegun}
use Rattle.xsk_checking.proofs.reading.judge_open.Given as goal

abbrev pub invariant-loop-piece : goal.invariant-loop-piece
invariant-loop-piece g l = (0 < vec_len l.piece) × HasBegun (g.B.Bay.moment l.initial.bay) (g.B.Bay.moment l.bay) l.check
