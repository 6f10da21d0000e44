use Rattle.std.proofs.Common.{◌≡◌, None, replicate}
use Rattle.xsk_c.proofs.purse.Purse.new.Given as goal

abbrev pub invariant-loop-i : goal.invariant-loop-i
invariant-loop-i l = l.frames.items ≡ replicate l.i None
