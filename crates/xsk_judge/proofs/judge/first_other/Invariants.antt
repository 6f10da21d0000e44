use Rattle.std.proofs.Common.{◌≡◌, take}
use Rattle.xsk_judge.specs.Kept.{standing}
use Rattle.xsk_judge.proofs.judge.first_other.Given as goal

abbrev pub invariant-loop-i : goal.invariant-loop-i
invariant-loop-i l = take l.i l.entries ≡ take l.i (standing l.queue)
