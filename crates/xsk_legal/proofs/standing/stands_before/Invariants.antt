use Rattle.std.proofs.Common.{◌≡◌, take}
use Rattle.xsk_model.specs.Numbers.{times, numbers}
use Rattle.xsk_legal.proofs.standing.stands_before.Given as goal

abbrev pub invariant-loop-k : goal.invariant-loop-k
invariant-loop-k l = times l.frame (numbers (take l.k l.items)) ≡ 0
