use Rattle.std.proofs.Common.{◌≡◌, take}
use Rattle.xsk_side.specs.Entries.{times}
use Rattle.xsk_judge.proofs.following.stands_among.Given as goal

abbrev pub invariant-loop-i : goal.invariant-loop-i
invariant-loop-i l = times l.setting l.frame (take l.i l.entries) ≡ 0
