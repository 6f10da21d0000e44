use Rattle.std.proofs.Common.{◌≡◌, take}
use Rattle.xsk_judge.specs.Judging.{marked, peeked}
use Rattle.xsk_judge.proofs.following.show.Given as goal

abbrev pub invariant-loop-i : goal.invariant-loop-i
invariant-loop-i l = l.frames ≡ marked l.setting (peeked l.fn.ring l.fn.first l.fn.line) l.fn.at (take l.i l.entries) l.initial.frames
