use Rattle.std.proofs.Common.{◌≡◌, take, drop}
use Rattle.xsk_judge.specs.Judging.{again, marked}
use Rattle.xsk_judge.proofs.following.put_back.Given as goal

abbrev pub invariant-loop-i : goal.invariant-loop-i
invariant-loop-i l = l.frames ≡ marked l.setting (again l.fn.ring l.fn.line) 0 (take l.i (drop l.start l.queue.entries)) l.initial.frames
