use Rattle.std.proofs.Common.{◌≡◌, take}
use Rattle.xsk_judge.specs.Judging.{AreMine, marked, given}
use Rattle.xsk_judge.proofs.following.give.Given as goal

abbrev pub invariant-loop-i : goal.invariant-loop-i
invariant-loop-i l =
    (l.frames ≡ marked l.setting (given l.fn.ring l.line) 0 (take l.i l.entries) l.initial.frames) × AreMine l.setting l.initial.frames (take l.i l.entries)
