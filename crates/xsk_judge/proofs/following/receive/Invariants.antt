use Rattle.std.proofs.Common.{◌≡◌, take}
use Rattle.xsk_model.specs.declared.call.Ring.TheVariants.{Rx}
use Rattle.xsk_judge.specs.Judging.{AreNew, marked, peeked}
use Rattle.xsk_judge.proofs.following.receive.Given as goal

abbrev pub invariant-loop-i : goal.invariant-loop-i
invariant-loop-i l =
    (l.frames ≡ marked l.setting (peeked (Rx l.fn.socket) l.fn.first l.fn.line) l.fn.at (take l.i l.entries) l.initial.frames)
    × AreNew l.setting l.initial.frames (Rx l.fn.socket) (take l.i l.entries)
