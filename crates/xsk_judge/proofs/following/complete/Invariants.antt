use Rattle.std.proofs.Common.{◌≡◌, ◌+◌, take}
use Rattle.xsk_model.specs.declared.call.Ring.TheVariants.{Comp}
use Rattle.xsk_side.specs.Entries.{strays_in}
use Rattle.xsk_judge.specs.Judging.{AreNew, marked, peeked}
use Rattle.xsk_judge.proofs.following.complete.Given as goal

abbrev pub invariant-loop-i : goal.invariant-loop-i
invariant-loop-i l =
    (l.frames ≡ marked l.setting (peeked (Comp l.fn.pair) l.fn.first l.fn.line) l.fn.at (take l.i l.entries) l.initial.frames)
    × AreNew l.setting l.initial.frames (Comp l.fn.pair) (take l.i l.entries)
    × (l.left + strays_in l.setting (take l.i l.entries) ≡ l.fn.strays)
