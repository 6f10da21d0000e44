use Rattle.std.proofs.Common.{◌≡◌, ◌++◌, drop}
use Rattle.xsk_model.specs.Numbers.{numbers}
use Rattle.xsk_plain.specs.Engine.{part_in}
use Rattle.xsk_why.specs.Frames.{ranges, ranges_from}
use Rattle.xsk_why.proofs.frames.push_frames.Given as goal

abbrev pub invariant-loop-i : goal.invariant-loop-i
invariant-loop-i l =
    l.text.items ++ ranges_from l.begun (numbers (drop l.i (part_in l.plain.config l.plain.rings l.ring).out))
    ≡ l.initial.text.items ++ ranges (numbers (part_in l.plain.config l.plain.rings l.ring).out)
