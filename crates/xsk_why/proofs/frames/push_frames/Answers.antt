use Rattle.std.proofs.Common.{◌+◌, ◌++◌, ◌<◌, length, drop, sym, ap, ◌∙◌, arith}
use Rattle.xsk_model.specs.Numbers.{numbers}
use Rattle.xsk_plain.specs.Engine.{part_in}
use Rattle.xsk_why.specs.Frames.{ranges_from}
use Rattle.xsk_why.proofs.Fronts.{front_of}
use Rattle.xsk_why.proofs.frames.push_frames.Goals as goal

pub loop-i-preserved : goal.loop-i-preserved
loop-i-preserved c =
    let l = c.loop-i in
    let out = (part_in c.args.plain.now.config c.args.plain.now.rings c.args.ring).out in
    let within : l.i < length out = omega (arith, c.loop-i-test.true, c.requires.count) in
    let front = front_of out l.i c.frame.result within c.frame.ensures in
    c.in_ok-begun.ensures (numbers (drop (l.i + 1) out)) ∙ ap (λ ns. l.text.items ++ ranges_from l.begun ns) (sym front) ∙ l.invariant
