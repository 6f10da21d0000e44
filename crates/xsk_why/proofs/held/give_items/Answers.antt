use Rattle.std.proofs.Common.{◌+◌, ◌<◌, length, drop, sym, ap, ◌∙◌, arith}
use Rattle.xsk_model.specs.Numbers.{numbers}
use Rattle.xsk_log.specs.Items.{next_items}
use Rattle.xsk_log.specs.Left.{left_of}
use Rattle.xsk_why.specs.KeptFrames.{without_all}
use Rattle.xsk_why.proofs.Fronts.{front_of}
use Rattle.xsk_why.proofs.Having.{give_next}
use Rattle.xsk_why.proofs.Noting.{drop_end}
use Rattle.xsk_why.proofs.held.give_items.Goals as goal

pub loop-i-preserved : goal.loop-i-preserved
loop-i-preserved c =
    let l = c.loop-i in
    let items = next_items (left_of c.args.lines.now) in
    let within : l.i < length items = omega (arith, c.loop-i-test.true, c.items-i-end.ensures) in
    let front = front_of items l.i c.frame.result within c.frame.ensures in
    ap (without_all c.args.who (numbers (drop (l.i + 1) items))) c.give_frame.ensures ∙ give_next c.args.who c.frame.result (numbers (drop (l.i + 1) items)) l.held.items
    ∙ ap (λ ns. without_all c.args.who ns l.held.items) (sym front) ∙ l.invariant

pub returns : goal.returns
returns c =
    let l = c.loop-i in
    let items = next_items (left_of c.args.lines.now) in
    let none = drop_end items l.i (omega (arith, c.loop-i-test.false, c.items-i-end.ensures)) in
    sym (ap (λ xs. without_all c.args.who (numbers xs) l.held.items) none) ∙ l.invariant
