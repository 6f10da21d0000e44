use Rattle.std.specs.Prelude.{codes, length}
use Rattle.xsk_side.specs.Own.{held_of}
use Rattle.xsk_judge.specs.declared.known.Spot.TheVariants.{Shown, Back}
use Rattle.xsk_judge.specs.Stands.{calls_of}
use Rattle.xsk_hints.specs.Told.{count_line, tally_line, tally_in}
use Rattle.xsk_hints.proofs.Texts.{after, as_told, on_ok}
use Rattle.xsk_hints.proofs.rings.push_shown.Goals as goal

pub returns : goal.returns
returns c lines stands =
    let s = c.args.setting.now in
    let r = c.args.ring in
    let held = as_told (count_line r (codes ": entries peeked and not released at the end: ")) _ _ c.held-held.result (length (held_of s r (calls_of lines))) (c.held-held.ensures lines stands) c.in_ok-push_count.ensures in
    let shown = as_told (tally_line r (codes ": frames of it with the program at the end: ")) _ _ c.tally_at-shown.result (tally_in s lines (Shown r)) (c.tally_at-shown.ensures lines stands) c.in_ok-push_tally.ensures in
    let before = after _ _ _ _ _ held shown in
    on_ok c.push_tally-2.result _ _
    (λ is. after _ _ _ _ _ before (as_told (tally_line r (codes ": frames put back into it at the end: ")) _ _ c.tally_at-back.result (tally_in s lines (Back r)) (c.tally_at-back.ensures lines stands) is))
    c.push_tally-2.ensures
