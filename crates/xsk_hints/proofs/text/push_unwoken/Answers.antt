use Rattle.std.proofs.Common.{◌++◌, ap, sym, ◌∙◌}
use Rattle.std.specs.Prelude.{codes}
use Rattle.xsk_model.specs.declared.call.Ring.TheVariants.{Tx}
use Rattle.xsk_log.specs.Line.{ring_text}
use Rattle.xsk_hints.specs.Told.{numbered, lines_part}
use Rattle.xsk_hints.specs.Wakes.{look_part}
use Rattle.xsk_hints.proofs.Texts.{after, on_ok}
use Rattle.xsk_hints.proofs.Waking.{told_unwoken}
use Rattle.xsk_hints.proofs.text.push_unwoken.Goals as goal

pub returns : goal.returns
returns c =
    let text = c.args.text.now.items in
    let t = c.args.tally in
    let ring = ring_text (Tx c.args.socket) in
    let count = numbered (codes ": frames with no wake behind them: ") t.count in
    let first = after text ring count _ _ c.in_ok-push_ring.ensures c.in_ok-push_number.ensures in
    let before = after text (ring ++ count) (lines_part t) _ _ first c.in_ok-push_lines.ensures in
    let told = told_unwoken c.args.socket c.args.wake t (sym c.is_served.ensures ∙ c.if-is_served.false) in
    on_ok c.push_look.result _ _
    (λ is. after text (ring ++ count ++ lines_part t) (look_part t.last c.args.wake) _ _ before is ∙ ap (λ w. text ++ w) (sym told))
    c.push_look.ensures
