use Rattle.std.proofs.Common.{◌≡◌, ◌==◌, cond, sym, ◌∙◌, eq-eqb, ne_eqb}
use Rattle.xsk_side.proofs.Rings.{is_true, is_false}
use Rattle.xsk_hints.specs.Told.{dry_line}
use Rattle.xsk_hints.proofs.Texts.{after, on_ok, retold}
use Rattle.xsk_hints.proofs.fills.push_fill.Goals.{then-fill-eq0, else-fill-eq0}
use Rattle.xsk_hints.proofs.fills.push_fill.Goals as goal

pub returns : goal.returns
returns c =
    let f = c.args.fill in
    let since : c.if-fill-eq0.since ≡ cond (f.frames == 0) f.dried.last 0 =
    elim c.if-fill-eq0.branch [
      | then-fill-eq0 w ↦ w.since-is ∙ sym (is_true (f.frames == 0) f.dried.last 0 (eq-eqb f.frames 0 w.if-fill-eq0.true))
      | else-fill-eq0 w ↦ w.since-is ∙ sym (is_false (f.frames == 0) f.dried.last 0 (ne_eqb f.frames 0 w.if-fill-eq0.false))
    ] in
    on_ok c.push_dry.result _ _ (λ is. after _ _ _ _ _ c.in_ok-push_tally.ensures (retold (dry_line c.args.pair) _ _ _ _ is since)) c.push_dry.ensures
