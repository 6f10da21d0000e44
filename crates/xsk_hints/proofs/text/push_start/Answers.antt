use Rattle.std.proofs.Common.{◌++◌, ap, sym, ◌∙◌, ne_eqb}
use Rattle.xsk_hints.proofs.Texts.{after, on_ok, started}
use Rattle.xsk_hints.proofs.text.push_start.Goals as goal

pub returns : goal.returns
returns c =
    on_ok c.push_word.result _ _
    (λ is. after _ _ _ _ _ c.in_ok-push_number.ensures is ∙ ap (λ w. c.args.text.now.items ++ w) (sym (started c.args.count (ne_eqb c.args.count 0 c.if-count-eq0.false))))
    c.push_word.ensures
