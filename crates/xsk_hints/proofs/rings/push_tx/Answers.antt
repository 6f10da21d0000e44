use Rattle.std.proofs.Common.{◌≡◌, ◌++◌, false, ap, sym, ◌∙◌, rules}
use Rattle.std.specs.Prelude.{is_none}
use Rattle.xsk_model.specs.declared.call.Ring.TheVariants.{Comp, Tx}
use Rattle.xsk_side.specs.Setting.{pair_of}
use Rattle.xsk_hints.specs.Facts.{last_peek}
use Rattle.xsk_hints.specs.Told.{tx_lines, unpeeked}
use Rattle.xsk_hints.proofs.Texts.{after, on_ok, where_there}
use Rattle.xsk_hints.proofs.rings.push_tx.Goals as goal

pub returns : goal.returns
returns c lines stands notes =
    let s = c.args.setting.now in
    let k = c.args.socket in
    let pair = c.pair-pair.result in
    let tally = c.tally_at-frames.result in
    let there : is_none c.args.size ≡ false = search rules in
    let peek = c.peek-peek.ensures ∙ notes.peeked pair c.pair-pair.ensures.known in
    let same =
    ap (λ p. unpeeked k pair p tally) peek
    ∙ ap (λ d. unpeeked k d (last_peek (Comp d) lines) tally) c.pair-pair.ensures.value
    ∙ ap (unpeeked k (pair_of s (Tx k)) (last_peek (Comp (pair_of s (Tx k))) lines)) (c.tally_at-frames.ensures lines stands) in
    on_ok c.push_unpeeked.result _ _
    (λ is.
    after _ _ _ _ _ (c.in_ok-push_made.ensures lines stands notes) (is ∙ ap (λ w. c.push_made.new.text.items ++ w) same)
    ∙ ap (λ w. c.args.text.now.items ++ w) (sym (where_there c.args.size (tx_lines s c.args.hints.now.metadata lines k) there)))
    c.push_unpeeked.ensures
