use Rattle.xsk_hints.proofs.Texts.{after, on_ok}
use Rattle.xsk_hints.proofs.rings.push_oddities.Goals as goal

pub returns : goal.returns
returns c lines notes =
    let one = c.in_ok-push_oddity.ensures lines notes in
    let two = after _ _ _ _ _ one (c.in_ok-push_oddity-2.ensures lines notes) in
    let three = after _ _ _ _ _ two (c.in_ok-push_oddity-3.ensures lines notes) in
    let four = after _ _ _ _ _ three (c.in_ok-push_oddity-4.ensures lines notes) in
    let five = after _ _ _ _ _ four (c.in_ok-push_oddity-5.ensures lines notes) in
    on_ok c.push_oddity-6.result _ _ (λ is. after _ _ _ _ _ five is) (c.push_oddity-6.ensures lines notes)
