use Rattle.xsk_hints.proofs.Texts.{after, on_ok}
use Rattle.xsk_check.proofs.check.push_hints.Goals as goal

pub returns : goal.returns
returns c = λ lines asides follows.
    let before = after _ _ _ _ _ (c.in_ok-append.ensures lines follows.stands follows.notes) (c.in_ok-append-2.ensures lines follows.feeds) in
    on_ok c.append-3.result _ _ (λ is. after _ _ _ _ _ before is) (c.append-3.ensures lines asides follows.stands follows.wakens)
