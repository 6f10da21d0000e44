use Rattle.xsk_hints.specs.Wakes.{unwoken}
use Rattle.xsk_hints.proofs.Texts.{on_ok, retold}
use Rattle.xsk_hints.proofs.wakes.push_wake.Goals as goal

pub returns : goal.returns
returns c lines stands =
    on_ok c.push_unwoken.result _ _
    (λ is. retold (unwoken c.args.socket c.args.wake) _ _ _ _ is (c.tally_behind-frames.ensures lines stands))
    c.push_unwoken.ensures
