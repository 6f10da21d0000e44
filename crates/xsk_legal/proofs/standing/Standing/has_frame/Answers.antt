use Rattle.std.proofs.Common.{sym, ◌∙◌}
use Rattle.xsk_legal.proofs.Frames.{has_is}
use Rattle.xsk_legal.proofs.standing.Standing.has_frame.Goals as goal

pub returns : goal.returns
returns c = λ mine h below.
    let is = has_is c.args.config.now c.args.self.now mine h c.args.frame below in
    (λ yes. sym is ∙ c.has.ensures.0 yes, λ one. c.has.ensures.1 (is ∙ one))
