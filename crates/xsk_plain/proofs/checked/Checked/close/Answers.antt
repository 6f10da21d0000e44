use Rattle.std.proofs.Common.{ap, ◌∙◌}
use Rattle.xsk_plain.specs.Engine.{Engine, frames_out}
use Rattle.xsk_plain.proofs.Legality.{few_frames_out}
use Rattle.xsk_plain.proofs.checked.Checked.close.Goals as goal

pub returns-clause-frames : goal.returns-clause-frames
returns-clause-frames c =
    c.close.ensures.frames (few_frames_out c.self.invariant.frames c.self.invariant.history c.self.inside.plain c.self.invariant.run.legal c.self.invariant.run.shows)
    ∙ ap (λ (e : Engine). frames_out e.rings) c.self.view_is
