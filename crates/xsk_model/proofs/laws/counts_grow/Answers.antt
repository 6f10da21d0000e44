use Rattle.xsk_model.proofs.FrameTheorems.{counts_grow}
use Rattle.xsk_model.proofs.laws.counts_grow.Goals as goal

pub returns : goal.returns
returns c = counts_grow
