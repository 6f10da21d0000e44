use Rattle.xsk_model.proofs.Closings.{never_late}
use Rattle.xsk_model.proofs.laws.never_late.Goals as goal

pub returns : goal.returns
returns c = never_late
