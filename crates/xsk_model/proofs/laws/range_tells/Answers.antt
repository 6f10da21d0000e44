use Rattle.xsk_model.proofs.MarkParts.{range_tells}
use Rattle.xsk_model.proofs.laws.range_tells.Goals as goal

pub returns : goal.returns
returns c = range_tells
