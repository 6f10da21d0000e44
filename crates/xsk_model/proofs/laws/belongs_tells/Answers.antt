use Rattle.xsk_model.proofs.MarkParts.{belongs_tells}
use Rattle.xsk_model.proofs.laws.belongs_tells.Goals as goal

pub returns : goal.returns
returns c = belongs_tells
