use Rattle.xsk_model.proofs.MarkParts.{parts_make}
use Rattle.xsk_model.proofs.laws.parts_make.Goals as goal

pub returns : goal.returns
returns c = parts_make
