use Rattle.xsk_model.proofs.MarkParts.{made_of_parts}
use Rattle.xsk_model.proofs.laws.made_of_parts.Goals as goal

pub returns : goal.returns
returns c = made_of_parts
