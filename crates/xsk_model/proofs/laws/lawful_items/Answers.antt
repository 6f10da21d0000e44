use Rattle.xsk_model.proofs.Theorems.{lawful_items}
use Rattle.xsk_model.proofs.laws.lawful_items.Goals as goal

pub returns : goal.returns
returns c = lawful_items
