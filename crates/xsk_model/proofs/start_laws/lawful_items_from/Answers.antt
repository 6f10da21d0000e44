use Rattle.xsk_model.proofs.StartTheorems.{lawful_items_from}
use Rattle.xsk_model.proofs.start_laws.lawful_items_from.Goals as goal

pub returns : goal.returns
returns c = lawful_items_from
