use Rattle.xsk_model.proofs.StartTheorems.{few_in_rings_from}
use Rattle.xsk_model.proofs.start_laws.few_in_rings_from.Goals as goal

pub returns : goal.returns
returns c = few_in_rings_from
