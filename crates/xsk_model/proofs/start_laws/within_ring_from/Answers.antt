use Rattle.xsk_model.proofs.StartTheorems.{within_ring_from}
use Rattle.xsk_model.proofs.start_laws.within_ring_from.Goals as goal

pub returns : goal.returns
returns c = within_ring_from
