use Rattle.xsk_model.proofs.StartTheorems.{within_size_from}
use Rattle.xsk_model.proofs.start_laws.within_size_from.Goals as goal

pub returns : goal.returns
returns c = within_size_from
