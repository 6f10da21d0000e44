use Rattle.xsk_model.proofs.StartTheorems.{mark_numbers_from}
use Rattle.xsk_model.proofs.start_laws.mark_numbers_from.Goals as goal

pub returns : goal.returns
returns c = mark_numbers_from
