use Rattle.xsk_model.proofs.StartTheorems.{fitting_replies_from}
use Rattle.xsk_model.proofs.start_laws.fitting_replies_from.Goals as goal

pub returns : goal.returns
returns c = fitting_replies_from
