use Rattle.xsk_model.proofs.Theorems.{fitting_replies}
use Rattle.xsk_model.proofs.laws.fitting_replies.Goals as goal

pub returns : goal.returns
returns c = fitting_replies
