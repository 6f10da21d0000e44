use Rattle.xsk_model.proofs.Closings.{sent_grows}
use Rattle.xsk_model.proofs.laws.sent_grows.Goals as goal

pub returns : goal.returns
returns c = sent_grows
