use Rattle.xsk_model.proofs.CallTheorems.{last_is_gift}
use Rattle.xsk_model.proofs.laws.last_is_gift.Goals as goal

pub returns : goal.returns
returns c = last_is_gift
