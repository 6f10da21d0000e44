use Rattle.xsk_still.proofs.Dues.{app_is_free}
use Rattle.xsk_still.proofs.laws.app_is_free.Goals as goal

pub returns : goal.returns
returns c = app_is_free
