use Rattle.xsk_still.proofs.AppStaying.{app_stays}
use Rattle.xsk_still.proofs.laws.app_stays.Goals as goal

pub returns : goal.returns
returns c = app_stays
