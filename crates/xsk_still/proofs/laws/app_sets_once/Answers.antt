use Rattle.xsk_still.proofs.Setting.{app_sets_once}
use Rattle.xsk_still.proofs.laws.app_sets_once.Goals as goal

pub returns : goal.returns
returns c = app_sets_once
