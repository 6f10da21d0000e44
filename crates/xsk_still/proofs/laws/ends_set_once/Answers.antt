use Rattle.xsk_still.proofs.Setting.{ends_set_once}
use Rattle.xsk_still.proofs.laws.ends_set_once.Goals as goal

pub returns : goal.returns
returns c = ends_set_once
