use Rattle.xsk_still.proofs.Setting.{fills_homes}
use Rattle.xsk_still.proofs.laws.fills_homes.Goals as goal

pub returns : goal.returns
returns c = fills_homes
