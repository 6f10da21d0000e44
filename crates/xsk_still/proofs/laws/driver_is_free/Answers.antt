use Rattle.xsk_still.proofs.Dues.{driver_is_free}
use Rattle.xsk_still.proofs.laws.driver_is_free.Goals as goal

pub returns : goal.returns
returns c = driver_is_free
