use Rattle.xsk_still.proofs.Dues.{driver_ends_free}
use Rattle.xsk_still.proofs.laws.driver_ends_free.Goals as goal

pub returns : goal.returns
returns c = driver_ends_free
