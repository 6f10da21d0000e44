use Rattle.xsk_still.proofs.DriverStaying.{driver_stays}
use Rattle.xsk_still.proofs.laws.driver_stays.Goals as goal

pub returns : goal.returns
returns c = driver_stays
