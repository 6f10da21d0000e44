use Rattle.xsk_laws.proofs.Woken.{none_is_lost_in_whole_runs}
use Rattle.xsk_laws.proofs.laws.none_is_lost_in_whole_runs.Goals as goal

pub returns : goal.returns
returns c = none_is_lost_in_whole_runs
