use Rattle.xsk_model.proofs.Starts.{opening_starts}
use Rattle.xsk_model.proofs.start_laws.opening_starts.Goals as goal

pub returns : goal.returns
returns c = opening_starts
