use Rattle.xsk_model.proofs.Starts.{returned_starts}
use Rattle.xsk_model.proofs.start_laws.returned_starts.Goals as goal

pub returns : goal.returns
returns c = returned_starts
