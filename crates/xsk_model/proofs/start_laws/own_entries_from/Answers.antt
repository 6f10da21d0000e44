use Rattle.xsk_model.proofs.StartTheorems.{own_entries_from}
use Rattle.xsk_model.proofs.start_laws.own_entries_from.Goals as goal

pub returns : goal.returns
returns c = own_entries_from
