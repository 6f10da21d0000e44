use Rattle.xsk_model.proofs.Theorems.{own_entries}
use Rattle.xsk_model.proofs.laws.own_entries.Goals as goal

pub returns : goal.returns
returns c = own_entries
