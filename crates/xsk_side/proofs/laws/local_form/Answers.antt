use Rattle.xsk_side.proofs.Local.{local_form}
use Rattle.xsk_side.proofs.laws.local_form.Goals as goal

pub returns : goal.returns
returns c = local_form
