use Rattle.xsk_model.proofs.CallTheorems.{marks_after_entry}
use Rattle.xsk_model.proofs.laws.marks_after.Goals as goal

pub returns : goal.returns
returns c = marks_after_entry
