use Rattle.xsk_model.proofs.MarkParts.{rows_of_kinds}
use Rattle.xsk_model.proofs.laws.rows_of_kinds.Goals as goal

pub returns : goal.returns
returns c = rows_of_kinds
