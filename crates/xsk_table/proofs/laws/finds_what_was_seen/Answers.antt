use Rattle.xsk_table.proofs.Finding.{finds}
use Rattle.xsk_table.proofs.laws.finds_what_was_seen.Goals as goal

pub returns : goal.returns
returns c = finds
