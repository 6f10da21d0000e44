use Rattle.xsk_table.proofs.Rows.{own_words}
use Rattle.xsk_table.proofs.laws.own_words.Goals as goal

pub returns : goal.returns
returns c = own_words
