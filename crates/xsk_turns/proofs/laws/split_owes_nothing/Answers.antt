use Rattle.xsk_turns.proofs.Hands.{split_owes_nothing}
use Rattle.xsk_turns.proofs.laws.split_owes_nothing.Goals as goal

pub returns : goal.returns
returns c = split_owes_nothing
