use Rattle.xsk_turns.proofs.AppSplit.{later_calls_legal}
use Rattle.xsk_turns.proofs.laws.later_calls_legal.Goals as goal

pub returns : goal.returns
returns c = later_calls_legal
