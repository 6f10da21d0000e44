use Rattle.xsk_turns.proofs.AppSplit.{step_calls_legal}
use Rattle.xsk_turns.proofs.laws.step_calls_legal.Goals as goal

pub returns : goal.returns
returns c = step_calls_legal
