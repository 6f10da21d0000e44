use Rattle.xsk_turns.proofs.Draining.{drains_tx}
use Rattle.xsk_turns.proofs.laws.drains_tx.Goals as goal

pub returns : goal.returns
returns c = drains_tx
