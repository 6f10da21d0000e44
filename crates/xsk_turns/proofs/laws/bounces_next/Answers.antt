use Rattle.xsk_turns.proofs.Bounced.{bounces_next}
use Rattle.xsk_turns.proofs.laws.bounces_next.Goals as goal

pub returns : goal.returns
returns c = bounces_next
