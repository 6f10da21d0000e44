use Rattle.xsk_turns.proofs.Bounced.{bounces_all}
use Rattle.xsk_turns.proofs.laws.bounces_all.Goals as goal

pub returns : goal.returns
returns c = bounces_all
