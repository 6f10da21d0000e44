use Rattle.xsk_ended.proofs.Ended.{ended_lose_no_wakes}
use Rattle.xsk_ended.proofs.laws.ended_lose_no_wakes.Goals as goal

pub returns : goal.returns
returns c = ended_lose_no_wakes
