use Rattle.xsk_turns.proofs.CompletingAll.{completes_all}
use Rattle.xsk_turns.proofs.laws.completes_all.Goals as goal

pub returns : goal.returns
returns c = completes_all
