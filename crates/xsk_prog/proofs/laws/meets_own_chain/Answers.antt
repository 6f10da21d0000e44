use Rattle.xsk_prog.proofs.Chains.{meets_own_chain}
use Rattle.xsk_prog.proofs.laws.meets_own_chain.Goals as goal

pub returns : goal.returns
returns c = meets_own_chain
