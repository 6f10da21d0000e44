use Rattle.xsk_prog.proofs.Chains.{one_chain_verdict}
use Rattle.xsk_prog.proofs.laws.one_chain_verdict.Goals as goal

pub returns : goal.returns
returns c = one_chain_verdict
