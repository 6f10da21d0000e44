use Rattle.xsk_prog.proofs.Chains.{AskedTo}
use Rattle.xsk_prog.proofs.chain.Chain.verdict.Given as goal

abbrev pub invariant-loop-place : goal.invariant-loop-place
invariant-loop-place g l = AskedTo g.F.Fn l.fn.self l.packet l.queue l.place l.self-inside.programs.items
