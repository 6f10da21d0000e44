use Rattle.xsk_sim.specs.Shown.{HasShortPackets}
use Rattle.examples.proofs.runs.numbered.Given as goal

abbrev pub invariant-loop-number : goal.invariant-loop-number
invariant-loop-number l = HasShortPackets l.first
