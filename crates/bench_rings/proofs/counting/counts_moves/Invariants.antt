use Rattle.xsk_rings.specs.Rounds.{Rests}
use Rattle.bench_rings.proofs.counting.counts_moves.Given as goal

abbrev pub invariant-rounds : goal.invariant-rounds
invariant-rounds l = Rests l.shared l.pass
