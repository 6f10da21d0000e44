use Rattle.xsk_rings.specs.Rounds.{Rests}
use Rattle.bench_rings.proofs.counting.gets_place.Given as goal

abbrev pub invariant-tries : goal.invariant-tries
invariant-tries l = Rests l.shared l.pass
