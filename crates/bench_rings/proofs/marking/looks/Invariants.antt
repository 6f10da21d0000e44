use Rattle.std.proofs.Common.{◌≡◌, []}
use Rattle.xsk_rings.specs.Rounds.{Rests}
use Rattle.bench_rings.proofs.marking.looks.Given as goal

abbrev pub invariant-rounds : goal.invariant-rounds
invariant-rounds l = Rests l.shared l.pass × (l.pass.who ≡ 0) × (l.items ≡ [])
