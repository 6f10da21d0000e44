use Rattle.std.proofs.Common.{◌≡◌}
use Rattle.xsk_rings.specs.Rounds.{Rests}
use Rattle.test_threads.proofs.going.reserve.Given as goal

abbrev pub invariant-tries : goal.invariant-tries
invariant-tries l = Rests l.shared l.pass × (l.pass.who ≡ l.initial.pass.who)
