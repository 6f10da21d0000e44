use Rattle.std.proofs.Common.{◌≡◌}
use Rattle.xsk_rings.specs.Rounds.{Rests}
use Rattle.test_threads.proofs.moving.move_all.Given as goal

abbrev pub invariant-rounds : goal.invariant-rounds
invariant-rounds l = Rests l.shared l.pass × (l.pass.who ≡ l.initial.pass.who)
