use Rattle.xsk_rings.specs.Rounds.{Rests}
use Rattle.xsk_lock.specs.Held.{Belongs, IsOff}
use Rattle.test_threads.proofs.handing.move_shown.Given as goal

abbrev pub invariant-rounds : goal.invariant-rounds
invariant-rounds l = record {
  rests : Rests l.shared l.pass;
  belongs : Belongs l.desk l.hand;
  off : IsOff l.hand;
}
