use Rattle.xsk_rings.specs.Rounds.{Rests}
use Rattle.xsk_lock.specs.Held.{Belongs, IsOff}
use Rattle.test_threads.proofs.handing.tell_last.Given as goal

abbrev pub invariant-tries : goal.invariant-tries
invariant-tries l = record {
  rests : Rests l.shared l.pass;
  belongs : Belongs l.desk l.hand;
  off : IsOff l.hand;
}
