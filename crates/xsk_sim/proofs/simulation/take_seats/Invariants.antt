use Rattle.std.proofs.Common.{◌≡◌, ◌+◌, ◌≤◌, length, vec_len, vec_capacity}
use Rattle.std.specs.Vec.Iter.{into_iter_items}
use Rattle.xsk_turns.specs.Stepping.{joined_ask}
use Rattle.xsk_model.specs.Config.{callers_of}
use Rattle.xsk_turns.specs.Workers.{Setting}
use Rattle.xsk_machine.specs.Workers.{AreNew}
use Rattle.xsk_sim.specs.Seats.{EachFrom, Sits, new_own}
use Rattle.xsk_sim.proofs.simulation.take_seats.Given as goal

-- the drivers that are left are those of the callers that aren't seated yet
abbrev pub invariant-loop-who : goal.invariant-loop-who
invariant-loop-who l = record {
  count : vec_len l.seats ≡ l.who;
  room : callers_of l.config ≤ vec_capacity l.seats;
  left : length l.config.pairs ≤ l.who + length (into_iter_items l.drivers);
  settled : EachFrom l.seats.items 0 (λ who seat. seat.settled ≡ 0);
  seated : (s : Setting) → s.config ≡ l.config → s.manner ≡ l.manner → AreNew s 0 (into_iter_items l.initial.drivers)
      → AreNew s l.who (into_iter_items l.drivers) × EachFrom l.seats.items 0 (λ who seat. Sits s new_own who seat.machine (joined_ask seat.ask seat.items));
}
