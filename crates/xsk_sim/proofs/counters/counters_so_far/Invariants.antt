use Rattle.std.proofs.Common.{◌≡◌, ◌++◌, drop}
use Rattle.std.specs.Prelude.{flat_map}
use Rattle.xsk_sim.specs.SoFar.{counters_kept, kept_counters}
use Rattle.xsk_sim.proofs.counters.counters_so_far.Given as goal

abbrev pub invariant-loop-seat : goal.invariant-loop-seat
invariant-loop-seat l = l.counters.items ++ flat_map (λ seat. counters_kept l.classes seat.machine) (drop l.seat-index l.workers.seats.items) ≡ kept_counters l.classes l.workers
