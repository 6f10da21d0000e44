use Rattle.std.proofs.Common.{◌≡◌, ◌≤◌, ◌+◌, length, map, vec_items, vec_capacity}
use Rattle.std.specs.Prelude.{flat_map}
use Rattle.std.specs.Vec.Iter.{into_iter_items}
use Rattle.xsk_machine.specs.Acts.{packets_in}
use Rattle.xsk_machine.specs.Workers.{kept_of, figures_kept}
use Rattle.xsk_sim.proofs.simulation.keep_all.Given as goal

abbrev pub invariant-loop-seat : goal.invariant-loop-seat
invariant-loop-seat l = record {
  sent : map packets_in (vec_items l.kept.sent) ≡ flat_map (λ seat. kept_of seat.machine) l.yielded;
  figures : vec_items l.kept.figures ≡ flat_map (λ seat. figures_kept l.classes seat.machine) l.yielded;
  few_sent : length (vec_items l.kept.sent) ≤ length l.yielded;
  few_figures : length (vec_items l.kept.figures) ≤ length l.yielded;
  room_sent : length l.yielded + length (into_iter_items l.seat-iterator) ≤ vec_capacity l.kept.sent;
  room_figures : length l.yielded + length (into_iter_items l.seat-iterator) ≤ vec_capacity l.kept.figures;
}
