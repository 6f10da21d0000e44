use Rattle.std.proofs.Common.{◌≡◌, vec_len, vec_items, map, All}
use Rattle.std.specs.List.{AllWithin}
use Rattle.xsk_workers.specs.Crew.{IsSeatOn}
use Rattle.xsk_workers.specs.declared.pace.Pace.TheVariants.{Ended}
use Rattle.xsk_workers.proofs.by_turns.take_turns.Given as goal

abbrev pub invariant-loop-i : goal.invariant-loop-i
invariant-loop-i g l =
    All (λ w. IsSeatOn l.shared (g.W.Turns.seat w)) (vec_items l.members)
    × (map g.W.Turns.seat (vec_items l.members) ≡ map g.W.Turns.seat (vec_items l.initial.members))
    × (vec_len l.members ≡ vec_len l.initial.members)
    × (l.together ≡ Ended → AllWithin g.W.Turns.has_run (vec_items l.members) 0 l.i)
