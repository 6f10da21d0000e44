use Rattle.std.proofs.Common.{◌≡◌, ◌+◌, ℕ, length, map, vec_items, vec_capacity}
use Rattle.std.specs.List.{range_with_len}
use Rattle.xsk_workers.specs.Shown.{seat_at}
use Rattle.xsk_workers.specs.Members.{member_seat}
use Rattle.xsk_machine.specs.Workers.{AreNew}
use Rattle.xsk_workers.specs.Terms.{setting_over}
use Rattle.xsk_workers.specs.Gathering.{AreTaken}
use Rattle.std.specs.Vec.Iter.{into_iter_items}
use Rattle.xsk_workers.specs.Parking.{token_of}
use Rattle.xsk_workers.proofs.Sleeping.{AreParkersFrom}
use Rattle.xsk_workers.proofs.seating.seat_drivers.Given as goal

abbrev pub invariant-loop-who : goal.invariant-loop-who
invariant-loop-who g l =
    AreTaken l.shared l.who l.passes
    × ((hands : ℕ) → map member_seat (vec_items l.members) ≡ map (seat_at hands (setting_over l.source.terms g.V.Verdicts.verdicts) l.shared) (range_with_len 0 l.who))
    × AreParkersFrom (map token_of l.source.wakers.now) l.who (into_iter_items l.parkers)
    × AreNew (setting_over l.source.terms g.V.Verdicts.verdicts) l.who (into_iter_items l.drivers)
    × (l.who + length (into_iter_items l.drivers) ≡ length l.source.terms.config.now.pairs)
    × (length (vec_items l.members) ≡ l.who)
    × (vec_capacity l.members ≡ vec_capacity l.fn.members)
