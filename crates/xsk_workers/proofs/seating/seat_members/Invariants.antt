use Rattle.std.proofs.Common.{◌≡◌, ◌≤◌, length, map, vec_items, vec_capacity}
use Rattle.std.specs.List.{range_with_len}
use Rattle.xsk_model.specs.Config.{callers_of}
use Rattle.xsk_workers.specs.Shown.{seat_at}
use Rattle.xsk_workers.specs.Members.{member_seat}
use Rattle.xsk_workers.specs.Terms.{setting_over}
use Rattle.xsk_workers.specs.Gathering.{AreTaken}
use Rattle.xsk_workers.proofs.seating.seat_members.Given as goal

abbrev pub invariant-loop-who : goal.invariant-loop-who
invariant-loop-who g l =
    AreTaken l.shared l.who l.passes
    × (map member_seat (vec_items l.members) ≡ map (seat_at l.source.terms.hands (setting_over l.source.terms g.V.Verdicts.verdicts) l.shared) (range_with_len 0 l.who))
    × (length (vec_items l.members) ≡ l.who)
    × (length l.source.terms.config.now.pairs ≤ l.who)
    × (callers_of l.source.terms.config.now ≤ vec_capacity l.members)
