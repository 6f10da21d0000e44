use Rattle.std.proofs.Common.{length, ◌-◌, ◌≡◌, ◌≤◌, List, take}
use Rattle.xsk_io.specs.declared.bay.Kind.TheVariants.{Write}
use Rattle.xsk_io.specs.declared.bay.Offer.{Offer}
use Rattle.xsk_io.specs.Bay.{Same, SameBut, Adds, AddsNoneBut, AreRests, Grows, CountsOnly}
use Rattle.xsk_io.proofs.Steps.{left_by_all}
use Rattle.xsk_io.proofs.whole.write_whole.Given as goal

abbrev pub invariant-loop-at : goal.invariant-loop-at
invariant-loop-at g l =
    (l.at ≤ length l.text)
    × Grows ((g.B.Bay.moment l.initial.bay).held l.stream) ((g.B.Bay.moment l.bay).held l.stream) (take l.at l.text)
    × SameBut l.stream (g.B.Bay.moment l.initial.bay).held (g.B.Bay.moment l.bay).held
    × ((offers : List Offer) × Adds ((g.B.Bay.moment l.initial.bay).offers l.stream) ((g.B.Bay.moment l.bay).offers l.stream) offers × AreRests (length l.text) offers
    × (left_by_all (length l.text) offers ≡ length l.text - l.at))
    × AddsNoneBut l.stream (g.B.Bay.moment l.initial.bay).offers (g.B.Bay.moment l.bay).offers
    × Same (g.B.Bay.moment l.initial.bay).is_open (g.B.Bay.moment l.bay).is_open
    × Same (g.B.Bay.moment l.initial.bay).asked (g.B.Bay.moment l.bay).asked
    × Same (g.B.Bay.moment l.initial.bay).left (g.B.Bay.moment l.bay).left
    × ((g.B.Bay.moment l.bay).faults Write l.stream ≡ (g.B.Bay.moment l.initial.bay).faults Write l.stream)
    × CountsOnly Write l.stream (g.B.Bay.moment l.initial.bay).faults (g.B.Bay.moment l.bay).faults

abbrev pub decreases-loop-at : goal.decreases-loop-at
decreases-loop-at g l = length l.text - l.at
