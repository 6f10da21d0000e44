use Rattle.std.proofs.Common.{◌≡◌, ◌+◌, ◌-◌, ◌<◌, vec_len}
use Rattle.std.specs.Io.KnownBytes.{prepend_known}
use Rattle.xsk_io.specs.declared.bay.Kind.TheVariants.{Read}
use Rattle.xsk_io.specs.Bay.{Same, SameBut, CountsOnly}
use Rattle.xsk_io.proofs.whole.read_whole.Given as goal

abbrev pub invariant-loop-stream : goal.invariant-loop-stream
invariant-loop-stream g l =
    (0 < vec_len l.piece)
    × ((g.B.Bay.moment l.initial.bay).left l.stream ≡ prepend_known l.bytes.items ((g.B.Bay.moment l.bay).left l.stream))
    × SameBut l.stream (g.B.Bay.moment l.initial.bay).left (g.B.Bay.moment l.bay).left
    × Same (g.B.Bay.moment l.initial.bay).is_open (g.B.Bay.moment l.bay).is_open
    × Same (g.B.Bay.moment l.initial.bay).asked (g.B.Bay.moment l.bay).asked
    × Same (g.B.Bay.moment l.initial.bay).held (g.B.Bay.moment l.bay).held
    × Same (g.B.Bay.moment l.initial.bay).offers (g.B.Bay.moment l.bay).offers
    × ((g.B.Bay.moment l.bay).faults Read l.stream ≡ (g.B.Bay.moment l.initial.bay).faults Read l.stream)
    × CountsOnly Read l.stream (g.B.Bay.moment l.initial.bay).faults (g.B.Bay.moment l.bay).faults

abbrev pub decreases-loop-stream : goal.decreases-loop-stream
decreases-loop-stream g l = l.limit + 1 - vec_len l.bytes
