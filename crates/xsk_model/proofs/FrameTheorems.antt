-- The laws of frames, of the opening and of counts, proved.
use Rattle.std.proofs.Common.{◌∷◌}
use Rattle.xsk_model.specs.Opening.{opening}
use Rattle.xsk_model.specs.History.{state_after}
use Rattle.xsk_model.specs.Laws.{FramesStay, FramesApart, FramesBelow, SubmitsOwn, OpeningIs, HeldAndOut, CountsGrow, PeekFinds, ReserveFinds}
use Rattle.xsk_model.proofs.Histories.{history_first, history_sound}
use Rattle.xsk_model.proofs.Replies.{history_entry}
use Rattle.xsk_model.proofs.Apart.{callers_apart, caller_ring_apart, rings_apart, caller_below, ring_below, submitted_callers, submitted_rings}
use Rattle.xsk_model.proofs.FirstState.{opening_first}
use Rattle.xsk_model.proofs.Stays.{frames_homed}
use Rattle.xsk_model.proofs.Released.{held_out, given_more, released_more, submitted_more, peeked_more, finds_items, finds_room}

pub frames_stay : FramesStay
frames_stay c frames h n history =
    let homed = frames_homed c frames h history in
    (λ who some. homed.callers who n some, λ r has some. homed.rings r n has some)

pub frames_apart : FramesApart
frames_apart c frames h history =
    let sound = history_sound c frames h history in (
      λ who other apart. callers_apart c (opening c frames) (state_after c frames h) h sound who other apart,
      λ who r. caller_ring_apart c (opening c frames) (state_after c frames h) h sound who r,
      λ r q has too apart. rings_apart c (opening c frames) (state_after c frames h) h sound r q has too apart,
    )

pub frames_below : FramesBelow
frames_below c frames h history =
    let sound = history_sound c frames h history in
    (λ who. caller_below c (opening c frames) (state_after c frames h) h sound who, λ r. ring_below c (opening c frames) (state_after c frames h) h sound r)

pub submits_own : SubmitsOwn
submits_own c frames past later e history =
    let legal = (history_entry c frames past later e history).0 in
    let sound = history_sound c frames past (history_first c frames past (e ∷ later) history) in (
      λ other apart. submitted_callers c (opening c frames) (state_after c frames past) past sound e.who other e.call legal apart,
      λ r. submitted_rings c (opening c frames) (state_after c frames past) past sound e.who e.call r legal,
    )

pub opening_is : OpeningIs
opening_is c frames opened = opening_first c frames opened

pub held_and_out : HeldAndOut
held_and_out c frames h r history has = held_out c frames h r history has

pub counts_grow : CountsGrow
counts_grow past later who r =
    (given_more r who past later, released_more r who past later, submitted_more r who past later, peeked_more r who past later)

pub peek_finds : PeekFinds
peek_finds c frames seen later r n history has more = finds_items c frames seen later r n history has more

pub reserve_finds : ReserveFinds
reserve_finds c frames seen later r n history has enough = finds_room c frames seen later r n history has enough
