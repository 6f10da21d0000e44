-- The laws of histories from any start, proved.
use Rattle.std.proofs.Common.{◌≡◌, true, false, List, [], ◌∷◌, ◌++◌, sym, subst, ◌∙◌}
use Rattle.xsk_model.specs.Config.{Config}
use Rattle.xsk_model.specs.Object.{State, ring_at, after}
use Rattle.xsk_model.specs.Entry.{Entry}
use Rattle.xsk_model.specs.History.{after_all}
use Rattle.xsk_model.specs.OtherWords.{changes}
use Rattle.xsk_model.specs.StartLaws.{OneHolderFrom, FramesByOwnFrom, FewInRingsFrom, FramesStayFrom, FramesApartFrom, InOrderFrom, PartsByOwnFrom, ItemsByOwnFrom, WithinSizeFrom, WithinRingFrom, LawfulItemsFrom, FittingRepliesFrom, OwnEntriesFrom, OneMoreFrom, CallersExistFrom, MarkNumbersFrom, LeavesStateFrom, ChangesStateFrom}
use Rattle.xsk_model.proofs.Moves.{known_on}
use Rattle.xsk_model.proofs.Histories.{goes_push, after_all-append, first_from, sound_from}
use Rattle.xsk_model.proofs.Replies.{entry_from, entry_fits_from}
use Rattle.xsk_model.proofs.OwnRuns.{own_from}
use Rattle.xsk_model.proofs.Counts.{within_ring}
use Rattle.xsk_model.proofs.Apart.{one_each, few_out, callers_apart, caller_ring_apart, rings_apart}
use Rattle.xsk_model.proofs.Stays.{homed_from}
use Rattle.xsk_model.proofs.Changes.{leaves_call, changes_call}
use Rattle.xsk_model.proofs.CallTheorems.{callers_go}

-- ---- frames

pub one_holder_from : OneHolderFrom
one_holder_from c start h history = one_each c start (after_all c start h) h (sound_from c start h history)

pub frames_by_own_from : FramesByOwnFrom
frames_by_own_from c start h who history = (sound_from c start h history).had who

pub few_in_rings_from : FewInRingsFrom
few_in_rings_from c start h history = few_out c start (after_all c start h) h (sound_from c start h history)

pub frames_stay_from : FramesStayFrom
frames_stay_from c start h n history =
    let homed = homed_from c start h history in
    (λ who some. homed.callers who n some, λ r has some. homed.rings r n has some)

pub frames_apart_from : FramesApartFrom
frames_apart_from c start h history =
    let s : State = after_all c start h in
    let sound = sound_from c start h history in (
      λ who other apart. callers_apart c start s h sound who other apart,
      λ who r. caller_ring_apart c start s h sound who r,
      λ r q has too apart. rings_apart c start s h sound r q has too apart,
    )

-- ---- rings

pub in_order_from : InOrderFrom
in_order_from c start h r history has = ((sound_from c start h history).ring r has).order

pub parts_by_own_from : PartsByOwnFrom
parts_by_own_from c start h r history has =
    let ring = (sound_from c start h history).ring r has in
    (ring.room, ring.held)

pub items_by_own_from : ItemsByOwnFrom
items_by_own_from c start h r history has =
    let ring = (sound_from c start h history).ring r has in
    (ring.peeked, ring.given)

pub within_size_from : WithinSizeFrom
within_size_from c start h r history has = ((sound_from c start h history).ring r has).within

pub within_ring_from : WithinRingFrom
within_ring_from c start h who call r history legal on =
    within_ring c (ring_at c start r).out h who call r (ring_at c (after_all c start h) r) legal on
    ((sound_from c start h history).ring r (known_on c call r legal.known on))

pub lawful_items_from : LawfulItemsFrom
lawful_items_from c start h r history has = ((sound_from c start h history).ring r has).items

-- ---- replies

pub fitting_replies_from : FittingRepliesFrom
fitting_replies_from c start past later e history = entry_fits_from c start past later e history

pub own_entries_from : OwnEntriesFrom
own_entries_from c start h who history = own_from c start h who history

pub one_more_from : OneMoreFrom
one_more_from c start h e history legal reply = record { begins = history.begins; legal = goes_push c start [] h e history.legal legal reply }

pub callers_exist_from : CallersExistFrom
callers_exist_from c start h history = callers_go c start [] h history.legal

-- ---- marks, and what a call leaves

pub mark_numbers_from : MarkNumbersFrom
mark_numbers_from c start h m history has = (sound_from c start h history).numbers m has

-- the state that one entry more leaves
state_push_from : (c : Config) (start : State) (h : List Entry) (e : Entry) → after_all c start (h ++ e ∷ []) ≡ after c (after_all c start h) e.who e.call
state_push_from c start h e = after_all-append c start h (e ∷ [])

pub leaves_state_from : LeavesStateFrom
leaves_state_from c start h e history no_change =
    let entry = entry_from c start h [] e history in
    state_push_from c start h e
    ∙ leaves_call c (after_all c start h) e.who e.call (subst (λ reply. changes e.call reply ≡ false) entry.1 no_change)

pub changes_state_from : ChangesStateFrom
changes_state_from c start h e history change same =
    let entry = entry_from c start h [] e history in
    let sound = sound_from c start h (first_from c start h (e ∷ []) history) in
    changes_call c start (after_all c start h) h e.who e.call history.begins.config sound entry.0 (subst (λ reply. changes e.call reply ≡ true) entry.1 change)
    (sym (state_push_from c start h e) ∙ same)
