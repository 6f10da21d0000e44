-- The laws of the object, proved.
use Rattle.std.proofs.Common.{length-append, ◌≡◌, ℕ, List, [], ◌∷◌, ◌++◌, length, take, drop, map, refl, sym, ap, subst, ◌∙◌, arith, get_or-set_other}
use Rattle.std.proofs.lemmas.List.{drop_at}
use Rattle.xsk_umem.specs.Frame.{Frame}
use Rattle.xsk_umem.specs.declared.batch.Item.{Item}
use Rattle.xsk_model.specs.Config.{Config}
use Rattle.xsk_model.specs.Numbers.{numbers}
use Rattle.xsk_model.specs.Object.{ring_at, had_by, had_after, reply_at, peek_reply}
use Rattle.xsk_model.specs.Entry.{Entry, own, all_told}
use Rattle.xsk_model.specs.Own.{had_of, peeked_of, submitted_of, tx_work_of}
use Rattle.xsk_model.specs.Legal.{IsLegal}
use Rattle.xsk_model.specs.Opening.{opening}
use Rattle.xsk_model.specs.History.{IsHistory, state_after}
use Rattle.xsk_model.specs.Laws.{FewInRings, WithinRing, CountsAgree, OneHolder, FramesByOwn, HadAndDistinct, InOrder, PeekInOrder, PartsByOwn, ItemsByOwn, WithinSize, LawfulItems, FittingReplies, FittingGifts, OwnEntries, OneCompletion, SentInOrder, MarkNumbers, OwnPlaces, OwnMarkPlaces, TwoOwners, LeavesOthers, LeavesFolds}
use Rattle.xsk_model.specs.declared.call.Ring.{Ring}
use Rattle.xsk_model.specs.declared.call.Call.TheVariants.{Peek}
use Rattle.xsk_model.proofs.Places.{place_below, place_injective}
use Rattle.xsk_model.proofs.MarkPlaces.{mark_place_below, mark_place_injective}
use Rattle.xsk_model.proofs.Folds.{own-push_other, part_of_own-push_other}
use Rattle.xsk_model.proofs.RingEntries.{on_ring-push_other}
use Rattle.xsk_model.proofs.Moves.{ring_at-after_other, known_on}
use Rattle.xsk_model.proofs.Histories.{history_first, history_sound}
use Rattle.xsk_model.proofs.Apart.{one_each, few_out}
use Rattle.xsk_model.proofs.Replies.{times-had, history_entry, entry_fits, gift_fits}
use Rattle.xsk_model.proofs.Distinct.{had_and_distinct, times-had_and_distinct}
use Rattle.xsk_model.proofs.Roles.{two_owners}
use Rattle.xsk_model.proofs.OwnRuns.{history_own}
use Rattle.xsk_model.proofs.Counts.{given-submitted, released-held, within_ring}
use Rattle.xsk_model.specs.Rings.{producer, consumer}
use Rattle.xsk_model.proofs.Sendings.{sent_is, peeked_is}
use Rattle.xsk_model.proofs.Completions.{one_completion}
use Rattle.xsk_model.specs.Packets.{packets, whole_packets, bytes_of}

pub one_holder : OneHolder
one_holder c frames past later history =
    one_each c (opening c frames) (state_after c frames past) past (history_sound c frames past (history_first c frames past later history))

pub frames_by_own : FramesByOwn
frames_by_own c frames h who history = (history_sound c frames h history).had who

pub had_distinct : HadAndDistinct
had_distinct c frames h who items history =
    let sound = history_sound c frames h history in (
      had_and_distinct (numbers items) (had_of (own who h)) (λ n. times-had c frames (state_after c frames h) h who n sound),
      λ both. times-had_and_distinct (numbers items) (had_of (own who h)) both.0 both.1,
    )

pub in_order : InOrder
in_order c frames h r history has = ((history_sound c frames h history).ring r has).order

-- what is left of a list behind its front
pub left_over : (front rest all : List Item) (n : ℕ) → front ++ rest ≡ all → length front ≡ n → rest ≡ drop n all
left_over front rest all n h len = sym (drop_at front rest n len) ∙ ap (drop n) h

peeked_call : (c : Config) (frames : List Frame) (past later : List Entry) (r : Ring) (n : ℕ) (e : Entry) → IsHistory c frames (past ++ e ∷ later) → e.call ≡ Peek r n
    → IsLegal c (own e.who past) e.who (Peek r n) × (e.reply ≡ peek_reply n (ring_at c (state_after c frames past) r).out)
peeked_call c frames past later r n e history is =
    let entry = history_entry c frames past later e history in
    (subst (IsLegal c (own e.who past) e.who) is entry.0, entry.1 ∙ ap (reply_at c (state_after c frames past)) is)

pub peek_in_order : PeekInOrder
peek_in_order c frames past later r n e history is =
    let entry = peeked_call c frames past later r n e history is in
    let order = in_order c frames past r (history_first c frames past (e ∷ later) history) entry.0.known in
    entry.1 ∙ ap (peek_reply n) (left_over (peeked_of r (all_told past)) (ring_at c (state_after c frames past) r).out ((ring_at c (opening c frames) r).out ++ submitted_of r (all_told past)) (length (peeked_of r (all_told past))) order refl)

pub parts_by_own : PartsByOwn
parts_by_own c frames h r history has =
    let ring = (history_sound c frames h history).ring r has in
    (ring.room, ring.held)

pub items_by_own : ItemsByOwn
items_by_own c frames h r history has =
    let ring = (history_sound c frames h history).ring r has in
    (ring.peeked, ring.given)

pub within_size : WithinSize
within_size c frames h r history has = ((history_sound c frames h history).ring r has).within

pub lawful_items : LawfulItems
lawful_items c frames h r history has = ((history_sound c frames h history).ring r has).items

pub fitting_replies : FittingReplies
fitting_replies c frames past later e history = entry_fits c frames past later e history

pub fitting_gifts : FittingGifts
fitting_gifts c mine who call reply gift = gift_fits c mine who call reply gift

pub mark_numbers : MarkNumbers
mark_numbers c frames h m history has = (history_sound c frames h history).numbers m has

pub own_places : OwnPlaces
own_places c r s h k = (place_below c r h, place_injective c r s h k)

pub own_mark_places : OwnMarkPlaces
own_mark_places c m n config h k = (mark_place_below c m config h, mark_place_injective c m n config h k)

pub owners : TwoOwners
owners c r config h = two_owners c r config h

pub leaves_others : LeavesOthers
leaves_others c s who other call r has known = (
  λ off. ring_at-after_other c s who call r has known off,
  λ apart. get_or-set_other s.had who other (had_after (had_by s who) call (reply_at c s call)) [] apart,
)

pub leaves_folds : LeavesFolds
leaves_folds r who past e = (
  λ off. on_ring-push_other r who past e off,
  λ change n off. part_of_own-push_other change r n who past e off,
  λ change items off. part_of_own-push_other change r items who past e off,
  λ apart. own-push_other who past e apart,
)

pub own_entries : OwnEntries
own_entries c frames h who history = history_own c frames h who history

pub completes_one : OneCompletion
completes_one c d mine items goes legal = one_completion c d mine items goes legal

pub sent_in_order : SentInOrder
sent_in_order c frames h d socket history =
    sent_is c socket (own d h)
    ∙ ap (λ items. map (bytes_of c.geometry c.sg) (take (tx_work_of c socket (own d h)).completed (whole_packets (packets c.geometry c.sg items))))
    (peeked_is c d socket (own d h) (history_own c frames h d history))

pub few_in_rings : FewInRings
few_in_rings c frames h history = few_out c (opening c frames) (state_after c frames h) h (history_sound c frames h history)

pub legal_within_ring : WithinRing
legal_within_ring c frames h who call r history legal on =
    let sound = history_sound c frames h history in
    within_ring c (ring_at c (opening c frames) r).out h who call r (ring_at c (state_after c frames h) r) legal on (sound.ring r (known_on c call r legal.known on))

pub counts_agree : CountsAgree
counts_agree c frames h r history has =
    let ring = (history_sound c frames h history).ring r has in
    let order = ap length ring.order in
    let left = length-append (peeked_of r (all_told h)) (ring_at c (state_after c frames h) r).out in
    let right = length-append (ring_at c (opening c frames) r).out (submitted_of r (all_told h)) in
    omega (
      arith,
      order,
      left,
      right,
      ap length ring.peeked,
      ap length ring.given,
      ring.held,
      given-submitted r (own (producer c r) h),
      released-held c (consumer c r) r (own (consumer c r) h) (history_own c frames h (consumer c r) history),
    )
