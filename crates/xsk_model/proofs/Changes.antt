-- Which calls change the state.
use Rattle.std.proofs.Common.{◌≡◌, ◌≢◌, ℕ, zero, suc, ◌+◌, ◌≤◌, Bool, true, false, cond, not, eqb, nat_le, List, [], ◌∷◌, ◌++◌, length, get_or, set, take, drop, refl, sym, ap, ◌∙◌, ⊎_elim, arith, append-nil, length-append, length-drop, get_or-set_same, get_or-set_other, eqb-true, eq-eqb}
use Rattle.std.proofs.lemmas.Bool.{cases_Bool}
use Rattle.std.proofs.lemmas.List.{set-get_or}
use Rattle.xsk_umem.specs.declared.batch.Item.{Item}
use Rattle.xsk_model.specs.Config.{Config, IsConfig, HasRing, size_of}
use Rattle.xsk_model.specs.Numbers.{numbers, without}
use Rattle.xsk_model.specs.Rings.{place}
use Rattle.xsk_model.specs.Marks.{HasMark, mark_place, mark_places_of}
use Rattle.xsk_model.specs.Object.{RingState, State, empty_ring, ring_at, mark_at, had_by, had_after, free, peek_reply, reply_at, ring_after, submitted, taken, after}
use Rattle.xsk_model.specs.Entry.{Told, Entry, own}
use Rattle.xsk_model.specs.Own.{is_on}
use Rattle.xsk_model.specs.Legal.{IsLegal}
use Rattle.xsk_model.specs.OtherWords.{changes}
use Rattle.xsk_model.specs.declared.call.Ring.{Ring}
use Rattle.xsk_model.specs.declared.call.Mark.{Mark}
use Rattle.xsk_model.specs.declared.call.Call.{Call}
use Rattle.xsk_model.specs.declared.call.Call.TheVariants.{Reserve, Submit, Peek, Release, Swap, Look}
use Rattle.xsk_model.specs.declared.call.Reply.{Reply}
use Rattle.xsk_model.specs.declared.call.Reply.TheVariants.{Granted, Full, Old}
use Rattle.xsk_model.proofs.Places.{is_ring-self, place_below}
use Rattle.xsk_model.proofs.MarkPlaces.{mark_place_below, mark_place_injective}
use Rattle.xsk_model.proofs.Moves.{ring_at-after_same}
use Rattle.xsk_model.proofs.Histories.{IsSoundFrom}
use Rattle.xsk_model.proofs.Counts.{within_ring}

-- ---- calls that leave the state

abbrev state : List RingState → List ℕ → List (List ℕ) → State
state rings marks had = record { rings = rings; marks = marks; had = had }

same_state : (s : State) (rings : List RingState) (marks : List ℕ) (had : List (List ℕ)) → rings ≡ s.rings → marks ≡ s.marks → had ≡ s.had → state rings marks had ≡ s
same_state s rings marks had e f g = ap (λ x. state x marks had) e ∙ ap (λ x. state s.rings x had) f ∙ ap (λ x. state s.rings s.marks x) g

-- no frame moves
same_had : (s : State) (who : ℕ) (call : Call) (reply : Reply) → submitted call ≡ [] → taken reply ≡ [] → set s.had who (had_after (had_by s who) call reply) ≡ s.had
same_had s who call reply e f =
    ap (λ items. set s.had who (without (numbers items) (had_by s who) ++ numbers (taken reply))) e
    ∙ ap (λ items. set s.had who (had_by s who ++ numbers items)) f
    ∙ ap (set s.had who) (append-nil (had_by s who))
    ∙ set-get_or s.had who []

same_ring : (c : Config) (s : State) (r : Ring) (ring : RingState) → ring ≡ ring_at c s r → set s.rings (place c r) ring ≡ s.rings
same_ring c s r ring e = ap (set s.rings (place c r)) e ∙ set-get_or s.rings (place c r) empty_ring

full_leaves : (r : Ring) (n places : ℕ) (b : Bool) → changes (Reserve r n) (cond b Granted (Full places)) ≡ false → b ≡ false
full_leaves r n places true h = absurd (cc)
full_leaves r n places false h = refl

empty_leaves : (r : Ring) (n : ℕ) (out : List Item) → changes (Peek r n) (peek_reply n out) ≡ false → out ≡ []
empty_leaves r n [] h = refl
empty_leaves r n (item ∷ out) h = absurd (cc)

same_number : (m : Mark) (value old : ℕ) → changes (Swap m value) (Old old) ≡ false → old ≡ value
same_number m value old h = ⊎_elim
    (λ (e : eqb old value ≡ true). eqb-true old value e)
    (λ (e : eqb old value ≡ false). absurd (cc (ap not e, h)))
    (cases_Bool (eqb old value))

-- a ring with nothing out, after a Peek
peeked_none : (size : ℕ) (ring : RingState) (r : Ring) (n : ℕ) → ring.out ≡ [] → ring_after size ring (Peek r n) ≡ ring
peeked_none size ring r n e =
    let none : drop n ring.out ≡ ring.out = ap (drop n) e ∙ drop_none n ∙ sym e in
    let same : ring.held ++ take n ring.out ≡ ring.held = ap (λ xs. ring.held ++ xs) (ap (take n) e ∙ take_none n) ∙ append-nil ring.held in
    ap (λ (xs : List Item). record ring { out = xs; held = ring.held ++ take n ring.out }) none ∙ ap (λ (xs : List Item). record ring { held = xs }) same
  where
    drop_none : (k : ℕ) → drop {A = Item} k [] ≡ []
    drop_none zero = refl
    drop_none (suc k) = refl

    take_none : (k : ℕ) → take {A = Item} k [] ≡ []
    take_none zero = refl
    take_none (suc k) = refl

pub leaves_call : (c : Config) (s : State) (who : ℕ) (call : Call) → changes call (reply_at c s call) ≡ false → after c s who call ≡ s
leaves_call c s who (Reserve r n) h =
    let ring : RingState = ring_at c s r in
    let places : ℕ = free (size_of c r) (ring_at c s r) in
    let lacks : nat_le n places ≡ false = full_leaves r n places (nat_le n places) h in
    same_state s _ s.marks _
    (same_ring c s r _ (ap (λ b. cond b (record ring { room = ring.room + n }) ring) lacks))
    refl
    (same_had s who (Reserve r n) (reply_at c s (Reserve r n)) refl (ap (λ b. taken (cond b Granted (Full places))) lacks))
leaves_call c s who (Submit r items) h = absurd (cc)
leaves_call c s who (Peek r n) h =
    let none : (ring_at c s r).out ≡ [] = empty_leaves r n (ring_at c s r).out h in
    same_state s _ s.marks _
    (same_ring c s r _ (peeked_none (size_of c r) (ring_at c s r) r n none))
    refl
    (same_had s who (Peek r n) (reply_at c s (Peek r n)) refl (ap (λ out. taken (peek_reply n out)) none))
leaves_call c s who (Release r n) h = absurd (cc)
leaves_call c s who (Swap m value) h =
    same_state s s.rings _ _ refl
    (ap (set s.marks (mark_place c m)) (sym (same_number m value (mark_at c s m) h)) ∙ set-get_or s.marks (mark_place c m) 0)
    (same_had s who (Swap m value) (Old (mark_at c s m)) refl refl)
leaves_call c s who (Look m) h = same_state s s.rings s.marks _ refl refl (same_had s who (Look m) (Old (mark_at c s m)) refl refl)

-- ---- calls that change it

granted_changes : (r : Ring) (n places : ℕ) (b : Bool) → changes (Reserve r n) (cond b Granted (Full places)) ≡ true → b ≡ true
granted_changes r n places true h = refl
granted_changes r n places false h = absurd (cc)

taken_changes : (r : Ring) (n : ℕ) (out : List Item) → changes (Peek r n) (peek_reply n out) ≡ true → 1 ≤ length out
taken_changes r n [] h = absurd (cc)
taken_changes r n (item ∷ out) h = omega arith

other_number : (m : Mark) (value old : ℕ) → changes (Swap m value) (Old old) ≡ true → old ≢ value
other_number m value old h e = absurd (cc (ap not (eq-eqb old value e), h))

module _ (c : Config) (start s : State) (h : List Entry) (who : ℕ) (call : Call) (sound : IsSoundFrom c start s h)
    (legal : IsLegal c (own who h) who call) (same : after c s who call ≡ s) where
  ring_stays : (r : Ring) → HasRing c r → is_on r call ≡ true → ring_after (size_of c r) (ring_at c s r) call ≡ ring_at c s r
  ring_stays r has on =
      sym (ring_at-after_same c s who call r has legal.known (omega (arith, sound.rings, place_below c r has)) on) ∙ ap (λ x. ring_at c x r) same

pub changes_call : (c : Config) (start s : State) (h : List Entry) (who : ℕ) (call : Call) → IsConfig c → IsSoundFrom c start s h → IsLegal c (own who h) who call
    → changes call (reply_at c s call) ≡ true → after c s who call ≢ s
changes_call c start s h who (Reserve r n) config sound legal k same =
    let ring : RingState = ring_at c s r in
    let places : ℕ = free (size_of c r) ring in
    let there : nat_le n places ≡ true = granted_changes r n places (nat_le n places) k in
    let stays : (cond (nat_le n places) (record ring { room = ring.room + n }) ring).room ≡ ring.room =
    ap (λ (x : RingState). x.room) (ring_stays c start s h who (Reserve r n) sound legal same r legal.known (is_ring-self r)) in
    let grows : ring.room + n ≡ ring.room = ap (λ b. (cond b (record ring { room = ring.room + n }) ring).room) (sym there) ∙ stays in
    omega (arith, grows, legal.counted.0)
changes_call c start s h who (Submit r items) config sound legal k same =
    let ring : RingState = ring_at c s r in
    let stays : length (ring.out ++ items) ≡ length ring.out =
    ap (λ (x : RingState). length x.out) (ring_stays c start s h who (Submit r items) sound legal same r legal.known (is_ring-self r)) in
    omega (arith, stays, length-append ring.out items, legal.counted.0)
changes_call c start s h who (Peek r n) config sound legal k same =
    let ring : RingState = ring_at c s r in
    let stays : length (drop n ring.out) ≡ length ring.out =
    ap (λ (x : RingState). length x.out) (ring_stays c start s h who (Peek r n) sound legal same r legal.known (is_ring-self r)) in
    omega (arith, stays, length-drop n ring.out, taken_changes r n ring.out k, legal.counted.0)
changes_call c start s h who (Release r n) config sound legal k same =
    let ring : RingState = ring_at c s r in
    let stays : length (drop n ring.held) ≡ length ring.held =
    ap (λ (x : RingState). length x.held) (ring_stays c start s h who (Release r n) sound legal same r legal.known (is_ring-self r)) in
    let within : n ≤ length ring.held = within_ring c (ring_at c start r).out h who (Release r n) r ring legal (is_ring-self r) (sound.ring r legal.known) in
    omega (arith, stays, length-drop n ring.held, within, legal.counted.0)
changes_call c start s h who (Swap m value) config sound legal k same =
    let now : get_or (set s.marks (mark_place c m) value) (mark_place c m) 0 ≡ value =
    get_or-set_same s.marks (mark_place c m) value 0 (omega (arith, sound.marks, mark_place_below c m config legal.known)) in
    other_number m value (mark_at c s m) k (sym (ap (λ (x : State). mark_at c x m) same) ∙ now)
changes_call c start s h who (Look m) config sound legal k same = absurd (cc)

-- ---- marks

pub mark_set : (c : Config) (s : State) (who : ℕ) (m : Mark) (value : ℕ) → IsConfig c → HasMark c m → length s.marks ≡ mark_places_of c
    → mark_at c (after c s who (Swap m value)) m ≡ value
mark_set c s who m value config has len = get_or-set_same s.marks (mark_place c m) value 0 (omega (arith, len, mark_place_below c m config has))

pub mark_stays : (c : Config) (s : State) (mine : List Told) (who : ℕ) (call : Call) (m : Mark) → IsConfig c → HasMark c m → IsLegal c mine who call
    → ((value : ℕ) → call ≢ Swap m value) → mark_at c (after c s who call) m ≡ mark_at c s m
mark_stays c s mine who (Reserve r n) m config has legal other = refl
mark_stays c s mine who (Submit r items) m config has legal other = refl
mark_stays c s mine who (Peek r n) m config has legal other = refl
mark_stays c s mine who (Release r n) m config has legal other = refl
mark_stays c s mine who (Swap q value) m config has legal other =
    get_or-set_other s.marks (mark_place c q) (mark_place c m) value 0
    (λ (e : mark_place c m ≡ mark_place c q). other value (ap (λ p. Swap p value) (sym (mark_place_injective c m q config has legal.known e))))
mark_stays c s mine who (Look q) m config has legal other = refl
