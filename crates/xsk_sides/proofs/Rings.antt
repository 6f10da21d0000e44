-- The rings of the object and those of two parties are the same behind each call, and each reply is one that the ring may give.
use Rattle.std.proofs.Common.{◌≡◌, ℕ, zero, suc, ◌+◌, ◌-◌, ◌<◌, ◌≤◌, Bool, true, false, cond, nat_le, Some, List, [], ◌∷◌, ◌++◌, length, take, drop, refl, sym, ap, ◌∙◌, subst, arith, ⊎_elim, inl, inr}
use Rattle.std.proofs.lemmas.List.{length-map, map-append, drop-map}
use Rattle.std.proofs.lemmas.Bool.{cases_Bool}
use Rattle.std.proofs.lemmas.Bool.Decides.{nat_tests}
use Rattle.xsk_umem.specs.declared.batch.Item.{Item}
use Rattle.xsk_umem.specs.declared.batch.XdpDesc.{XdpDesc}
use Rattle.xsk_model.specs.Config.{Config, HasRing, size_of}
use Rattle.xsk_model.specs.Rings.{is_ring, place, places_of}
use Rattle.xsk_model.specs.Object.{RingState, State, ring_at, free, peek_reply, reply_at, ring_after, after}
use Rattle.xsk_model.specs.Own.{is_on}
use Rattle.xsk_model.specs.Legal.{IsKnown}
use Rattle.xsk_model.specs.declared.call.Ring.{Ring}
use Rattle.xsk_model.specs.declared.call.Call.{Call}
use Rattle.xsk_model.specs.declared.call.Call.TheVariants.{Reserve, Submit, Peek, Release, Swap, Look}
use Rattle.xsk_model.specs.declared.call.Reply.TheVariants.{Granted, Full}
use Rattle.xsk_model.proofs.Moves.{ring_reply, reply_at-on, ring_at-after_same, ring_at-after_other}
use Rattle.xsk_model.proofs.Places.{place_below}
use Rattle.xsk_side.specs.Object.{RingState as SideRing, Entry as SideEntry, Replies, ring_of, ring_at as side_at, ring_after as side_after, free as side_free}
use Rattle.xsk_side.specs.declared.call.Party.{Party}
use Rattle.xsk_side.specs.declared.call.Answer.TheVariants as an_answer
use Rattle.xsk_side.specs.declared.call.Call.{Call as SideCall}
use Rattle.xsk_side.specs.declared.call.Call.TheVariants as a_side
use Rattle.xsk_side.proofs.Rings.{ring_else}
use Rattle.xsk_sides.specs.Sides.{entries, desc_in, side_call, pushed}

abbrev pub side_ring : RingState → SideRing
side_ring ring = record { out = entries ring.out; held = entries ring.held; room = ring.room }

pub same_free : (size : ℕ) (ring : RingState) → side_free size (side_ring ring) ≡ free size ring
same_free size ring = omega (arith, length-map ring.out desc_in, length-map ring.held desc_in)

-- ---- a ring behind a call on it

drop_shown : (n : ℕ) (out : List Item) → drop (length (entries (take n out))) (entries out) ≡ entries (drop n out)
drop_shown zero out = refl
drop_shown (suc n) [] = refl
drop_shown (suc n) (item ∷ out) = drop_shown n out

pub after_call : (size : ℕ) (ring : RingState) (call : Call) (side : SideCall) → side_call call (ring_reply size ring call) ≡ Some side
    → side_ring (ring_after size ring call) ≡ side_after (side_ring ring) side
after_call size ring (Reserve r n) side is = by (nat_le n (free size ring)) is
  where
    granted_is : (x : SideCall) → Some (a_side.Reserve r n an_answer.Granted) ≡ Some x → a_side.Reserve r n an_answer.Granted ≡ x
    granted_is x h = cc

    full_is : (x : SideCall) → Some (a_side.Reserve r n (an_answer.Full (free size ring))) ≡ Some x → a_side.Reserve r n (an_answer.Full (free size ring)) ≡ x
    full_is x h = cc

    nothing_more : (room : ℕ) → room ≡ room + 0
    nothing_more room = omega arith

    by : (b : Bool) → side_call (Reserve r n) (cond b Granted (Full (free size ring))) ≡ Some side
        → side_ring (cond b (record ring { room = ring.room + n }) ring) ≡ side_after (side_ring ring) side
    by true h = ap (side_after (side_ring ring)) (granted_is side h)
    by false h = ap (λ k. record (side_ring ring) { room = k }) (nothing_more ring.room) ∙ ap (side_after (side_ring ring)) (full_is side h)
after_call size ring (Submit r items) side is =
    ap (λ xs. record (side_ring ring) { out = xs; room = ring.room - length items }) (map-append desc_in ring.out items)
    ∙ ap (λ k. record (side_ring ring) { out = entries ring.out ++ entries items; room = ring.room - k }) (sym (length-map items desc_in))
    ∙ ap (side_after (side_ring ring)) (submit_is side is)
  where
    submit_is : (x : SideCall) → Some (a_side.Submit r (entries items)) ≡ Some x → a_side.Submit r (entries items) ≡ x
    submit_is x h = cc
after_call size ring (Peek r n) side is = by ring.out is
  where
    shown_is : (es : List XdpDesc) (x : SideCall) → Some (a_side.Peek r n es) ≡ Some x → a_side.Peek r n es ≡ x
    shown_is es x h = cc

    peeked : (out : List Item) → SideRing
    peeked out = record { out = entries (drop n out); held = entries (ring.held ++ take n out); room = ring.room }

    same : (out : List Item) → peeked out
        ≡ record { out = drop (length (entries (take n out))) (entries out); held = entries ring.held ++ entries (take n out); room = ring.room }
    same out =
        ap (λ xs. record { out = xs; held = entries (ring.held ++ take n out); room = ring.room }) (sym (drop_shown n out))
        ∙ ap (λ xs. record { out = drop (length (entries (take n out))) (entries out); held = xs; room = ring.room }) (map-append desc_in ring.held (take n out))

    take_none : (n : ℕ) → ◌≡◌ {A = List Item} (take n []) []
    take_none zero = refl
    take_none (suc n) = refl

    by : (out : List Item) → side_call (Peek r n) (peek_reply n out) ≡ Some side
        → peeked out ≡ side_after (record { out = entries out; held = entries ring.held; room = ring.room }) side
    by [] h =
        same []
        ∙ ap (λ xs. record { out = drop (length (entries xs)) []; held = entries ring.held ++ entries xs; room = ring.room }) (take_none n)
        ∙ ap (side_after (record { out = []; held = entries ring.held; room = ring.room })) (shown_is [] side h)
    by (item ∷ out) h =
        same (item ∷ out)
        ∙ ap (side_after (record { out = entries (item ∷ out); held = entries ring.held; room = ring.room })) (shown_is (entries (take n (item ∷ out))) side h)
after_call size ring (Release r n) side is =
    ap (λ xs. record (side_ring ring) { held = xs }) (sym (drop-map desc_in n ring.held))
    ∙ ap (side_after (side_ring ring)) (release_is side is)
  where
    release_is : (x : SideCall) → Some (a_side.Release r n) ≡ Some x → a_side.Release r n ≡ x
    release_is x h = cc
after_call size ring (Swap m value) side is = absurd (cc)
after_call size ring (Look m) side is = absurd (cc)

-- ---- replies

pub may_reply : (size : ℕ) (ring : RingState) (call : Call) (side : SideCall) → side_call call (ring_reply size ring call) ≡ Some side
    → Replies size (side_ring ring) side
may_reply size ring (Reserve r n) side is = by (nat_le n (free size ring)) refl is
  where
    granted_is : (x : SideCall) → Some (a_side.Reserve r n an_answer.Granted) ≡ Some x → a_side.Reserve r n an_answer.Granted ≡ x
    granted_is x h = cc

    full_is : (x : SideCall) → Some (a_side.Reserve r n (an_answer.Full (free size ring))) ≡ Some x → a_side.Reserve r n (an_answer.Full (free size ring)) ≡ x
    full_is x h = cc

    enough : (a b : ℕ) → nat_le a b ≡ true → a ≤ b
    enough a b h = grind (arith, nat_tests, h)

    less : (a b : ℕ) → nat_le a b ≡ false → b < a
    less a b h = grind (arith, nat_tests, h)

    by : (b : Bool) → nat_le n (free size ring) ≡ b → side_call (Reserve r n) (cond b Granted (Full (free size ring))) ≡ Some side → Replies size (side_ring ring) side
    by true t h = subst (Replies size (side_ring ring)) (granted_is side h) (omega (arith, enough n (free size ring) t, same_free size ring))
    by false t h = subst (Replies size (side_ring ring)) (full_is side h) (sym (same_free size ring), less n (free size ring) t)
may_reply size ring (Submit r items) side is = subst (Replies size (side_ring ring)) (submit_is side is) tt
  where
    submit_is : (x : SideCall) → Some (a_side.Submit r (entries items)) ≡ Some x → a_side.Submit r (entries items) ≡ x
    submit_is x h = cc
may_reply size ring (Peek r n) side is = by ring.out is
  where
    shown_is : (es : List XdpDesc) (x : SideCall) → Some (a_side.Peek r n es) ≡ Some x → a_side.Peek r n es ≡ x
    shown_is es x h = cc

    front : (m : ℕ) (out : List Item) → entries (take m out) ≡ take (length (entries (take m out))) (entries out)
    front zero out = refl
    front (suc m) [] = refl
    front (suc m) (item ∷ out) = ap (λ xs. item.desc ∷ xs) (front m out)

    few : (m : ℕ) (out : List Item) → length (entries (take m out)) ≤ m
    few zero out = omega arith
    few (suc m) [] = omega arith
    few (suc m) (item ∷ out) = omega (arith, few m out)

    none : (m : ℕ) (item : Item) (out : List Item) → entries (take m (item ∷ out)) ≡ [] → m ≡ 0
    none zero item out h = refl
    none (suc m) item out h = absurd (cc)

    by : (out : List Item) → side_call (Peek r n) (peek_reply n out) ≡ Some side → Replies size (record { out = entries out; held = entries ring.held; room = ring.room }) side
    by [] h = subst (Replies size (record { out = []; held = entries ring.held; room = ring.room })) (shown_is [] side h) (omega arith, refl, λ _. inr refl)
    by (item ∷ out) h = subst (Replies size (record { out = entries (item ∷ out); held = entries ring.held; room = ring.room }))
        (shown_is (entries (take n (item ∷ out))) side h) (few n (item ∷ out), front n (item ∷ out), λ nothing. inl (none n item out nothing))
may_reply size ring (Release r n) side is = subst (Replies size (side_ring ring)) (release_is side is) tt
  where
    release_is : (x : SideCall) → Some (a_side.Release r n) ≡ Some x → a_side.Release r n ≡ x
    release_is x h = cc
may_reply size ring (Swap m value) side is = absurd (cc)
may_reply size ring (Look m) side is = absurd (cc)

-- ---- all rings behind a call

-- what both make of the rings
pub record IsSame (c : Config) (s : State) (past : List SideEntry) : Type 0 where
  pub rings : (r : Ring) → HasRing c r → side_at r past ≡ side_ring (ring_at c s r)

-- a call on a ring
here : (size : ℕ) (ring : RingState) (call : Call) (r : Ring) → is_on r call ≡ true
    → (side : SideCall) × (side_call call (ring_reply size ring call) ≡ Some side) × (is_ring r (ring_of side) ≡ true)
here size ring (Reserve q n) r on = by (nat_le n (free size ring))
  where
    by : (b : Bool) → (side : SideCall) × (side_call (Reserve q n) (cond b Granted (Full (free size ring))) ≡ Some side) × (is_ring r (ring_of side) ≡ true)
    by true = (a_side.Reserve q n an_answer.Granted, refl, on)
    by false = (a_side.Reserve q n (an_answer.Full (free size ring)), refl, on)
here size ring (Submit q items) r on = (a_side.Submit q (entries items), refl, on)
here size ring (Peek q n) r on = by ring.out
  where
    by : (out : List Item) → (side : SideCall) × (side_call (Peek q n) (peek_reply n out) ≡ Some side) × (is_ring r (ring_of side) ≡ true)
    by [] = (a_side.Peek q n [], refl, on)
    by (item ∷ out) = (a_side.Peek q n (entries (take n (item ∷ out))), refl, on)
here size ring (Release q n) r on = (a_side.Release q n, refl, on)
here size ring (Swap m value) r on = absurd (cc)
here size ring (Look m) r on = absurd (cc)

-- a call on another, or on none
elsewhere : (c : Config) (s : State) (party : Party) (past : List SideEntry) (r : Ring) (call : Call) → is_on r call ≡ false
    → side_at r (pushed party (side_call call (reply_at c s call)) past) ≡ side_at r past
elsewhere c s party past r (Reserve q n) off = by (nat_le n (free (size_of c q) (ring_at c s q)))
  where
    by : (b : Bool) → side_at r (pushed party (side_call (Reserve q n) (cond b Granted (Full (free (size_of c q) (ring_at c s q))))) past) ≡ side_at r past
    by true = ring_else r past party (a_side.Reserve q n an_answer.Granted) off
    by false = ring_else r past party (a_side.Reserve q n (an_answer.Full (free (size_of c q) (ring_at c s q)))) off
elsewhere c s party past r (Submit q items) off = ring_else r past party (a_side.Submit q (entries items)) off
elsewhere c s party past r (Peek q n) off = by (ring_at c s q).out
  where
    by : (out : List Item) → side_at r (pushed party (side_call (Peek q n) (peek_reply n out)) past) ≡ side_at r past
    by [] = ring_else r past party (a_side.Peek q n []) off
    by (item ∷ out) = ring_else r past party (a_side.Peek q n (entries (take n (item ∷ out)))) off
elsewhere c s party past r (Release q n) off = ring_else r past party (a_side.Release q n) off
elsewhere c s party past r (Swap m value) off = refl
elsewhere c s party past r (Look m) off = refl

pub same_step : (c : Config) (s : State) (who : ℕ) (call : Call) (party : Party) (past : List SideEntry) → IsSame c s past → IsKnown c call → length s.rings ≡ places_of c
    → IsSame c (after c s who call) (pushed party (side_call call (reply_at c s call)) past)
same_step c s who call party past same known size = record {
  rings = λ r has. ⊎_elim
      (λ (on : is_on r call ≡ true).
      let ring : RingState = ring_at c s r in
      let x = here (size_of c r) ring call r on in
      let told : side_call call (reply_at c s call) ≡ Some x.0 = ap (side_call call) (reply_at-on c s call r on) ∙ x.1 in
      ap (λ o. side_at r (pushed party o past)) told
      ∙ ap (λ b. cond b (side_after (side_at r past) x.0) (side_at r past)) x.2
      ∙ ap (λ y. side_after y x.0) (same.rings r has)
      ∙ sym (after_call (size_of c r) ring call x.0 x.1)
      ∙ ap side_ring (sym (ring_at-after_same c s who call r has known (subst (λ k. place c r < k) (sym size) (place_below c r has)) on)))
      (λ (off : is_on r call ≡ false).
      elsewhere c s party past r call off ∙ same.rings r has ∙ ap side_ring (sym (ring_at-after_other c s who call r has known off)))
      (cases_Bool (is_on r call));
}
