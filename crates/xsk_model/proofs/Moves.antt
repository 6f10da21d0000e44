-- What a call does to the one ring that it is on.
use Rattle.std.proofs.Common.{◌≡◌, ◌≢◌, ℕ, zero, suc, ◌+◌, ◌-◌, ◌<◌, ◌≤◌, Bool, true, false, cond, nat_le, List, [], ◌∷◌, ◌++◌, length, get_or, set, take, drop, All, flat_map, refl, sym, ap, subst, ◌∙◌, arith, append-nil, length-append, length-take, length-drop, take-append-drop, get_or-set_other}
use Rattle.std.proofs.lemmas.Bool.Decides.{nat_tests}
use Rattle.std.proofs.lemmas.List.Elements.{All-append, All-drop}
use Rattle.xsk_umem.specs.declared.batch.Item.{Item}
use Rattle.xsk_model.specs.Config.{Config, HasRing, size_of}
use Rattle.xsk_model.specs.Numbers.{times, numbers}
use Rattle.xsk_model.specs.Rings.{is_ring, place, places_of, producer, consumer}
use Rattle.xsk_model.specs.Object.{RingState, State, empty_ring, ring_at, free, reserve_reply, peek_reply, reply_at, call_ring, ring_after, rings_after, submitted, taken, after}
use Rattle.xsk_model.specs.Entry.{Told}
use Rattle.xsk_model.specs.Own.{is_on, granted, released}
use Rattle.xsk_model.specs.Legal.{IsKnown, HasRole}
use Rattle.xsk_model.specs.Holders.{out_numbers}
use Rattle.xsk_model.specs.declared.call.Ring.{Ring}
use Rattle.xsk_model.specs.declared.call.Call.{Call}
use Rattle.xsk_model.specs.declared.call.Call.TheVariants.{Reserve, Submit, Peek, Release, Swap, Look}
use Rattle.xsk_model.specs.declared.call.Reply.{Reply}
use Rattle.xsk_model.specs.declared.call.Reply.TheVariants.{Granted, Full, Submitted, Released}
use Rattle.xsk_model.proofs.Counting.{times-append, times-flat_map-set, numbers-append}
use Rattle.xsk_model.proofs.Places.{is_ring-true, place_below, places_apart, get_or-set-place, cond-is_ring}

-- ---- the reply of one ring

-- a ring's reply to a call on it
abbrev pub ring_reply : ℕ → RingState → Call → Reply
ring_reply size ring (Reserve r n) = reserve_reply n (free size ring)
ring_reply size ring (Submit r items) = Submitted
ring_reply size ring (Peek r n) = peek_reply n ring.out
ring_reply size ring (Release r n) = Released
ring_reply size ring (Swap m value) = Submitted
ring_reply size ring (Look m) = Submitted

at_ring : {X : Type 0} (f : Ring → X) (r q : Ring) → is_ring r q ≡ true → f q ≡ f r
at_ring f r q h = ap f (sym (is_ring-true r q h))

pub reply_at-on : (c : Config) (s : State) (call : Call) (r : Ring) → is_on r call ≡ true → reply_at c s call ≡ ring_reply (size_of c r) (ring_at c s r) call
reply_at-on c s (Reserve q n) r h = at_ring (λ p. reserve_reply n (free (size_of c p) (ring_at c s p))) r q h
reply_at-on c s (Submit q items) r h = refl
reply_at-on c s (Peek q n) r h = at_ring (λ p. peek_reply n (ring_at c s p).out) r q h
reply_at-on c s (Release q n) r h = refl
reply_at-on c s (Swap m value) r h = absurd (cc)
reply_at-on c s (Look m) r h = absurd (cc)

-- the ring of a call that is on it
pub known_on : (c : Config) (call : Call) (r : Ring) → IsKnown c call → is_on r call ≡ true → HasRing c r
known_on c (Reserve q n) r known on = subst (HasRing c) (sym (is_ring-true r q on)) known
known_on c (Submit q items) r known on = subst (HasRing c) (sym (is_ring-true r q on)) known
known_on c (Peek q n) r known on = subst (HasRing c) (sym (is_ring-true r q on)) known
known_on c (Release q n) r known on = subst (HasRing c) (sym (is_ring-true r q on)) known
known_on c (Swap m value) r known on = absurd (cc)
known_on c (Look m) r known on = absurd (cc)

-- ---- the ring after

take-nil : (n : ℕ) → ◌≡◌ {A = List Item} [] (take n [])
take-nil zero = refl
take-nil (suc n) = refl

pub taken-peek : (n : ℕ) (out : List Item) → taken (peek_reply n out) ≡ take n out
taken-peek n [] = take-nil n
taken-peek n (item ∷ out) = refl

reserved_room : (b : Bool) (ring : RingState) (n places : ℕ) (r : Ring)
    → (cond b (record ring { room = ring.room + n }) ring).room ≡ ring.room + granted (Reserve r n) (cond b Granted (Full places)) - 0
reserved_room true ring n places r = omega arith
reserved_room false ring n places r = omega arith

pub ring_after-room : (size : ℕ) (ring : RingState) (call : Call)
    → (ring_after size ring call).room ≡ ring.room + granted call (ring_reply size ring call) - length (submitted call)
ring_after-room size ring (Reserve r n) = reserved_room (nat_le n (free size ring)) ring n (free size ring) r
ring_after-room size ring (Submit r items) = omega arith
ring_after-room size ring (Peek r n) = omega arith
ring_after-room size ring (Release r n) = omega arith
ring_after-room size ring (Swap m value) = omega arith
ring_after-room size ring (Look m) = omega arith

pub cond-held : (b : Bool) (ring : RingState) (n : ℕ) → (cond b (record ring { room = ring.room + n }) ring).held ≡ ring.held
cond-held true ring n = refl
cond-held false ring n = refl

pub cond-out : (b : Bool) (ring : RingState) (n : ℕ) → (cond b (record ring { room = ring.room + n }) ring).out ≡ ring.out
cond-out true ring n = refl
cond-out false ring n = refl

pub cond-taken : (b : Bool) (places : ℕ) → taken (cond b Granted (Full places)) ≡ []
cond-taken true places = refl
cond-taken false places = refl

pub ring_after-held : (size : ℕ) (ring : RingState) (call : Call)
    → length (ring_after size ring call).held ≡ length ring.held + length (taken (ring_reply size ring call)) - released call
ring_after-held size ring (Reserve r n) =
    omega (arith, ap length (cond-held (nat_le n (free size ring)) ring n), ap length (cond-taken (nat_le n (free size ring)) (free size ring)))
ring_after-held size ring (Submit r items) = omega arith
ring_after-held size ring (Peek r n) =
    omega (arith, length-append ring.held (take n ring.out), ap length (taken-peek n ring.out))
ring_after-held size ring (Release r n) = omega (arith, length-drop n ring.held)
ring_after-held size ring (Swap m value) = omega arith
ring_after-held size ring (Look m) = omega arith

pub ring_after-out : (size : ℕ) (ring : RingState) (call : Call)
    → taken (ring_reply size ring call) ++ (ring_after size ring call).out ≡ ring.out ++ submitted call
ring_after-out size ring (Reserve r n) =
    ap (λ t. t ++ (ring_after size ring (Reserve r n)).out) (cond-taken (nat_le n (free size ring)) (free size ring)) ∙ cond-out (nat_le n (free size ring)) ring n ∙ sym (append-nil ring.out)
ring_after-out size ring (Submit r items) = refl
ring_after-out size ring (Peek r n) =
    ap (λ t. t ++ drop n ring.out) (taken-peek n ring.out) ∙ take-append-drop n ring.out ∙ sym (append-nil ring.out)
ring_after-out size ring (Release r n) = sym (append-nil ring.out)
ring_after-out size ring (Swap m value) = sym (append-nil ring.out)
ring_after-out size ring (Look m) = sym (append-nil ring.out)

reserved_within : (b : Bool) (size out held room n : ℕ) → b ≡ nat_le n (size - out - held - room) → out + held + room ≤ size
    → out + held + cond b (room + n) room ≤ size
reserved_within b size out held room n e h = grind (arith, nat_tests)

cond-room : (b : Bool) (ring : RingState) (n : ℕ) → (cond b (record ring { room = ring.room + n }) ring).room ≡ cond b (ring.room + n) ring.room
cond-room true ring n = refl
cond-room false ring n = refl

-- a ring stays within its size where a Submit has no more items than its room
pub ring_after-within : (size : ℕ) (ring : RingState) (call : Call) → length (submitted call) ≤ ring.room
    → length ring.out + length ring.held + ring.room ≤ size
    → length (ring_after size ring call).out + length (ring_after size ring call).held + (ring_after size ring call).room ≤ size
ring_after-within size ring (Reserve r n) few h =
    let b : Bool = nat_le n (free size ring) in
    let room = reserved_within (nat_le n (free size ring)) size (length ring.out) (length ring.held) ring.room n refl h in
    omega (arith, room, ap length (cond-out (nat_le n (free size ring)) ring n), ap length (cond-held (nat_le n (free size ring)) ring n), cond-room (nat_le n (free size ring)) ring n)
ring_after-within size ring (Submit r items) few h = omega (arith, length-append ring.out items)
ring_after-within size ring (Peek r n) few h =
    omega (arith, length-append ring.held (take n ring.out), length-drop n ring.out, length-take n ring.out)
ring_after-within size ring (Release r n) few h = omega (arith, length-drop n ring.held)
ring_after-within size ring (Swap m value) few h = h
ring_after-within size ring (Look m) few h = h

pub ring_after-all : (P : Item → Type 0) (size : ℕ) (ring : RingState) (call : Call) → All P (submitted call) → All P ring.out
    → All P (ring_after size ring call).out
ring_after-all P size ring (Reserve r n) more h = subst (λ xs. All P xs) (sym (cond-out (nat_le n (free size ring)) ring n)) h
ring_after-all P size ring (Submit r items) more h = All-append P ring.out items h more
ring_after-all P size ring (Peek r n) more h = All-drop P n ring.out h
ring_after-all P size ring (Release r n) more h = h
ring_after-all P size ring (Swap m value) more h = h
ring_after-all P size ring (Look m) more h = h

-- ---- the state after

ring_at-set : (c : Config) (s : State) (r q : Ring) (call : Call) → HasRing c r → HasRing c q → place c r < length s.rings
    → get_or (set s.rings (place c q) (ring_after (size_of c q) (ring_at c s q) call)) (place c r) empty_ring
    ≡ cond (is_ring r q) (ring_after (size_of c r) (ring_at c s r) call) (ring_at c s r)
ring_at-set c s r q call h k within =
    get_or-set-place c s.rings r q (ring_after (size_of c q) (ring_at c s q) call) empty_ring h k within
    ∙ cond-is_ring (λ p. ring_after (size_of c p) (ring_at c s p) call) r q (ring_at c s r)

-- a ring after a call of any caller: changed where the call is on it, else as it was
pub ring_at-after : (c : Config) (s : State) (who : ℕ) (call : Call) (r : Ring) → HasRing c r → IsKnown c call → place c r < length s.rings
    → ring_at c (after c s who call) r ≡ cond (is_on r call) (ring_after (size_of c r) (ring_at c s r) call) (ring_at c s r)
ring_at-after c s who (Reserve q n) r h k within = ring_at-set c s r q (Reserve q n) h k within
ring_at-after c s who (Submit q items) r h k within = ring_at-set c s r q (Submit q items) h k within
ring_at-after c s who (Peek q n) r h k within = ring_at-set c s r q (Peek q n) h k within
ring_at-after c s who (Release q n) r h k within = ring_at-set c s r q (Release q n) h k within
ring_at-after c s who (Swap m value) r h k within = refl
ring_at-after c s who (Look m) r h k within = refl

pub ring_at-after_same : (c : Config) (s : State) (who : ℕ) (call : Call) (r : Ring) → HasRing c r → IsKnown c call → place c r < length s.rings → is_on r call ≡ true
    → ring_at c (after c s who call) r ≡ ring_after (size_of c r) (ring_at c s r) call
ring_at-after_same c s who call r h k within on =
    ring_at-after c s who call r h k within ∙ ap (λ b. cond b (ring_after (size_of c r) (ring_at c s r) call) (ring_at c s r)) on

ring_at-apart : (c : Config) (s : State) (r q : Ring) (ring : RingState) → HasRing c r → HasRing c q → is_ring r q ≡ false
    → get_or (set s.rings (place c q) ring) (place c r) empty_ring ≡ ring_at c s r
ring_at-apart c s r q ring h k apart = get_or-set_other s.rings (place c q) (place c r) ring empty_ring (places_apart c r q h k apart)

pub ring_at-after_other : (c : Config) (s : State) (who : ℕ) (call : Call) (r : Ring) → HasRing c r → IsKnown c call → is_on r call ≡ false
    → ring_at c (after c s who call) r ≡ ring_at c s r
ring_at-after_other c s who (Reserve q n) r h k off = ring_at-apart c s r q (ring_after (size_of c q) (ring_at c s q) (Reserve q n)) h k off
ring_at-after_other c s who (Submit q items) r h k off = ring_at-apart c s r q (ring_after (size_of c q) (ring_at c s q) (Submit q items)) h k off
ring_at-after_other c s who (Peek q n) r h k off = ring_at-apart c s r q (ring_after (size_of c q) (ring_at c s q) (Peek q n)) h k off
ring_at-after_other c s who (Release q n) r h k off = ring_at-apart c s r q (ring_after (size_of c q) (ring_at c s q) (Release q n)) h k off
ring_at-after_other c s who (Swap m value) r h k off = refl
ring_at-after_other c s who (Look m) r h k off = refl

-- ---- frames

pub ring_count : (n : ℕ) (size : ℕ) (ring : RingState) (call : Call)
    → times n (numbers (taken (ring_reply size ring call))) + times n (numbers (ring_after size ring call).out)
    ≡ times n (numbers ring.out) + times n (numbers (submitted call))
ring_count n size ring call =
    let same = ap (λ xs. times n (numbers xs)) (ring_after-out size ring call) in
    let left = ap (times n) (numbers-append (taken (ring_reply size ring call)) (ring_after size ring call).out)
    ∙ times-append n (numbers (taken (ring_reply size ring call))) (numbers (ring_after size ring call).out) in
    let right = ap (times n) (numbers-append ring.out (submitted call)) ∙ times-append n (numbers ring.out) (numbers (submitted call)) in
    sym left ∙ same ∙ right

rings_count-set : (n : ℕ) (c : Config) (s : State) (q : Ring) (call : Call) (reply : Reply) → HasRing c q → length s.rings ≡ places_of c
    → reply ≡ ring_reply (size_of c q) (ring_at c s q) call
    → times n (flat_map out_numbers (set s.rings (place c q) (ring_after (size_of c q) (ring_at c s q) call))) + times n (numbers (taken reply))
    ≡ times n (flat_map out_numbers s.rings) + times n (numbers (submitted call))
rings_count-set n c s q call reply h len e =
    let within : place c q < length s.rings = omega (arith, place_below c q h) in
    let moved = times-flat_map-set n out_numbers s.rings (place c q) (ring_after (size_of c q) (ring_at c s q) call) empty_ring within in
    omega (arith, moved, ring_count n (size_of c q) (ring_at c s q) call, ap (λ x. times n (numbers (taken x))) e)

-- what the rings give and take
pub rings_count : (n : ℕ) (c : Config) (s : State) (call : Call) → IsKnown c call → length s.rings ≡ places_of c
    → times n (flat_map out_numbers (rings_after c s.rings (call_ring call) call)) + times n (numbers (taken (reply_at c s call)))
    ≡ times n (flat_map out_numbers s.rings) + times n (numbers (submitted call))
rings_count n c s (Reserve q k) h len = rings_count-set n c s q (Reserve q k) (reply_at c s (Reserve q k)) h len refl
rings_count n c s (Submit q items) h len = rings_count-set n c s q (Submit q items) Submitted h len refl
rings_count n c s (Peek q k) h len = rings_count-set n c s q (Peek q k) (reply_at c s (Peek q k)) h len refl
rings_count n c s (Release q k) h len = rings_count-set n c s q (Release q k) Released h len refl
rings_count n c s (Swap m value) h len = refl
rings_count n c s (Look m) h len = refl

-- ---- roles

-- who isn't a ring's producer submits nothing there and gets no places
pub not_producer : (c : Config) (mine : List Told) (who : ℕ) (call : Call) (r : Ring) → HasRole c mine who call → is_on r call ≡ true → who ≢ producer c r
    → (submitted call ≡ []) × ((reply : Reply) → granted call reply ≡ 0)
not_producer c mine who (Reserve q n) r role on other = absurd (other (role ∙ at_ring (producer c) r q on))
not_producer c mine who (Submit q items) r role on other = absurd (other (role ∙ at_ring (producer c) r q on))
not_producer c mine who (Peek q n) r role on other = (refl, λ reply. refl)
not_producer c mine who (Release q n) r role on other = (refl, λ reply. refl)
not_producer c mine who (Swap m value) r role on other = absurd (cc)
not_producer c mine who (Look m) r role on other = absurd (cc)

-- who isn't its consumer takes and releases nothing
pub not_consumer : (c : Config) (s : State) (mine : List Told) (who : ℕ) (call : Call) (r : Ring) → HasRole c mine who call → is_on r call ≡ true → who ≢ consumer c r
    → (taken (reply_at c s call) ≡ []) × (released call ≡ 0)
not_consumer c s mine who (Reserve q n) r role on other = (cond-taken (nat_le n (free (size_of c q) (ring_at c s q))) (free (size_of c q) (ring_at c s q)), refl)
not_consumer c s mine who (Submit q items) r role on other = (refl, refl)
not_consumer c s mine who (Peek q n) r role on other = absurd (other (role ∙ at_ring (consumer c) r q on))
not_consumer c s mine who (Release q n) r role on other = absurd (other (role ∙ at_ring (consumer c) r q on))
not_consumer c s mine who (Swap m value) r role on other = absurd (cc)
not_consumer c s mine who (Look m) r role on other = absurd (cc)
