-- How often rings and marks change: each place of a ring is reserved, filled, emptied and freed once for each item put there.
use Rattle.std.proofs.Common.{◌≡◌, ℕ, zero, suc, ◌+◌, ◌*◌, ◌<◌, ◌≤◌, Bool, true, false, cond, nat_le, List, [], ◌∷◌, ◌++◌, length, get_or, set, take, refl, ap, ◌∙◌, arith, length-append, length-take, length-drop}
use Rattle.xsk_umem.specs.Frame.{Frame}
use Rattle.xsk_umem.specs.declared.batch.Item.{Item}
use Rattle.xsk_model.specs.Config.{Config, HasRing, size_of}
use Rattle.xsk_model.specs.Rings.{place}
use Rattle.xsk_model.specs.Object.{RingState, State, empty_ring, ring_at, mark_at, free, peek_reply, reply_at, call_ring, ring_after, rings_after, submitted}
use Rattle.xsk_model.specs.Entry.{Told, Entry, told, own, all_told}
use Rattle.xsk_model.specs.Legal.{IsLegal}
use Rattle.xsk_model.specs.Opening.{opening}
use Rattle.xsk_model.specs.History.{IsHistory, state_after}
use Rattle.xsk_model.specs.OtherWords.{changes}
use Rattle.xsk_model.specs.declared.call.Ring.{Ring}
use Rattle.xsk_model.specs.declared.call.Mark.{Mark}
use Rattle.xsk_model.specs.declared.call.Call.{Call}
use Rattle.xsk_model.specs.declared.call.Call.TheVariants.{Reserve, Submit, Peek, Release, Swap, Look}
use Rattle.xsk_model.specs.declared.call.Reply.{Reply}
use Rattle.xsk_model.specs.declared.call.Reply.TheVariants.{Granted, Full, Old}
use Rattle.xsk_model.proofs.Along.{Keeps, along}
use Rattle.xsk_model.proofs.Folds.{all_told-append}
use Rattle.xsk_model.proofs.Histories.{IsSound}
use Rattle.xsk_model.proofs.Places.{is_ring-self, place_below}
use Rattle.xsk_model.proofs.Sound.{few_items}
use Rattle.xsk_model.proofs.Counts.{within_ring}
use Rattle.xsk_turns.specs.Totals.{total}
use Rattle.xsk_bounds.specs.Totals.{changed, swapped, swap_count, put}
use Rattle.xsk_bounds.proofs.Totals.{total-push}

-- what a ring still changes by what stands there: an item that is out is taken and released, one that is held is released;
-- and its places that are reserved
abbrev pub standing : RingState → ℕ
standing ring = 2 * length ring.out + length ring.held

abbrev pub reserved : RingState → ℕ
reserved ring = ring.room

abbrev change_count : Bool → ℕ
change_count b = cond b 1 0

total_set : (f : RingState → ℕ) (rings : List RingState) (p : ℕ) (ring : RingState) → p < length rings
    → total f (set rings p ring) + f (get_or rings p empty_ring) ≡ total f rings + f ring
total_set f [] p ring lt = absurd (omega (arith, lt))
total_set f (old ∷ rings) zero ring lt = omega arith
total_set f (old ∷ rings) (suc p) ring lt = omega (arith, total_set f rings p ring (omega (arith, lt)))

-- one ring, one call
reserves : (b : Bool) (ring : RingState) (r : Ring) (n places : ℕ) → 1 ≤ n
    → let new : RingState = cond b (record ring { room = ring.room + n }) ring in
    change_count (changes (Reserve r n) (cond b Granted (Full places))) + standing new + reserved ring ≤ standing ring + reserved new
reserves true ring r n places some = omega (arith, some)
reserves false ring r n places some = omega arith

peeks : (out : List Item) (r : Ring) (n : ℕ) → 1 ≤ n → change_count (changes (Peek r n) (peek_reply n out)) ≤ length (take n out)
peeks [] r n some = omega arith
peeks (item ∷ out) r n some = omega (arith, some, length-take n (item ∷ out))

swaps : (m : Mark) (value old : ℕ) (b : Bool) → b ≡ changes (Swap m value) (Old old) → change_count b ≤ 1
swaps m value old true e = omega arith
swaps m value old false e = omega arith

module _ (c : Config) (frames : List Frame) (s : State) (past : List Entry) (who : ℕ) (sound : IsSound c frames s past) where
  abbrev Changes : Call → Type 0
  Changes call =
      change_count (changes call (reply_at c s call)) + total standing (rings_after c s.rings (call_ring call) call) + total reserved s.rings
      ≤ 4 * length (submitted call) + total standing s.rings + total reserved (rings_after c s.rings (call_ring call) call) + swap_count call

  -- from what holds of the call's ring
  on_ring : (r : Ring) (call : Call) (k n : ℕ) → HasRing c r
      → k + standing (ring_after (size_of c r) (ring_at c s r) call) + reserved (ring_at c s r)
      ≤ n + standing (ring_at c s r) + reserved (ring_after (size_of c r) (ring_at c s r) call)
      → k + total standing (set s.rings (place c r) (ring_after (size_of c r) (ring_at c s r) call)) + total reserved s.rings
      ≤ n + total standing s.rings + total reserved (set s.rings (place c r) (ring_after (size_of c r) (ring_at c s r) call))
  on_ring r call k n has here =
      let within : place c r < length s.rings = omega (arith, sound.rings, place_below c r has) in
      let new = ring_after (size_of c r) (ring_at c s r) call in
      omega (arith, here, total_set standing s.rings (place c r) new within, total_set reserved s.rings (place c r) new within)

  call_changes : (call : Call) → IsLegal c (own who past) who call → Changes call
  call_changes (Reserve r n) legal =
      let places = free (size_of c r) (ring_at c s r) in
      let here = reserves (nat_le n places) (ring_at c s r) r n places legal.counted.0 in
      omega (arith, on_ring r (Reserve r n) (change_count (changes (Reserve r n) (reply_at c s (Reserve r n)))) 0 legal.known (omega (arith, here)))
  call_changes (Submit r items) legal =
      let ring = ring_at c s r in
      let few = few_items c past who (Submit r items) r ring.room legal (is_ring-self r) (sound.ring r legal.known).room in
      let here : 1 + standing (ring_after (size_of c r) ring (Submit r items)) + reserved ring ≤ 4 * length items + standing ring + reserved (ring_after (size_of c r) ring (Submit r items)) =
      omega (arith, few, legal.counted.0, length-append ring.out items) in
      omega (arith, on_ring r (Submit r items) 1 (4 * length items) legal.known here)
  call_changes (Peek r n) legal =
      let ring = ring_at c s r in
      let k = change_count (changes (Peek r n) (peek_reply n ring.out)) in
      let here : k + standing (ring_after (size_of c r) ring (Peek r n)) + reserved ring ≤ 0 + standing ring + reserved (ring_after (size_of c r) ring (Peek r n)) =
      omega (arith, peeks ring.out r n legal.counted.0, length-append ring.held (take n ring.out), length-drop n ring.out, length-take n ring.out) in
      omega (arith, on_ring r (Peek r n) k 0 legal.known here)
  call_changes (Release r n) legal =
      let ring = ring_at c s r in
      let few : n ≤ length ring.held = within_ring c _ past who (Release r n) r ring legal (is_ring-self r) (sound.ring r legal.known) in
      let here : 1 + standing (ring_after (size_of c r) ring (Release r n)) + reserved ring ≤ 0 + standing ring + reserved (ring_after (size_of c r) ring (Release r n)) =
      omega (arith, few, legal.counted.0, length-drop n ring.held) in
      omega (arith, on_ring r (Release r n) 1 0 legal.known here)
  call_changes (Swap m value) legal = omega (arith, swaps m value (mark_at c s m) (changes (Swap m value) (Old (mark_at c s m))) refl)
  call_changes (Look m) legal = omega arith

-- all changes, by what was put into rings and by the Swaps
pub changes_by : (c : Config) (frames : List Frame) (h : List Entry) → IsHistory c frames h
    → total changed (all_told h) + total standing (state_after c frames h).rings
    ≤ 4 * total put (all_told h) + total standing (opening c frames).rings + total reserved (state_after c frames h).rings + total swapped (all_told h)
changes_by c frames h history = along Bounded c frames h history keeps (omega arith)
  where
    Bounded : State → List Entry → Type 0
    Bounded s past = total changed (all_told past) + total standing s.rings
        ≤ 4 * total put (all_told past) + total standing (opening c frames).rings + total reserved s.rings + total swapped (all_told past)

    keeps : Keeps c frames Bounded
    keeps s past e sound legal reply holds =
        let push : (f : Told → ℕ) → total f (all_told (past ++ e ∷ [])) ≡ total f (all_told past) + f (told e) =
        λ f. ap (total f) (all_told-append past (e ∷ [])) ∙ total-push f (all_told past) (told e) in
        let here = call_changes c frames s past e.who sound e.call legal in
        let given = ap (λ (x : Reply). change_count (changes e.call x)) reply in
        omega (arith, holds, push changed, push put, push swapped, here, given)
