-- What goes into rings and what is taken from them: each item taken was put there, or stood there at the opening.
use Rattle.std.proofs.Common.{◌≡◌, ℕ, zero, suc, ◌+◌, ◌*◌, ◌<◌, List, [], ◌∷◌, length, get_or, set, refl, sym, ap, ◌∙◌, arith, length-append}
use Rattle.xsk_umem.specs.Frame.{Frame}
use Rattle.xsk_model.specs.Config.{Config, HasRing, size_of}
use Rattle.xsk_model.specs.Rings.{place, places_of}
use Rattle.xsk_model.specs.Object.{RingState, State, empty_ring, ring_at, reply_at, call_ring, ring_after, rings_after, submitted, taken}
use Rattle.xsk_model.specs.Entry.{Told, Entry, told, all_told}
use Rattle.xsk_model.specs.Legal.{IsKnown}
use Rattle.xsk_model.specs.Opening.{opening}
use Rattle.xsk_model.specs.History.{IsHistory, state_after}
use Rattle.xsk_model.specs.declared.call.Ring.{Ring}
use Rattle.xsk_model.specs.declared.call.Call.{Call}
use Rattle.xsk_model.specs.declared.call.Call.TheVariants.{Reserve, Submit, Peek, Release, Swap, Look}
use Rattle.xsk_model.specs.declared.call.Reply.{Reply}
use Rattle.xsk_model.proofs.Along.{Keeps, along}
use Rattle.xsk_model.proofs.Folds.{all_told-append}
use Rattle.xsk_model.proofs.Moves.{ring_reply, ring_after-out}
use Rattle.xsk_model.proofs.Places.{place_below}
use Rattle.xsk_turns.specs.Totals.{total}
use Rattle.xsk_bounds.proofs.Totals.{total-push}

-- the items that are out, each counted with the number of its ring's place
abbrev pub out_from : (ℕ → ℕ) → ℕ → List RingState → ℕ
out_from v i [] = 0
out_from v i (ring ∷ rings) = length ring.out * v i + out_from v (i + 1) rings

-- so many items on the ring of a call, counted so
abbrev pub count_on : Config → (ℕ → ℕ) → Call → ℕ → ℕ
count_on c v (Reserve r n) count = count * v (place c r)
count_on c v (Submit r items) count = count * v (place c r)
count_on c v (Peek r n) count = count * v (place c r)
count_on c v (Release r n) count = count * v (place c r)
count_on c v (Swap m value) count = 0
count_on c v (Look m) count = 0

abbrev pub put_on : Config → (ℕ → ℕ) → Told → ℕ
put_on c v t = count_on c v t.call (length (submitted t.call))

abbrev pub took_on : Config → (ℕ → ℕ) → Told → ℕ
took_on c v t = count_on c v t.call (length (taken t.reply))

out_set : (v : ℕ → ℕ) (i : ℕ) (rings : List RingState) (p : ℕ) (ring : RingState) → p < length rings
    → out_from v i (set rings p ring) + length (get_or rings p empty_ring).out * v (i + p) ≡ out_from v i rings + length ring.out * v (i + p)
out_set v i [] p ring lt = absurd (omega (arith, lt))
out_set v i (old ∷ rings) zero ring lt =
    let same : v (i + 0) ≡ v i = ap v (omega arith) in
    let first = ap (λ n. length ring.out * n) same in
    let second = ap (λ n. length old.out * n) same in
    omega (arith, first, second)
out_set v i (old ∷ rings) (suc p) ring lt =
    let next = out_set v (i + 1) rings p ring (omega (arith, lt)) in
    let same : v (i + 1 + p) ≡ v (i + suc p) = ap v (omega arith) in
    let first = ap (λ n. length (get_or rings p empty_ring).out * n) same in
    let second = ap (λ n. length ring.out * n) same in
    omega (arith, next, first, second)

module _ (c : Config) (v : ℕ → ℕ) (s : State) where
  ring_flow : (r : Ring) (call : Call) → HasRing c r → length s.rings ≡ places_of c
      → out_from v 0 (set s.rings (place c r) (ring_after (size_of c r) (ring_at c s r) call)) + length (taken (ring_reply (size_of c r) (ring_at c s r) call)) * v (place c r)
      ≡ out_from v 0 s.rings + length (submitted call) * v (place c r)
  ring_flow r call has len =
      let ring = ring_at c s r in
      let new = ring_after (size_of c r) ring call in
      let moved = out_set v 0 s.rings (place c r) new (omega (arith, len, place_below c r has)) in
      let same : v (0 + place c r) ≡ v (place c r) = ap v (omega arith) in
      let old_here = ap (λ n. length ring.out * n) same in
      let new_here = ap (λ n. length new.out * n) same in
      let lengths : length (taken (ring_reply (size_of c r) ring call)) + length new.out ≡ length ring.out + length (submitted call) =
      sym (length-append (taken (ring_reply (size_of c r) ring call)) new.out) ∙ ap length (ring_after-out (size_of c r) ring call) ∙ length-append ring.out (submitted call) in
      let times = ap (λ n. n * v (place c r)) lengths in
      omega (arith, moved, old_here, new_here, times)

  call_flow : (call : Call) → IsKnown c call → length s.rings ≡ places_of c
      → out_from v 0 (rings_after c s.rings (call_ring call) call) + count_on c v call (length (taken (reply_at c s call)))
      ≡ out_from v 0 s.rings + count_on c v call (length (submitted call))
  call_flow (Reserve r n) known len = ring_flow r (Reserve r n) known len
  call_flow (Submit r items) known len = ring_flow r (Submit r items) known len
  call_flow (Peek r n) known len = ring_flow r (Peek r n) known len
  call_flow (Release r n) known len = ring_flow r (Release r n) known len
  call_flow (Swap m value) known len = refl
  call_flow (Look m) known len = refl

-- what was taken and what is out is what was put there and what was out at the opening
pub flow : (c : Config) (v : ℕ → ℕ) (frames : List Frame) (h : List Entry) → IsHistory c frames h
    → out_from v 0 (state_after c frames h).rings + total (took_on c v) (all_told h) ≡ out_from v 0 (opening c frames).rings + total (put_on c v) (all_told h)
flow c v frames h history = along Flows c frames h history keeps (omega arith)
  where
    Flows : State → List Entry → Type 0
    Flows s past = out_from v 0 s.rings + total (took_on c v) (all_told past) ≡ out_from v 0 (opening c frames).rings + total (put_on c v) (all_told past)

    keeps : Keeps c frames Flows
    keeps s past e sound legal reply holds =
        let took = ap (total (took_on c v)) (all_told-append past (e ∷ [])) ∙ total-push (took_on c v) (all_told past) (told e) in
        let put = ap (total (put_on c v)) (all_told-append past (e ∷ [])) ∙ total-push (put_on c v) (all_told past) (told e) in
        let here = call_flow c v s e.call legal.known sound.rings in
        let given = ap (λ (x : Reply). count_on c v e.call (length (taken x))) reply in
        omega (arith, holds, took, put, here, given)
