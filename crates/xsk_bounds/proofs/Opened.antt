-- What stands in the rings at the opening, and how much is reserved in them at any time.
use Rattle.std.proofs.Common.{◌≡◌, ℕ, zero, suc, ◌+◌, ◌*◌, ◌<◌, ◌≤◌, Bool, true, false, cond, nat_lt, List, [], ◌∷◌, length, get_or, take, drop, replicate, All, refl, ap, ◌∙◌, ⊎_elim, arith, lt-ltb, le-ltb, length-take, length-drop}
use Rattle.std.proofs.lemmas.Bool.{cases_lt}
use Rattle.std.proofs.lemmas.List.{length-map, get_or_past}
use Rattle.std.proofs.lemmas.List.Elements.{All-set, All-append, All-head, All-tail}
use Rattle.xsk_umem.specs.Frame.{Frame}
use Rattle.xsk_umem.specs.Geometry.{Geometry}
use Rattle.xsk_model.specs.Config.{Config, IsConfig, HasRing, size_of, pool_of}
use Rattle.xsk_model.specs.Rings.{place, places_of}
use Rattle.xsk_model.specs.Object.{RingState, State, empty_ring, ring_at, call_ring, ring_after, rings_after, submitted}
use Rattle.xsk_model.specs.Entry.{Entry, own}
use Rattle.xsk_model.specs.Legal.{IsLegal}
use Rattle.xsk_model.specs.Opening.{IsOpened, home_item, home_rings, opening}
use Rattle.xsk_model.specs.History.{IsHistory, state_after}
use Rattle.xsk_model.specs.declared.call.Ring.{Ring}
use Rattle.xsk_model.specs.declared.call.Ring.TheVariants.{Fill, Comp, Rx, Tx}
use Rattle.xsk_model.specs.declared.call.Call.{Call}
use Rattle.xsk_model.specs.declared.call.Call.TheVariants.{Reserve, Submit, Peek, Release, Swap, Look}
use Rattle.xsk_model.proofs.Along.{Keeps, along}
use Rattle.xsk_model.proofs.Histories.{IsSound, history_sound}
use Rattle.xsk_model.proofs.Moves.{ring_after-within}
use Rattle.xsk_model.proofs.Opened.{get_or-blanks, length-home_rings, length-frames}
use Rattle.xsk_model.proofs.Places.{is_ring-self}
use Rattle.xsk_model.proofs.RingSizes.{size_few}
use Rattle.xsk_model.proofs.Sound.{few_items}
use Rattle.xsk_turns.specs.Totals.{total}
use Rattle.xsk_bounds.specs.Totals.{steps_left}
use Rattle.xsk_turns.proofs.Totals.{total-append}
use Rattle.xsk_bounds.proofs.Flow.{out_from}
use Rattle.xsk_bounds.proofs.Changing.{standing, reserved}

-- ---- the items of the opening

total_blanks : (f : RingState → ℕ) (m : ℕ) → f empty_ring ≡ 0 → total f (replicate m empty_ring) ≡ 0
total_blanks f zero none = refl
total_blanks f (suc m) none = omega (arith, none, total_blanks f m none)

home_standing : (g : Geometry) (pool pairs : ℕ) (frames : List Frame) → total standing (home_rings g pool pairs frames) ≤ 2 * length frames
home_standing g pool zero frames = omega arith
home_standing g pool (suc pairs) frames =
    omega (arith, home_standing g pool pairs (drop pool frames), length-map (take pool frames) (home_item g), length-take pool frames, length-drop pool frames)

pub opening_standing : (c : Config) (frames : List Frame) → IsOpened c frames → total standing (opening c frames).rings ≤ 2 * c.geometry.frames
opening_standing c frames opened =
    let m = length c.pairs + 2 * length c.sockets in
    omega (
      arith,
      total-append standing (home_rings c.geometry (pool_of c) (length c.pairs) frames) (replicate m empty_ring),
      total_blanks standing m (omega arith),
      home_standing c.geometry (pool_of c) (length c.pairs) frames,
      length-frames c.geometry frames opened.umem,
    )

-- one each
all_out : (i : ℕ) (rings : List RingState) → out_from (λ p. 1) i rings ≤ total standing rings
all_out i [] = omega arith
all_out i (ring ∷ rings) = omega (arith, all_out (i + 1) rings)

half_out : (i : ℕ) (rings : List RingState) → 2 * out_from (λ p. 1) i rings ≤ total standing rings
half_out i [] = omega arith
half_out i (ring ∷ rings) = omega (arith, half_out (i + 1) rings)

pub opening_out : (c : Config) (frames : List Frame) → IsOpened c frames → out_from (λ p. 1) 0 (opening c frames).rings ≤ c.geometry.frames
opening_out c frames opened = omega (arith, half_out 0 (opening c frames).rings, opening_standing c frames opened)

-- ---- steps left, by place

abbrev pub steps_at : Config → ℕ → ℕ
steps_at c p =
    cond (nat_lt p (length c.pairs)) 0
    (cond (nat_lt p (length c.pairs + length c.pairs)) 1 (cond (nat_lt p (2 * length c.pairs + length c.sockets)) 4 2))

abbrev pick : Bool → Bool → Bool → ℕ
pick a b d = cond a 0 (cond b 1 (cond d 4 2))

tests : (a b d p q x : Bool) → p ≡ a → q ≡ b → x ≡ d → pick p q x ≡ pick a b d
tests a b d p q x e f g = ap (λ y. pick y q x) e ∙ ap (λ y. pick a y x) f ∙ ap (λ y. pick a b y) g

pub steps_at_place : (c : Config) (r : Ring) → HasRing c r → steps_at c (place c r) ≡ steps_left r
steps_at_place c (Fill d) has = ap (λ b. cond b 0 (cond (nat_lt d (length c.pairs + length c.pairs)) 1 (cond (nat_lt d (2 * length c.pairs + length c.sockets)) 4 2))) (lt-ltb d (length c.pairs) has)
steps_at_place c (Comp d) has =
    let p = length c.pairs + d in
    tests false true true (nat_lt p (length c.pairs)) (nat_lt p (length c.pairs + length c.pairs)) (nat_lt p (2 * length c.pairs + length c.sockets))
    (le-ltb p (length c.pairs) (omega arith)) (lt-ltb p (length c.pairs + length c.pairs) (omega (arith, has))) (lt-ltb p (2 * length c.pairs + length c.sockets) (omega (arith, has)))
steps_at_place c (Rx s) has =
    let p = 2 * length c.pairs + s in
    tests false false true (nat_lt p (length c.pairs)) (nat_lt p (length c.pairs + length c.pairs)) (nat_lt p (2 * length c.pairs + length c.sockets))
    (le-ltb p (length c.pairs) (omega arith)) (le-ltb p (length c.pairs + length c.pairs) (omega arith)) (lt-ltb p (2 * length c.pairs + length c.sockets) (omega (arith, has.0)))
steps_at_place c (Tx s) has =
    let p = 2 * length c.pairs + length c.sockets + s in
    tests false false false (nat_lt p (length c.pairs)) (nat_lt p (length c.pairs + length c.pairs)) (nat_lt p (2 * length c.pairs + length c.sockets))
    (le-ltb p (length c.pairs) (omega arith)) (le-ltb p (length c.pairs + length c.pairs) (omega arith)) (le-ltb p (2 * length c.pairs + length c.sockets) (omega arith))

out_none : (v : ℕ → ℕ) (i : ℕ) (rings : List RingState) → ((k : ℕ) → k < length rings → length (get_or rings k empty_ring).out * v (i + k) ≡ 0) → out_from v i rings ≡ 0
out_none v i [] none = refl
out_none v i (ring ∷ rings) none =
    let here : length ring.out * v (i + 0) ≡ 0 = none zero (omega arith) in
    let same = ap (λ n. length ring.out * v n) (let e : i + 0 ≡ i = omega arith in e) in
    let later = out_none v (i + 1) rings (λ k lt.
    ap (λ n. length (get_or rings k empty_ring).out * v n) (let e : i + 1 + k ≡ i + suc k = omega arith in e) ∙ none (suc k) (omega (arith, lt))) in
    omega (arith, here, same, later)

-- the items of the opening are at their end, on FILL
pub opening_steps : (c : Config) (frames : List Frame) → out_from (steps_at c) 0 (opening c frames).rings ≡ 0
opening_steps c frames = out_none (steps_at c) 0 (opening c frames).rings each
  where
    homes : List RingState
    homes = home_rings c.geometry (pool_of c) (length c.pairs) frames

    each : (k : ℕ) → k < length (opening c frames).rings → length (get_or (opening c frames).rings k empty_ring).out * steps_at c (0 + k) ≡ 0
    each k lt = ⊎_elim
        (λ (fill : k < length c.pairs).
        let none : steps_at c (0 + k) ≡ 0 = ap (λ b. cond b 0 (cond (nat_lt (0 + k) (length c.pairs + length c.pairs)) 1 (cond (nat_lt (0 + k) (2 * length c.pairs + length c.sockets)) 4 2))) (lt-ltb (0 + k) (length c.pairs) (omega (arith, fill))) in
        ap (λ n. length (get_or (opening c frames).rings k empty_ring).out * n) none ∙ omega arith)
        (λ (other : length c.pairs ≤ k).
        let blank : get_or (opening c frames).rings k empty_ring ≡ empty_ring =
        get_or-blanks (home_rings c.geometry (pool_of c) (length c.pairs) frames) (length c.pairs + 2 * length c.sockets) k empty_ring
        ∙ get_or_past (home_rings c.geometry (pool_of c) (length c.pairs) frames) k empty_ring (omega (arith, other, length-home_rings c.geometry (pool_of c) (length c.pairs) frames)) in
        ap (λ (ring : RingState). length ring.out * steps_at c (0 + k)) blank ∙ omega arith)
        (cases_lt k (length c.pairs))

-- ---- reserved places

abbrev pub IsFewReserved : RingState → Type 0
IsFewReserved ring = ring.room ≤ 2048

blanks_few : (m k : ℕ) (d : RingState) → k < length (replicate m empty_ring) → IsFewReserved (get_or (replicate m empty_ring) k d)
blanks_few zero k d within = absurd (omega (arith, within))
blanks_few (suc m) zero d within = omega arith
blanks_few (suc m) (suc k) d within = blanks_few m k d (omega (arith, within))

homes_few : (g : Geometry) (pool pairs : ℕ) (frames : List Frame) (k : ℕ) (d : RingState) → k < length (home_rings g pool pairs frames)
    → IsFewReserved (get_or (home_rings g pool pairs frames) k d)
homes_few g pool zero frames k d within = absurd (omega (arith, within))
homes_few g pool (suc pairs) frames zero d within = omega arith
homes_few g pool (suc pairs) frames (suc k) d within = homes_few g pool pairs (drop pool frames) k d (omega (arith, within))

few_total : (rings : List RingState) → All IsFewReserved rings → total reserved rings ≤ length rings * 2048
few_total [] few = omega arith
few_total (ring ∷ rings) few = omega (arith, All-head IsFewReserved ring rings few, few_total rings (All-tail IsFewReserved ring rings few))

opening_few : (c : Config) (frames : List Frame) → All IsFewReserved (opening c frames).rings
opening_few c frames =
    All-append IsFewReserved (home_rings c.geometry (pool_of c) (length c.pairs) frames) (replicate (length c.pairs + 2 * length c.sockets) empty_ring)
    (λ k d within. homes_few c.geometry (pool_of c) (length c.pairs) frames k d within)
    (λ k d within. blanks_few (length c.pairs + 2 * length c.sockets) k d within)

module _ (c : Config) (frames : List Frame) (s : State) (past : List Entry) (who : ℕ) (config : IsConfig c) (sound : IsSound c frames s past) where
  ring_few : (r : Ring) (call : Call) → HasRing c r → length (submitted call) ≤ (ring_at c s r).room
      → IsFewReserved (ring_after (size_of c r) (ring_at c s r) call)
  ring_few r call has few =
      let ring = ring_at c s r in
      let within = ring_after-within (size_of c r) ring call few (sound.ring r has).within in
      omega (arith, within, size_few c r config has)

  call_few : (call : Call) → IsLegal c (own who past) who call → All IsFewReserved s.rings → All IsFewReserved (rings_after c s.rings (call_ring call) call)
  call_few (Reserve r n) legal few = All-set IsFewReserved s.rings (place c r) _ (ring_few r (Reserve r n) legal.known (omega arith)) few
  call_few (Submit r items) legal few =
      All-set IsFewReserved s.rings (place c r) _
      (ring_few r (Submit r items) legal.known (few_items c past who (Submit r items) r (ring_at c s r).room legal (is_ring-self r) (sound.ring r legal.known).room)) few
  call_few (Peek r n) legal few = All-set IsFewReserved s.rings (place c r) _ (ring_few r (Peek r n) legal.known (omega arith)) few
  call_few (Release r n) legal few = All-set IsFewReserved s.rings (place c r) _ (ring_few r (Release r n) legal.known (omega arith)) few
  call_few (Swap m value) legal few = few
  call_few (Look m) legal few = few

-- no ring has more places reserved than it has places
pub reserved_few : (c : Config) (frames : List Frame) (h : List Entry) → IsHistory c frames h → total reserved (state_after c frames h).rings ≤ places_of c * 2048
reserved_few c frames h history =
    let few = along FewReserved c frames h history keeps (opening_few c frames) in
    omega (arith, few_total (state_after c frames h).rings few, ap (λ n. n * 2048) (history_sound c frames h history).rings)
  where
    FewReserved : State → List Entry → Type 0
    FewReserved s past = All IsFewReserved s.rings

    keeps : Keeps c frames FewReserved
    keeps s past e sound legal reply holds = call_few c frames s past e.who history.opened.config sound e.call legal holds
