-- The rule holds of a new table.
use Rattle.std.proofs.Common.{◌≡◌, ℕ, ◌+◌, ◌*◌, ◌/◌, ◌%◌, ◌^◌, ◌<◌, ◌≤◌, suc, zero, List, [], ◌∷◌, ◌++◌, map, length, get_or, drop, replicate, refl, ap, sym, ◌∙◌, arith, subst, append-nil, Some}
use Rattle.std.specs.Prelude.{All}
use mathlib.Core.Option.{some, some-injective, some-ne-none}
use lib.ListN.{get_elem?}
use Rattle.std.proofs.lemmas.List.{length-replicate, length-map, get_or-map}
use Rattle.std.proofs.lemmas.List.{length-take, length-drop, get_or-take, get_or-drop}
use Rattle.std.proofs.lemmas.List.FromFn.{length-range_with_len, get_or-range_with_len}
use Rattle.std.proofs.Math.Nat.{div-lt_iff_lt-mul, div-mul-le_self, lt-div-mul-add}
use Rattle.atomic_table.specs.Table.{opening}
use Rattle.atomic_table.proofs.Lists.{at_map}
use Rattle.xsk_umem.specs.Frame.{Frame}
use Rattle.xsk_umem.specs.Geometry.{base_of}
use Rattle.xsk_umem.specs.Batch.{blank}
use Rattle.xsk_umem.specs.declared.batch.Item.{Item}
use Rattle.xsk_model.specs.Config.{Config, HasRing, callers_of, pool_of}
use Rattle.xsk_model.specs.Numbers.{times}
use Rattle.xsk_model.specs.Rings as rings
use Rattle.xsk_model.specs.Object.{RingState}
use Rattle.xsk_model.specs.Homes.{first_ring, pool_at}
use Rattle.xsk_model.specs.Opening as openings
use Rattle.xsk_model.specs.Opening.{AreFrames, IsOpened, home_item}
use Rattle.xsk_model.specs.Legal.{IsItemOn}
use Rattle.xsk_model.specs.History.{IsHistory}
use Rattle.xsk_model.specs.declared.call.Ring.{Ring}
use Rattle.xsk_model.specs.declared.call.Ring.TheVariants.{Fill, Comp, Rx, Tx}
use Rattle.xsk_model.proofs.Counting.{times-append, times-range_within}
use Rattle.xsk_model.proofs.Opened.{length-frames, numbers-home, all_pools}
use Rattle.xsk_model.proofs.FirstState.{opening_ring_is, opening_numbers, pool_numbers}
use Rattle.xsk_model.proofs.MarkNumbers.{opening_mark_is}
use Rattle.xsk_model.proofs.Replies.{times-row}
use Rattle.xsk_model.proofs.Theorems.{lawful_items}
use Rattle.xsk_table.specs.View.{Basis, Flight, idle, View, newcomer}
use Rattle.xsk_table.specs.Rule.{at, entry_of, opened, Lies, nothing, RingHolds, Homes, IsHome, AllHome, lying, written, IsInFlight, Knows, Rule, all_callers}
use Rattle.xsk_table.specs.Opening.{WordsOpen, first_count}

-- ---- lists

at_get_or : {X : Type 0} (xs : List X) (j : ℕ) (x d : X) → get_elem? xs j ≡ some x → (j < length xs) × (get_or xs j d ≡ x)
at_get_or [] j x d e = absurd (some-ne-none x (sym e))
at_get_or (y ∷ xs) zero x d e = (omega arith, some-injective y x e)
at_get_or (y ∷ xs) (suc j) x d e = let t = at_get_or xs j x d e in let lt = t.0 in (omega arith, t.1)

get_or_at : {X : Type 0} (xs : List X) (j : ℕ) (d : X) → j < length xs → get_elem? xs j ≡ some (get_or xs j d)
get_or_at [] j d lt = absurd (omega arith)
get_or_at (y ∷ xs) zero d lt = refl
get_or_at (y ∷ xs) (suc j) d lt = get_or_at xs j d (omega arith)

all_home : (homes : Homes) (xs : List Item) → ((j : ℕ) (x : Item) → get_elem? xs j ≡ some x → IsHome homes x.frame) → AllHome homes xs
all_home homes [] h = tt
all_home homes (x ∷ xs) h = (h 0 x refl, all_home homes xs (λ j y e. h (suc j) y e))

all_idle : (n i : ℕ) → get_or (replicate n idle) i idle ≡ idle
all_idle zero i = refl
all_idle (suc n) zero = refl
all_idle (suc n) (suc i) = all_idle n i

no_frame : Frame
no_frame = record { number = 0; bytes = [] }

-- ---- the frames of the pools

module _ (c : Config) (frames : List Frame) (opened_is : IsOpened c frames) where
  abbrev slots : Homes
  slots = map some (map (λ (f : Frame). Some f) frames)

  -- a frame that stands at its number
  frame_home : (f : Frame) (n : ℕ) → get_elem? frames n ≡ some f → f.number ≡ n → get_elem? slots f.number ≡ some (some (Some f))
  frame_home f n e number = ap (get_elem? slots) number ∙ at_map some (map (λ (g : Frame). Some g) frames) n (Some f) (at_map (λ (g : Frame). Some g) frames n f e)

  number_at : (n : ℕ) (f : Frame) → get_elem? frames n ≡ some f → f.number ≡ n
  number_at n f e =
      let t = at_get_or frames n f no_frame e in
      let len = length-frames c.geometry frames opened_is.umem in
      let lt = t.0 in
      ap (λ (g : Frame). g.number) (sym t.1) ∙ sym (get_or-map (λ (g : Frame). g.number) frames n no_frame 0 t.0) ∙ ap (λ l. get_or l n 0) opened_is.umem.numbers
      ∙ get_or-range_with_len 0 c.geometry.frames n 0 (omega arith) ∙ omega arith

  -- the item at a place of a pair's pool
  pool_item : (d j : ℕ) (x : Item) → d < length c.pairs → get_elem? (map (home_item c.geometry) (pool_at c frames d)) j ≡ some x
      → (j < pool_of c) × (x.desc.addr ≡ base_of c.geometry (d * pool_of c + j)) × IsHome slots x.frame
  pool_item d j x h e =
      let pool : ℕ = pool_of c in
      let fs : List Frame = pool_at c frames d in
      let t = at_get_or (map (home_item c.geometry) fs) j x blank e in
      let below : j < length fs = let lt = t.0 in omega (arith, length-map fs (home_item c.geometry)) in
      let small : j < pool = omega (arith, length-take pool (drop (d * pool) frames)) in
      let spot : ℕ = d * pool + j in
      let within : spot < length frames = let base : ℕ = d * pool in omega (arith, length-take pool (drop base frames), length-drop base frames) in
      let f : Frame = get_or frames spot no_frame in
      let here : get_or fs j no_frame ≡ f = get_or-take pool (drop (d * pool) frames) j no_frame small ∙ get_or-drop (d * pool) frames j no_frame in
      let is : home_item c.geometry f ≡ x = ap (home_item c.geometry) (sym here) ∙ sym (get_or-map (home_item c.geometry) fs j no_frame blank below) ∙ t.1 in
      let there : get_elem? frames spot ≡ some f = get_or_at frames spot no_frame within in
      let number : f.number ≡ spot = number_at spot f there in
      let item = subst (λ (i : Item). (i.desc.addr ≡ base_of c.geometry spot) × IsHome slots i.frame) is (ap (base_of c.geometry) number, frame_home f spot there number) in
      (small, item.0, item.1)

pool_len : (c : Config) (frames : List Frame) (d : ℕ) → IsOpened c frames → d < length c.pairs → length (map (home_item c.geometry) (pool_at c frames d)) ≡ pool_of c
pool_len c frames d opened_is h =
    let fs : List Frame = pool_at c frames d in
    length-map fs (home_item c.geometry) ∙ sym (length-map fs (λ (f : Frame). f.number)) ∙ ap length (sym (numbers-home c.geometry fs) ∙ pool_numbers c frames d opened_is h)
    ∙ length-range_with_len (d * pool_of c) (pool_of c)

-- ---- the rings

pub opened_is_first : (c : Config) (frames : List Frame) (r : Ring) → IsOpened c frames → HasRing c r → length (first_ring c frames r).out ≡ first_count c r
opened_is_first c frames (Fill d) opened_is h = pool_len c frames d opened_is h
opened_is_first c frames (Comp d) opened_is h = refl
opened_is_first c frames (Rx s) opened_is h = refl
opened_is_first c frames (Tx s) opened_is h = refl

module _ (k : Basis) (words : List ℕ) (opened_is : IsOpened k.config k.frames) (small : k.first < 2 ^ 32) (w : WordsOpen k.config k.first words) where
  abbrev homes : Homes
  homes = slots k.config k.frames opened_is

  lies_open : (r : Ring) (j : ℕ) (x : Item) → HasRing k.config r → IsItemOn k.config.geometry r x → get_elem? (first_ring k.config k.frames r).out j ≡ some x
      → Lies k.config words r (k.first + 0 + j) x × IsHome homes x.frame
  lies_open (Fill d) j x h lawful e =
      let t = pool_item k.config k.frames opened_is d j x h e in (
        record {
          address = ap (λ n. at k.config words (entry_of k.config (Fill d) n)) (let z : k.first + 0 + j ≡ k.first + j = omega arith in z) ∙ w.entries d h j t.0 ∙ sym t.1;
          other = λ two. absurd (cc);
          lawful = lawful;
        },
        t.2,
      )
  lies_open (Comp d) j x h lawful e = absurd (some-ne-none x (sym e))
  lies_open (Rx s) j x h lawful e = absurd (some-ne-none x (sym e))
  lies_open (Tx s) j x h lawful e = absurd (some-ne-none x (sym e))

  held_none : (r : Ring) → (first_ring k.config k.frames r).held ≡ []
  held_none (Fill d) = refl
  held_none (Comp d) = refl
  held_none (Rx s) = refl
  held_none (Tx s) = refl

  out_at : (r : Ring) (j : ℕ) (x : Item) → HasRing k.config r → get_elem? (first_ring k.config k.frames r).out j ≡ some x → Lies k.config words r (k.first + 0 + j) x × IsHome homes x.frame
  out_at r j x h e =
      let legal : IsHistory k.config k.frames [] = record { opened = opened_is; legal = tt } in
      let first = opening_ring_is k.config k.frames r h in
      let all : All (IsItemOn k.config.geometry r) (first_ring k.config k.frames r).out = subst (λ (q : RingState). All (IsItemOn k.config.geometry r) q.out) first (lawful_items k.config k.frames [] r legal h) in
      let t = at_get_or (first_ring k.config k.frames r).out j x blank e in
      lies_open r j x h (subst (IsItemOn k.config.geometry r) t.1 (all j blank t.0)) e

  ring_open : (r : Ring) → HasRing k.config r → RingHolds k words r (first_ring k.config k.frames r) (opened k r + 0) 0 nothing
  ring_open r h =
      let first = opening_ring_is k.config k.frames r h in
      let count : opened k r ≡ first_count k.config r = ap (λ (q : RingState). length q.out) first ∙ opened_is_first k.config k.frames r opened_is h in
      record {
        producer_is = w.producers r h ∙ ap (λ n. (k.first + n) % 2 ^ 32) (let z : first_count k.config r ≡ opened k r + 0 = omega arith in z);
        consumer_is = w.consumers r h ∙ (let z : k.first ≡ (k.first + 0) % 2 ^ 32 = omega arith in z);
        within = omega arith;
        entries = λ j x e. (out_at r j x h (subst (λ (l : List Item). get_elem? l j ≡ some x) (append-nil (first_ring k.config k.frames r).out)
            (subst (λ (l : List Item). get_elem? (l ++ ((first_ring k.config k.frames r).out ++ [])) j ≡ some x) (held_none r) e))).0;
        half = λ x e two. absurd (some-ne-none x (sym e));
      }

one_seat : (k : Basis) (j : ℕ) (v : View) → get_elem? (newcomer k (all_callers k) ∷ []) j ≡ some v → Knows [] (replicate (callers_of k.config) idle) v
one_seat k zero v e = subst (Knows [] (replicate (callers_of k.config) idle)) (some-injective (newcomer k (all_callers k)) v e)
    (record { seen = ([], refl); told = ([], refl); mine = λ w p. (refl, all_idle (callers_of k.config) w); others = λ w p. absurd (omega arith) })
one_seat k (suc j) v e = absurd (some-ne-none v (sym e))

pub opens : (k : Basis) (words : List ℕ) → IsOpened k.config k.frames → k.first < 2 ^ 32 → WordsOpen k.config k.first words
    → Rule k (opening words (map (λ (f : Frame). Some f) k.frames) (newcomer k (all_callers k)))
opens k words opened_is small w =
    let c = k.config in
    let homes : Homes = map some (map (λ (f : Frame). Some f) k.frames) in
    let flights : List Flight = replicate (callers_of c) idle in
    let legal : IsHistory c k.frames [] = record { opened = opened_is; legal = tt } in
    let frames_len = length-frames c.geometry k.frames opened_is.umem in
    record {
      log = [];
      flights = flights;
      legal = legal;
      words_len = w.wide;
      homes_len = length-map (map (λ (f : Frame). Some f) k.frames) some ∙ length-map k.frames (λ (f : Frame). Some f) ∙ frames_len;
      flights_len = length-replicate (callers_of c) idle;
      seats = one_seat k;
      apart = λ n. omega (arith, times-append n (all_callers k ++ []) [], times-append n (all_callers k) [], times-row n (callers_of c));
      in_flight = λ n lt. subst (IsInFlight k (openings.opening c k.frames) [] n) (sym (all_idle (callers_of c) n)) tt;
      rings = λ r has.
          let P : RingState × Flight → Type 0 = λ t. RingHolds k words r t.0 (opened k r + 0) 0 (written r t.1) in
          subst P (λ i. (sym (opening_ring_is c k.frames r has) i, sym (all_idle (callers_of c) (rings.producer c r)) i)) (ring_open k words opened_is small w r has);
      marks = λ m has. w.marks m has ∙ sym (opening_mark_is c k.frames m opened_is.config has);
      outs = λ r has. subst (λ (q : RingState). AllHome homes q.out) (sym (opening_ring_is c k.frames r has)) (all_home homes (first_ring c k.frames r).out (λ j x e. (out_at k words opened_is small w r j x has e).1));
      lie = λ n. subst (λ (f : Flight). AllHome homes (lying f)) (sym (all_idle (callers_of c) n)) tt;
      vacant = λ n lt no_ring no_call.
          let pool : ℕ = pool_of c in
          let d : ℕ = n / pool in
          let some_pool : 0 < pool = opened_is.lawful.some in
          let all : c.geometry.frames ≡ length c.pairs * pool = all_pools c.geometry.frames (length c.pairs) opened_is.lawful.divides in
          let has : d < length c.pairs = (div-lt_iff_lt-mul some_pool).1 (subst (λ m. n < m) all lt) in
          let low : d * pool ≤ n = div-mul-le_self n pool in
          let high : n < d * pool + pool = lt-div-mul-add some_pool in
          let one = times-range_within n (d * pool) pool low high in
          let none = ap (times n) (sym (opening_numbers c k.frames d opened_is has)) ∙ no_ring (Fill d) has in
          absurd (omega arith);
    }
