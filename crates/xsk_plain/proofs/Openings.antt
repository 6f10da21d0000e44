-- What the FILL rings and the marks are at the opening.
use Rattle.std.proofs.Common.{◌≡◌, ℕ, zero, suc, ◌+◌, ◌-◌, ◌*◌, ◌<◌, ◌≤◌, ◌⊎◌, ◌↔◌, Option, Some, None, Bool, true, List, [], ◌∷◌, ◌++◌, length, get_or, set, take, drop, map, replicate, flat_map, refl, sym, ap, subst, ◌∙◌, ⊎_elim, arith, length-append, length-drop, drop-drop, suc-mul, append_assoc, mul-le-mul_right, false, cond, ◌&&◌}
use Rattle.std.proofs.lemmas.Option.{get_or_from_slice_get}
use Rattle.std.proofs.lemmas.List.{get_or-set_same, get_or-set_other, length-set}
use Rattle.std.proofs.lemmas.List.Elements.{All-set}
use Rattle.std.specs.Prelude.{All, IsSome, IsNone, slice_get}
use Rattle.std.proofs.lemmas.List.{length-map, length-replicate, get_or-map, get_or_append_left, get_or_past, drop_all, drop_more, take_more, map_push, replicate_more, nil_from_length, take_all, ext_get_or}
use Rattle.std.proofs.lemmas.List.Elements.{All-nil, All-same, All-map, All-weaker}
use Rattle.xsk_umem.specs.Frame.{Frame}
use Rattle.xsk_umem.specs.Frames.{Frames}
use Rattle.xsk_umem.specs.Geometry.{Geometry}
use Rattle.xsk_umem.specs.declared.batch.Item.{Item}
use Rattle.xsk_model.specs.Config.{Config, IsConfig, IsLawful, pool_of, pair_at}
use Rattle.xsk_model.specs.declared.call.Ring.TheVariants.{Fill}
use Rattle.xsk_model.specs.Descriptor.{is_valid, is_inside, fits_chunk, has_known_options}
use Rattle.xsk_model.specs.Marks.{flags_of}
use Rattle.xsk_model.specs.Object.{RingState, empty_ring}
use Rattle.xsk_model.specs.Opening.{AreFrames, home_item, home_ring, home_rings, opening_cells, opening}
use Rattle.xsk_model.proofs.Opened.{length-frames, get_or-blanks, length-home_rings}
use Rattle.xsk_plain.specs.declared.ring_store.RingStore.{RingStore}
use Rattle.xsk_plain.specs.Engine.{seen, no_part}
use Rattle.xsk_log.specs.Notes.{Notes}
use Rattle.xsk_plain.specs.Kept.{IsKept, AreKept, AllKept}
use Rattle.xsk_model.specs.Sizes.{sizes_of}
use Rattle.xsk_plain.specs.Stores.{stored_item_of, home_stored, part_of, parts_of, size_in, sizes_in, IsBlank, Has}
use Rattle.xsk_model.specs.Rings.{places_of}
use Rattle.xsk_plain.proofs.StoreSteps.{part_has, size_at, length-sizes_of}

-- ---- pools

pub all_pools : (c : Config) (frames : List Frame) → IsLawful c → AreFrames c.geometry frames → length frames ≡ length c.pairs * pool_of c
all_pools c frames lawful are = length-frames c.geometry frames are ∙ (let h = lawful.divides in omega (arith, h))

pub pool_left : (pair pairs pool all : ℕ) → pair < pairs → all ≡ pairs * pool → pool ≤ all - pair * pool
pool_left pair pairs pool all h is =
    let more : suc pair ≤ pairs = omega arith in
    let most = mul-le-mul_right pool more in
    omega (arith, most, suc-mul pair pool)

drop_pool : (pair pool : ℕ) (frames : List Frame) → drop pool (drop (pair * pool) frames) ≡ drop ((pair + 1) * pool) frames
drop_pool pair pool frames = drop-drop pool (pair * pool) frames ∙ (let e : pair * pool + pool ≡ (pair + 1) * pool = omega (arith, suc-mul pair pool) in ap (λ n. drop n frames) e)

-- the queue after one more pool was taken from it
pub home_step : (before after : Frames) (all : List Frame) (pair pool limit : ℕ) → after ≡ record { items = drop pool before.items; limit = before.limit }
    → before ≡ record { items = drop (pair * pool) all; limit = limit } → after ≡ record { items = drop ((pair + 1) * pool) all; limit = limit }
home_step before after all pair pool limit taken is =
    taken ∙ ap (λ (q : Frames). record { items = drop pool q.items; limit = q.limit }) is
    ∙ ap (λ (fs : List Frame). record { items = fs; limit = limit }) (drop_pool pair pool all)

pub drop_none : (pool : ℕ) (frames : List Frame) → drop (0 * pool) frames ≡ frames
drop_none pool frames = let e : 0 * pool ≡ 0 = omega arith in ap (λ n. drop n frames) e

pub drop_pools : (c : Config) (frames : List Frame) (pairs : ℕ) → IsLawful c → AreFrames c.geometry frames → length c.pairs ≤ pairs → drop (pairs * pool_of c) frames ≡ []
drop_pools c frames pairs lawful are most =
    let more = mul-le-mul_right (pool_of c) most in
    drop_all (pairs * pool_of c) frames (omega (arith, more, all_pools c frames lawful are))

pub is_some : {X : Type 0} (r : Option X) (xs : List X) → (IsNone r ↔ (xs ≡ [])) → 1 ≤ length xs → IsSome r
is_some None xs none h = let e : length xs ≡ 0 = ap length (none.0 refl) in absurd (omega arith)
is_some (Some x) xs none h = refl

-- one more of a list, where its rest is known
pub one_more : {X : Type 0} (all rest : List X) (k : ℕ) (x : X) → drop k all ≡ x ∷ rest → (take (k + 1) all ≡ take k all ++ x ∷ []) × (drop (k + 1) all ≡ rest)
one_more all rest k x is =
    let within : k < length all = let e : length (drop k all) ≡ suc (length rest) = ap length is in omega (arith, length-drop k all) in
    let split : drop k all ≡ get_or all k x ∷ drop (k + 1) all = drop_more all k x within in
    let first : get_or all k x ≡ x = cc in
    let later : drop (k + 1) all ≡ rest = cc in
    (take_more all k x within ∙ ap (λ y. take k all ++ y ∷ []) first, later)

-- one more frame in a FILL ring's store
pub fill_step : (g : Geometry) (before after : RingStore) (all rest : List Frame) (k size : ℕ) (frame : Frame) (item : Item) → Has before (map (home_stored g) (take k all)) 0 0 size
    → item ≡ home_item g frame → drop k all ≡ frame ∷ rest
    → Has after (before.out.items ++ (record { item = item; payload = record { start = 0; len = 0 }; place = None }) ∷ []) before.held before.room before.size
    → Has after (map (home_stored g) (take (k + 1) all)) 0 0 size
fill_step g before after all rest k size frame item h is next step = record {
  out =
      step.out ∙ ap (λ xs. xs ++ (record { item = item; payload = record { start = 0; len = 0 }; place = None }) ∷ []) h.out
      ∙ ap (λ (i : Item). map (home_stored g) (take k all) ++ (record { item = i; payload = record { start = 0; len = 0 }; place = None }) ∷ []) is
      ∙ sym (map_push (home_stored g) (take k all) frame) ∙ ap (map (home_stored g)) (sym (one_more all rest k frame next).0);
  held = step.held ∙ h.held;
  room = step.room ∙ h.room;
  size = step.size ∙ h.size;
}

-- ---- rings

-- the sizes of the rings that are opened, one by one
pub sizes_step : (c : Config) (now next : List ℕ) (k size : ℕ) → next ≡ now ++ size ∷ [] → now ≡ take k (sizes_of c) → k < places_of c → size ≡ get_or (sizes_of c) k 0
    → next ≡ take (k + 1) (sizes_of c)
sizes_step c now next k size added is within here =
    added ∙ ap (λ ns. ns ++ size ∷ []) is ∙ ap (λ n. take k (sizes_of c) ++ n ∷ []) here
    ∙ sym (take_more (sizes_of c) k 0 (omega (arith, within, length-sizes_of c)))

pub sizes_all : (c : Config) (now : List ℕ) (k : ℕ) → now ≡ take k (sizes_of c) → places_of c ≤ k → now ≡ sizes_of c
sizes_all c now k is all = is ∙ take_all k (sizes_of c) (omega (arith, all, length-sizes_of c))

home_rings-at : (g : Geometry) (pool pairs : ℕ) (frames : List Frame) (k : ℕ) → k < pairs
    → get_or (home_rings g pool pairs frames) k empty_ring ≡ home_ring g (take pool (drop (k * pool) frames))
home_rings-at g pool zero frames k h = absurd (omega arith)
home_rings-at g pool (suc pairs) frames zero h = ap (λ (fs : List Frame). home_ring g (take pool fs)) (sym (drop_none pool frames))
home_rings-at g pool (suc pairs) frames (suc k) h =
    home_rings-at g pool pairs (drop pool frames) k (omega arith)
    ∙ (let e : pool + k * pool ≡ suc k * pool = omega (arith, suc-mul k pool) in
    ap (λ (fs : List Frame). home_ring g (take pool fs)) (drop-drop (k * pool) pool frames ∙ ap (λ n. drop n frames) e))

pub map-home_stored : (g : Geometry) (frames : List Frame) → map stored_item_of (map (home_stored g) frames) ≡ map (home_item g) frames
map-home_stored g [] = refl
map-home_stored g (f ∷ frames) = ap (λ items. home_item g f ∷ items) (map-home_stored g frames)

-- the store of a FILL ring, with its frames
pub part_home : (g : Geometry) (store : RingStore) (frames : List Frame) (size : ℕ) → Has store (map (home_stored g) frames) 0 0 size → part_of store ≡ seen (home_ring g frames)
part_home g store frames size h =
    part_has store (map (home_stored g) frames) 0 0 size h ∙ ap (λ items. record { out = items; held = 0; room = 0 }) (map-home_stored g frames)

pub part_blank : (store : RingStore) → IsBlank store → part_of store ≡ no_part
part_blank store h = part_has store [] 0 0 store.size (record { out = h.out; held = h.held; room = h.room; size = refl })

pub cases_lt : (k n : ℕ) → (k < n) ⊎ (n ≤ k)
cases_lt k n = grind arith

pub seen_at : (rings : List RingState) (k : ℕ) → get_or (map seen rings) k no_part ≡ seen (get_or rings k empty_ring)
seen_at [] k = refl
seen_at (ring ∷ rings) zero = refl
seen_at (ring ∷ rings) (suc k) = seen_at rings k

-- the rings as they were opened
opened_parts : (c : Config) (frames : List Frame) (rings : List RingStore) (d : RingStore) → sizes_in rings ≡ sizes_of c → length (sizes_of c) ≡ 2 * length c.pairs + 2 * length c.sockets
    → ((k : ℕ) (d : RingStore) → k < length c.pairs → part_of (get_or rings k d) ≡ seen (home_ring c.geometry (take (pool_of c) (drop (k * pool_of c) frames))))
    → ((k : ℕ) (d : RingStore) → length c.pairs ≤ k → k < length rings → IsBlank (get_or rings k d))
    → parts_of rings ≡ map seen (opening c frames).rings
opened_parts c frames rings d sizes places filled blank =
    let home : List RingState = home_rings c.geometry (pool_of c) (length c.pairs) frames in
    let blanks : List RingState = replicate (length c.pairs + 2 * length c.sockets) empty_ring in
    let count : length home ≡ length c.pairs = length-home_rings c.geometry (pool_of c) (length c.pairs) frames in
    let all : length rings ≡ 2 * length c.pairs + 2 * length c.sockets = sym (length-map rings (λ (s : RingStore). s.size)) ∙ ap length sizes ∙ places in
    let here : length (parts_of rings) ≡ length rings = length-map rings part_of in
    let there : length (map seen (home ++ blanks)) ≡ length rings =
    omega (arith, length-map (home ++ blanks) seen, length-append home blanks, length-replicate (length c.pairs + 2 * length c.sockets) empty_ring) in
    ext_get_or no_part (parts_of rings) (map seen (home ++ blanks)) (here ∙ sym there)
    (λ k within. ⊎_elim
    (λ (h : k < length c.pairs).
    get_or-map part_of rings k d no_part (omega arith) ∙ filled k d h
    ∙ sym (seen_at (home ++ blanks) k ∙ ap seen (get_or_append_left home blanks empty_ring k (omega arith) ∙ home_rings-at c.geometry (pool_of c) (length c.pairs) frames k h)))
    (λ (h : length c.pairs ≤ k).
    get_or-map part_of rings k d no_part (omega arith) ∙ part_blank (get_or rings k d) (blank k d h (omega arith))
    ∙ sym (seen_at (home ++ blanks) k ∙ ap seen (get_or-blanks home (length c.pairs + 2 * length c.sockets) k empty_ring ∙ get_or_past home k empty_ring (omega arith))))
    (cases_lt k (length c.pairs)))

pub opened_all : (c : Config) (frames : List Frame) (rings : List RingStore) → sizes_in rings ≡ sizes_of c → length (sizes_of c) ≡ 2 * length c.pairs + 2 * length c.sockets
    → ((k : ℕ) (d : RingStore) → k < length c.pairs → part_of (get_or rings k d) ≡ seen (home_ring c.geometry (take (pool_of c) (drop (k * pool_of c) frames))))
    → ((k : ℕ) (d : RingStore) → length c.pairs ≤ k → k < length rings → IsBlank (get_or rings k d))
    → parts_of rings ≡ map seen (opening c frames).rings
opened_all c frames [] sizes places filled blank =
    let home : List RingState = home_rings c.geometry (pool_of c) (length c.pairs) frames in
    let blanks : List RingState = replicate (length c.pairs + 2 * length c.sockets) empty_ring in
    let none : 0 ≡ length (sizes_of c) = ap length sizes in
    sym (nil_from_length (map seen (home ++ blanks))
    (omega (
      arith,
      none,
      length-map (home ++ blanks) seen,
      length-append home blanks,
      length-home_rings c.geometry (pool_of c) (length c.pairs) frames,
      length-replicate (length c.pairs + 2 * length c.sockets) empty_ring,
    )))
opened_all c frames (ring ∷ rings) sizes places filled blank = opened_parts c frames (ring ∷ rings) ring sizes places filled blank

-- ---- the extents of the frames on FILL, which have no payload

no_payload : (valid : Bool) (bytes : List ℕ) → valid ≡ false → cond valid bytes [] ≡ []
no_payload valid bytes h = ap (λ b. cond b bytes []) h

invalid : (inside fits known : Bool) → (inside && false && fits && known) ≡ false
invalid true fits known = refl
invalid false fits known = refl

pub home_kept : (c : Config) (notes : Notes) (frame : Frame) → IsKept c notes (home_stored c.geometry frame)
home_kept c notes frame = record {
  noted = tt;
  within = omega arith;
  shows =
      sym (no_payload (is_valid c.geometry c.sg (home_item c.geometry frame).desc) [] (invalid (is_inside c.geometry (home_item c.geometry frame).desc) (fits_chunk c.geometry (home_item c.geometry frame).desc) (has_known_options c.sg (home_item c.geometry frame).desc)));
}

pub store_kept : (c : Config) (notes : Notes) (store : RingStore) (frames : List Frame) (size : ℕ) → Has store (map (home_stored c.geometry) frames) 0 0 size → AreKept c notes store
store_kept c notes store frames size h =
    All-same (IsKept c notes) store.out.items (map (home_stored c.geometry) frames) h.out
    (All-map (IsKept c notes) (home_stored c.geometry) frames (λ k d within. home_kept c notes (get_or frames k d)))

pub blank_kept : (c : Config) (notes : Notes) (rings : List RingStore) → All IsBlank rings → AllKept c notes rings
blank_kept c notes rings blank = All-weaker IsBlank (AreKept c notes) (λ store h. All-same (IsKept c notes) store.out.items [] h.out (All-nil (IsKept c notes))) rings blank

-- ---- the next FILL ring

module _ (c : Config) (rings : List RingStore) (pair : ℕ) (after : RingStore) (frames : List Frame) (size : ℕ) (within : pair < length rings)
    (has : Has after (map (home_stored c.geometry) (take (pool_of c) (drop (pair * pool_of c) frames))) 0 0 size) where
  pub next_filled : ((k : ℕ) (d : RingStore) → k < pair → part_of (get_or rings k d) ≡ seen (home_ring c.geometry (take (pool_of c) (drop (k * pool_of c) frames))))
      → (k : ℕ) (d : RingStore) → k < pair + 1 → part_of (get_or (set rings pair after) k d) ≡ seen (home_ring c.geometry (take (pool_of c) (drop (k * pool_of c) frames)))
  next_filled filled k d h = ⊎_elim
      (λ (e : k < pair). ap part_of (get_or-set_other rings pair k after d (omega arith)) ∙ filled k d e)
      (λ (e : pair ≤ k).
      let same : pair ≡ k = omega arith in
      subst (λ j. part_of (get_or (set rings pair after) j d) ≡ seen (home_ring c.geometry (take (pool_of c) (drop (j * pool_of c) frames)))) same
      (ap part_of (get_or-set_same rings pair after d within)
      ∙ part_home c.geometry after (take (pool_of c) (drop (pair * pool_of c) frames)) size has))
      (cases_lt k pair)

  pub next_blank : ((k : ℕ) (d : RingStore) → pair ≤ k → k < length rings → IsBlank (get_or rings k d))
      → (k : ℕ) (d : RingStore) → pair + 1 ≤ k → k < length (set rings pair after) → IsBlank (get_or (set rings pair after) k d)
  next_blank blank k d h in' =
      let len : length (set rings pair after) ≡ length rings = length-set rings pair after in
      subst IsBlank (sym (get_or-set_other rings pair k after d (omega arith))) (blank k d (omega arith) (omega arith))

  pub next_kept : ((notes : Notes) → AllKept c notes rings) → (notes : Notes) → AllKept c notes (set rings pair after)
  next_kept kept notes =
      All-set (AreKept c notes) rings pair after (store_kept c notes after (take (pool_of c) (drop (pair * pool_of c) frames)) size has) (kept notes)

-- a FILL ring has room for its pool
pub pool_fits : (c : Config) (rings : List RingStore) (pair : ℕ) (d : RingStore) → IsLawful c → sizes_in rings ≡ sizes_of c → pair < length c.pairs → pair < length rings
    → pool_of c ≤ (get_or rings pair d).size
pool_fits c rings pair d lawful sizes h within =
    let here : get_or (sizes_in rings) pair 0 ≡ (get_or rings pair d).size = get_or-map size_in rings pair d 0 within in
    let there : get_or (sizes_of c) pair 0 ≡ (pair_at c.pairs pair).fill = size_at c (Fill pair) h in
    let same : get_or (sizes_in rings) pair 0 ≡ get_or (sizes_of c) pair 0 = ap (λ ns. get_or ns pair 0) sizes in
    let fits : pool_of c ≤ (pair_at c.pairs pair).fill = lawful.fits pair (record { port = 0; queue = 0; fill = 0; comp = 0 }) h in
    omega arith

-- ---- cells

pub cell_step : (old marks new cells : List ℕ) (index cell : ℕ) → new ≡ marks ++ cell ∷ [] → marks ≡ old ++ take index cells → index < length cells
    → slice_get cells index ≡ Some cell → new ≡ old ++ take (index + 1) cells
cell_step old marks new cells index cell pushed before within is =
    pushed ∙ ap (λ xs. xs ++ cell ∷ []) before ∙ append_assoc old (take index cells) (cell ∷ [])
    ∙ ap (λ x. old ++ (take index cells ++ x ∷ [])) (sym (get_or_from_slice_get cells index cell 0 is)) ∙ ap (λ xs. old ++ xs) (sym (take_more cells index 0 within))

-- one zero more
pub zero_step : (old marks new : List ℕ) (n : ℕ) → new ≡ marks ++ 0 ∷ [] → marks ≡ old ++ replicate n 0 → new ≡ old ++ replicate (n + 1) 0
zero_step old marks new n pushed before =
    pushed ∙ ap (λ xs. xs ++ 0 ∷ []) before ∙ append_assoc old (replicate n 0) (0 ∷ []) ∙ ap (λ xs. old ++ xs) (replicate_more n 0)

-- the cells of all ports, and the marks behind them
pub marks_open : (c : Config) (marks new : List ℕ) (port : ℕ) → IsConfig c → marks ≡ replicate (flags_of c) 0 ++ flat_map opening_cells (take port c.cells)
    → c.ports ≤ port → new ≡ marks ++ replicate (2 * length c.sockets + length c.pairs) 0 → new ≡ (opening c []).marks
marks_open c marks new port config is end added =
    added ∙ ap (λ xs. xs ++ replicate (2 * length c.sockets + length c.pairs) 0)
    (is ∙ ap (λ maps. replicate (flags_of c) 0 ++ flat_map opening_cells maps) (take_all port c.cells (omega (arith, config.maps, end))))
