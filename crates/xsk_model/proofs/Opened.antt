-- What holds at the opening.
use Rattle.std.proofs.Common.{◌≡◌, ℕ, zero, suc, ◌+◌, ◌-◌, ◌*◌, ◌/◌, ◌%◌, ◌^◌, ◌<◌, ◌≤◌, true, cond, nat_lt, List, [], ◌∷◌, ◌++◌, length, get_or, take, drop, map, replicate, All, flat_map, Some, None, refl, sym, ap, subst, ◌∙◌, arith, append-nil, length-append, length-take, length-drop, take-append-drop, lt-ltb, mul-div_cancel, mul-lt-mul_of_pos_right, mul-le-mul, suc-mul}
use Rattle.std.specs.List.{range_with_len}
use Rattle.std.proofs.lemmas.List.{length-map, length-replicate, get_or_past, get_or-map, map-append, nil_from_length}
use Rattle.std.proofs.lemmas.List.Concat.{flat_map-append}
use Rattle.std.proofs.lemmas.List.Elements.{All-nil, All-push, All-map, All-take, All-drop, All-head, All-tail}
use Rattle.std.proofs.lemmas.List.FromFn.{length-range_with_len, get_or-range_with_len}
use Rattle.xsk_umem.specs.Frame.{Frame}
use Rattle.xsk_umem.specs.Geometry.{Geometry, IsGeometry, frame_of}
use Rattle.xsk_umem.specs.Registration.{fresh}
use Rattle.xsk_umem.specs.declared.batch.Item.{Item}
use Rattle.xsk_model.specs.Config.{Config, IsConfig, IsMap, HasRing, size_of, pool_of, callers_of}
use Rattle.xsk_model.specs.Numbers.{times, numbers}
use Rattle.xsk_model.specs.Rings.{place, places_of}
use Rattle.xsk_model.specs.Marks.{mark_places_of, flags_of}
use Rattle.xsk_model.specs.Object.{RingState, empty_ring, ring_at, had_by}
use Rattle.xsk_model.specs.Legal.{IsPlainOn, IsItemOn}
use Rattle.xsk_model.specs.Opening.{AreFrames, IsOpened, home_item, home_rings, opening_cells, opening}
use Rattle.xsk_model.specs.Holders.{holders, out_numbers}
use Rattle.xsk_model.specs.declared.call.Ring.{Ring}
use Rattle.xsk_model.specs.declared.call.Ring.TheVariants.{Fill, Comp, Rx, Tx}
use Rattle.xsk_model.proofs.Counting.{range-push}
use Rattle.xsk_model.proofs.Sound.{IsRingSound}

-- ---- lists that end in blanks

pub get_or-blanks : {X : Type 0} (xs : List X) (m k : ℕ) (d : X) → get_or (xs ++ replicate m d) k d ≡ get_or xs k d
get_or-blanks [] zero k d = refl
get_or-blanks [] (suc m) zero d = refl
get_or-blanks [] (suc m) (suc k) d = get_or-blanks [] m k d
get_or-blanks (x ∷ xs) m zero d = refl
get_or-blanks (x ∷ xs) m (suc k) d = get_or-blanks xs m k d

pub flat_map-blanks : {X : Type 0} (f : X → List ℕ) (m : ℕ) (d : X) → f d ≡ [] → flat_map f (replicate m d) ≡ []
flat_map-blanks f zero d h = refl
flat_map-blanks f (suc m) d h = ap (λ xs. xs ++ flat_map f (replicate m d)) h ∙ flat_map-blanks f m d h

-- ---- the frames of a registration are all frames of the UMEM

fresh-numbers : (chunk n : ℕ) → map (λ (f : Frame). f.number) (fresh chunk n) ≡ range_with_len 0 n
fresh-numbers chunk zero = refl
fresh-numbers chunk (suc n) =
    map-append (λ (f : Frame). f.number) (fresh chunk n) ((record { number = n; bytes = replicate chunk 0 }) ∷ [])
    ∙ ap (λ ks. ks ++ n ∷ []) (fresh-numbers chunk n)
    ∙ (let e : n ≡ 0 + n = omega arith in ap (λ k. range_with_len 0 n ++ k ∷ []) e) ∙ sym (range-push 0 n)

fresh-bodies : (chunk n : ℕ) → All (λ (f : Frame). length f.bytes ≡ chunk) (fresh chunk n)
fresh-bodies chunk zero = All-nil (λ (f : Frame). length f.bytes ≡ chunk)
fresh-bodies chunk (suc n) =
    All-push (λ (f : Frame). length f.bytes ≡ chunk) (fresh chunk n) (record { number = n; bytes = replicate chunk 0 }) (fresh-bodies chunk n) (length-replicate {A = ℕ} chunk 0)

pub fresh-frames : (g : Geometry) → AreFrames g (fresh g.chunk g.frames)
fresh-frames g = record { numbers = fresh-numbers g.chunk g.frames; bodies = fresh-bodies g.chunk g.frames }

-- ---- the frames that are handed in

pub length-frames : (g : Geometry) (frames : List Frame) → AreFrames g frames → length frames ≡ g.frames
length-frames g frames h =
    sym (length-map frames (λ (f : Frame). f.number)) ∙ ap length h.numbers ∙ length-range_with_len 0 g.frames

-- a frame of the UMEM, whole
pub record IsWhole (g : Geometry) (f : Frame) : Type 0 where
  pub number : f.number < g.frames
  pub bytes : length f.bytes ≡ g.chunk

pub whole_frames : (g : Geometry) (frames : List Frame) → AreFrames g frames → All (IsWhole g) frames
whole_frames g frames h k d within =
    let len = length-frames g frames h in
    let at : get_or (map (λ (f : Frame). f.number) frames) k 0 ≡ (get_or frames k d).number = get_or-map (λ (f : Frame). f.number) frames k d 0 within in
    let row : get_or (range_with_len 0 g.frames) k 0 ≡ 0 + k = get_or-range_with_len 0 g.frames k 0 (omega arith) in
    let same = ap (λ xs. get_or xs k 0) h.numbers in
    record { number = omega (arith, len, at, row, same); bytes = h.bodies k d within }

small_product : (a b : ℕ) → a < 4096 → b ≤ 4096 → a * b < 2 ^ 64
small_product a b h k = let most : a ≤ 4096 = omega arith in let p : a * b ≤ 4096 * 4096 = mul-le-mul most k in omega (arith, p)

frame_of-base : (g : Geometry) (n : ℕ) → IsGeometry g → n < g.frames → frame_of g (n * g.chunk) ≡ Some n
frame_of-base g n geometry h =
    let some : 0 < g.chunk = omega (arith, geometry.chunk) in
    let inside : n * g.chunk < g.frames * g.chunk = mul-lt-mul_of_pos_right h some in
    let test : nat_lt (n * g.chunk) (g.frames * g.chunk) ≡ true = lt-ltb (n * g.chunk) (g.frames * g.chunk) inside in
    ap (λ b. cond b (Some ((n * g.chunk) / g.chunk)) None) test ∙ ap Some (mul-div_cancel n some)

-- on a ring that passes on addresses alone
pub home_item_on : (g : Geometry) (r : Ring) (f : Frame) → IsGeometry g → IsWhole g f → IsPlainOn r (home_item g f).desc → IsItemOn g r (home_item g f)
home_item_on g r f geometry h plain =
    let few : f.number < 4096 = omega (arith, h.number, geometry.few) in
    let chunk : g.chunk ≤ 4096 = omega (arith, geometry.chunk) in
    record {
      address = small_product f.number g.chunk few chunk;
      len = omega arith;
      options = omega arith;
      frame = sym (frame_of-base g f.number geometry h.number);
      body = h.bytes;
      plain = plain;
    }

pub home_item_lawful : (g : Geometry) (d : ℕ) (f : Frame) → IsGeometry g → IsWhole g f → IsItemOn g (Fill d) (home_item g f)
home_item_lawful g d f geometry h = home_item_on g (Fill d) f geometry h (refl, refl)

-- ---- the FILL rings

pub record IsHome (P : Item → Type 0) (pool : ℕ) (ring : RingState) : Type 0 where
  pub room : ring.room ≡ 0
  pub held : ring.held ≡ []
  pub few : length ring.out ≤ pool
  pub items : All P ring.out

empty_home : (P : Item → Type 0) (pool : ℕ) → IsHome P pool empty_ring
empty_home P pool = record { room = refl; held = refl; few = omega arith; items = All-nil P }

home_rings-at : (P : Item → Type 0) (g : Geometry) (pool pairs : ℕ) (frames : List Frame) (d : ℕ) → All (λ f. P (home_item g f)) frames
    → IsHome P pool (get_or (home_rings g pool pairs frames) d empty_ring)
home_rings-at P g pool zero frames d h = empty_home P pool
home_rings-at P g pool (suc pairs) frames zero h =
    record {
      room = refl;
      held = refl;
      few = omega (arith, length-map (take pool frames) (home_item g), length-take pool frames);
      items = All-map P (home_item g) (take pool frames) (All-take (λ f. P (home_item g f)) pool frames h);
    }
home_rings-at P g pool (suc pairs) frames (suc d) h =
    home_rings-at P g pool pairs (drop pool frames) d (All-drop (λ f. P (home_item g f)) pool frames h)

pub length-home_rings : (g : Geometry) (pool pairs : ℕ) (frames : List Frame) → length (home_rings g pool pairs frames) ≡ pairs
length-home_rings g pool zero frames = refl
length-home_rings g pool (suc pairs) frames = ap suc (length-home_rings g pool pairs (drop pool frames))

pub numbers-home : (g : Geometry) (frames : List Frame) → numbers (map (home_item g) frames) ≡ map (λ (f : Frame). f.number) frames
numbers-home g [] = refl
numbers-home g (f ∷ frames) = ap (λ ns. f.number ∷ ns) (numbers-home g frames)

pub flat_map-home_rings : (g : Geometry) (pool pairs : ℕ) (frames : List Frame) → length frames ≡ pairs * pool
    → flat_map out_numbers (home_rings g pool pairs frames) ≡ map (λ (f : Frame). f.number) frames
flat_map-home_rings g pool zero frames h =
    ap (map (λ (f : Frame). f.number)) (sym (nil_from_length frames (omega arith)))
flat_map-home_rings g pool (suc pairs) frames h =
    let fewer : length (drop pool frames) ≡ pairs * pool = omega (arith, length-drop pool frames, suc-mul pairs pool) in
    ap (λ xs. numbers (map (home_item g) (take pool frames)) ++ xs) (flat_map-home_rings g pool pairs (drop pool frames) fewer)
    ∙ ap (λ xs. xs ++ map (λ (f : Frame). f.number) (drop pool frames)) (numbers-home g (take pool frames))
    ∙ sym (map-append (λ (f : Frame). f.number) (take pool frames) (drop pool frames))
    ∙ ap (map (λ (f : Frame). f.number)) (take-append-drop pool frames)

-- ---- the opening state

pub all_pools : (frames pairs : ℕ) → frames % pairs ≡ 0 → frames ≡ pairs * (frames / pairs)
all_pools frames pairs h = omega (arith, h)

module _ (c : Config) (frames : List Frame) (opened : IsOpened c frames) where
  pub opening-rings : length (opening c frames).rings ≡ places_of c
  opening-rings =
      omega (
        arith,
        length-append (home_rings c.geometry (pool_of c) (length c.pairs) frames) (replicate (length c.pairs + 2 * length c.sockets) empty_ring),
        length-home_rings c.geometry (pool_of c) (length c.pairs) frames,
        length-replicate (length c.pairs + 2 * length c.sockets) empty_ring,
      )

  pub opening-callers : length (opening c frames).had ≡ callers_of c
  opening-callers = length-replicate (callers_of c) []

  pub opening-had : (w : ℕ) → had_by (opening c frames) w ≡ []
  opening-had w = get_or-blanks [] (callers_of c) w []

  pub opening-holders : (n : ℕ) → times n (holders (opening c frames)) ≡ times n (range_with_len 0 c.geometry.frames)
  opening-holders n =
      let home : List RingState = home_rings c.geometry (pool_of c) (length c.pairs) frames in
      let blanks : List RingState = replicate (length c.pairs + 2 * length c.sockets) empty_ring in
      let len : length frames ≡ length c.pairs * pool_of c =
      length-frames c.geometry frames opened.umem ∙ all_pools c.geometry.frames (length c.pairs) opened.lawful.divides in
      let callers : flat_map (λ (had : List ℕ). had) (replicate (callers_of c) []) ≡ [] = flat_map-blanks (λ (had : List ℕ). had) (callers_of c) [] refl in
      let empty : flat_map out_numbers blanks ≡ [] = flat_map-blanks out_numbers (length c.pairs + 2 * length c.sockets) empty_ring refl in
      let rings : flat_map out_numbers (home ++ blanks) ≡ range_with_len 0 c.geometry.frames =
      flat_map-append out_numbers home blanks ∙ ap (λ xs. flat_map out_numbers home ++ xs) empty ∙ append-nil (flat_map out_numbers home)
      ∙ flat_map-home_rings c.geometry (pool_of c) (length c.pairs) frames len ∙ opened.umem.numbers in
      ap (λ xs. times n (xs ++ flat_map out_numbers (home ++ blanks))) callers ∙ ap (times n) rings

  opening-at : (r : Ring) → ring_at c (opening c frames) r ≡ get_or (home_rings c.geometry (pool_of c) (length c.pairs) frames) (place c r) empty_ring
  opening-at r = get_or-blanks (home_rings c.geometry (pool_of c) (length c.pairs) frames) (length c.pairs + 2 * length c.sockets) (place c r) empty_ring

  opening-empty : (r : Ring) → length c.pairs ≤ place c r → ring_at c (opening c frames) r ≡ empty_ring
  opening-empty r h =
      opening-at r ∙ get_or_past (home_rings c.geometry (pool_of c) (length c.pairs) frames) (place c r) empty_ring
      (omega (arith, length-home_rings c.geometry (pool_of c) (length c.pairs) frames))

  pub opening-fill : (d : ℕ) → IsHome (IsItemOn c.geometry (Fill d)) (pool_of c) (ring_at c (opening c frames) (Fill d))
  opening-fill d =
      let lawful : All (λ f. IsItemOn c.geometry (Fill d) (home_item c.geometry f)) frames =
      λ k e within. home_item_lawful c.geometry d (get_or frames k e) opened.geometry (whole_frames c.geometry frames opened.umem k e within) in
      subst (IsHome (IsItemOn c.geometry (Fill d)) (pool_of c)) (sym (opening-at (Fill d)))
      (home_rings-at (IsItemOn c.geometry (Fill d)) c.geometry (pool_of c) (length c.pairs) frames d lawful)

-- a ring with nothing in it is sound, and so is one with no more items than its size
ring_home : (c : Config) (r : Ring) (ring : RingState) (pool : ℕ) → IsHome (IsItemOn c.geometry r) pool ring → pool ≤ size_of c r
    → IsRingSound c ring.out r ring []
ring_home c r ring pool h fits =
    record {
      room = h.room;
      held = ap length h.held;
      within = omega (arith, h.few, ap length h.held, h.room, fits);
      order = sym (append-nil ring.out);
      items = h.items;
      peeked = refl;
      given = refl;
    }

pub opening-ring : (c : Config) (frames : List Frame) → IsOpened c frames → (r : Ring) → HasRing c r
    → IsRingSound c (ring_at c (opening c frames) r).out r (ring_at c (opening c frames) r) []
opening-ring c frames opened (Fill d) h =
    ring_home c (Fill d) (ring_at c (opening c frames) (Fill d)) (pool_of c) (opening-fill c frames opened d) (opened.lawful.fits d (record { port = 0; queue = 0; fill = 0; comp = 0 }) h)
opening-ring c frames opened (Comp d) h =
    subst (λ ring. IsRingSound c ring.out (Comp d) ring []) (sym (opening-empty c frames opened (Comp d) (omega arith)))
    (ring_home c (Comp d) empty_ring 0 (empty_home (IsItemOn c.geometry (Comp d)) 0) (omega arith))
opening-ring c frames opened (Rx s) h =
    subst (λ ring. IsRingSound c ring.out (Rx s) ring []) (sym (opening-empty c frames opened (Rx s) (omega arith)))
    (ring_home c (Rx s) empty_ring 0 (empty_home (IsItemOn c.geometry (Rx s)) 0) (omega arith))
opening-ring c frames opened (Tx s) h =
    subst (λ ring. IsRingSound c ring.out (Tx s) ring []) (sym (opening-empty c frames opened (Tx s) (omega arith)))
    (ring_home c (Tx s) empty_ring 0 (empty_home (IsItemOn c.geometry (Tx s)) 0) (omega arith))

-- ---- the marks

pub length-opening_cells : (cells : List ℕ) → length cells ≤ 64 → length (opening_cells cells) ≡ 64
length-opening_cells cells h = omega (arith, length-append cells (replicate (64 - length cells) 0), length-replicate {A = ℕ} (64 - length cells) 0)

pub length-cells : (sockets : ℕ) (maps : List (List ℕ)) → All (IsMap sockets) maps → length (flat_map opening_cells maps) ≡ 64 * length maps
length-cells sockets [] h = refl
length-cells sockets (cells ∷ maps) h =
    let first = length-opening_cells cells (All-head (IsMap sockets) cells maps h).few in
    let rest = length-cells sockets maps (All-tail (IsMap sockets) cells maps h) in
    omega (arith, length-append (opening_cells cells) (flat_map opening_cells maps), first, rest)

pub opening-marks : (c : Config) (frames : List Frame) → IsConfig c → length (opening c frames).marks ≡ mark_places_of c
opening-marks c frames config =
    omega (
      arith,
      length-append (replicate (flags_of c) 0 ++ flat_map opening_cells c.cells) (replicate (2 * length c.sockets + length c.pairs) 0),
      length-append (replicate (flags_of c) 0) (flat_map opening_cells c.cells),
      length-replicate {A = ℕ} (flags_of c) 0,
      length-replicate {A = ℕ} (2 * length c.sockets + length c.pairs) 0,
      length-cells (length c.sockets) c.cells config.cells,
      config.maps,
    )
