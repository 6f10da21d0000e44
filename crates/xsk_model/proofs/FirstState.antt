-- What each part of the state is at the opening.
use Rattle.std.proofs.Common.{◌≡◌, ℕ, zero, suc, ◌+◌, ◌-◌, ◌*◌, ◌<◌, ◌≤◌, List, ◌∷◌, length, get_or, take, drop, map, refl, sym, ap, ◌∙◌, arith, suc-mul, mul-le-mul_right}
use Rattle.std.specs.List.{range_with_len}
use Rattle.std.proofs.lemmas.List.{get_or_past, drop-map, take-map, drop-drop}
use Rattle.xsk_umem.specs.Frame.{Frame}
use Rattle.xsk_umem.specs.Geometry.{Geometry}
use Rattle.xsk_model.specs.Config.{Config, HasRing, pool_of}
use Rattle.xsk_model.specs.Rings.{place}
use Rattle.xsk_model.specs.Numbers.{numbers}
use Rattle.xsk_model.specs.Object.{empty_ring, ring_at}
use Rattle.xsk_model.specs.Opening.{IsOpened, home_item, home_ring, home_rings, opening}
use Rattle.xsk_model.specs.Holders.{out_numbers}
use Rattle.xsk_model.specs.Homes.{pool_at, first_ring, IsFirst}
use Rattle.xsk_model.specs.declared.call.Ring.{Ring}
use Rattle.xsk_model.specs.declared.call.Ring.TheVariants.{Fill, Comp, Rx, Tx}
use Rattle.xsk_model.proofs.Opened.{get_or-blanks, numbers-home, length-home_rings, all_pools, opening-rings, opening-callers, opening-had, opening-marks}
use Rattle.xsk_model.proofs.MarkNumbers.{opening_mark_is}

-- ---- rings

-- the ring of each pool
pub home_rings-pool : (g : Geometry) (pool pairs : ℕ) (frames : List Frame) (d k : ℕ) → d < pairs → d * pool ≡ k
    → get_or (home_rings g pool pairs frames) d empty_ring ≡ home_ring g (take pool (drop k frames))
home_rings-pool g pool zero frames d k h e = absurd (omega arith)
home_rings-pool g pool (suc pairs) frames zero k h e =
    let none : 0 ≡ k = omega (arith, e) in
    ap (λ j. home_ring g (take pool (drop j frames))) none
home_rings-pool g pool (suc pairs) frames (suc d) k h e =
    home_rings-pool g pool pairs (drop pool frames) d (d * pool) (omega arith) refl
    ∙ ap (λ fs. home_ring g (take pool fs)) (drop-drop (d * pool) pool frames ∙ ap (λ j. drop j frames) (omega (arith, e, suc-mul d pool)))

first_fill : (c : Config) (frames : List Frame) (d : ℕ) → d < length c.pairs → ring_at c (opening c frames) (Fill d) ≡ first_ring c frames (Fill d)
first_fill c frames d h =
    get_or-blanks (home_rings c.geometry (pool_of c) (length c.pairs) frames) (length c.pairs + 2 * length c.sockets) d empty_ring
    ∙ home_rings-pool c.geometry (pool_of c) (length c.pairs) frames d (d * pool_of c) h refl

first_empty : (c : Config) (frames : List Frame) (r : Ring) → length c.pairs ≤ place c r → ring_at c (opening c frames) r ≡ empty_ring
first_empty c frames r h =
    get_or-blanks (home_rings c.geometry (pool_of c) (length c.pairs) frames) (length c.pairs + 2 * length c.sockets) (place c r) empty_ring
    ∙ get_or_past (home_rings c.geometry (pool_of c) (length c.pairs) frames) (place c r) empty_ring
    (omega (arith, length-home_rings c.geometry (pool_of c) (length c.pairs) frames))

pub opening_ring_is : (c : Config) (frames : List Frame) (r : Ring) → HasRing c r → ring_at c (opening c frames) r ≡ first_ring c frames r
opening_ring_is c frames (Fill d) h = first_fill c frames d h
opening_ring_is c frames (Comp d) h = first_empty c frames (Comp d) (omega arith)
opening_ring_is c frames (Rx s) h = first_empty c frames (Rx s) (omega arith)
opening_ring_is c frames (Tx s) h = first_empty c frames (Tx s) (omega arith)

-- ---- the numbers of a pool

drop-range : (k a n b m : ℕ) → k + m ≡ n → a + k ≡ b → drop k (range_with_len a n) ≡ range_with_len b m
drop-range zero a n b m h e =
    let first : a ≡ b = omega (arith, e) in
    let long : n ≡ m = omega (arith, h) in
    ap (λ x. range_with_len x n) first ∙ ap (range_with_len b) long
drop-range (suc k) a zero b m h e = absurd (omega (arith, h))
drop-range (suc k) a (suc n) b m h e = drop-range k (a + 1) n b m (omega (arith, h)) (omega (arith, e))

take-range : (k a n : ℕ) → k ≤ n → take k (range_with_len a n) ≡ range_with_len a k
take-range zero a n h = refl
take-range (suc k) a zero h = absurd (omega arith)
take-range (suc k) a (suc n) h = ap (λ xs. a ∷ xs) (take-range k (a + 1) n (omega arith))

pool_within : (pool pairs d : ℕ) → d < pairs → d * pool + pool ≤ pairs * pool
pool_within pool pairs d h =
    let next : suc d ≤ pairs = omega arith in
    let more : suc d * pool ≤ pairs * pool = mul-le-mul_right pool next in
    omega (arith, more, suc-mul d pool)

pub pool_numbers : (c : Config) (frames : List Frame) (d : ℕ) → IsOpened c frames → d < length c.pairs
    → numbers (map (home_item c.geometry) (pool_at c frames d)) ≡ range_with_len (d * pool_of c) (pool_of c)
pool_numbers c frames d opened h =
    let all : c.geometry.frames ≡ length c.pairs * pool_of c = all_pools c.geometry.frames (length c.pairs) opened.lawful.divides in
    let within : d * pool_of c + pool_of c ≤ length c.pairs * pool_of c = pool_within (pool_of c) (length c.pairs) d h in
    numbers-home c.geometry (pool_at c frames d)
    ∙ sym (take-map (λ (f : Frame). f.number) (pool_of c) (drop (d * pool_of c) frames))
    ∙ ap (take (pool_of c)) (sym (drop-map (λ (f : Frame). f.number) (d * pool_of c) frames) ∙ ap (drop (d * pool_of c)) opened.umem.numbers)
    ∙ ap (take (pool_of c)) (drop-range (d * pool_of c) 0 c.geometry.frames (d * pool_of c) (c.geometry.frames - d * pool_of c) (omega (arith, all, within)) (omega arith))
    ∙ take-range (pool_of c) (d * pool_of c) (c.geometry.frames - d * pool_of c) (omega (arith, all, within))

pub opening_numbers : (c : Config) (frames : List Frame) (d : ℕ) → IsOpened c frames → d < length c.pairs
    → out_numbers (ring_at c (opening c frames) (Fill d)) ≡ range_with_len (d * pool_of c) (pool_of c)
opening_numbers c frames d opened h = ap out_numbers (first_fill c frames d h) ∙ pool_numbers c frames d opened h

-- ---- all parts

pub opening_first : (c : Config) (frames : List Frame) → IsOpened c frames → IsFirst c frames (opening c frames)
opening_first c frames opened =
    record {
      ring = λ r has. opening_ring_is c frames r has;
      pool = λ d h. opening_numbers c frames d opened h;
      mark = λ m has. opening_mark_is c frames m opened.config has;
      had = opening-had c frames opened;
      rings = opening-rings c frames opened;
      marks = opening-marks c frames opened.config;
      callers = opening-callers c frames opened;
    }
