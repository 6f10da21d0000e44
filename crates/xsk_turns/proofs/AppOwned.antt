-- What an application has of items and frames, and what each entry leaves of it.
use Rattle.std.proofs.Common.{◌≡◌, ℕ, zero, suc, ◌+◌, ◌*◌, ◌/◌, ◌^◌, ◌<◌, ◌≤◌, Bool, true, false, cond, nat_lt, Option, Some, None, List, [], ◌∷◌, length, get_or, set, map, flat_map, replicate, All, refl, sym, ap, ◌∙◌, subst, ⊎_elim, arith, get_or-set_same, get_or-set_other, length-set, lit<, option_map}
use Rattle.std.proofs.lemmas.Bool.{cases_eq}
use Rattle.std.proofs.lemmas.Bool.Decides.{nat_tests}
use Rattle.std.proofs.lemmas.List.{length-replicate}
use Rattle.std.proofs.lemmas.List.Elements.{All-nil, All-cons, All-head, All-tail, All-append}
use Rattle.std.proofs.Math.Nat.{div-mul-le_self, mul-div_left}
use Rattle.xsk_turns.proofs.Object.{Geometry, Frame, Config, times, numbers, submitted, taken, had_of, home_item, IsItemOn}
use Rattle.xsk_turns.proofs.Calls.{Item, Told, with_told, Ring, Fill, Rx, Tx, Call, Reply}
use Rattle.xsk_model.proofs.Counting.{times-append, times-flat_map-set}
use Rattle.xsk_turns.proofs.LegalCalls.{had_told}
use Rattle.xsk_turns.specs.Turns.{frame_in, frames_in}
use Rattle.xsk_turns.specs.Owned.{frame_numbers}
use Rattle.xsk_turns.specs.AppTurns.{AppKept, lanes_of, pending_at, with_pending, back_at, with_back, app_start_by}
use Rattle.xsk_turns.specs.declared.manner.Manner.{Manner}
use Rattle.xsk_turns.specs.AppOwned.{app_numbers, AppOwned}
use Rattle.xsk_turns.proofs.Rooms.{IsOwnFrame, own_frame, named, positive}

-- ---- items and frames

-- what may stand on one socket's ring may stand on another's TX ring
pub rx_to_tx : (g : Geometry) (s t : ℕ) (item : Item) → IsItemOn g (Rx s) item → IsItemOn g (Tx t) item
rx_to_tx g s t item h = record { address = h.address; len = h.len; options = h.options; frame = h.frame; body = h.body; plain = tt }

pub tx_to_tx : (g : Geometry) (s t : ℕ) (item : Item) → IsItemOn g (Tx s) item → IsItemOn g (Tx t) item
tx_to_tx g s t item h = record { address = h.address; len = h.len; options = h.options; frame = h.frame; body = h.body; plain = tt }

-- a frame of the UMEM, with its address
pub record IsBackFrame (g : Geometry) (frame : Frame) : Type 0 where
  pub own : IsOwnFrame g frame
  pub chunk : 1 ≤ g.chunk
  pub address : frame.number * g.chunk < 2 ^ 64

back_frame : (g : Geometry) (r : Ring) (item : Item) (frame : Frame) → item.frame ≡ Some frame → IsItemOn g r item → IsBackFrame g frame
back_frame g r item frame e h =
    let addr = item.desc.addr in
    let at = named g frame addr (nat_lt addr (g.frames * g.chunk)) refl (sym (ap (option_map (λ (f : Frame). f.number)) e) ∙ h.frame) in
    let same : frame.number * g.chunk ≡ addr / g.chunk * g.chunk = ap (λ (n : ℕ). n * g.chunk) at.1 in
    record {
      own = own_frame g r item frame e h;
      chunk = positive g.frames g.chunk addr at.0;
      address = below_all (frame.number * g.chunk) addr (omega (arith, same, div-mul-le_self addr g.chunk)) h.address;
    }
  where
    below_all : (n m : ℕ) → n ≤ m → m < 2 ^ 64 → n < 2 ^ 64
    below_all n m h k = omega arith

pub back_of : (g : Geometry) (r : Ring) (item : Item) → IsItemOn g r item → All (IsBackFrame g) (frame_in item.frame)
back_of g r item h = here item.frame refl
  where
    here : (o : Option Frame) → item.frame ≡ o → All (IsBackFrame g) (frame_in o)
    here None e = All-nil (IsBackFrame g)
    here (Some frame) e = All-cons (IsBackFrame g) frame [] (back_frame g r item frame e h) (All-nil (IsBackFrame g))

pub back_frames : (g : Geometry) (r : Ring) (items : List Item) → All (IsItemOn g r) items → All (IsBackFrame g) (frames_in items)
back_frames g r [] h = All-nil (IsBackFrame g)
back_frames g r (item ∷ items) h =
    All-append (IsBackFrame g) (frame_in item.frame) (frames_in items) (back_of g r item (All-head (IsItemOn g r) item items h)) (back_frames g r items (All-tail (IsItemOn g r) item items h))

-- it may go to FILL
pub fill_item : (g : Geometry) (home : ℕ) (frame : Frame) → IsBackFrame g frame → IsItemOn g (Fill home) (home_item g frame)
fill_item g home frame h =
    let base = frame.number * g.chunk in
    let inside : base < g.frames * g.chunk = product frame.number g.frames g.chunk h.own.number h.chunk in
    record {
      address = h.address;
      len = lit< tt;
      options = lit< tt;
      frame = at (nat_lt base (g.frames * g.chunk)) refl inside (mul-div_left frame.number h.chunk);
      body = h.own.bytes;
      plain = (refl, refl);
    }
  where
    product : (n frames chunk : ℕ) → n < frames → 1 ≤ chunk → n * chunk < frames * chunk
    product n frames chunk h k = grind arith

    at : (b : Bool) → nat_lt (frame.number * g.chunk) (g.frames * g.chunk) ≡ b → frame.number * g.chunk < g.frames * g.chunk
        → frame.number * g.chunk / g.chunk ≡ frame.number → Some frame.number ≡ cond b (Some (frame.number * g.chunk / g.chunk)) None
    at true e inside same = ap Some (sym same)
    at false e inside same = absurd (grind (arith, nat_tests))

pub numbers-home : (g : Geometry) (frames : List Frame) → numbers (map (home_item g) frames) ≡ frame_numbers frames
numbers-home g [] = refl
numbers-home g (frame ∷ frames) = ap (λ (ns : List ℕ). frame.number ∷ ns) (numbers-home g frames)

-- ---- what is had

-- the items and frames that are kept are lawful, and their numbers, with those that a call takes along, are those that are had
pub record AppHas (c : Config) (kept : AppKept) (out : List ℕ) (l : List Told) : Type 0 where
  pub lanes : length kept.pending ≡ lanes_of c
  pub sides : length kept.back ≡ 2
  pub items : (lane : ℕ) → All (IsItemOn c.geometry (Tx 0)) (pending_at kept lane)
  pub few : (lane : ℕ) → length (pending_at kept lane) ≤ 32
  pub frames : (side : ℕ) → All (IsBackFrame c.geometry) (back_at kept side)
  pub once : (n : ℕ) → times n (had_of l) ≤ 1
  pub counts : (n : ℕ) → times n (flat_map numbers kept.pending) + times n (flat_map frame_numbers kept.back) + times n out ≡ times n (had_of l)

pub times-app_numbers : (n : ℕ) (kept : AppKept) → times n (app_numbers kept) ≡ times n (flat_map numbers kept.pending) + times n (flat_map frame_numbers kept.back)
times-app_numbers n kept = times-append n (flat_map numbers kept.pending) (flat_map frame_numbers kept.back)

pub app_owned : (c : Config) (kept : AppKept) (call : Call) (l : List Told) → AppHas c kept (numbers (submitted call)) l → AppOwned kept call l
app_owned c kept call l h = λ n. omega (arith, h.counts n, times-app_numbers n kept)

-- an entry that brings no frame
pub app_told : (c : Config) (kept : AppKept) (call : Call) (reply : Reply) (l : List Told) → taken reply ≡ [] → AppHas c kept (numbers (submitted call)) l
    → AppHas c kept [] (with_told l call reply)
app_told c kept call reply l none h = record {
  lanes = h.lanes;
  sides = h.sides;
  items = h.items;
  few = h.few;
  frames = h.frames;
  once = λ n. omega (arith, h.once n, had_told l call reply n, ap (λ (items : List Item). times n (numbers items)) none);
  counts = λ n. omega (arith, h.counts n, had_told l call reply n, ap (λ (items : List Item). times n (numbers items)) none);
}

pub at_set : {A : Type 0} (P : List A → Type 0) (xs : List (List A)) (i j : ℕ) (y : List A) → i < length xs → P y → P (get_or xs j []) → P (get_or (set xs i y) j [])
at_set P xs i j y h new old = ⊎_elim
    (λ (e : j ≡ i). subst (λ k. P (get_or (set xs i y) k [])) (sym e) (subst P (sym (get_or-set_same xs i y [] h)) new))
    (λ (e : j ≡ i → ⊥). subst P (sym (get_or-set_other xs i j y [] e)) old)
    (cases_eq j i)

-- other items of a lane, and other frames of a side
pub has_pending : (c : Config) (kept : AppKept) (out more : List ℕ) (l m : List Told) (lane : ℕ) (items : List Item) → lane < lanes_of c
    → All (IsItemOn c.geometry (Tx 0)) items → length items ≤ 32
    → ((n : ℕ) → times n (numbers (pending_at kept lane)) + times n out + times n (had_of m) ≡ times n (numbers items) + times n more + times n (had_of l))
    → ((n : ℕ) → times n (had_of m) ≤ 1) → AppHas c kept out l → AppHas c (with_pending kept lane items) more m
has_pending c kept out more l m lane items h lawful few counts once has =
    let within : lane < length kept.pending = omega (arith, has.lanes) in
    record {
      lanes = length-set kept.pending lane items ∙ has.lanes;
      sides = has.sides;
      items = λ j. at_set (All (IsItemOn c.geometry (Tx 0))) kept.pending lane j items within lawful (has.items j);
      few = λ j. at_set (λ xs. length xs ≤ 32) kept.pending lane j items within few (has.few j);
      frames = has.frames;
      once = once;
      counts = λ n. omega (arith, times-flat_map-set n numbers kept.pending lane items [] within, counts n, has.counts n);
    }

pub has_back : (c : Config) (kept : AppKept) (out more : List ℕ) (l m : List Told) (side : ℕ) (frames : List Frame) → side < 2
    → All (IsBackFrame c.geometry) frames
    → ((n : ℕ) → times n (frame_numbers (back_at kept side)) + times n out + times n (had_of m) ≡ times n (frame_numbers frames) + times n more + times n (had_of l))
    → ((n : ℕ) → times n (had_of m) ≤ 1) → AppHas c kept out l → AppHas c (with_back kept side frames) more m
has_back c kept out more l m side frames h lawful counts once has =
    let within : side < length kept.back = omega (arith, has.sides) in
    record {
      lanes = has.lanes;
      sides = length-set kept.back side frames ∙ has.sides;
      items = has.items;
      few = has.few;
      frames = λ j. at_set (All (IsBackFrame c.geometry)) kept.back side j frames within lawful (has.frames j);
      once = once;
      counts = λ n. omega (arith, times-flat_map-set n frame_numbers kept.back side frames [] within, counts n, has.counts n);
    }

-- what is kept beside items and frames is no matter
pub has_flags : (c : Config) (kept more : AppKept) (l : List Told) (b : Bool) → more.pending ≡ kept.pending → more.back ≡ kept.back → AppHas c kept [] l → AppHas c (cond b more kept) [] l
has_flags c kept more l true e f has = record {
  lanes = ap length e ∙ has.lanes;
  sides = ap length f ∙ has.sides;
  items = λ lane. subst (λ xs. All (IsItemOn c.geometry (Tx 0)) (get_or xs lane [])) (sym e) (has.items lane);
  few = λ lane. subst (λ xs. length (get_or xs lane []) ≤ 32) (sym e) (has.few lane);
  frames = λ side. subst (λ xs. All (IsBackFrame c.geometry) (get_or xs side [])) (sym f) (has.frames side);
  once = has.once;
  counts = λ n. ap (λ xs. times n (flat_map numbers xs) + times n (flat_map frame_numbers more.back) + 0) e
      ∙ ap (λ xs. times n (flat_map numbers kept.pending) + times n (flat_map frame_numbers xs) + 0) f ∙ has.counts n;
}
has_flags c kept more l false e f has = has

-- ---- at first

none_times : (k n : ℕ) → times n (flat_map numbers (replicate k [])) ≡ 0
none_times zero n = refl
none_times (suc k) n = none_times k n

pub none_pending : (k lane : ℕ) → ◌≡◌ {A = List Item} (get_or (replicate k []) lane []) []
none_pending zero lane = refl
none_pending (suc k) zero = refl
none_pending (suc k) (suc lane) = none_pending k lane

pub has_none : (m : Manner) (c : Config) → AppHas c (app_start_by m c) [] []
has_none m c = record {
  lanes = length-replicate (lanes_of c) [];
  sides = refl;
  items = λ lane. subst (All (IsItemOn c.geometry (Tx 0))) (sym (none_pending (lanes_of c) lane)) (All-nil (IsItemOn c.geometry (Tx 0)));
  few = λ lane. omega (arith, ap length (none_pending (lanes_of c) lane));
  frames = none_back;
  once = λ n. omega arith;
  counts = λ n. omega (arith, none_times (lanes_of c) n);
}
  where
    none_back : (side : ℕ) → All (IsBackFrame c.geometry) (back_at (app_start_by m c) side)
    none_back zero = All-nil (IsBackFrame c.geometry)
    none_back (suc zero) = All-nil (IsBackFrame c.geometry)
    none_back (suc (suc side)) = All-nil (IsBackFrame c.geometry)
