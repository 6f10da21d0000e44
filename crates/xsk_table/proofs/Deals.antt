-- Frames that move into slots, and passes that are dealt out.
use Rattle.std.proofs.Common.{◌≡◌, ◌≢◌, ℕ, ◌+◌, ◌-◌, ◌<◌, ◌≤◌, suc, zero, List, [], ◌∷◌, ◌++◌, map, length, get_or, set, take, replicate, refl, ap, sym, ◌∙◌, arith, subst, ◌⊎◌, inl, inr, ⊎_elim, Option, Some, None, length-append}
use Rattle.std.specs.List.{range_with_len}
use mathlib.Core.Option.{some, some-injective, some-ne-none}
use lib.ListN.{get_elem?}
use Rattle.std.proofs.lemmas.List.{get_or-map, take_more}
use Rattle.std.proofs.lemmas.List.FromFn.{map-range_with_len_more}
use Rattle.atomic_table.proofs.Lists.{at_set, at_map}
use Rattle.xsk_umem.specs.Frame.{Frame}
use Rattle.xsk_model.specs.Config.{Config, callers_of}
use Rattle.xsk_model.specs.declared.call.Ring.{Ring}
use Rattle.xsk_model.specs.Opening.{IsOpened}
use Rattle.xsk_table.specs.View.{Basis, idle, taking, View, newcomer, first_caller, other_callers}
use Rattle.xsk_model.specs.Rings.{place, places_of}
use Rattle.xsk_table.specs.Known.{AreSure, AllIsLeft}
use Rattle.xsk_table.specs.Held.{Board, Holder, PassHolds, known_in, new_pass}
use Rattle.xsk_table.specs.Opening.{AllFirst, AtRest, FirstEnds, list_of, new_passes}
use Rattle.xsk_table.specs.declared.end.End.{End}
use Rattle.xsk_umem.specs.declared.batch.Item.{Item}
use Rattle.xsk_table.proofs.Knowledge.{sure_now}
use Rattle.xsk_table.proofs.Lefts.{left_new}

abbrev pub slotted : List Frame → List (Option Frame)
slotted frames = map (λ (f : Frame). Some f) frames

-- ---- lists of counts

at_end : {X : Type 0} (l : List X) (x y : X) (j : ℕ) → get_elem? (l ++ x ∷ []) j ≡ some y → (get_elem? l j ≡ some y) ⊎ ((j ≡ length l) × (x ≡ y))
at_end [] x y zero e = inr (refl, some-injective x y e)
at_end [] x y (suc j) e = absurd (some-ne-none y (sym e))
at_end (z ∷ l) x y zero e = inl e
at_end (z ∷ l) x y (suc j) e = ⊎_elim (λ (t : get_elem? l j ≡ some y). inl t) (λ (t : (j ≡ length l) × (x ≡ y)). inr (ap suc t.0, t.1)) (at_end l x y j e)

pub all_none : (c : Config) (first : ℕ) → AllFirst c first 0 []
all_none c first = (refl, λ who ends e. absurd (some-ne-none ends (sym e)))

pub all_more : (c : Config) (first who : ℕ) (lists : List (List End)) (ends : List End) → AllFirst c first who lists → FirstEnds c first who ends → AllFirst c first (who + 1) (lists ++ ends ∷ [])
all_more c first who lists ends all h = (
  (let len = all.0 in omega (arith, length-append lists (ends ∷ []))),
  λ w es e. ⊎_elim
      (λ (t : get_elem? lists w ≡ some es). all.1 w es t)
      (λ (t : (w ≡ length lists) × (ends ≡ es)). let P : ℕ × List End → Type 0 = λ p. FirstEnds c first p.0 p.1 in subst P (λ i. (sym (t.0 ∙ all.0) i, t.1 i)) h)
      (at_end lists ends es w e),
)

-- the lists from a caller on
abbrev pub FirstFrom : Config → ℕ → ℕ → List (List End) → Type 0
FirstFrom c first from lists = (w : ℕ) (ends : List End) → from ≤ w → get_elem? lists w ≡ some ends → FirstEnds c first w ends

pub from_set : (c : Config) (first from : ℕ) (lists : List (List End)) (x : List End) → FirstFrom c first from lists → FirstFrom c first (from + 1) (set lists from x)
from_set c first from lists x h w ends le e = ⊎_elim
    (λ (t : (w ≡ from) × (x ≡ ends)). absurd (let z = t.0 in omega arith))
    (λ (t : (w ≢ from) × (get_elem? lists w ≡ some ends)). h w ends (omega arith) t.1)
    (at_set lists from w x ends e)

-- ---- passes

range_first : (from count rest : ℕ) → count ≡ suc rest → range_with_len from count ≡ from ∷ range_with_len (from + 1) rest
range_first from count rest e = ap (range_with_len from) e

pub seat_first : (k : Basis) (from count : ℕ) → 1 ≤ count → first_caller (newcomer k (range_with_len from count)) ≡ newcomer k (from ∷ [])
seat_first k from count some_left = ap (λ l. first_caller (newcomer k l)) (range_first from count (count - 1) (omega arith))

pub seat_others : (k : Basis) (from count : ℕ) → 1 ≤ count → other_callers (newcomer k (range_with_len from count)) ≡ newcomer k (range_with_len (from + 1) (count - 1))
seat_others k from count some_left = ap (λ l. other_callers (newcomer k l)) (range_first from count (count - 1) (omega arith))

idle_taking : {r : Ring} {items : List Item} → idle ≡ taking r items → ⊥
idle_taking e = cc

pub new_holds : (k : Basis) (who : ℕ) (v : View) (slots : List (ℕ × Option Frame)) (ends : List End) → who < callers_of k.config → IsOpened k.config k.frames → FirstEnds k.config k.first who ends → v ≡ newcomer k (who ∷ []) → slots ≡ [] → PassHolds v slots who ends 0
new_holds k who v slots ends few opened first is none =
    let P : View → Type 0 = λ u. PassHolds u slots who ends 0 in
    subst P (sym is) record {
      one = refl;
      alone = refl;
      few = few;
      ends_hold = (first k.frames opened).0;
      flying_is = refl;
      slots_are = none;
      left = λ r items e. absurd (idle_taking e);
      history = record { opened = opened; legal = tt };
    }

all_same : (n i z : ℕ) → get_or (replicate n z) i z ≡ z
all_same zero i z = refl
all_same (suc n) zero z = refl
all_same (suc n) (suc i) z = all_same n i z

-- nothing is known of any ring
pub new_sure : (k : Basis) (who : ℕ) (v : View) (ends : List End) → IsOpened k.config k.frames → FirstEnds k.config k.first who ends → v ≡ newcomer k (who ∷ []) → AreSure v.setup who v.seen (known_in ends)
new_sure k who v ends opened first is =
    let P : View → Type 0 = λ u. AreSure u.setup who u.seen (known_in ends) in
    subst P (sym is) (λ r has.
    let none : get_or (known_in ends) (place k.config r) 0 ≡ 0 = ap (λ l. get_or l (place k.config r) 0) (first k.frames opened).1 ∙ all_same (places_of k.config) (place k.config r) 0 in
    sure_now k who [] r (get_or (known_in ends) (place k.config r) 0) (record { opened = opened; legal = tt }) has (λ is. omega arith) (λ is. omega arith))

pub new_left : (k : Basis) (who : ℕ) (v : View) (ends : List End) → IsOpened k.config k.frames → FirstEnds k.config k.first who ends → v ≡ newcomer k (who ∷ []) → AllIsLeft v.setup who v.seen (known_in ends)
new_left k who v ends opened first is =
    let P : View → Type 0 = λ u. AllIsLeft u.setup who u.seen (known_in ends) in
    subst P (sym is) (λ r has. left_new k who r (get_or (known_in ends) (place k.config r) 0) (ap (λ l. get_or l (place k.config r) 0) (first k.frames opened).1 ∙ all_same (places_of k.config) (place k.config r) 0))

pub passes_more : (b : Board) (n : ℕ) (passes : List (Option Holder)) (h : Holder) → passes ≡ map (λ who. Some (new_pass b who)) (range_with_len 0 n) → h ≡ new_pass b n
    → passes ++ (Some h) ∷ [] ≡ map (λ who. Some (new_pass b who)) (range_with_len 0 (n + 1))
passes_more b n passes h are is =
    let f : ℕ → Option Holder = λ who. Some (new_pass b who) in
    (λ i. are i ++ Some (is i) ∷ []) ∙ sym (map-range_with_len_more f 0 n n (omega arith))

get_or_at : {X : Type 0} (xs : List X) (j : ℕ) (d : X) → j < length xs → get_elem? xs j ≡ some (get_or xs j d)
get_or_at [] j d lt = absurd (omega arith)
get_or_at (y ∷ xs) zero d lt = refl
get_or_at (y ∷ xs) (suc j) d lt = get_or_at xs j d (omega arith)

pub read_at : {X Y : Type 0} (f : X → Y) (xs : List X) (j : ℕ) (x d : X) → j < length xs → x ≡ d → d ≡ get_or xs j d → get_elem? (map f xs) j ≡ some (f x)
read_at f xs j x d lt value is = at_map f xs j x (get_or_at xs j d lt ∙ ap some (sym is ∙ sym value))

-- ---- frames that move back

no_frame : Frame
no_frame = record { number = 0; bytes = [] }

pub back_more : (fs items items' : List Frame) (x : Option Frame) (p : ℕ) → p < length fs → items ≡ take p fs → x ≡ get_or (slotted fs) p None → items' ≡ items ++ list_of x → items' ≡ take (p + 1) fs
back_more fs items items' x p lt are is more =
    let f : Frame = get_or fs p no_frame in
    let some_is : x ≡ Some f = is ∙ get_or-map (λ (g : Frame). Some g) fs p no_frame None lt in
    more ∙ ap (λ y. items ++ list_of y) some_is ∙ ap (λ l. l ++ f ∷ []) are ∙ sym (take_more fs p no_frame lt)

-- ---- new passes rest

at_range : (b : Board) (a n w : ℕ) (h : Holder) → get_elem? (map (λ who. Some (new_pass b who)) (range_with_len a n)) w ≡ some (Some h) → (h.who ≡ a + w) × (h.view.flight ≡ idle)
at_range b a zero w h e = absurd (some-ne-none (Some h) (sym e))
at_range b a (suc n) zero h e =
    let is : new_pass b a ≡ h = (let s : Some (new_pass b a) ≡ Some h = some-injective (Some (new_pass b a)) (Some h) e in cc) in
    let who : a ≡ h.who = ap (λ (p : Holder). p.who) is in
    (omega arith, ap (λ (p : Holder). p.view.flight) (sym is))
at_range b a (suc n) (suc w) h e = let t = at_range b (a + 1) n w h e in let who = t.0 in (omega arith, t.1)

pub new_rest : (b : Board) (passes : List (Option Holder)) → passes ≡ new_passes b → AtRest passes
new_rest b passes are w h e =
    let t = at_range b 0 (callers_of b.setup.config) w h (subst (λ (l : List (Option Holder)). get_elem? l w ≡ some (Some h)) are e) in
    let who = t.0 in
    (omega arith, t.1)
