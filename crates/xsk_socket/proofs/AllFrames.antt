-- Frames that stand in the order of their numbers, and a loop that goes once round a queue of them.
use Rattle.std.proofs.Common.{◌≡◌, ◌↔◌, ℕ, suc, ◌+◌, ◌<◌, ◌≤◌, Bool, true, false, IsTrue, List, [], ◌∷◌, ◌++◌, length, map, take, drop, All, get_or, refl, sym, ap, subst, ◌∙◌, arith, append_assoc, append-nil, length-append, length-drop, length-take}
use Rattle.std.specs.List.{range_with_len}
use Rattle.std.proofs.Math.Seq.{take-suc, drop-cons}
use Rattle.std.proofs.lemmas.List.{drop_all, take_all, length-map}
use Rattle.std.proofs.lemmas.List.Elements.{All-nil, All-cons, All-head, All-tail}
use Rattle.std.proofs.lemmas.List.FromFn.{length-range_with_len}
use Rattle.xsk_umem.specs.Frame.{Frame}
use Rattle.xsk_umem.specs.Frames.{Frames}
use Rattle.xsk_umem.specs.Geometry.{Geometry}
use Rattle.xsk_model.specs.Opening.{AreFrames}
use Rattle.xsk_socket.specs.InPlace.{IsInPlace, AreInPlace}

abbrev numbers_of : List Frame → List ℕ
numbers_of frames = map (λ (f : Frame). f.number) frames

abbrev HasChunk : ℕ → Frame → Type 0
HasChunk chunk f = length f.bytes ≡ chunk

numbers_in : (chunk number : ℕ) (fs : List Frame) → AreInPlace chunk number fs → numbers_of fs ≡ range_with_len number (length fs)
numbers_in chunk number [] are = refl
numbers_in chunk number (f ∷ fs) are = ap (λ n. n ∷ numbers_of fs) are.0.0 ∙ ap (λ ns. number ∷ ns) (numbers_in chunk (number + 1) fs are.1)

bodies_in : (chunk number : ℕ) (fs : List Frame) → AreInPlace chunk number fs → All (HasChunk chunk) fs
bodies_in chunk number [] are = All-nil (HasChunk chunk)
bodies_in chunk number (f ∷ fs) are = All-cons (HasChunk chunk) f fs are.0.1 (bodies_in chunk (number + 1) fs are.1)

in_place : (chunk number : ℕ) (fs : List Frame) → numbers_of fs ≡ range_with_len number (length fs) → All (HasChunk chunk) fs → AreInPlace chunk number fs
in_place chunk number [] are all = tt
in_place chunk number (f ∷ fs) are all = ((ap (λ ns. get_or ns 0 0) are, All-head (HasChunk chunk) f fs all), in_place chunk (number + 1) fs (ap (drop 1) are) (All-tail (HasChunk chunk) f fs all))

-- frames in order are all frames of a UMEM exactly where they are as many
pub are_all : (g : Geometry) (fs : List Frame) → (AreInPlace g.chunk 0 fs × (length fs ≡ g.frames)) ↔ AreFrames g fs
are_all g fs = (
  λ h. record {
    numbers = subst (λ n. numbers_of fs ≡ range_with_len 0 n) h.1 (numbers_in g.chunk 0 fs h.0);
    bodies = bodies_in g.chunk 0 fs h.0;
  },
  λ are.
      let many : length fs ≡ g.frames = sym (length-map fs (λ (f : Frame). f.number)) ∙ ap length are.numbers ∙ length-range_with_len 0 g.frames in
      (in_place g.chunk 0 fs (subst (λ n. numbers_of fs ≡ range_with_len 0 n) (sym many) are.numbers) are.bodies, many),
)

-- ---- the loop

-- so many frames went from the front of the queue to its back, and all of them were in place
pub record Turning (chunk : ℕ) (old : Frames) (number : ℕ) (all : Bool) (now : Frames) : Type 0 where
  pub items : now.items ≡ drop number old.items ++ take number old.items
  pub limit : now.limit ≡ old.limit
  pub found : (IsTrue all × AreInPlace chunk number (drop number old.items)) ↔ AreInPlace chunk 0 old.items

pub none_turned : (chunk : ℕ) (old : Frames) → Turning chunk old 0 true old
none_turned chunk old = record { items = sym (append-nil old.items); limit = refl; found = (λ h. h.1, λ are. (refl, are)) }

pub turned_length : (chunk : ℕ) (old : Frames) (number : ℕ) (all : Bool) (now : Frames) → Turning chunk old number all now → length now.items ≡ length old.items
turned_length chunk old number all now h =
    ap length h.items ∙ omega (arith, length-append (drop number old.items) (take number old.items), length-drop number old.items, length-take number old.items)

-- what a frame adds: nothing where it is in place, and else that not all are
pub stays : (all then : Bool) (P : Type 0) → P → then ≡ all → IsTrue then ↔ (IsTrue all × P)
stays all then P p is = (λ yes. (subst IsTrue is yes, p), λ h. subst IsTrue (sym is) h.0)

pub not_true : false ≡ true → ⊥
not_true e = absurd (cc)

pub ceases : (all then : Bool) (P : Type 0) → (P → ⊥) → then ≡ false → IsTrue then ↔ (IsTrue all × P)
ceases all then P not is = (λ yes. absurd (not_true (sym is ∙ yes)), λ h. absurd (not h.1))

no_frame : Frame
no_frame = record { number = 0; bytes = [] }

drop_here : (fs : List Frame) (number : ℕ) → number < length fs → drop number fs ≡ get_or fs number no_frame ∷ drop (number + 1) fs
drop_here fs number more =
    let is : suc number ≡ number + 1 = omega (arith) in
    drop-cons fs number no_frame more ∙ ap (λ k. get_or fs number no_frame ∷ drop k fs) is

take_here : (fs : List Frame) (number : ℕ) → number < length fs → take (number + 1) fs ≡ take number fs ++ get_or fs number no_frame ∷ []
take_here fs number more =
    let is : number + 1 ≡ suc number = omega (arith) in
    ap (λ k. take k fs) is ∙ take-suc fs number no_frame more

-- the next frame is the one at the loop's place
next_turned : (chunk : ℕ) (old : Frames) (number : ℕ) (all : Bool) (now : Frames) (frame : Frame) (rest : List Frame) → Turning chunk old number all now
    → number < length old.items → now.items ≡ frame ∷ rest
    → (get_or old.items number no_frame ≡ frame) × (drop (number + 1) old.items ++ take number old.items ≡ rest)
next_turned chunk old number all now frame rest h more is =
    let here : get_or old.items number no_frame ∷ drop (number + 1) old.items ++ take number old.items ≡ frame ∷ rest =
    ap (λ (fs : List Frame). fs ++ take number old.items) (sym (drop_here old.items number more)) ∙ sym h.items ∙ is in
    (ap (λ fs. get_or fs 0 no_frame) here, ap (drop 1) here)

pub one_turned : (chunk : ℕ) (old : Frames) (number : ℕ) (all then : Bool) (now new : Frames) (frame : Frame) (rest : List Frame) → Turning chunk old number all now
    → number < length old.items → now.items ≡ frame ∷ rest → new.items ≡ rest ++ frame ∷ [] → new.limit ≡ old.limit
    → IsTrue then ↔ (IsTrue all × IsInPlace chunk number frame) → Turning chunk old (number + 1) then new
one_turned chunk old number all then now new frame rest h more is back limit both =
    let next = next_turned chunk old number all now frame rest h more is in
    let later : List Frame = drop (number + 1) old.items in
    let split : drop number old.items ≡ frame ∷ later = drop_here old.items number more ∙ ap (λ f. f ∷ later) next.0 in
    let first : take (number + 1) old.items ≡ take number old.items ++ frame ∷ [] = take_here old.items number more ∙ ap (λ f. take number old.items ++ f ∷ []) next.0 in
    record {
      items = back ∙ ap (λ (fs : List Frame). fs ++ frame ∷ []) (sym next.1) ∙ append_assoc later (take number old.items) (frame ∷ []) ∙ ap (λ fs. later ++ fs) (sym first);
      limit = limit;
      found = (
        λ (t : IsTrue then × AreInPlace chunk (number + 1) later). h.found.0 ((both.0 t.0).0, subst (AreInPlace chunk number) (sym split) ((both.0 t.0).1, t.1)),
        λ are.
            let were = h.found.1 are in
            let parts : IsInPlace chunk number frame × AreInPlace chunk (number + 1) later = subst (AreInPlace chunk number) split were.1 in
            (both.1 (were.0, parts.0), parts.1),
      );
    }

-- after all of them the queue is as it was
pub all_turned : (chunk : ℕ) (old : Frames) (number : ℕ) (all : Bool) (now : Frames) → Turning chunk old number all now → length old.items ≤ number
    → (now ≡ old) × (IsTrue all ↔ AreInPlace chunk 0 old.items)
all_turned chunk old number all now h none =
    let items : now.items ≡ old.items = h.items ∙ ap (λ (fs : List Frame). fs ++ take number old.items) (drop_all number old.items none) ∙ take_all number old.items none in
    let nothing : AreInPlace chunk number (drop number old.items) = subst (AreInPlace chunk number) (sym (drop_all number old.items none)) tt in (
      ap (λ (fs : List Frame). record now { items = fs }) items ∙ ap (λ (n : ℕ). record old { limit = n }) h.limit,
      (λ yes. h.found.0 (yes, nothing), λ are. (h.found.1 are).0),
    )
