-- Lists of at most so many elements with further ones behind them, cut again.
use Rattle.std.proofs.Common.{◌≡◌, ℕ, zero, suc, ◌+◌, ◌<◌, ◌≤◌, Option, Some, None, List, [], ◌∷◌, ◌++◌, length, take, refl, sym, ap, ◌∙◌, arith, append-nil, append_assoc, length-append, length-take}
use Rattle.std.proofs.lemmas.List.{take_all, take-append-le}
use Rattle.xsk_umem.specs.Frame.{Frame}
use Rattle.xsk_umem.specs.Geometry.{Geometry}
use Rattle.xsk_umem.specs.declared.batch.Item.{Item}
use Rattle.xsk_turns.specs.Turns.{frame_in}
use Rattle.xsk_turns.specs.Mangling.{change_at, made_by, taken_by, mangled, frames_taken}
use Rattle.xsk_turns.specs.declared.manner.Change.{Change}

pub take_again : {A : Type 0} (n : ℕ) (xs ys : List A) → take n (take n xs ++ ys) ≡ take n (xs ++ ys)
take_again zero xs ys = refl
take_again (suc n) [] ys = refl
take_again (suc n) (x ∷ xs) ys = ap (λ zs. x ∷ zs) (take_again n xs ys)

-- nothing more, where there are so few
pub take_same : (n : ℕ) (xs ys : List Frame) → length xs ≤ n → ys ≡ [] → xs ≡ take n (xs ++ ys)
take_same n xs ys few none = sym (take_all n xs few) ∙ ap (take n) (sym (append-nil xs) ∙ ap (λ zs. xs ++ zs) (sym none))

pub take_more : (n : ℕ) (xs new : List Frame) (x : Frame) (frame : Option Frame) → length xs < n → frame ≡ Some x → new ≡ xs ++ x ∷ [] → new ≡ take n (xs ++ frame_in frame)
take_more n xs new x frame few e is =
    is ∙ sym (take_all n (xs ++ x ∷ []) (omega (arith, few, length-append xs (x ∷ [])))) ∙ ap (λ f. take n (xs ++ frame_in f)) (sym e)

pub take_full : (n : ℕ) (xs ys : List Frame) → length xs ≤ n → n ≤ length xs → xs ≡ take n (xs ++ ys)
take_full n xs ys few many = sym (take_all n xs few) ∙ sym (take-append-le n xs ys many)

pub none_taken : (change : Option Change) (item : Item) → change ≡ None → taken_by change item ≡ []
none_taken change item e = ap (λ c. taken_by c item) e

-- ---- a loop over items

-- one more item
pub mangled_more : (g : Geometry) (every n : ℕ) (items pending pending' all : List Item) (item new : Item) → items ++ mangled g every n pending ≡ all → pending ≡ item ∷ pending' → new ≡ made_by g (change_at every n) item
    → (items ++ new ∷ []) ++ mangled g every (n + 1) pending' ≡ all
mangled_more g every n items pending pending' all item new e is made =
    append_assoc items (new ∷ []) (mangled g every (n + 1) pending')
    ∙ ap (λ x. items ++ x ∷ mangled g every (n + 1) pending') made ∙ ap (λ xs. items ++ mangled g every n xs) (sym is) ∙ e

pub frames_more : (m every n : ℕ) (back back' all : List Frame) (pending pending' : List Item) (item : Item) → take m (back ++ frames_taken every n pending) ≡ all → pending ≡ item ∷ pending'
    → back' ≡ take m (back ++ taken_by (change_at every n) item) → take m (back' ++ frames_taken every (n + 1) pending') ≡ all
frames_more m every n back back' all pending pending' item e is kept =
    let rest = frames_taken every (n + 1) pending' in
    ap (λ xs. take m (xs ++ rest)) kept ∙ take_again m (back ++ taken_by (change_at every n) item) rest
    ∙ ap (take m) (append_assoc back (taken_by (change_at every n) item) rest) ∙ ap (λ xs. take m (back ++ frames_taken every n xs)) (sym is) ∙ e

pub few_kept : (m : ℕ) (xs back : List Frame) → back ≡ take m xs → length back ≤ m
few_kept m xs back e = omega (arith, ap length e, length-take m xs)

-- at its end
pub mangled_all : (g : Geometry) (every n : ℕ) (items pending all : List Item) → items ++ mangled g every n pending ≡ all → pending ≡ [] → items ≡ all
mangled_all g every n items pending all e none = sym (append-nil items) ∙ ap (λ xs. items ++ mangled g every n xs) (sym none) ∙ e

pub frames_all : (m every n : ℕ) (back all : List Frame) (pending : List Item) → take m (back ++ frames_taken every n pending) ≡ all → pending ≡ [] → length back ≤ m → back ≡ all
frames_all m every n back all pending e none few = take_same m back (frames_taken every n pending) few (ap (frames_taken every n) none) ∙ e
