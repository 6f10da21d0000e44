-- What the changes of items leave: as many items, each lawful on TX, and their frames, those of the items and those that are taken.
use Rattle.std.proofs.Common.{◌≡◌, ℕ, ◌+◌, ◌*◌, ◌/◌, ◌^◌, ◌<◌, ◌≤◌, ◌⊎◌, inl, inr, ⊎_elim, Bool, false, cond, nat_lt, min, Option, Some, None, List, [], ◌∷◌, ◌++◌, length, get_or, take, All, refl, sym, ap, ◌∙◌, arith, lit<, length-set}
use Rattle.std.proofs.lemmas.Bool.Decides.{nat_tests}
use Rattle.std.proofs.lemmas.List.Elements.{All-nil, All-cons, All-head, All-tail, All-append}
use Rattle.xsk_umem.specs.Geometry.{IsGeometry, area_of}
use Rattle.xsk_turns.proofs.Object.{Geometry, Frame, times, number_of, numbers, IsItemOn}
use Rattle.xsk_turns.specs.Turns.{frame_in}
use Rattle.xsk_turns.proofs.Calls.{Item, Tx}
use Rattle.xsk_model.proofs.Counting.{times-append}
use Rattle.xsk_turns.specs.Owned.{frame_numbers}
use Rattle.xsk_turns.specs.AppLaw.{IsAltered, AreAltered}
use Rattle.xsk_turns.specs.Mangling.{change_at, made_of, made_by, taken_by, mangled, frames_taken, given_by, back_by}
use Rattle.xsk_turns.specs.declared.manner.Change.{Change}
use Rattle.xsk_turns.specs.declared.manner.Change.TheVariants.{NoBytes, WholeChunk, UnknownOption, Outside, GoesOn}
use Rattle.xsk_turns.proofs.AppOwned.{IsBackFrame, back_of}

-- ---- as many items

length-mangled : (g : Geometry) (every n : ℕ) (items : List Item) → length (mangled g every n items) ≡ length items
length-mangled g every n [] = refl
length-mangled g every n (item ∷ items) = omega (arith, length-mangled g every (n + 1) items)

pub length-given : (g : Geometry) (mangle : Option ℕ) (n : ℕ) (items : List Item) → length (given_by g mangle n items) ≡ length items
length-given g None n items = refl
length-given g (Some every) n items = length-mangled g every n items

-- ---- lawful ones

pub outside_umem : (g : Geometry) (addr : ℕ) → IsGeometry g → nat_lt (min (area_of g + addr) 18446744073709551615) (area_of g) ≡ false
outside_umem g addr h = grind (arith, nat_tests, small g.frames g.chunk h.few h.chunk)
  where
    small : (frames chunk : ℕ) → frames ≤ 4096 → (chunk ≡ 2048) ⊎ (chunk ≡ 4096) → frames * chunk ≤ 18446744073709551615
    small frames chunk h k = ⊎_elim (λ (e : chunk ≡ 2048). grind (arith, e)) (λ (e : chunk ≡ 4096). grind (arith, e)) k

made_lawful : (g : Geometry) (t : ℕ) (change : Change) (item : Item) → IsGeometry g → IsItemOn g (Tx t) item → IsItemOn g (Tx t) (made_of g change item)
made_lawful g t NoBytes item k h = record { address = h.address; len = lit< tt; options = h.options; frame = h.frame; body = h.body; plain = tt }
made_lawful g t WholeChunk item k h = record { address = h.address; len = chunk_small g k; options = h.options; frame = h.frame; body = h.body; plain = tt }
  where
    chunk_small : (g : Geometry) → IsGeometry g → g.chunk < 2 ^ 32
    chunk_small g k = ⊎_elim (λ (e : g.chunk ≡ 2048). omega (arith, e)) (λ (e : g.chunk ≡ 4096). omega (arith, e)) k.chunk
made_lawful g t UnknownOption item k h = record { address = h.address; len = h.len; options = lit< tt; frame = h.frame; body = h.body; plain = tt }
made_lawful g t Outside item k h = record {
  address = omega arith;
  len = h.len;
  options = h.options;
  frame = ap (λ (b : Bool). cond b (Some ((min (area_of g + item.desc.addr) 18446744073709551615) / g.chunk)) None) (sym (outside_umem g item.desc.addr k));
  body = tt;
  plain = tt;
}
made_lawful g t GoesOn item k h = record { address = h.address; len = h.len; options = lit< tt; frame = h.frame; body = h.body; plain = tt }

made_by_lawful : (g : Geometry) (t : ℕ) (change : Option Change) (item : Item) → IsGeometry g → IsItemOn g (Tx t) item → IsItemOn g (Tx t) (made_by g change item)
made_by_lawful g t None item k h = h
made_by_lawful g t (Some change) item k h = made_lawful g t change item k h

mangled_lawful : (g : Geometry) (t every n : ℕ) (items : List Item) → IsGeometry g → All (IsItemOn g (Tx t)) items → All (IsItemOn g (Tx t)) (mangled g every n items)
mangled_lawful g t every n [] k h = All-nil (IsItemOn g (Tx t))
mangled_lawful g t every n (item ∷ items) k h =
    All-cons (IsItemOn g (Tx t)) (made_by g (change_at every n) item) (mangled g every (n + 1) items)
    (made_by_lawful g t (change_at every n) item k (All-head (IsItemOn g (Tx t)) item items h)) (mangled_lawful g t every (n + 1) items k (All-tail (IsItemOn g (Tx t)) item items h))

pub given_lawful : (g : Geometry) (t : ℕ) (mangle : Option ℕ) (n : ℕ) (items : List Item) → IsGeometry g → All (IsItemOn g (Tx t)) items → All (IsItemOn g (Tx t)) (given_by g mangle n items)
given_lawful g t None n items k h = h
given_lawful g t (Some every) n items k h = mangled_lawful g t every n items k h

-- ---- the frames

by_taken : (g : Geometry) (t : ℕ) (change : Option Change) (item : Item) → IsItemOn g (Tx t) item → All (IsBackFrame g) (taken_by change item)
by_taken g t None item h = All-nil (IsBackFrame g)
by_taken g t (Some NoBytes) item h = All-nil (IsBackFrame g)
by_taken g t (Some WholeChunk) item h = All-nil (IsBackFrame g)
by_taken g t (Some UnknownOption) item h = All-nil (IsBackFrame g)
by_taken g t (Some Outside) item h = back_of g (Tx t) item h
by_taken g t (Some GoesOn) item h = All-nil (IsBackFrame g)

pub taken_frames : (g : Geometry) (t every n : ℕ) (items : List Item) → All (IsItemOn g (Tx t)) items → All (IsBackFrame g) (frames_taken every n items)
taken_frames g t every n [] h = All-nil (IsBackFrame g)
taken_frames g t every n (item ∷ items) h =
    All-append (IsBackFrame g) (taken_by (change_at every n) item) (frames_taken every (n + 1) items)
    (by_taken g t (change_at every n) item (All-head (IsItemOn g (Tx t)) item items h)) (taken_frames g t every (n + 1) items (All-tail (IsItemOn g (Tx t)) item items h))

pub times-frames : (k : ℕ) (xs ys : List Frame) → times k (frame_numbers (xs ++ ys)) ≡ times k (frame_numbers xs) + times k (frame_numbers ys)
times-frames k [] ys = omega arith
times-frames k (x ∷ xs) ys = omega (arith, times-frames k xs ys)

-- an item's frame stays or is taken
stays : (k : ℕ) (ns rest all : List ℕ) (m : ℕ) → times k rest + m ≡ times k all → times k (ns ++ rest) + m ≡ times k (ns ++ all)
stays k ns rest all m e = omega (arith, e, times-append k ns rest, times-append k ns all)

goes : (k : ℕ) (frame : Option Frame) (rest all : List ℕ) (more : List Frame) → times k rest + times k (frame_numbers more) ≡ times k all
    → times k rest + times k (frame_numbers (frame_in frame ++ more)) ≡ times k (number_of frame ++ all)
goes k None rest all more e = e
goes k (Some frame) rest all more e = omega (arith, e)

one_frame : (g : Geometry) (k : ℕ) (change : Option Change) (item : Item) (rest all : List ℕ) (more : List Frame) → times k rest + times k (frame_numbers more) ≡ times k all
    → times k (number_of (made_by g change item).frame ++ rest) + times k (frame_numbers (taken_by change item ++ more)) ≡ times k (number_of item.frame ++ all)
one_frame g k None item rest all more e = stays k (number_of item.frame) rest all (times k (frame_numbers more)) e
one_frame g k (Some NoBytes) item rest all more e = stays k (number_of item.frame) rest all (times k (frame_numbers more)) e
one_frame g k (Some WholeChunk) item rest all more e = stays k (number_of item.frame) rest all (times k (frame_numbers more)) e
one_frame g k (Some UnknownOption) item rest all more e = stays k (number_of item.frame) rest all (times k (frame_numbers more)) e
one_frame g k (Some Outside) item rest all more e = goes k item.frame rest all more e
one_frame g k (Some GoesOn) item rest all more e = stays k (number_of item.frame) rest all (times k (frame_numbers more)) e

pub times-mangled : (g : Geometry) (k every n : ℕ) (items : List Item) → times k (numbers (mangled g every n items)) + times k (frame_numbers (frames_taken every n items)) ≡ times k (numbers items)
times-mangled g k every n [] = refl
times-mangled g k every n (item ∷ items) =
    one_frame g k (change_at every n) item (numbers (mangled g every (n + 1) items)) (numbers items) (frames_taken every (n + 1) items) (times-mangled g k every (n + 1) items)

-- ---- each is as it was, or changed

made_altered : (g : Geometry) (every : ℕ) (change : Option Change) (item : Item) → IsAltered g (Some every) item (made_by g change item)
made_altered g every None item = inl refl
made_altered g every (Some change) item = inr (change, refl)

mangled_altered : (g : Geometry) (every n : ℕ) (items : List Item) → AreAltered g (Some every) items (mangled g every n items)
mangled_altered g every n [] = tt
mangled_altered g every n (item ∷ items) = (made_altered g every (change_at every n) item, mangled_altered g every (n + 1) items)

same_altered : (g : Geometry) (items : List Item) → AreAltered g None items items
same_altered g [] = tt
same_altered g (item ∷ items) = (refl, same_altered g items)

pub given_altered : (g : Geometry) (mangle : Option ℕ) (n : ℕ) (items : List Item) → AreAltered g mangle items (given_by g mangle n items)
given_altered g None n items = same_altered g items
given_altered g (Some every) n items = mangled_altered g every n items

pub altered_append : (g : Geometry) (mangle : Option ℕ) (xs ys xs' ys' : List Item) → AreAltered g mangle xs ys → AreAltered g mangle xs' ys' → AreAltered g mangle (xs ++ xs') (ys ++ ys')
altered_append g mangle [] [] xs' ys' h k = k
altered_append g mangle [] (y ∷ ys) xs' ys' h k = absurd h
altered_append g mangle (x ∷ xs) [] xs' ys' h k = absurd h
altered_append g mangle (x ∷ xs) (y ∷ ys) xs' ys' h k = (h.0, altered_append g mangle xs ys xs' ys' h.1 k)

-- where nothing is changed they are the same
pub altered_same : (g : Geometry) (xs ys : List Item) → AreAltered g None xs ys → ys ≡ xs
altered_same g [] [] h = refl
altered_same g [] (y ∷ ys) h = absurd h
altered_same g (x ∷ xs) [] h = absurd h
altered_same g (x ∷ xs) (y ∷ ys) h = ap (λ z. z ∷ ys) h.0 ∙ ap (λ zs. x ∷ zs) (altered_same g xs ys h.1)

-- the frames that are taken stay with a side that there is
pub back_sides : (mangle : Option ℕ) (n : ℕ) (items : List Item) (side : ℕ) (back : List (List Frame)) → length (back_by mangle n items side back) ≡ length back
back_sides None n items side back = refl
back_sides (Some every) n items side back = length-set back side (take 4096 (get_or back side [] ++ frames_taken every n items))
