-- Loops over the items of a batch: what one more item adds to the front, and what it takes from the rest.
use Rattle.std.proofs.Common.{◌≡◌, ℕ, zero, suc, ◌+◌, ◌≤◌, ◌<◌, ◌↔◌, Bool, true, false, List, [], ◌∷◌, ◌++◌, length, take, drop, get_or, slice_get, Option, Some, None, cond, eqb, refl, sym, ap, subst, ◌∙◌, ⊎_elim, ne_eqb, eq-eqb, eqb-true, length-drop, arith}
use Rattle.std.specs.Prelude.{All, is_some}
use Rattle.std.specs.List.{slice_index_or}
use Rattle.xsk_model.specs.declared.call.Ring.{Ring}
use Rattle.std.specs.Option.{option_map}
use Rattle.std.proofs.lemmas.Bool.{cases_eq}
use Rattle.std.proofs.lemmas.List.Elements.{All-nil, All-cons, All-head, All-tail}
use Rattle.xsk_umem.specs.Frame.{Frame}
use Rattle.xsk_umem.specs.Geometry.{Geometry}
use Rattle.xsk_umem.specs.declared.batch.Item.{Item}
use Rattle.xsk_umem.specs.declared.batch.XdpDesc.{XdpDesc}
use Rattle.xsk_umem.proofs.Going.{first_left}
use Rattle.xsk_model.specs.Numbers.{times, number_of, numbers}
use Rattle.xsk_model.proofs.Counting.{times-append, its_own}
use Rattle.xsk_legal.specs.Pieces.{has, IsPiece, ArePieces}
use Rattle.xsk_legal.specs.Queue.{IsNext, IsPacket}

pub times-take_at : (n : ℕ) (items : List Item) (i : ℕ) (item : Item) → slice_get items i ≡ Some item
    → times n (numbers (take (i + 1) items)) ≡ times n (numbers (take i items)) + times n (number_of item.frame)
times-take_at n [] i item h = absurd (cc)
times-take_at n (y ∷ ys) zero item h =
    let same : y ≡ item = cc in
    omega (arith, ap (λ (x : Item). times n (number_of x.frame)) same, times-append n (number_of y.frame) [])
times-take_at n (y ∷ ys) (suc i) item h =
    let e : suc i + 1 ≡ suc (i + 1) = omega arith in
    omega (
      arith,
      ap (λ k. times n (numbers (take k (y ∷ ys)))) e,
      times-take_at n ys i item h,
      times-append n (number_of y.frame) (numbers (take (i + 1) ys)),
      times-append n (number_of y.frame) (numbers (take i ys)),
    )

pub times-take_few : (n : ℕ) (items : List Item) (i : ℕ) → times n (numbers (take i items)) ≤ times n (numbers items)
times-take_few n [] zero = omega arith
times-take_few n [] (suc i) = omega arith
times-take_few n (item ∷ items) zero = omega arith
times-take_few n (item ∷ items) (suc i) =
    omega (arith, times-take_few n items i, times-append n (number_of item.frame) (numbers (take i items)), times-append n (number_of item.frame) (numbers items))

pub all_at : (P : Item → Type 0) (items : List Item) (i : ℕ) (item : Item) → All P items → slice_get items i ≡ Some item → P item
all_at P [] i item h e = absurd (cc)
all_at P (y ∷ ys) zero item h e = let same : y ≡ item = cc in subst P same (h 0 y (omega arith))
all_at P (y ∷ ys) (suc i) item h e = all_at P ys i item (λ k d within. h (suc k) d (omega arith)) e

pub all_first : (P : Item → Type 0) (xs ys : List Item) → All P (xs ++ ys) → All P xs
all_first P [] ys h = All-nil P
all_first P (x ∷ xs) ys h = All-cons P x xs (All-head P x (xs ++ ys) h) (all_first P xs ys (All-tail P x (xs ++ ys) h))

pub all_later : (P : Item → Type 0) (xs ys : List Item) → All P (xs ++ ys) → All P ys
all_later P [] ys h = h
all_later P (x ∷ xs) ys h = all_later P xs ys (All-tail P x (xs ++ ys) h)

-- ---- pieces

pub pieces_step : (g : Geometry) (sg : Bool) (item : Item) (items : List Item) (last : Bool) → last ≡ true ↔ (items ≡ [])
    → ArePieces g sg (item ∷ items) ↔ (IsPiece g sg last item × ArePieces g sg items)
pieces_step g sg item [] last h = subst (λ b. IsPiece g sg true item ↔ (IsPiece g sg b item × Unit {0})) (sym (h.1 refl)) (λ p. (p, tt), λ p. p.0)
pieces_step g sg item (next ∷ items) true h = absurd (let e : next ∷ items ≡ [] = h.0 refl in cc)
pieces_step g sg item (next ∷ items) false h = (λ p. p, λ p. p)

-- ---- the frame of one item

pub stands_here : (n : ℕ) (frame : Option Frame) → option_map (λ (f : Frame). f.number) frame ≡ Some n → 1 ≤ times n (number_of frame)
stands_here n None h = absurd (cc)
stands_here n (Some f) h = let same : f.number ≡ n = cc in omega (arith, its_own f.number n same)

pub not_here : (n : ℕ) (frame : Option Frame) → (option_map (λ (f : Frame). f.number) frame ≡ Some n → ⊥) → times n (number_of frame) ≡ 0
not_here n None h = refl
not_here n (Some f) h = ⊎_elim
    (λ (e : f.number ≡ n). absurd (h (ap Some e)))
    (λ (e : f.number ≡ n → ⊥). omega (arith, ap {B = ℕ} (λ b. cond b 1 0) (ne_eqb f.number n e)))
    (cases_eq f.number n)

pub times-take_less : (n : ℕ) (items : List Item) (j i : ℕ) → j ≤ i → times n (numbers (take j items)) ≤ times n (numbers (take i items))
times-take_less n items zero i h = omega arith
times-take_less n [] (suc j) zero h = omega arith
times-take_less n [] (suc j) (suc i) h = omega arith
times-take_less n (item ∷ items) (suc j) zero h = absurd (omega (arith, h))
times-take_less n (item ∷ items) (suc j) (suc i) h =
    omega (
      arith,
      times-take_less n items j i (omega (arith, h)),
      times-append n (number_of item.frame) (numbers (take j items)),
      times-append n (number_of item.frame) (numbers (take i items)),
    )

-- ---- what holds of each item

got : (items : List Item) (i : ℕ) (item d : Item) → slice_get items i ≡ Some item → get_or items i d ≡ item
got [] i item d h = absurd (cc)
got (y ∷ ys) zero item d h = cc
got (y ∷ ys) (suc i) item d h = got ys i item d h

abbrev pub HoldsBefore : (Item → Type 0) → List Item → ℕ → Type 0
HoldsBefore P items i = (k : ℕ) (d : Item) → k < i → P (get_or items k d)

pub one_holds : (P : Item → Type 0) (items : List Item) (i : ℕ) (item : Item) → slice_get items i ≡ Some item → P item → HoldsBefore P items i → HoldsBefore P items (i + 1)
one_holds P items i item e holds h k d within = ⊎_elim
    (λ (same : k ≡ i). subst (λ j. P (get_or items j d)) (sym same) (subst P (sym (got items i item d e)) holds))
    (λ (other : k ≡ i → ⊥). h k d (omega (arith, within, other)))
    (cases_eq k i)

-- ---- the frames of the first items

pub few_here : (n m : ℕ) (frame : Option Frame) (before has : ℕ) → option_map (λ (f : Frame). f.number) frame ≡ Some m
    → before ≤ has → (n ≡ m → (has ≡ 1) × (before ≡ 0)) → before + times n (number_of frame) ≤ has
few_here n m None before has e h here = absurd (cc)
few_here n m (Some f) before has e h here =
    let same : f.number ≡ m = cc in
    ⊎_elim
    (λ (q : f.number ≡ n). let at = here (sym q ∙ same) in omega (arith, at.0, at.1, ap {B = ℕ} (λ b. cond b 1 0) (eq-eqb f.number n q)))
    (λ (q : f.number ≡ n → ⊥). omega (arith, h, ap {B = ℕ} (λ b. cond b 1 0) (ne_eqb f.number n q)))
    (cases_eq f.number n)

pub none_here : (n : ℕ) (frame : Option Frame) → option_map (λ (f : Frame). f.number) frame ≡ None → times n (number_of frame) ≡ 0
none_here n None h = refl
none_here n (Some f) h = absurd (cc)

-- the last item of a list is the one behind which nothing is left
pub last_is : {X : Type 0} (xs : List X) (i count : ℕ) → count ≡ length xs → i < count → eqb (i + 1) count ≡ true ↔ (drop (i + 1) xs ≡ [])
last_is xs i count e h = (
  λ yes. nothing (drop (i + 1) xs) (omega (arith, e, eqb-true (i + 1) count yes, length-drop (i + 1) xs)),
  λ none. eq-eqb (i + 1) count (omega (arith, e, h, length-drop (i + 1) xs, ap length none)),
)
  where
    nothing : {X : Type 0} (ys : List X) → length ys ≡ 0 → ys ≡ []
    nothing [] k = refl
    nothing (y ∷ ys) k = absurd (omega (arith, k))

-- ---- the first packet

packet_step : (desc : XdpDesc) (descs : List XdpDesc) (item : Item) (items : List Item) (last : Bool) → last ≡ true ↔ (items ≡ [])
    → IsPacket (desc ∷ descs) (item ∷ items) ↔ (IsNext desc last item × IsPacket descs items)
packet_step desc descs item [] true h = (
  λ p. (record { address = p.0; ends = λ _. p.1; goes_on = λ (e : true ≡ false). absurd (cc) }, tt),
  λ p. (p.0.address, p.0.ends refl),
)
packet_step desc descs item [] false h = absurd (let e : false ≡ true = h.1 refl in cc)
packet_step desc descs item (next ∷ items) true h = absurd (let e : next ∷ items ≡ [] = h.0 refl in cc)
packet_step desc descs item (next ∷ items) false h = (
  λ p. (record { address = p.0; ends = λ (e : false ≡ true). absurd (cc); goes_on = λ _. p.1 }, p.2),
  λ p. (p.0.address, p.0.goes_on refl, p.1),
)

pub packet_at : (descs : List XdpDesc) (items : List Item) (i count : ℕ) (desc : XdpDesc) (item : Item) → count ≡ length items → i < count
    → slice_get descs i ≡ Some desc → slice_get items i ≡ Some item
    → IsPacket (drop i descs) (drop i items) ↔ (IsNext desc (eqb (i + 1) count) item × IsPacket (drop (i + 1) descs) (drop (i + 1) items))
packet_at descs items i count desc item e h at on =
    let step = packet_step desc (drop (i + 1) descs) item (drop (i + 1) items) (eqb (i + 1) count) (last_is items i count e h) in
    subst (λ xs. IsPacket xs (drop i items) ↔ (IsNext desc (eqb (i + 1) count) item × IsPacket (drop (i + 1) descs) (drop (i + 1) items))) (sym (first_left descs i desc at))
    (subst (λ xs. IsPacket (desc ∷ drop (i + 1) descs) xs ↔ (IsNext desc (eqb (i + 1) count) item × IsPacket (drop (i + 1) descs) (drop (i + 1) items))) (sym (first_left items i item on)) step)

pub has_few : (sources : List (Option Ring)) (n : ℕ) → has sources n ≤ 1
has_few sources n = at_most (is_some (slice_index_or sources n None))
  where
    at_most : (b : Bool) → cond b 1 0 ≤ 1
    at_most true = omega arith
    at_most false = omega arith

pub pieces_at : (g : Geometry) (sg : Bool) (items : List Item) (i count : ℕ) (item : Item) → count ≡ length items → i < count → slice_get items i ≡ Some item
    → ArePieces g sg (drop i items) ↔ (IsPiece g sg (eqb (i + 1) count) item × ArePieces g sg (drop (i + 1) items))
pieces_at g sg items i count item e h at =
    subst (λ xs. ArePieces g sg xs ↔ (IsPiece g sg (eqb (i + 1) count) item × ArePieces g sg (drop (i + 1) items))) (sym (first_left items i item at))
    (pieces_step g sg item (drop (i + 1) items) (eqb (i + 1) count) (last_is items i count e h))

pub no_desc : (descs : List XdpDesc) (items : List Item) (i : ℕ) → slice_get descs i ≡ None → i < length items → IsPacket (drop i descs) (drop i items) → ⊥
no_desc descs [] i e h p = absurd (omega (arith, h))
no_desc [] (x ∷ xs) zero e h p = p
no_desc [] (x ∷ xs) (suc zero) e h p = no_desc [] xs zero refl (omega (arith, h)) p
no_desc [] (x ∷ xs) (suc (suc i)) e h p = no_desc [] xs (suc i) refl (omega (arith, h)) p
no_desc (d ∷ ds) (x ∷ xs) zero e h p = absurd (cc)
no_desc (d ∷ ds) (x ∷ xs) (suc i) e h p = no_desc ds xs i e (omega (arith, h)) p
