-- How many frames are on FILL behind a call.
use Rattle.std.proofs.Common.{◌≡◌, ◌∙◌, refl, sym, ap, subst, ℕ, zero, suc, ◌+◌, ◌-◌, ◌*◌, ◌^◌, ◌==◌, ◌&&◌, ◌<◌, ◌≤◌, Bool, true, false, cond, replicate, Option, Some, None, List, [], ◌∷◌, length, drop, get_or, set, add-mul, arith, ⊎_elim, get_or-set_same, get_or-set_other, length-set, eq-eqb, ne_eqb}
use Rattle.std.specs.Prelude.{nat_lt, min}
use Rattle.std.proofs.lemmas.Bool.{cases_Bool, cases_eq}
use Rattle.std.proofs.lemmas.Bool.Decides.{nat_tests}
use Rattle.std.proofs.lemmas.List.{drop_more, get_or-replicate}
use Rattle.xsk_umem.specs.declared.batch.XdpDesc.{XdpDesc}
use Rattle.xsk_model.specs.Descriptor.{is_inside}
use Rattle.xsk_model.specs.declared.call.Ring.{Ring}
use Rattle.xsk_model.specs.declared.call.Ring.TheVariants.{Fill as FillOf, Comp, Rx, Tx}
use Rattle.xsk_model.specs.Rings.{is_ring}
use Rattle.xsk_side.specs.Setting.{Setting}
use Rattle.xsk_side.specs.Entries.{frame, names, times}
use Rattle.xsk_side.specs.Local.{given_of}
use Rattle.xsk_side.specs.declared.call.Call.{Call}
use Rattle.xsk_side.specs.declared.call.Call.TheVariants.{Submit, Peek}
use Rattle.xsk_side.proofs.Lists.{number}
use Rattle.xsk_side.specs.Setting.{IsSetting}
use Rattle.xsk_side.specs.Possible.{Possible, IsHistory}
use Rattle.xsk_side.specs.Object.{Entry, is_made}
use Rattle.xsk_side.specs.Own.{has_frame}
use Rattle.xsk_side.specs.Local.{back_of}
use Rattle.xsk_side.proofs.Fits.{possible_fits, shown_to}
use Rattle.xsk_side.proofs.Given.{given_sound, some_or_none, some_stand, no_stand}
use Rattle.xsk_side.proofs.Lists.{times-split}
use Rattle.xsk_side.proofs.Rings.{is_true, is_false}
use Rattle.xsk_judge.specs.Stands.{Line, calls_of}
use Rattle.xsk_judge.proofs.Behind.{more}
use Rattle.xsk_judge.proofs.Marking.{inside_below}
use Rattle.xsk_hints.specs.declared.fills.Fill.{Fill}
use Rattle.xsk_hints.specs.Facts.{sum_below, is_by, count_on, dried_at}
use Rattle.xsk_hints.specs.Fills.{Feeds, no_fill, fill_in, one_more, one_less, raised, raised_if, raised_on, drained, drained_by, source_of_entry}
use Rattle.xsk_hints.specs.Tallies.{most, tally_of, with_line}
use Rattle.xsk_hints.proofs.Tallies.{tally_more}

-- one entry more
pub drained_more : (s : Setting) (line : ℕ) (from : ℕ → Option Ring) (es : List XdpDesc) (i : ℕ) (d : XdpDesc) (x : Option Ring) (old new first : List Fill) → i < length es
    → x ≡ source_of_entry s from (get_or es i d) → new ≡ drained_by line x old → drained s line from (drop i es) old ≡ drained s line from es first
    → drained s line from (drop (i + 1) es) new ≡ drained s line from es first
drained_more s line from es i d x old new first low told is before =
    ap (drained s line from (drop (i + 1) es)) (is ∙ ap (λ y. drained_by line y old) told)
    ∙ sym (ap (λ xs. drained s line from xs old) (drop_more es i d low))
    ∙ before

-- ---- sums

sum_same : (g h : ℕ → ℕ) (n : ℕ) → ((f : ℕ) → f < n → g f ≡ h f) → sum_below g n ≡ sum_below h n
sum_same g h zero same = refl
sum_same g h (suc n) same = omega (arith, sum_same g h n (λ f low. same f (omega (arith, low))), same n (omega arith))

sum_both : (g h : ℕ → ℕ) (n : ℕ) → sum_below (λ f. g f + h f) n ≡ sum_below g n + sum_below h n
sum_both g h zero = refl
sum_both g h (suc n) = omega (arith, sum_both g h n)

sum_none : (g : ℕ → ℕ) (n : ℕ) → ((f : ℕ) → f < n → g f ≡ 0) → sum_below g n ≡ 0
sum_none g zero none = refl
sum_none g (suc n) none = omega (arith, sum_none g n (λ f low. none f (omega (arith, low))), none n (omega arith))

sum_one : (g : ℕ → ℕ) (n x : ℕ) → x < n → ((f : ℕ) → (f ≡ x → ⊥) → g f ≡ 0) → sum_below g n ≡ g x
sum_one g zero x low none = absurd (omega (arith, low))
sum_one g (suc n) x low none = ⊎_elim
    (λ (e : n ≡ x). subst (λ y. sum_below g n + g n ≡ g y) e (omega (arith, sum_none g n (λ f below. none f (λ k. absurd (omega (arith, below, k, e)))))))
    (λ (off : n ≡ x → ⊥). omega (arith, sum_one g n x (omega (arith, low, off)) none, none n off))
    (cases_eq n x)

-- the frames that entries name, each as often, by a number of 0 or more for each
abbrev sum_named : Setting → (ℕ → ℕ) → List XdpDesc → ℕ
sum_named s g [] = 0
sum_named s g (e ∷ es) = cond (is_inside s.geometry e) (g (frame s e)) 0 + sum_named s g es

one_named : (s : Setting) (g : ℕ → ℕ) (e : XdpDesc) → sum_below (λ f. number (names s f e) * g f) s.geometry.frames ≡ cond (is_inside s.geometry e) (g (frame s e)) 0
one_named s g e = ⊎_elim
    (λ (inside : is_inside s.geometry e ≡ true).
    sum_one (λ f. number (names s f e) * g f) s.geometry.frames (frame s e) (inside_below s e inside) (λ f off. none (is_inside s.geometry e) (frame s e) f (g f) (λ k. off (sym k)))
    ∙ here (is_inside s.geometry e) (frame s e) (g (frame s e)) inside
    ∙ sym (is_true (is_inside s.geometry e) (g (frame s e)) 0 inside))
    (λ (outside : is_inside s.geometry e ≡ false).
    sum_none (λ f. number (names s f e) * g f) s.geometry.frames (λ f low. off (is_inside s.geometry e) (frame s e == f) (g f) outside)
    ∙ sym (is_false (is_inside s.geometry e) (g (frame s e)) 0 outside))
    (cases_Bool (is_inside s.geometry e))
  where
    zeros : (n : ℕ) → 0 * n ≡ 0
    zeros n = omega arith

    ones : (n : ℕ) → 1 * n ≡ n
    ones n = omega arith

    none : (b : Bool) (x f y : ℕ) → (x ≡ f → ⊥) → number (b && x == f) * y ≡ 0
    none true x f y off = ap (λ (c : Bool). number c * y) (ne_eqb x f off) ∙ zeros y
    none false x f y off = zeros y

    here : (b : Bool) (x y : ℕ) → b ≡ true → number (b && x == x) * y ≡ y
    here b x y h = ap (λ (c : Bool). number (c && x == x) * y) h ∙ ap (λ (c : Bool). number c * y) (eq-eqb x x refl) ∙ ones y

    off : (b c : Bool) (y : ℕ) → b ≡ false → number (b && c) * y ≡ 0
    off b c y h = ap (λ (a : Bool). number (a && c) * y) h ∙ zeros y

pub named_sum : (s : Setting) (g : ℕ → ℕ) (es : List XdpDesc) → sum_below (λ f. times s f es * g f) s.geometry.frames ≡ sum_named s g es
named_sum s g [] = sum_none (λ f. 0 * g f) s.geometry.frames (λ f low. zeros (g f))
  where
    zeros : (n : ℕ) → 0 * n ≡ 0
    zeros n = omega arith
named_sum s g (e ∷ es) =
    sum_same (λ f. times s f (e ∷ es) * g f) (λ f. number (names s f e) * g f + times s f es * g f) s.geometry.frames (λ f low. spread (number (names s f e)) (times s f es) (g f))
    ∙ sum_both (λ f. number (names s f e) * g f) (λ f. times s f es * g f) s.geometry.frames
    ∙ ap (λ n. n + sum_below (λ f. times s f es * g f) s.geometry.frames) (one_named s g e)
    ∙ ap (λ n. cond (is_inside s.geometry e) (g (frame s e)) 0 + n) (named_sum s g es)
  where
    spread : (a b c : ℕ) → (a + b) * c ≡ a * c + b * c
    spread a b c = add-mul a b c

-- ---- one frame

submit_frame : (r q : Ring) (t : ℕ) (x : Option Ring) → t ≤ 1 → (1 ≤ t → x ≡ None) → number (is_by r (cond (nat_lt 0 t) (Some q) x)) ≡ number (is_by r x) + t * number (is_ring r q)
submit_frame r q t x few none = ⊎_elim
    (λ (some : 1 ≤ t).
    let one : t ≡ 1 = omega (arith, some, few) in
    ap (λ (z : Option Ring). number (is_by r z)) (some_stand t (Some q) x some)
    ∙ sym (ap (λ (z : Option Ring). number (is_by r z) + t * number (is_ring r q)) (none some) ∙ ap (λ k. 0 + k * number (is_ring r q)) one ∙ once (number (is_ring r q))))
    (λ (no : t ≡ 0).
    ap (λ (z : Option Ring). number (is_by r z)) (no_stand t (Some q) x no)
    ∙ sym (ap (λ k. number (is_by r x) + k * number (is_ring r q)) no ∙ never (number (is_by r x)) (number (is_ring r q))))
    (some_or_none t)
  where
    once : (n : ℕ) → 0 + 1 * n ≡ n
    once n = omega arith

    never : (m n : ℕ) → m + 0 * n ≡ m
    never m n = omega arith

peek_frame : (r : Ring) (t : ℕ) (x : Option Ring) → (is_by r x ≡ true → t ≤ 1) → number (is_by r (cond (nat_lt 0 t) None x)) + t * number (is_by r x) ≡ number (is_by r x)
peek_frame r t x few = ⊎_elim
    (λ (some : 1 ≤ t).
    ap (λ (z : Option Ring). number (is_by r z) + t * number (is_by r x)) (some_stand t None x some) ∙ by (is_by r x) some few)
    (λ (no : t ≡ 0).
    ap (λ (z : Option Ring). number (is_by r z) + t * number (is_by r x)) (no_stand t None x no)
    ∙ ap (λ k. number (is_by r x) + k * number (is_by r x)) no ∙ never (number (is_by r x)) (number (is_by r x)))
    (some_or_none t)
  where
    never : (m n : ℕ) → m + 0 * n ≡ m
    never m n = omega arith

    by : (b : Bool) → 1 ≤ t → (b ≡ true → t ≤ 1) → 0 + t * number b ≡ number b
    by true some few = let one = few refl in omega (arith, some, one)
    by false some few = omega arith

-- ---- the frames of a ring

pub count_submit : (s : Setting) (r q : Ring) (es : List XdpDesc) (calls : List Call) → ((f : ℕ) → times s f es ≤ 1) → ((f : ℕ) → 1 ≤ times s f es → given_of s calls f ≡ None)
    → count_on s r (Submit q es ∷ calls) ≡ count_on s r calls + sum_named s (λ f. number (is_ring r q)) es
count_submit s r q es calls few none =
    sum_same (λ f. number (is_by r (given_of s (Submit q es ∷ calls) f))) (λ f. number (is_by r (given_of s calls f)) + times s f es * number (is_ring r q)) s.geometry.frames
    (λ f low. submit_frame r q (times s f es) (given_of s calls f) (few f) (none f))
    ∙ sum_both (λ f. number (is_by r (given_of s calls f))) (λ f. times s f es * number (is_ring r q)) s.geometry.frames
    ∙ ap (λ n. count_on s r calls + n) (named_sum s (λ f. number (is_ring r q)) es)

pub count_peek : (s : Setting) (r q : Ring) (n : ℕ) (es : List XdpDesc) (calls : List Call) → ((f : ℕ) → is_by r (given_of s calls f) ≡ true → times s f es ≤ 1)
    → count_on s r (Peek q n es ∷ calls) + sum_named s (λ f. number (is_by r (given_of s calls f))) es ≡ count_on s r calls
count_peek s r q n es calls few =
    ap (λ k. count_on s r (Peek q n es ∷ calls) + k) (sym (named_sum s (λ f. number (is_by r (given_of s calls f))) es))
    ∙ sym (sum_both (λ f. number (is_by r (given_of s (Peek q n es ∷ calls) f))) (λ f. times s f es * number (is_by r (given_of s calls f))) s.geometry.frames)
    ∙ sum_same (λ f. number (is_by r (given_of s (Peek q n es ∷ calls) f)) + times s f es * number (is_by r (given_of s calls f))) (λ f. number (is_by r (given_of s calls f))) s.geometry.frames
    (λ f low. peek_frame r (times s f es) (given_of s calls f) (few f))

sum_few : (g : ℕ → ℕ) (n : ℕ) → ((f : ℕ) → g f ≤ 1) → sum_below g n ≤ n
sum_few g zero few = omega arith
sum_few g (suc n) few = omega (arith, sum_few g n few, few n)

pub count_few : (s : Setting) (r : Ring) (calls : List Call) → count_on s r calls ≤ s.geometry.frames
count_few s r calls = sum_few (λ f. number (is_by r (given_of s calls f))) s.geometry.frames (λ f. at_most (is_by r (given_of s calls f)))
  where
    at_most : (b : Bool) → number b ≤ 1
    at_most true = omega arith
    at_most false = omega arith

-- ---- what is kept behind a Submit

abbrev fill : ℕ → List ℕ → Fill
fill n dried = record { frames = n; dried = tally_of dried }

raised_one : (s : Setting) (d e : ℕ) (x : XdpDesc) (fills : List Fill) (n : ℕ) (ls : List ℕ) → d < length fills → n < most → fill_in fills d ≡ fill n ls
    → fill_in (raised_if s e x fills) d ≡ fill (n + cond (is_inside s.geometry x) (number (d == e)) 0) ls
raised_one s d e x fills n ls low few is = ⊎_elim
    (λ (inside : is_inside s.geometry x ≡ true).
    ap (λ (b : Bool). fill_in (cond b (set fills e (one_more (fill_in fills e))) fills) d) inside
    ∙ ⊎_elim
    (λ (same : d ≡ e).
    subst (λ y. fill_in (set fills y (one_more (fill_in fills y))) d ≡ fill (n + number (d == y)) ls) same
    (get_or-set_same fills d (one_more (fill_in fills d)) no_fill low
    ∙ ap one_more is
    ∙ ap (λ k. fill k ls) (up n few)
    ∙ ap (λ (b : Bool). fill (n + number b) ls) (sym (eq-eqb d d refl))))
    (λ (off : d ≡ e → ⊥).
    get_or-set_other fills e d (one_more (fill_in fills e)) no_fill off
    ∙ is
    ∙ ap (λ k. fill k ls) (stay n)
    ∙ ap (λ (b : Bool). fill (n + number b) ls) (sym (ne_eqb d e off)))
    (cases_eq d e)
    ∙ ap (λ (b : Bool). fill (n + cond b (number (d == e)) 0) ls) (sym inside))
    (λ (outside : is_inside s.geometry x ≡ false).
    ap (λ (b : Bool). fill_in (cond b (set fills e (one_more (fill_in fills e))) fills) d) outside
    ∙ is
    ∙ ap (λ k. fill k ls) (stay n)
    ∙ ap (λ (b : Bool). fill (n + cond b (number (d == e)) 0) ls) (sym outside))
    (cases_Bool (is_inside s.geometry x))
  where
    up : (n : ℕ) → n < most → min (n + 1) most ≡ n + 1
    up n few = omega (arith, few)

    stay : (n : ℕ) → n ≡ n + 0
    stay n = omega arith

length-raised_if : (s : Setting) (e : ℕ) (x : XdpDesc) (fills : List Fill) → length (raised_if s e x fills) ≡ length fills
length-raised_if s e x fills = by (is_inside s.geometry x)
  where
    by : (b : Bool) → length (cond b (set fills e (one_more (fill_in fills e))) fills) ≡ length fills
    by true = length-set fills e (one_more (fill_in fills e))
    by false = refl

pub length-raised : (s : Setting) (e : ℕ) (xs : List XdpDesc) (fills : List Fill) → length (raised s e xs fills) ≡ length fills
length-raised s e [] fills = refl
length-raised s e (x ∷ xs) fills = length-raised s e xs (raised_if s e x fills) ∙ length-raised_if s e x fills

raised_all : (s : Setting) (d e : ℕ) (xs : List XdpDesc) (fills : List Fill) (n : ℕ) (ls : List ℕ) → d < length fills → n + sum_named s (λ f. number (d == e)) xs < most → fill_in fills d ≡ fill n ls
    → fill_in (raised s e xs fills) d ≡ fill (n + sum_named s (λ f. number (d == e)) xs) ls
raised_all s d e [] fills n ls low few is = is ∙ ap (λ k. fill k ls) (stay n)
  where
    stay : (n : ℕ) → n ≡ n + 0
    stay n = omega arith
raised_all s d e (x ∷ xs) fills n ls low few is =
    let one = cond (is_inside s.geometry x) (number (d == e)) 0 in
    let rest = sum_named s (λ f. number (d == e)) xs in
    raised_all s d e xs (raised_if s e x fills) (n + one) ls (omega (arith, low, length-raised_if s e x fills)) (omega (arith, few))
    (raised_one s d e x fills n ls low (omega (arith, few)) is)
    ∙ ap (λ k. fill k ls) (joined n one rest)
  where
    joined : (a b c : ℕ) → a + b + c ≡ a + (b + c)
    joined a b c = omega arith

-- ---- and behind a Peek

abbrev lower_times : ℕ → ℕ → Fill → Fill
lower_times line zero f = f
lower_times line (suc k) f = lower_times line k (one_less line f)

lower_both : (line a b : ℕ) (f : Fill) → lower_times line (a + b) f ≡ lower_times line b (lower_times line a f)
lower_both line zero b f = let e : 0 + b ≡ b = omega arith in ap (λ k. lower_times line k f) e
lower_both line (suc a) b f = let e : suc a + b ≡ suc (a + b) = omega arith in ap (λ k. lower_times line k f) e ∙ lower_both line a b (one_less line f)

drained_one : (line d : ℕ) (x : Option Ring) (fills : List Fill) → d < length fills → fill_in (drained_by line x fills) d ≡ lower_times line (number (is_by (FillOf d) x)) (fill_in fills d)
drained_one line d None fills low = refl
drained_one line d (Some (Comp e)) fills low = refl
drained_one line d (Some (Rx e)) fills low = refl
drained_one line d (Some (Tx e)) fills low = refl
drained_one line d (Some (FillOf e)) fills low = ⊎_elim
    (λ (same : d ≡ e).
    subst (λ y. fill_in (set fills y (one_less line (fill_in fills y))) d ≡ lower_times line (number (d == y)) (fill_in fills d)) same
    (get_or-set_same fills d (one_less line (fill_in fills d)) no_fill low ∙ ap (λ (b : Bool). lower_times line (number b) (fill_in fills d)) (sym (eq-eqb d d refl))))
    (λ (off : d ≡ e → ⊥).
    get_or-set_other fills e d (one_less line (fill_in fills e)) no_fill off ∙ ap (λ (b : Bool). lower_times line (number b) (fill_in fills d)) (sym (ne_eqb d e off)))
    (cases_eq d e)

length-drained_by : (line : ℕ) (x : Option Ring) (fills : List Fill) → length (drained_by line x fills) ≡ length fills
length-drained_by line None fills = refl
length-drained_by line (Some (FillOf e)) fills = length-set fills e (one_less line (fill_in fills e))
length-drained_by line (Some (Comp e)) fills = refl
length-drained_by line (Some (Rx e)) fills = refl
length-drained_by line (Some (Tx e)) fills = refl

pub length-drained : (s : Setting) (line : ℕ) (from : ℕ → Option Ring) (es : List XdpDesc) (fills : List Fill) → length (drained s line from es fills) ≡ length fills
length-drained s line from [] fills = refl
length-drained s line from (e ∷ es) fills = length-drained s line from es (drained_by line (source_of_entry s from e) fills) ∙ length-drained_by line (source_of_entry s from e) fills

drained_all : (s : Setting) (line d : ℕ) (from : ℕ → Option Ring) (es : List XdpDesc) (fills : List Fill) → d < length fills
    → fill_in (drained s line from es fills) d ≡ lower_times line (sum_named s (λ f. number (is_by (FillOf d) (from f))) es) (fill_in fills d)
drained_all s line d from [] fills low = refl
drained_all s line d from (e ∷ es) fills low =
    let x = source_of_entry s from e in
    let rest = sum_named s (λ f. number (is_by (FillOf d) (from f))) es in
    drained_all s line d from es (drained_by line x fills) (omega (arith, low, length-drained_by line x fills))
    ∙ ap (lower_times line rest) (drained_one line d x fills low ∙ ap (λ k. lower_times line k (fill_in fills d)) (named (is_inside s.geometry e) (from (frame s e))))
    ∙ sym (lower_both line (cond (is_inside s.geometry e) (number (is_by (FillOf d) (from (frame s e)))) 0) rest (fill_in fills d))
  where
    named : (b : Bool) (y : Option Ring) → number (is_by (FillOf d) (cond b y None)) ≡ cond b (number (is_by (FillOf d) y)) 0
    named true y = refl
    named false y = refl

-- so many fewer frames, and one line more where there is none then
abbrev lowered : ℕ → ℕ → ℕ → List ℕ → Fill
lowered line n k ls = fill (n - k) (cond (nat_lt 0 n && (n - k) == 0) (line ∷ ls) ls)

lower_is : (line k n : ℕ) (ls : List ℕ) → k ≤ n → lower_times line k (fill n ls) ≡ lowered line n k ls
lower_is line zero n ls few =
    let same : n - 0 ≡ n = omega arith in
    ap (λ m. fill m ls) (sym same) ∙ ap (fill (n - 0)) (sym (is_false (nat_lt 0 n && (n - 0) == 0) (line ∷ ls) ls (alive n)))
  where
    alive : (n : ℕ) → (nat_lt 0 n && (n - 0) == 0) ≡ false
    alive n = grind (arith, nat_tests)
lower_is line (suc k) zero ls few = absurd (omega (arith, few))
lower_is line (suc k) (suc n) ls few = ⊎_elim
    (λ (last : n ≡ 0).
    let none : k ≡ 0 = omega (arith, few, last) in
    subst (λ m. lower_times line (suc k) (fill (suc m) ls) ≡ lowered line (suc m) (suc k) ls) (sym last)
    (subst (λ m. lower_times line (suc m) (fill 1 ls) ≡ lowered line 1 (suc m) ls) (sym none) (ap (λ t. record { frames = 0; dried = t }) (tally_more line ls))))
    (λ (more_left : n ≡ 0 → ⊥).
    ap (lower_times line k) (one_off n more_left)
    ∙ lower_is line k n ls (omega (arith, few))
    ∙ by_number (n - k) (suc n - suc k) (nat_lt 0 n) (nat_lt 0 (suc n)) (omega arith) (pos n more_left) (pos (suc n) (λ e. absurd (omega (arith, e)))))
    (cases_eq n 0)
  where
    pos : (m : ℕ) → (m ≡ 0 → ⊥) → nat_lt 0 m ≡ true
    pos m h = grind (arith, nat_tests, h)

    by_number : (a b : ℕ) (p q : Bool) → a ≡ b → p ≡ true → q ≡ true → fill a (cond (p && a == 0) (line ∷ ls) ls) ≡ fill b (cond (q && b == 0) (line ∷ ls) ls)
    by_number a b p q e h k =
        ap (λ (c : Bool). fill a (cond (c && a == 0) (line ∷ ls) ls)) (h ∙ sym k) ∙ ap (λ m. fill m (cond (q && m == 0) (line ∷ ls) ls)) e

    one_off : (n : ℕ) → (n ≡ 0 → ⊥) → one_less line (fill (suc n) ls) ≡ fill n ls
    one_off n h =
        let less : suc n - 1 ≡ n = omega arith in
        is_false (suc n == 0) (fill (suc n) ls) _ (ne_eqb (suc n) 0 (λ e. absurd (omega (arith, e))))
        ∙ ap (λ (b : Bool). record { frames = suc n - 1; dried = cond b (with_line line (tally_of ls)) (tally_of ls) }) (ne_eqb (suc n) 1 (λ e. h (omega (arith, e))))
        ∙ ap (λ m. fill m ls) less

-- ---- calls

-- a call that takes no last frame
kept_at : (s : Setting) (d line n : ℕ) (call : Call) (lines : List Line) (fills : List Fill) → fill_in fills d ≡ fill n (dried_at s (FillOf d) lines)
    → count_on s (FillOf d) (call ∷ calls_of lines) ≡ n → (nat_lt 0 (count_on s (FillOf d) (calls_of lines)) && n == 0) ≡ false
    → fill_in fills d ≡ fill (count_on s (FillOf d) (call ∷ calls_of lines)) (dried_at s (FillOf d) (more line call lines))
kept_at s d line n call lines fills is count alive =
    let r = FillOf d in
    is
    ∙ ap (λ k. fill k (dried_at s r lines)) (sym count)
    ∙ ap (fill (count_on s r (call ∷ calls_of lines)))
    (sym (is_false (nat_lt 0 (count_on s r (calls_of lines)) && count_on s r (call ∷ calls_of lines) == 0) (line ∷ dried_at s r lines) (dried_at s r lines)
    (ap (λ k. nat_lt 0 (count_on s r (calls_of lines)) && k == 0) count ∙ alive)))

unchanged : (c : ℕ) → (nat_lt 0 c && c == 0) ≡ false
unchanged c = grind (arith, nat_tests)

pub feeds_plain : (s : Setting) (line : ℕ) (call : Call) (lines : List Line) (fills : List Fill) → ((d : ℕ) → count_on s (FillOf d) (call ∷ calls_of lines) ≡ count_on s (FillOf d) (calls_of lines))
    → Feeds s fills lines → Feeds s fills (more line call lines)
feeds_plain s line call lines fills same now d low =
    kept_at s d line (count_on s (FillOf d) (calls_of lines)) call lines fills (now d low) (same d) (unchanged (count_on s (FillOf d) (calls_of lines)))

setting_in : (s : Setting) (h : List Entry) → IsHistory s h → IsSetting s
setting_in s [] legal = legal
setting_in s (e ∷ past) legal = setting_in s past legal.0

frames_few : (s : Setting) (calls : List Call) → Possible s calls → s.geometry.frames ≤ 2 ^ 20
frames_few s calls possible = (setting_in s possible.history possible.legal).umem.frames.1

record Given (s : Setting) (calls : List Call) : Type 0 where
  had : (f : ℕ) → has_frame s f calls ≡ true → given_of s calls f ≡ None
  again : (r : Ring) → is_made r ≡ false → (f : ℕ) → 1 ≤ times s f (back_of s r calls) → given_of s calls f ≡ None

given_facts : (s : Setting) (calls : List Call) → Possible s calls → Given s calls
given_facts s calls possible =
    let sound = given_sound s possible.history possible.legal in
    subst (Given s) possible.own (record { had = sound.had; again = λ r unmade. (sound.rest r unmade).again })

is_so : (b : Bool) (t : ℕ) → 1 ≤ t → t ≤ number b → b ≡ true
is_so true t h k = refl
is_so false t h k = absurd (omega (arith, h, k))

at_most_one : (b : Bool) (t : ℕ) → t ≤ number b → t ≤ 1
at_most_one true t h = h
at_most_one false t h = omega (arith, h)

submit_count : (s : Setting) (r q : Ring) (es : List XdpDesc) (calls : List Call) → Possible s calls → Possible s (Submit q es ∷ calls)
    → count_on s r (Submit q es ∷ calls) ≡ count_on s r calls + sum_named s (λ f. number (is_ring r q)) es
submit_count s r q es calls before now =
    let frames = (possible_fits s (Submit q es ∷ calls) now).1.legal.frames in
    let facts = given_facts s calls before in
    count_submit s r q es calls
    (λ f. at_most_one (has_frame s f calls) (times s f es) (frames f))
    (λ f some. facts.had f (is_so (has_frame s f calls) (times s f es) some (frames f)))

pub feeds_submit : (s : Setting) (line e : ℕ) (es : List XdpDesc) (lines : List Line) (fills : List Fill) → Possible s (calls_of lines) → Possible s (Submit (FillOf e) es ∷ calls_of lines)
    → length fills ≡ length s.pairs → Feeds s fills lines → Feeds s (raised s e es fills) (more line (Submit (FillOf e) es) lines)
feeds_submit s line e es lines fills before possible size now d low =
    let r = FillOf d in
    let call = Submit (FillOf e) es in
    let n = count_on s r (calls_of lines) in
    let k = sum_named s (λ f. number (d == e)) es in
    let count = submit_count s r (FillOf e) es (calls_of lines) before possible in
    kept_at s d line (n + k) call lines (raised s e es fills)
    (raised_all s d e es fills n (dried_at s r lines) (omega (arith, low, size)) (omega (arith, count, count_few s r (call ∷ calls_of lines), frames_few s (calls_of lines) before)) (now d low))
    count (alive n k)
  where
    alive : (n k : ℕ) → (nat_lt 0 n && n + k == 0) ≡ false
    alive n k = grind (arith, nat_tests)

named_none : (s : Setting) (es : List XdpDesc) → sum_named s (λ f. 0) es ≡ 0
named_none s [] = refl
named_none s (e ∷ es) = omega (arith, named_none s es, by (is_inside s.geometry e))
  where
    by : (b : Bool) → ◌≡◌ {A = ℕ} (cond b 0 0) 0
    by true = refl
    by false = refl

other_submit : (s : Setting) (line : ℕ) (q : Ring) (es : List XdpDesc) (lines : List Line) (fills : List Fill) → ((d : ℕ) → is_ring (FillOf d) q ≡ false)
    → Possible s (calls_of lines) → Possible s (Submit q es ∷ calls_of lines) → Feeds s fills lines → Feeds s fills (more line (Submit q es) lines)
other_submit s line q es lines fills off before possible now = feeds_plain s line (Submit q es) lines fills
    (λ d.
    submit_count s (FillOf d) q es (calls_of lines) before possible
    ∙ ap (λ (b : Bool). count_on s (FillOf d) (calls_of lines) + sum_named s (λ f. number b) es) (off d)
    ∙ omega (arith, named_none s es))
    now

peek_few : (s : Setting) (q : Ring) (n : ℕ) (es : List XdpDesc) (calls : List Call) → Possible s calls → Possible s (Peek q n es ∷ calls)
    → (r : Ring) (f : ℕ) → is_by r (given_of s calls f) ≡ true → times s f es ≤ 1
peek_few s q n es calls before now r f by =
    let fits = (possible_fits s (Peek q n es ∷ calls) now).1 in
    let back = back_of s q calls in
    let facts = given_facts s calls before in
    ⊎_elim
    (λ (some : 1 ≤ times s f back). absurd (never (ap (is_by r) (facts.again q (shown_to q fits.legal.role) f some)) by))
    (λ (none : times s f back ≡ 0).
    omega (arith, times-split s f (length back) es, times-split s f (length es) back, ap (times s f) fits.reply.again, none, fits.reply.once f))
    (some_or_none (times s f back))
  where
    never : {b : Bool} → b ≡ false → b ≡ true → ⊥
    never h k = cc

pub feeds_peek : (s : Setting) (line : ℕ) (q : Ring) (n : ℕ) (es : List XdpDesc) (lines : List Line) (fills : List Fill) → Possible s (calls_of lines) → Possible s (Peek q n es ∷ calls_of lines)
    → length fills ≡ length s.pairs → Feeds s fills lines → Feeds s (drained s line (given_of s (calls_of lines)) es fills) (more line (Peek q n es) lines)
feeds_peek s line q n es lines fills before possible size now d low =
    let r = FillOf d in
    let calls = calls_of lines in
    let c = count_on s r calls in
    let k = sum_named s (λ f. number (is_by r (given_of s calls f))) es in
    let count = count_peek s r q n es calls (λ f by. peek_few s q n es calls before possible r f by) in
    let left : c - k ≡ count_on s r (Peek q n es ∷ calls) = omega (arith, count) in
    drained_all s line d (given_of s calls) es fills (omega (arith, low, size))
    ∙ ap (lower_times line k) (now d low)
    ∙ lower_is line k c (dried_at s r lines) (omega (arith, count))
    ∙ ap (λ m. fill m (cond (nat_lt 0 c && m == 0) (line ∷ dried_at s r lines) (dried_at s r lines))) left

pub feeds_first : (s : Setting) (fills : List Fill) → fills ≡ replicate (length s.pairs) no_fill → Feeds s fills []
feeds_first s fills is d low =
    ap (λ xs. get_or xs d no_fill) is
    ∙ get_or-replicate (length s.pairs) d no_fill no_fill low
    ∙ ap (λ n. fill n []) (sym (sum_none (λ f. number (is_by (FillOf d) None)) s.geometry.frames (λ f below. refl)))

-- a Submit on whatever ring
pub feeds_submit_on : (s : Setting) (line : ℕ) (q : Ring) (es : List XdpDesc) (lines : List Line) (fills : List Fill) → Possible s (calls_of lines)
    → Possible s (Submit q es ∷ calls_of lines) → length fills ≡ length s.pairs → Feeds s fills lines → Feeds s (raised_on s q es fills) (more line (Submit q es) lines)
feeds_submit_on s line (FillOf e) es lines fills before possible size now = feeds_submit s line e es lines fills before possible size now
feeds_submit_on s line (Comp e) es lines fills before possible size now = other_submit s line (Comp e) es lines fills (λ d. refl) before possible now
feeds_submit_on s line (Rx k) es lines fills before possible size now = other_submit s line (Rx k) es lines fills (λ d. refl) before possible now
feeds_submit_on s line (Tx k) es lines fills before possible size now = other_submit s line (Tx k) es lines fills (λ d. refl) before possible now

pub length-raised_on : (s : Setting) (q : Ring) (es : List XdpDesc) (fills : List Fill) → length (raised_on s q es fills) ≡ length fills
length-raised_on s (FillOf e) es fills = length-raised s e es fills
length-raised_on s (Comp e) es fills = refl
length-raised_on s (Rx k) es fills = refl
length-raised_on s (Tx k) es fills = refl

-- the same, where call and numbers are named otherwise
pub feeds_as : (s : Setting) (line : ℕ) (call other : Call) (lines : List Line) (new fills : List Fill) → other ≡ call → new ≡ fills
    → Feeds s fills (more line call lines) → Feeds s new (more line other lines)
feeds_as s line call other lines new fills same is now =
    subst (λ (k : Call). Feeds s new (more line k lines)) (sym same) (subst (λ fs. Feeds s fs (more line call lines)) (sym is) now)
