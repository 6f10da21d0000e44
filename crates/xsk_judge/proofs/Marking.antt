-- What is kept of frames behind the entries of a call.
use Rattle.std.proofs.Common.{◌≡◌, ◌≢◌, ℕ, suc, ◌+◌, ◌*◌, ◌<◌, ◌≤◌, ◌⊎◌, Bool, true, false, ◌&&◌, ◌==◌, cond, List, [], ◌∷◌, ◌++◌, length, take, get_or, set, refl, sym, ap, ◌∙◌, subst, arith, ⊎_elim, inl, inr, get_or-set_same, get_or-set_other, length-set}
use Rattle.std.specs.Prelude.{nat_lt, IsTrue}
use Rattle.std.proofs.lemmas.Bool.Decides.{nat_tests}
use Rattle.std.proofs.lemmas.List.{take_more}
use Rattle.std.proofs.Math.Nat.{div-lt_iff_lt-mul}
use Rattle.xsk_umem.specs.declared.batch.XdpDesc.{XdpDesc}
use Rattle.xsk_model.specs.Descriptor.{is_inside}
use Rattle.xsk_side.specs.Setting.{Setting}
use Rattle.xsk_side.specs.Entries.{frame, names, times}
use Rattle.xsk_side.proofs.Lists.{number, times-append, times-split}
use Rattle.xsk_side.proofs.Given.{some_or_none}
use Rattle.xsk_judge.specs.declared.known.Known.{Known}
use Rattle.xsk_umem.specs.Geometry.{area_of}
use Rattle.xsk_model.specs.declared.call.Ring.{Ring}
use Rattle.xsk_judge.specs.Kept.{is_mine, known_in}
use Rattle.xsk_judge.specs.Judging.{IsMineAt, AreMine, marked, given, set_known}

pub length-set_known : (s : Setting) (frames : List Known) (e : XdpDesc) (known : Known) → length (set_known s frames e known) ≡ length frames
length-set_known s frames e known = either (is_inside s.geometry e) (length-set frames (frame s e) known)
  where
    either : (b : Bool) → length (set frames (frame s e) known) ≡ length frames → length (cond b (set frames (frame s e) known) frames) ≡ length frames
    either true h = h
    either false h = refl

pub length-marked : (s : Setting) (known : ℕ → Known) (i : ℕ) (es : List XdpDesc) (frames : List Known) → length (marked s known i es frames) ≡ length frames
length-marked s known i [] frames = refl
length-marked s known i (e ∷ es) frames = length-marked s known (i + 1) es (set_known s frames e (known i)) ∙ length-set_known s frames e (known i)

-- one entry more
pub marked-push : (s : Setting) (known : ℕ → Known) (i : ℕ) (es : List XdpDesc) (e : XdpDesc) (frames : List Known)
    → marked s known i (es ++ e ∷ []) frames ≡ set_known s (marked s known i es frames) e (known (i + length es))
marked-push s known i [] e frames = ap (λ k. set_known s frames e (known k)) (same i)
  where
    same : (i : ℕ) → i ≡ i + 0
    same i = omega arith
marked-push s known i (x ∷ es) e frames =
    marked-push s known (i + 1) es e (set_known s frames x (known i))
    ∙ ap (λ k. set_known s (marked s known (i + 1) es (set_known s frames x (known i))) e (known k)) (next i (length es))
  where
    next : (i n : ℕ) → i + 1 + n ≡ i + suc n
    next i n = omega arith

-- ---- a frame after one entry

pub known-none : (s : Setting) (frames : List Known) (e : XdpDesc) (known : Known) (f : ℕ) → ◌≡◌ {A = ℕ} (number (names s f e)) 0
    → known_in (set_known s frames e known) f ≡ known_in frames f
known-none s frames e known f h = by (is_inside s.geometry e) (frame s e) h
  where
    apart : (x f : ℕ) → ◌≡◌ {A = ℕ} (number (x == f)) 0 → f ≢ x
    apart x f h = grind (arith, nat_tests, h)

    by : (b : Bool) (x : ℕ) → ◌≡◌ {A = ℕ} (number (b && x == f)) 0 → known_in (cond b (set frames x known) frames) f ≡ known_in frames f
    by false x h = refl
    by true x h = get_or-set_other frames x f known (known_in [] f) (apart x f h)

pub known-here : (s : Setting) (frames : List Known) (e : XdpDesc) (known : Known) (f : ℕ) → f < length frames → ◌≡◌ {A = ℕ} (number (names s f e)) 1
    → known_in (set_known s frames e known) f ≡ known
known-here s frames e known f low h = by (is_inside s.geometry e) (frame s e) h
  where
    same : (x f : ℕ) → ◌≡◌ {A = ℕ} (number (x == f)) 1 → x ≡ f
    same x f h = grind (arith, nat_tests, h)

    by : (b : Bool) (x : ℕ) → ◌≡◌ {A = ℕ} (number (b && x == f)) 1 → known_in (cond b (set frames x known) frames) f ≡ known
    by false x h = absurd (omega (arith, h))
    by true x h = subst (λ y. known_in (set frames y known) f ≡ known) (sym (same x f h)) (get_or-set_same frames f known (known_in [] f) low)

pub number_cases : (b : Bool) → (◌≡◌ {A = ℕ} (number b) 0) ⊎ (◌≡◌ {A = ℕ} (number b) 1)
number_cases true = inr refl
number_cases false = inl refl

-- behind entries that don't name the frame
pub marked-none : (s : Setting) (known : ℕ → Known) (i : ℕ) (es : List XdpDesc) (frames : List Known) (f : ℕ) → times s f es ≡ 0
    → known_in (marked s known i es frames) f ≡ known_in frames f
marked-none s known i [] frames f h = refl
marked-none s known i (e ∷ es) frames f h =
    marked-none s known (i + 1) es (set_known s frames e (known i)) f (omega (arith, h))
    ∙ known-none s frames e (known i) f (omega (arith, h))

-- behind entries that do, all for the same
pub marked-all : (s : Setting) (known : ℕ → Known) (k : Known) (i : ℕ) (es : List XdpDesc) (frames : List Known) (f : ℕ) → ((j : ℕ) → known j ≡ k)
    → f < length frames → 1 ≤ times s f es → known_in (marked s known i es frames) f ≡ k
marked-all s known k i [] frames f same low some = absurd (omega (arith, some))
marked-all s known k i (e ∷ es) frames f same low some = ⊎_elim
    (λ (later : 1 ≤ times s f es). marked-all s known k (i + 1) es (set_known s frames e (known i)) f same (omega (arith, low, length-set_known s frames e (known i))) later)
    (λ (none : times s f es ≡ 0).
    marked-none s known (i + 1) es (set_known s frames e (known i)) f none
    ∙ known-here s frames e (known i) f low (one_here (number (names s f e)) (times s f es) some none (number_cases (names s f e)))
    ∙ same i)
    (some_or_none (times s f es))
  where
    one_here : (a b : ℕ) → 1 ≤ a + b → b ≡ 0 → (a ≡ 0) ⊎ (a ≡ 1) → a ≡ 1
    one_here a b h k c = ⊎_elim (λ (x : a ≡ 0). absurd (omega (arith, h, k, x))) (λ (x : a ≡ 1). x) c

-- ---- the frames of a Submit

pub its_frame : (s : Setting) (e : XdpDesc) (f : ℕ) → ◌≡◌ {A = ℕ} (number (names s f e)) 1 → IsTrue (is_inside s.geometry e) × (frame s e ≡ f)
its_frame s e f h = (inside (is_inside s.geometry e) (frame s e == f) h, same (is_inside s.geometry e) (frame s e) f h)
  where
    inside : (a b : Bool) → ◌≡◌ {A = ℕ} (number (a && b)) 1 → a ≡ true
    inside a b h = grind (arith, h)

    same : (a : Bool) (x f : ℕ) → ◌≡◌ {A = ℕ} (number (a && x == f)) 1 → x ≡ f
    same a x f h = grind (arith, nat_tests, h)

pub mine_more : (s : Setting) (known : ℕ → Known) (k : Known) (frames : List Known) (es : List XdpDesc) (e : XdpDesc) → ((j : ℕ) → known j ≡ k)
    → is_mine k.place ≡ false → (IsTrue (is_inside s.geometry e) → frame s e < length frames)
    → AreMine s frames es → IsMineAt s (marked s known 0 es frames) e → AreMine s frames (es ++ e ∷ [])
mine_more s known k frames es e same mine low before here f = ⊎_elim
    (λ (none : ◌≡◌ {A = ℕ} (number (names s f e)) 0). omega (arith, times-append s f es (e ∷ []), none, before f))
    (λ (one : ◌≡◌ {A = ℕ} (number (names s f e)) 1).
    let is = its_frame s e f one in
    let low_f : f < length frames = subst (λ x. x < length frames) is.1 (low is.0) in
    let now : is_mine (known_in (marked s known 0 es frames) f).place ≡ true = subst (λ x. is_mine (known_in (marked s known 0 es frames) x).place ≡ true) is.1 (here is.0) in
    ⊎_elim
    (λ (some : 1 ≤ times s f es). absurd (both (is_mine k.place) (sym (ap (λ (x : Known). is_mine x.place) (marked-all s known k 0 es frames f same low_f some)) ∙ now) mine))
    (λ (no : times s f es ≡ 0).
    let was : is_mine (known_in frames f).place ≡ true = sym (ap (λ (x : Known). is_mine x.place) (marked-none s known 0 es frames f no)) ∙ now in
    omega (arith, times-append s f es (e ∷ []), one, no, ap number was))
    (some_or_none (times s f es)))
    (number_cases (names s f e))
  where
    both : (b : Bool) → b ≡ true → b ≡ false → ⊥
    both true h k = cc
    both false h k = cc

pub mine_not : (s : Setting) (known : ℕ → Known) (k : Known) (frames : List Known) (es : List XdpDesc) (e : XdpDesc) → ((j : ℕ) → known j ≡ k)
    → (IsTrue (is_inside s.geometry e) → frame s e < length frames)
    → (IsMineAt s (marked s known 0 es frames) e → ⊥) → AreMine s frames (es ++ e ∷ []) → ⊥
mine_not s known k frames es e same low not all = not (λ inside.
    let f = frame s e in
    let here : ◌≡◌ {A = ℕ} (number (names s f e)) 1 = its_own (is_inside s.geometry e) f inside in
    let few = all f in
    let one = times-append s f es (e ∷ []) in
    let none : times s f es ≡ 0 = none_before (times s f es) (number (is_mine (known_in frames f).place)) (times s f (es ++ e ∷ [])) (at_most_one (is_mine (known_in frames f).place)) few (omega (arith, one, here)) in
    ap (λ (x : Known). is_mine x.place) (marked-none s known 0 es frames f none)
    ∙ is_so (is_mine (known_in frames f).place) (omega (arith, few, one, here)))
  where
    its_own : (a : Bool) (x : ℕ) → a ≡ true → ◌≡◌ {A = ℕ} (number (a && x == x)) 1
    its_own a x h = grind (arith, nat_tests, h)

    at_most_one : (b : Bool) → number b ≤ 1
    at_most_one true = omega arith
    at_most_one false = omega arith

    none_before : (a m t : ℕ) → m ≤ 1 → t ≤ m → t ≡ a + 1 → a ≡ 0
    none_before a m t h k l = omega (arith, h, k, l)

    is_so : (b : Bool) → 1 ≤ number b → b ≡ true
    is_so true h = refl
    is_so false h = absurd (omega (arith, h))

-- fewer entries
pub mine_fewer : (s : Setting) (frames : List Known) (n : ℕ) (es : List XdpDesc) → AreMine s frames es → AreMine s frames (take n es)
mine_fewer s frames n es all f = omega (arith, all f, times-split s f n es)

-- ---- the loop of a Submit

pub inside_below : (s : Setting) (e : XdpDesc) → IsTrue (is_inside s.geometry e) → frame s e < s.geometry.frames
inside_below s e h =
    let low : e.addr < area_of s.geometry = lt_of e.addr (area_of s.geometry) h in
    ⊎_elim
    (λ (some : 1 ≤ s.geometry.chunk). (div-lt_iff_lt-mul some).1 low)
    (λ (none : s.geometry.chunk ≡ 0). let nothing_in : area_of s.geometry ≡ s.geometry.frames * 0 = ap (λ k. s.geometry.frames * k) none in absurd (omega (arith, low, nothing_in)))
    (some_or_none s.geometry.chunk)
  where
    lt_of : (x y : ℕ) → nat_lt x y ≡ true → x < y
    lt_of x y h = grind (arith, nat_tests, h)

abbrev pub nothing : XdpDesc
nothing = record { addr = 0; len = 0; options = 0 }

abbrev pub all_given : Ring → ℕ → ℕ → Known
all_given r line = given r line

pub give_step : (s : Setting) (r : Ring) (line : ℕ) (before now next : List Known) (es : List XdpDesc) (i : ℕ) → i < length es → length before ≡ s.geometry.frames
    → now ≡ marked s (given r line) 0 (take i es) before → AreMine s before (take i es)
    → next ≡ set_known s now (get_or es i nothing) (given r line 0) → IsMineAt s now (get_or es i nothing)
    → (next ≡ marked s (given r line) 0 (take (i + 1) es) before) × AreMine s before (take (i + 1) es)
give_step s r line before now next es i low size is mine set here =
    let e = get_or es i nothing in
    let more = take_more es i nothing low in (
      set
          ∙ ap (λ x. set_known s x e (given r line 0)) is
          ∙ sym (marked-push s (given r line) 0 (take i es) e before)
          ∙ ap (λ xs. marked s (given r line) 0 xs before) (sym more),
      subst (AreMine s before) (sym more)
          (mine_more s (given r line) (given r line 0) before (take i es) e (λ j. refl) refl
          (λ inside. omega (arith, size, inside_below s e inside)) mine (subst (λ x. IsMineAt s x e) is here)),
    )

pub give_stop : (s : Setting) (r : Ring) (line : ℕ) (before now : List Known) (es : List XdpDesc) (i : ℕ) → i < length es → length before ≡ s.geometry.frames
    → now ≡ marked s (given r line) 0 (take i es) before → (IsMineAt s now (get_or es i nothing) → ⊥) → AreMine s before es → ⊥
give_stop s r line before now es i low size is not all =
    let e = get_or es i nothing in
    mine_not s (given r line) (given r line 0) before (take i es) e (λ j. refl) (λ inside. omega (arith, size, inside_below s e inside))
    (subst (λ x. IsMineAt s x e → ⊥) is not)
    (subst (AreMine s before) (take_more es i nothing low) (mine_fewer s before (i + 1) es all))
