-- Counts of entries in lists that are made of others, and the two ends of a list.
use Rattle.std.proofs.Common.{◌≡◌, ℕ, zero, suc, ◌+◌, ◌-◌, ◌<◌, ◌≤◌, Bool, true, false, cond, Option, List, [], ◌∷◌, ◌++◌, length, take, drop, map, get_or, refl, sym, ap, ◌∙◌, arith}
use Rattle.std.proofs.lemmas.List.{take-append-drop, length-take, take-map, length-map}
use Rattle.std.specs.Prelude.{nat_lt, is_some, IsTrue}
use Rattle.std.proofs.lemmas.Bool.Decides.{nat_tests}
use Rattle.xsk_umem.specs.declared.batch.XdpDesc.{XdpDesc}
use Rattle.xsk_model.specs.Descriptor.{is_inside}
use Rattle.xsk_side.specs.Setting.{Setting}
use Rattle.xsk_side.specs.Entries.{names, frame, times, strays_in, last, but_last}

-- 1 for what is so
abbrev pub number : Bool → ℕ
number b = cond b 1 0

pub times-append : (s : Setting) (f : ℕ) (xs ys : List XdpDesc) → times s f (xs ++ ys) ≡ times s f xs + times s f ys
times-append s f [] ys = omega arith
times-append s f (x ∷ xs) ys = omega (arith, times-append s f xs ys)

pub strays-append : (s : Setting) (xs ys : List XdpDesc) → strays_in s (xs ++ ys) ≡ strays_in s xs + strays_in s ys
strays-append s [] ys = omega arith
strays-append s (x ∷ xs) ys = omega (arith, strays-append s xs ys)

pub times-split : (s : Setting) (f n : ℕ) (xs : List XdpDesc) → times s f (take n xs) + times s f (drop n xs) ≡ times s f xs
times-split s f n xs = sym (times-append s f (take n xs) (drop n xs)) ∙ ap (times s f) (take-append-drop n xs)

pub strays-split : (s : Setting) (n : ℕ) (xs : List XdpDesc) → strays_in s (take n xs) + strays_in s (drop n xs) ≡ strays_in s xs
strays-split s n xs = sym (strays-append s (take n xs) (drop n xs)) ∙ ap (strays_in s) (take-append-drop n xs)

-- what is shown is the front
pub times-front : (s : Setting) (f : ℕ) (es out : List XdpDesc) → es ≡ take (length es) out
    → times s f es + times s f (drop (length es) out) ≡ times s f out
times-front s f es out h = ap (λ x. times s f x + times s f (drop (length es) out)) h ∙ times-split s f (length es) out

pub strays-front : (s : Setting) (es out : List XdpDesc) → es ≡ take (length es) out
    → strays_in s es + strays_in s (drop (length es) out) ≡ strays_in s out
strays-front s es out h = ap (λ x. strays_in s x + strays_in s (drop (length es) out)) h ∙ strays-split s (length es) out

pub length-front : (es out : List XdpDesc) → es ≡ take (length es) out → length es ≤ length out
length-front es out h = omega (arith, ap length h, length-take (length es) out)

-- an entry in a list that names a frame
pub times-some : (s : Setting) (es : List XdpDesc) (k : ℕ) (d : XdpDesc) → k < length es → IsTrue (is_inside s.geometry (get_or es k d))
    → 1 ≤ times s (frame s (get_or es k d)) es
times-some s [] k d l h = absurd (omega arith)
times-some s (e ∷ es) zero d l h = omega (arith, its_own s e h)
  where
    its_own : (s : Setting) (e : XdpDesc) → IsTrue (is_inside s.geometry e) → ◌≡◌ {A = ℕ} (cond (names s (frame s e) e) 1 0) 1
    its_own s e h = grind (arith, nat_tests, h)
times-some s (e ∷ es) (suc k) d l h = omega (arith, times-some s es k d (omega arith) h)

-- ---- the ends of a list

pub last-and_before : {X : Type 0} (n : ℕ) (xs : List X) → but_last n xs ++ last n xs ≡ xs
last-and_before n xs = take-append-drop (length xs - n) xs

pub drop-map : {X Y : Type 0} (f : X → Y) (n : ℕ) (xs : List X) → drop n (map f xs) ≡ map f (drop n xs)
drop-map f zero xs = refl
drop-map f (suc n) [] = refl
drop-map f (suc n) (x ∷ xs) = drop-map f n xs

pub last-map : {X Y : Type 0} (f : X → Y) (n : ℕ) (xs : List X) → last n (map f xs) ≡ map f (last n xs)
last-map f n xs = ap (λ k. drop (k - n) (map f xs)) (length-map xs f) ∙ drop-map f (length xs - n) xs

pub but_last-map : {X Y : Type 0} (f : X → Y) (n : ℕ) (xs : List X) → but_last n (map f xs) ≡ map f (but_last n xs)
but_last-map f n xs = ap (λ k. take (k - n) (map f xs)) (length-map xs f) ∙ take-map f (length xs - n) xs

-- ---- what a frame's move makes of a number of 0 or 1

pub gone : (t : ℕ) (b : Bool) → t ≤ number b → number (cond (nat_lt 0 t) false b) + t ≡ number b
gone t b h = grind (arith, nat_tests)

pub come : (t : ℕ) (b : Bool) → t + number b ≤ 1 → number (cond (nat_lt 0 t) true b) ≡ number b + t
come t b h = grind (arith, nat_tests)

pub some-cond : {X : Type 0} (b : Bool) (x y : Option X) → is_some (cond b x y) ≡ cond b (is_some x) (is_some y)
some-cond true x y = refl
some-cond false x y = refl
