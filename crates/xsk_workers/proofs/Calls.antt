-- How many calls were made: those of all callers together are as many as the history has.
use Rattle.std.proofs.Common.{◌≡◌, ℕ, zero, suc, ◌+◌, ◌<◌, ◌≤◌, Option, Some, None, List, [], ◌∷◌, length, get_or, set, cond, All, refl, sym, ap, ◌∙◌, arith, ⊎_elim, eq-eqb, ne_eqb}
use Rattle.std.proofs.lemmas.Bool.{cases_eq}
use Rattle.std.proofs.lemmas.List.Elements.{All-head, All-tail}
use Rattle.xsk_model.specs.Config.{callers_of}
use Rattle.xsk_model.specs.Entry.{Entry, told, own}
use Rattle.xsk_turns.specs.Statistics.{capped}
use Rattle.xsk_table.specs.Held.{Board, Holder}
use Rattle.xsk_table.specs.Closing.{EndsIn}
use Rattle.xsk_workers.specs.Gathering.{calls_in}

-- ---- of passes

-- none, where there is no pass
pub calls_none : (n : ℕ) (passes : List (Option Holder)) → ((w : ℕ) → w < length passes → get_or passes w None ≡ None) → calls_in n passes ≡ 0
calls_none n [] gone = refl
calls_none n (None ∷ passes) gone = calls_none (n + 1) passes (λ w below. gone (suc w) (omega (arith, below)))
calls_none n (Some p ∷ passes) gone = let no : Some p ≡ None = gone 0 (omega arith) in absurd cc

-- a pass more, where there was none
pub calls_more : (n k : ℕ) (passes : List (Option Holder)) (p : Holder) (who : ℕ) → who ≡ n + k → k < length passes → get_or passes k None ≡ None
    → calls_in n (set passes k (Some p)) ≡ calls_in n passes + length (own who p.view.seen)
calls_more n k [] p who is below none = absurd (omega (arith, below))
calls_more n zero (None ∷ passes) p who is below none =
    let same : length (own n p.view.seen) ≡ length (own who p.view.seen) = ap (λ j. length (own j p.view.seen)) (let at : n ≡ who = omega (arith, is) in at) in
    omega (arith, same)
calls_more n zero (Some q ∷ passes) p who is below none = let no : Some q ≡ None = none in absurd cc
calls_more n (suc k) (None ∷ passes) p who is below none = calls_more (n + 1) k passes p who (omega (arith, is)) (omega (arith, below)) none
calls_more n (suc k) (Some q ∷ passes) p who is below none =
    let more = calls_more (n + 1) k passes p who (omega (arith, is)) (omega (arith, below)) none in
    omega (arith, more)

-- ---- of a history

-- the calls of so many callers, by number from one on
abbrev counts : ℕ → ℕ → List Entry → ℕ
counts n zero h = 0
counts n (suc k) h = length (own n h) + counts (n + 1) k h

counts_none : (n k : ℕ) → counts n k [] ≡ 0
counts_none n zero = refl
counts_none n (suc k) = let rest = counts_none (n + 1) k in omega (arith, rest)

own_first : (who : ℕ) (e : Entry) (h : List Entry) → e.who ≡ who → length (own who (e ∷ h)) ≡ length (own who h) + 1
own_first who e h is = ap (λ b. length (cond b (told e ∷ own who h) (own who h))) (eq-eqb e.who who is) ∙ omega arith

own_later : (who : ℕ) (e : Entry) (h : List Entry) → (e.who ≡ who → ⊥) → length (own who (e ∷ h)) ≡ length (own who h)
own_later who e h other = ap (λ b. length (cond b (told e ∷ own who h) (own who h))) (ne_eqb e.who who other)

-- one call more is counted where its caller is one of them, and nowhere else
counts_out : (n k : ℕ) (e : Entry) (h : List Entry) → e.who < n → counts n k (e ∷ h) ≡ counts n k h
counts_out n zero e h below = refl
counts_out n (suc k) e h below =
    let here = own_later n e h (λ is. omega (arith, is, below)) in
    let rest = counts_out (n + 1) k e h (omega (arith, below)) in
    omega (arith, here, rest)

counts_in : (n k : ℕ) (e : Entry) (h : List Entry) → n ≤ e.who → e.who < n + k → counts n k (e ∷ h) ≡ counts n k h + 1
counts_in n zero e h low high = absurd (omega (arith, low, high))
counts_in n (suc k) e h low high = ⊎_elim
    (λ (is : e.who ≡ n).
    let here = own_first n e h is in
    let rest = counts_out (n + 1) k e h (omega (arith, is)) in
    omega (arith, here, rest))
    (λ (other : e.who ≡ n → ⊥).
    let here = own_later n e h other in
    let rest = counts_in (n + 1) k e h (omega (arith, low, other)) (omega (arith, high)) in
    omega (arith, here, rest))
    (cases_eq e.who n)

counts_all : (k : ℕ) (h : List Entry) → All (λ (e : Entry). e.who < k) h → counts 0 k h ≡ length h
counts_all k [] known = counts_none 0 k
counts_all k (e ∷ h) known =
    let here : e.who < k = All-head (λ (x : Entry). x.who < k) e h known in
    let one = counts_in 0 k e h (omega arith) (omega (arith, here)) in
    let rest = counts_all k h (All-tail (λ (x : Entry). x.who < k) e h known) in
    omega (arith, one, rest)

-- ---- of passes that end in a history

some_of : Holder → Option Holder → Holder
some_of d None = d
some_of d (Some p) = p

-- each pass has seen as many calls of its caller as the history has
abbrev Each : ℕ → List (Option Holder) → List Entry → Type 0
Each n passes h = (w : ℕ) → w < length passes → (p : Holder) × (get_or passes w None ≡ Some p) × ((who : ℕ) → who ≡ n + w → own who h ≡ own who p.view.seen)

calls_counts : (n : ℕ) (passes : List (Option Holder)) (h : List Entry) → Each n passes h → calls_in n passes ≡ counts n (length passes) h
unfolding some_of
calls_counts n [] h each = refl
calls_counts n (None ∷ passes) h each =
    let at = each 0 (omega arith) in
    let no : None ≡ Some at.0 = at.1 in
    absurd cc
calls_counts n (Some q ∷ passes) h each =
    let at = each 0 (omega arith) in
    let is : q ≡ at.0 = ap (some_of q) at.1 in
    let here : length (own n q.view.seen) ≡ length (own n h) = ap (λ (x : Holder). length (own n x.view.seen)) is ∙ sym (ap length (at.2 n (omega arith))) in
    let rest = calls_counts (n + 1) passes h (λ w below. let later = each (suc w) (omega (arith, below)) in (later.0, later.1, λ who e. later.2 who (omega (arith, e)))) in
    omega (arith, here, rest)

-- So the calls of all passes are as many as the history in which they end has.
module _ (b : Board) (passes : List (Option Holder)) (h : List Entry) (count : length passes ≡ callers_of b.setup.config) (there : (w : ℕ) → w < callers_of b.setup.config → (p : Holder) × (get_or passes w None ≡ Some p))
    (ends : EndsIn b passes h) (callers : All (λ (e : Entry). e.who < callers_of b.setup.config) h) where
  each : Each 0 passes h
  each w below =
      let known : w < callers_of b.setup.config = omega (arith, below, count) in
      let at = there w known in
      (at.0, at.1, λ who e. ap (λ k. own k h) (let same : who ≡ w = omega (arith, e) in same) ∙ ends.of_each w at.0 known at.1 ∙ ap (λ k. own k at.0.view.seen) (let back : w ≡ who = omega (arith, e) in back))

  pub calls_are : calls_in 0 passes ≡ length h
  calls_are = calls_counts 0 passes h each ∙ ap (λ k. counts 0 k h) count ∙ counts_all (callers_of b.setup.config) h callers

-- numbers that are kept at the last value add up to one that is
pub capped_sum : (x y a b : ℕ) → x ≡ capped a → y ≡ capped b → capped (x + y) ≡ capped (a + b)
capped_sum x y a b first second = omega (arith, first, second)
