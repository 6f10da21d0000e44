-- Lists whose elements hold each with its number.
use Rattle.std.proofs.Common.{◌≡◌, ℕ, zero, suc, ◌+◌, ◌<◌, ◌≤◌, List, [], ◌∷◌, length, ◌++◌, get_or, set, refl, sym, subst, arith, ◌⊎◌, inl, inr, ⊎_elim}
use Rattle.std.proofs.lemmas.Bool.{cases_eq}
use Rattle.xsk_model.specs.Entry.{Told}
use Rattle.xsk_model.specs.declared.call.Call.{Call}
use Rattle.xsk_model.specs.declared.call.Act.{Act}
use Rattle.xsk_model.specs.declared.call.Act.TheVariants.{Call as Calls, Ended as IsEnd}
use Rattle.xsk_turns.specs.Workers.{Setting, IsWholeRun}
use Rattle.xsk_machine.specs.Acts.{IsActAfter}
use Rattle.xsk_sim.specs.Seats.{EachFrom}

-- the element of a place
pub each_at : {A : Type 0} (xs : List A) (n i k : ℕ) (P : ℕ → A → Type 0) (d : A) → EachFrom xs n P → i < length xs → k ≡ n + i → d ≡ get_or xs i d → P k d
unfolding EachFrom
each_at [] n i k P d each h is at = absurd (omega arith)
each_at (x ∷ xs) n zero k P d each h is at =
    let e : n ≡ k = omega arith in subst (P k) (sym at) (subst (λ j. P j x) e each.0)
each_at (x ∷ xs) n (suc i) k P d each h is at = each_at xs (n + 1) i k P d each.1 (omega arith) (omega arith) at

-- each element of which it holds by its place
pub each_of : {A : Type 0} (xs : List A) (n : ℕ) (P : ℕ → A → Type 0) → ((i : ℕ) (d : A) → i < length xs → d ≡ get_or xs i d → P (n + i) d) → EachFrom xs n P
unfolding EachFrom
each_of [] n P holds = tt
each_of (x ∷ xs) n P holds =
    let e : n + 0 ≡ n = omega arith in (
      subst (λ j. P j x) e (holds 0 x (omega arith) refl),
      each_of xs (n + 1) P (λ i d h at. let f : n + suc i ≡ n + 1 + i = omega arith in subst (λ j. P j d) f (holds (suc i) d (omega arith) at)),
    )

-- what holds of each element by what held before
pub each_change : {A : Type 0} (xs : List A) (n : ℕ) (P Q : ℕ → A → Type 0) → EachFrom xs n P
    → ((k : ℕ) (x : A) → n ≤ k → k < n + length xs → P k x → Q k x) → EachFrom xs n Q
unfolding EachFrom
each_change [] n P Q each change = tt
each_change (x ∷ xs) n P Q each change =
    (change n x (omega arith) (omega arith) each.0, each_change xs (n + 1) P Q each.1 (λ k y low high. change k y (omega arith) (omega arith)))

-- one element is set, and the others hold by what held before
pub each_set : {A : Type 0} (xs : List A) (n i k : ℕ) (P Q : ℕ → A → Type 0) (v : A) → EachFrom xs n P → k ≡ n + i
    → ((j : ℕ) (x : A) → (j ≡ k → ⊥) → P j x → Q j x) → Q k v → EachFrom (set xs i v) n Q
unfolding EachFrom
each_set [] n i k P Q v each is change here = tt
each_set (x ∷ xs) n zero k P Q v each is change here =
    let e : k ≡ n = omega arith in
    (subst (λ j. Q j v) e here, each_change xs (n + 1) P Q each.1 (λ j y low high. change j y (λ same. omega arith)))
each_set (x ∷ xs) n (suc i) k P Q v each is change here =
    (change n x (λ same. omega arith) each.0, each_set xs (n + 1) i k P Q v each.1 (omega arith) change here)

-- one element more at the end
pub each_push : {A : Type 0} (xs : List A) (n k : ℕ) (P : ℕ → A → Type 0) (v : A) → EachFrom xs n P → k ≡ n + length xs → P k v → EachFrom (xs ++ v ∷ []) n P
unfolding EachFrom
each_push [] n k P v each is here = let e : k ≡ n = omega arith in (subst (λ j. P j v) e here, tt)
each_push (x ∷ xs) n k P v each is here = (each.0, each_push xs (n + 1) k P v each.1 (omega arith) here)

pub each_front : {A : Type 0} (xs : List A) (n : ℕ) (P : ℕ → A → Type 0) (v : A) → EachFrom (xs ++ v ∷ []) n P → EachFrom xs n P
unfolding EachFrom
each_front [] n P v each = tt
each_front (x ∷ xs) n P v each = (each.0, each_front xs (n + 1) P v each.1)

pub each_last : {A : Type 0} (xs : List A) (n k : ℕ) (P : ℕ → A → Type 0) (v : A) → EachFrom (xs ++ v ∷ []) n P → k ≡ n + length xs → P k v
unfolding EachFrom
each_last [] n k P v each is = let e : n ≡ k = omega arith in subst (λ j. P j v) e each.0
each_last (x ∷ xs) n k P v each is = each_last xs (n + 1) k P v each.1 (omega arith)

-- what an element tells of its number
pub each_tells : {A : Type 0} (xs : List A) (n : ℕ) (P : ℕ → A → Type 0) (Q : ℕ → Type 0) → EachFrom xs n P → ((k : ℕ) (x : A) → P k x → Q k)
    → (who : ℕ) → n ≤ who → who < n + length xs → Q who
unfolding EachFrom
each_tells [] n P Q each tells who low high = absurd (omega arith)
each_tells (x ∷ xs) n P Q each tells who low high = ⊎_elim
    (λ (is : who ≡ n). subst Q (sym is) (tells n x each.0))
    (λ (other : who ≡ n → ⊥). each_tells xs (n + 1) P Q each.1 tells who (omega arith) (omega arith))
    (cases_eq who n)

-- what holds by two things
pub each_both : {A : Type 0} (xs : List A) (n : ℕ) (P Q : ℕ → A → Type 0) → EachFrom xs n P → EachFrom xs n Q → EachFrom xs n (λ k x. P k x × Q k x)
unfolding EachFrom
each_both [] n P Q first second = tt
each_both (x ∷ xs) n P Q first second = ((first.0, second.0), each_both xs (n + 1) P Q first.1 second.1)

pub each_none : {A : Type 0} (n : ℕ) (P : ℕ → A → Type 0) → EachFrom [] n P
unfolding EachFrom
each_none n P = tt

-- ---- workers that have ended

-- each one's own calls and replies are a whole run
pub all_whole : {A : Type 0} (s : Setting) (mine : ℕ → List Told) (xs : List A) (act : A → Act) (n : ℕ) → EachFrom xs n (λ who x. IsActAfter s who (act x) (mine who))
    → EachFrom xs n (λ who x. act x ≡ IsEnd) → (who : ℕ) → n ≤ who → who < n + length xs → IsWholeRun s who (mine who)
unfolding EachFrom
all_whole s mine [] act n after ended who low high = absurd (omega arith)
all_whole s mine (x ∷ xs) act n after ended who low high = ⊎_elim
    (λ (is : who ≡ n). subst (λ k. IsWholeRun s k (mine k)) (sym is) (subst (λ a. IsActAfter s n a (mine n)) ended.0 after.0))
    (λ (other : who ≡ n → ⊥). all_whole s mine xs act (n + 1) after.1 ended.1 who (omega arith) (omega arith))
    (cases_eq who n)

-- Or some worker's aren't. Whether one has ended is told by its act.
pub record IsOpen (s : Setting) (mine : ℕ → List Told) (n m : ℕ) : Type 0 where
  pub who : ℕ
  pub low : n ≤ who
  pub high : who < m
  pub open_run : IsWholeRun s who (mine who) → ⊥

act_cases : (act : Act) → (act ≡ IsEnd) ⊎ ((call : Call) × (act ≡ Calls call))
act_cases (Calls call) = inr (call, refl)
act_cases IsEnd = inl refl

pub some_open : {A : Type 0} (s : Setting) (mine : ℕ → List Told) (xs : List A) (act : A → Act) (n : ℕ) → EachFrom xs n (λ who x. IsActAfter s who (act x) (mine who))
    → EachFrom xs n (λ who x. act x ≡ IsEnd) ⊎ IsOpen s mine n (n + length xs)
unfolding EachFrom
some_open s mine [] act n after = inl tt
some_open s mine (x ∷ xs) act n after = ⊎_elim
    (λ (ended : act x ≡ IsEnd). ⊎_elim
    (λ (all : EachFrom xs (n + 1) (λ who x. act x ≡ IsEnd)). inl (ended, all))
    (λ (some : IsOpen s mine (n + 1) (n + 1 + length xs)). inr (record { who = some.who; low = omega (arith, some.low); high = omega (arith, some.high); open_run = some.open_run }))
    (some_open s mine xs act (n + 1) after.1))
    (λ (gave : (call : Call) × (act x ≡ Calls call)).
    inr (record { who = n; low = omega arith; high = omega arith; open_run = (subst (λ a. IsActAfter s n a (mine n)) gave.1 after.0).1 }))
    (act_cases (act x))
