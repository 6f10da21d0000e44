-- Lists of conditions under which a call is refused.
use Rattle.std.proofs.Common.{◌≡◌, false, List, [], ◌∷◌, ◌++◌, Option, None, Some, subst, inl, inr, ℕ, ◌<◌, leb, refl, arith}
use Rattle.std.specs.Prelude.{IsSome, is_some}
use Rattle.std.proofs.lemmas.Bool.{cases_Bool}
use Rattle.std.proofs.lemmas.Bool.Decides.{nat_tests}
use Rattle.xsk_socket.specs.declared.error.SetupError.{SetupError}
use Rattle.xsk_socket.specs.Refusals.{Refusal, first_of}

abbrev pub AreClear : List Refusal → Type 0
AreClear [] = Unit {0}
AreClear (r ∷ rest) = (r.0 ≡ false) × AreClear rest

-- where a call isn't refused, none of the conditions holds
pub clear : (rs : List Refusal) → None ≡ first_of rs → AreClear rs
clear [] none = tt
clear (r ∷ rest) none =
    elim (cases_Bool r.0) [
      | inl holds ↦ let some : None ≡ Some r.1 = rw holds at none in absurd (cc)
      | inr fails ↦ (fails, clear rest (rw fails at none))
    ]

pub behind : (xs ys : List Refusal) (r : Option SetupError) → None ≡ first_of xs → r ≡ first_of ys → r ≡ first_of (xs ++ ys)
behind [] ys r none is = is
behind (x ∷ xs) ys r none is =
    elim (cases_Bool x.0) [
      | inl holds ↦ let some : None ≡ Some x.1 = rw holds at none in absurd (cc)
      | inr fails ↦ rw fails (behind xs ys r (rw fails at none) is)
    ]

pub before : (xs ys : List Refusal) (r : Option SetupError) → IsSome r → r ≡ first_of xs → r ≡ first_of (xs ++ ys)
before [] ys r some is = let none : IsSome {T = SetupError} None = subst IsSome is some in absurd (cc)
before (x ∷ xs) ys r some is =
    elim (cases_Bool x.0) [
      | inl holds ↦ rw holds (rw holds at is)
      | inr fails ↦ rw fails (before xs ys r some (rw fails at is))
    ]

pub not_past : (a b : ℕ) → leb a b ≡ false → b < a
not_past a b is = grind (arith, nat_tests)

pub none_of : {A : Type 0} (x : Option A) → is_some x ≡ false → x ≡ None
none_of None is = refl
none_of (Some x) is = absurd (cc)
