-- How many packets and bytes are made.
use Rattle.std.proofs.Common.{◌≡◌, ◌*◌, ◌≤◌, ℕ, zero, suc, refl, ap, arith, List, [], ◌∷◌, ◌++◌, length, length-append}
use Rattle.std.specs.Prelude.{All}
use Rattle.std.specs.List.{concat}
use Rattle.std.proofs.lemmas.List.Folds.{concat-append}
use Rattle.std.proofs.lemmas.List.Elements.{All-nil, All-push}
use Rattle.xsk_gen.specs.Generator.{byte_at, first, first_state, length_at, packet, state_after}

pub length-first : {A : Type 0} (n : ℕ) (f : ℕ → A) → length (first n f) ≡ n
unfolding first
length-first zero f = refl
length-first (suc n) f = omega (arith, length-append (first n f) (f n ∷ []), length-first n f)

pub all_first : {A : Type 0} (P : A → Type 0) (n : ℕ) (f : ℕ → A) → ((i : ℕ) → P (f i)) → All P (first n f)
unfolding first
all_first P zero f each = All-nil P
all_first P (suc n) f each = All-push P (first n f) (f n) (all_first P n f each) (each n)

pub bytes_first : (n : ℕ) (f : ℕ → List ℕ) → ((i : ℕ) → length (f i) ≤ 1514) → length (concat (first n f)) ≤ n * 1514
unfolding first
bytes_first zero f small = omega arith
bytes_first (suc n) f small =
    let parts : concat (first n f ++ f n ∷ []) ≡ concat (first n f) ++ concat (f n ∷ []) = concat-append (first n f) (f n ∷ []) in
    omega (
      arith,
      ap (length {A = ℕ}) parts,
      length-append (concat (first n f)) (concat (f n ∷ [])),
      length-append (f n) [],
      bytes_first n f small,
      small n,
    )

-- a packet has 1,514 bytes at most
pub length-packet : (number port k : ℕ) → length (packet number port k) ≤ 1514
length-packet number port k =
    let x = state_after (13 * k) (first_state number port) in
    omega (arith, length-first (length_at x) (byte_at k x))
