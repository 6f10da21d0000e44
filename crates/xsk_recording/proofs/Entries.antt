-- Entries, one after another, and places in a program.
use Rattle.std.proofs.Common.{◌≡◌, ◌≢◌, ℕ, zero, suc, ◌+◌, ◌-◌, ◌<◌, Some, None, List, [], ◌∷◌, ◌++◌, take, drop, length, slice_index, refl, sym, ap, subst, ◌∙◌, arith, true, false, inl, inr, append_assoc, append-nil}
use Rattle.std.specs.Prelude.{◌==◌}
use Rattle.std.proofs.lemmas.Bool.{cases_Bool, eqb-true}
use Rattle.xsk_umem.specs.declared.batch.XdpDesc.{XdpDesc}
use Rattle.xsk_lines.specs.Reading.{◌>>=◌, Reads, desc_at, begins_item}
use Rattle.xsk_lines.proofs.Cuts.{behind}
use Rattle.xsk_recording.specs.Line.{entries_at, behind_space, behind_place}

-- entries behind others
abbrev pub front_of : List XdpDesc → Reads (List XdpDesc) → Reads (List XdpDesc)
front_of front None = None
front_of front (Some more) = Some (front ++ more.0, more.1)

-- one more entry, behind those that were read
front-more : (front : List XdpDesc) (x : XdpDesc) (more : Reads (List XdpDesc))
    → front_of front (more >>= λ read. Some (x ∷ read.0, read.1)) ≡ front_of (front ++ x ∷ []) more
front-more front x None = refl
front-more front x (Some read) = ap (λ (l : List XdpDesc). Some (l, read.1)) (sym (append_assoc front (x ∷ []) read.0))

entries-step : (front : List XdpDesc) (n : ℕ) (xs : List ℕ) (d : XdpDesc) (rest : List ℕ) → begins_item xs ≡ true → desc_at (drop 1 xs) ≡ Some (d, rest)
    → front_of front (entries_at (suc n) xs) ≡ front_of (front ++ d ∷ []) (entries_at n rest)
unfolding entries_at
entries-step front n xs d rest begins reads = rw (begins, reads) (front-more front d (entries_at n rest))

pub entries-next : (front : List XdpDesc) (i : ℕ) (xs : List ℕ) (d : XdpDesc) (rest : List ℕ) → i < 32 → begins_item xs ≡ true → Some (d, rest) ≡ desc_at (take (length xs - 1) (drop 1 xs))
    → front_of front (entries_at (32 - i) xs) ≡ front_of (front ++ d ∷ []) (entries_at (32 - (i + 1)) rest)
entries-next front i xs d rest within begins reads =
    let e : 32 - i ≡ suc (32 - (i + 1)) = omega arith in
    rw e (entries-step front (32 - (i + 1)) xs d rest begins (ap desc_at (sym (behind 1 xs)) ∙ sym reads))

pub entries-failed : (front : List XdpDesc) (i : ℕ) (xs : List ℕ) → i < 32 → begins_item xs ≡ true → None ≡ desc_at (take (length xs - 1) (drop 1 xs))
    → front_of front (entries_at (32 - i) xs) ≡ None
unfolding entries_at
entries-failed front i xs within begins reads =
    let e : 32 - i ≡ suc (32 - (i + 1)) = omega arith in
    let none : desc_at (drop 1 xs) ≡ None = ap desc_at (sym (behind 1 xs)) ∙ sym reads in
    rw (e, begins, none) refl

entries-stop : (n : ℕ) (xs : List ℕ) → begins_item xs ≡ false → entries_at n xs ≡ Some ([], xs)
unfolding entries_at
entries-stop zero xs none = refl
entries-stop (suc n) xs none = rw none refl

pub entries-ended : (front : List XdpDesc) (n : ℕ) (xs : List ℕ) → begins_item xs ≡ false → front_of front (entries_at n xs) ≡ Some (front, xs)
entries-ended front n xs none = ap (front_of front) (entries-stop n xs none) ∙ ap (λ (l : List XdpDesc). Some (l, xs)) (append-nil front)

pub entries-full : (front : List XdpDesc) (xs : List ℕ) → front_of front (entries_at zero xs) ≡ Some (front, xs)
unfolding entries_at
entries-full front xs = ap (λ (l : List XdpDesc). Some (l, xs)) (append-nil front)

-- ---- places

pub space-found : (xs : List ℕ) (i : ℕ) → i < length xs → ((k : ℕ) → k < i → slice_index xs k ≢ 32) → slice_index xs i ≡ 32
    → behind_space xs ≡ Some (drop (suc i) xs)
unfolding behind_space
space-found [] i within none here = absurd (omega (arith, within))
space-found (b ∷ bs) zero within none here = rw here refl
space-found (b ∷ bs) (suc i) within none here = elim (cases_Bool (b == 32)) [
  | inl space ↦ absurd (none 0 (omega arith) (eqb-true b 32 space))
  | inr other ↦ rw other (space-found bs i (omega (arith, within)) (λ k below. none (suc k) (omega (arith, below))) here)
]

pub space-missed : (xs : List ℕ) → ((k : ℕ) → k < length xs → slice_index xs k ≢ 32) → behind_space xs ≡ None
unfolding behind_space
space-missed [] none = refl
space-missed (b ∷ bs) none = elim (cases_Bool (b == 32)) [
  | inl space ↦ absurd (none 0 (omega arith) (eqb-true b 32 space))
  | inr other ↦ rw other (space-missed bs (λ k below. none (suc k) (omega (arith, below))))
]

-- no space at all, one at the front, and one behind a place
pub place-missed : (xs : List ℕ) → ((k : ℕ) → k < length xs → slice_index xs k ≢ 32) → behind_place xs ≡ None
unfolding behind_place
place-missed [] none = refl
place-missed (b ∷ bs) none = elim (cases_Bool (b == 32)) [
  | inl space ↦ rw space refl
  | inr other ↦ rw other (space-missed bs (λ k below. none (suc k) (omega (arith, below))))
]

pub place-empty : (xs : List ℕ) → 0 < length xs → slice_index xs 0 ≡ 32 → behind_place xs ≡ None
unfolding behind_place
place-empty [] some here = absurd (omega (arith, some))
place-empty (b ∷ bs) some here = rw here refl

place-cut : (xs : List ℕ) (i : ℕ) → suc i < length xs → ((k : ℕ) → k < suc i → slice_index xs k ≢ 32) → slice_index xs (suc i) ≡ 32
    → behind_place xs ≡ Some (drop (suc (suc i)) xs)
unfolding behind_place
place-cut [] i within none here = absurd (omega (arith, within))
place-cut (b ∷ bs) i within none here = elim (cases_Bool (b == 32)) [
  | inl space ↦ absurd (none 0 (omega arith) (eqb-true b 32 space))
  | inr other ↦ rw other (space-found bs i (omega (arith, within)) (λ k below. none (suc k) (omega (arith, below))) here)
]

pub place-found : (xs : List ℕ) (i : ℕ) → i < length xs → i ≢ 0 → ((k : ℕ) → k < i → slice_index xs k ≢ 32) → slice_index xs i ≡ 32
    → Some (take (length xs - (i + 1)) (drop (i + 1) xs)) ≡ behind_place xs
place-found xs zero within some none here = absurd (some refl)
place-found xs (suc i) within some none here =
    let e : suc (suc i) ≡ suc i + 1 = omega arith in
    ap Some (behind (suc i + 1) xs) ∙ sym (subst (λ n. behind_place xs ≡ Some (drop n xs)) e (place-cut xs i within none here))
