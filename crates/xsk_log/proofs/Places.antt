-- Lists of which each value is kept once.
use Rattle.std.proofs.Common.{◌≡◌, ℕ, ◌+◌, ◌<◌, ◌≤◌, Some, zero, suc, List, [], ◌∷◌, ◌++◌, length, refl, sym, ap, ◌∙◌, arith, append-nil, length-append}
use Rattle.std.specs.Prelude.{slice_get}
use Rattle.std.proofs.lemmas.List.Concat.{flat_map-append}
use Rattle.std.proofs.lemmas.List.Elements.{All-head, All-tail, All-push, All-same, All-weaker}
use Rattle.std.proofs.lemmas.Option.{slice_get_within}
use Rattle.xsk_log.specs.Repeats.{of_option, values_at, AreBelow, KeepsValues}

pub slice_get-append : {T : Type 0} (values more : List T) (place : ℕ) → place < length values → slice_get (values ++ more) place ≡ slice_get values place
slice_get-append [] more place h = absurd (omega (arith, h))
slice_get-append (x ∷ values) more zero h = refl
slice_get-append (x ∷ values) more (suc place) h = slice_get-append values more place (omega (arith, h))

pub slice_get-end : {T : Type 0} (values : List T) (value : T) → slice_get (values ++ value ∷ []) (length values) ≡ Some value
slice_get-end [] value = refl
slice_get-end (x ∷ values) value = slice_get-end values value

-- the values stay when others come behind them
values-more : {T : Type 0} (values more : List T) (places : List ℕ) → AreBelow (length values) places → values_at (values ++ more) places ≡ values_at values places
values-more values more [] h = refl
values-more values more (place ∷ places) h =
    let here : place < length values = All-head (λ (p : ℕ). p < length values) place places h in
    let first : slice_get (values ++ more) place ≡ slice_get values place = slice_get-append values more place here in
    ap (λ v. of_option v ++ values_at (values ++ more) places) first
    ∙ ap (λ vs. of_option (slice_get values place) ++ vs) (values-more values more places (All-tail (λ (p : ℕ). p < length values) place places h))

-- a place that exists has one value
one_value : {T : Type 0} (values : List T) (place : ℕ) → place < length values → length (of_option (slice_get values place)) ≡ 1
one_value [] place h = absurd (omega (arith, h))
one_value (x ∷ values) zero h = refl
one_value (x ∷ values) (suc place) h = one_value values place (omega (arith, h))

pub length-values : {T : Type 0} (values : List T) (places : List ℕ) → AreBelow (length values) places → length (values_at values places) ≡ length places
length-values values [] h = refl
length-values values (place ∷ places) h =
    let first : length (of_option (slice_get values place)) ≡ 1 = one_value values place (All-head (λ (p : ℕ). p < length values) place places h) in
    let rest : length (values_at values places) ≡ length places = length-values values places (All-tail (λ (p : ℕ). p < length values) place places h) in
    length-append (of_option (slice_get values place)) (values_at values places) ∙ omega (arith, first, rest)

pub below-more : (count next : ℕ) (places : List ℕ) → count ≤ next → AreBelow count places → AreBelow next places
below-more count next places le h = All-weaker (λ (p : ℕ). p < count) (λ (p : ℕ). p < next) (λ p k. omega (arith, k, le)) places h

-- a place more, of a value that is kept or came behind the others
pub values-push : {T : Type 0} (values kept : List T) (places after : List ℕ) (place : ℕ) (value : T) → KeepsValues values kept → slice_get kept place ≡ Some value
    → after ≡ places ++ place ∷ [] → AreBelow (length values) places → values_at kept after ≡ values_at values places ++ value ∷ []
values-push values kept places after place value grown at is below =
    let more : values_at kept (places ++ place ∷ []) ≡ values_at kept places ++ (of_option (slice_get kept place) ++ []) =
    flat_map-append (λ (p : ℕ). of_option (slice_get kept p)) places (place ∷ []) in
    let last : values_at kept places ++ (of_option (slice_get kept place) ++ []) ≡ values_at kept places ++ value ∷ [] =
    ap (λ v. values_at kept places ++ (of_option v ++ [])) at in
    let same : values_at kept places ≡ values_at values places = ap (λ vs. values_at vs places) grown.is ∙ values-more values grown.more places below in
    ap (values_at kept) is ∙ more ∙ last ∙ ap (λ vs. vs ++ value ∷ []) same

pub below-push : {T : Type 0} (values kept : List T) (places after : List ℕ) (place : ℕ) (value : T) → KeepsValues values kept → slice_get kept place ≡ Some value
    → after ≡ places ++ place ∷ [] → AreBelow (length values) places → AreBelow (length kept) after
below-push values kept places after place value grown at is below =
    let longer : length kept ≡ length values + length grown.more = ap length grown.is ∙ length-append values grown.more in
    let here : place < length kept = slice_get_within kept place value at in
    All-same (λ (p : ℕ). p < length kept) after (places ++ place ∷ []) is
    (All-push (λ (p : ℕ). p < length kept) places place (below-more (length values) (length kept) places (omega (arith, longer)) below) here)

pub kept_none : {T : Type 0} (values : List T) → KeepsValues values values
kept_none values = record { more = []; is = sym (append-nil values) }

pub one_more : {T : Type 0} (values after : List T) (value : T) → after ≡ values ++ value ∷ [] → length after ≡ length values + 1
one_more values after value is = ap length is ∙ length-append values (value ∷ [])
