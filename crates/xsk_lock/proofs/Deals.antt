-- The hands of a new lock.
use Rattle.std.proofs.Common.{◌≡◌, ℕ, suc, ◌+◌, ◌-◌, ◌≤◌, false, List, [], ◌∷◌, ◌++◌, map, length, sym, refl, ap, ◌∙◌, arith, Option}
use Rattle.std.specs.List.{range_with_len}
use Rattle.std.proofs.lemmas.List.FromFn.{map-range_with_len_more, length-range_with_len}
use Rattle.atomic_table.specs.Table.{Me}
use Rattle.xsk_lock.specs.declared.view.Facts.{Facts}
use Rattle.xsk_lock.specs.declared.view.Known.{Known}
use Rattle.xsk_lock.specs.declared.view.Known.TheVariants.{Sees}
use Rattle.xsk_lock.specs.Rule.{first_hand, other_hands}
use Rattle.xsk_lock.specs.Held.{Holder, Face, IsHeld, new_hand}
use Rattle.xsk_lock.proofs.Calls.{holds_off}

pub two_left : (from count : ℕ) → 2 ≤ count → 2 ≤ length (range_with_len from count)
two_left from count two = omega (arith, two, length-range_with_len from count)

module _ {N : Type 0} where
  -- a new seat of these hands
  abbrev pub left : N → ℕ → List ℕ → Facts N
  left lock hands mine = record { name = lock; hands = hands; mine = mine; holds = false; found = [] }

  pub first_left : (lock : N) (hands from count : ℕ) (m : Known N) → 1 ≤ count → m ≡ Sees (left lock hands (range_with_len from count)) → first_hand m ≡ Sees (left lock hands (from ∷ []))
  first_left lock hands from count m some_left is =
      let e : count ≡ suc (count - 1) = omega arith in
      ap first_hand is ∙ ap (λ (n : ℕ). first_hand (Sees (left lock hands (range_with_len from n)))) e

  pub others_left : (lock : N) (hands from count : ℕ) (m : Known N) → 1 ≤ count → m ≡ Sees (left lock hands (range_with_len from count)) → other_hands m ≡ Sees (left lock hands (range_with_len (from + 1) (count - 1)))
  others_left lock hands from count m some_left is =
      let e : count ≡ suc (count - 1) = omega arith in
      ap other_hands is ∙ ap (λ (n : ℕ). other_hands (Sees (left lock hands (range_with_len from n)))) e

  pub one_left : (lock : N) (hands from : ℕ) (m : Known N) → from + 1 ≡ hands → m ≡ Sees (left lock hands (range_with_len from (hands - from))) → m ≡ Sees (left lock hands (from ∷ []))
  one_left lock hands from m last is = let e : hands - from ≡ 1 = omega arith in is ∙ ap (λ (n : ℕ). Sees (left lock hands (range_with_len from n))) e

  pub hands_more : (lock : Face N) (n : ℕ) (row : List (Holder N)) (h : Holder N) → row ≡ map (new_hand lock) (range_with_len 0 n) → h ≡ new_hand lock n → row ++ h ∷ [] ≡ map (new_hand lock) (range_with_len 0 (n + 1))
  hands_more lock n row h are is = (λ i. are i ++ is i ∷ []) ∙ sym (map-range_with_len_more (new_hand lock) 0 n n (omega arith))

module _ {T N : Type 0} where
  pub new_held : (me : Me (Option T) (Known N)) (lock : N) (hands : ℕ) (mine : List ℕ) → me.0 ≡ Sees (left lock hands mine) → me.1 ≡ [] → IsHeld me
  new_held me lock hands mine is none = holds_off me (left lock hands mine) is refl none
