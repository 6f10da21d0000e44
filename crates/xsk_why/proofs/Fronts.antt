-- The frames of items, one after the other.
use Rattle.std.proofs.Common.{◌≡◌, ℕ, zero, suc, ◌+◌, ◌<◌, Option, Some, None, List, [], ◌∷◌, ◌++◌, length, drop, slice_get, refl, sym, ap, ◌∙◌, arith}
use Rattle.std.specs.Option.{option_map}
use Rattle.xsk_umem.specs.Frame.{Frame}
use Rattle.xsk_umem.specs.declared.batch.Item.{Item}
use Rattle.xsk_log.specs.Repeats.{of_option}
use Rattle.xsk_model.specs.Numbers.{numbers, number_of as numbers_of}
use Rattle.xsk_plain.specs.Counts.{number_of}

has_number : (frame : Option Frame) → numbers_of frame ≡ of_option (option_map number_of frame)
has_number None = refl
has_number (Some frame) = refl

front : (out : List Item) (i : ℕ) (frame : Option ℕ) → i < length out → ((item : Item) → slice_get out i ≡ Some item → frame ≡ option_map number_of item.frame)
    → numbers (drop i out) ≡ of_option frame ++ numbers (drop (suc i) out)
front [] i frame within is = absurd (omega (arith, within))
front (x ∷ out) zero frame within is = ap (λ (ns : List ℕ). ns ++ numbers out) (has_number x.frame ∙ ap (of_option {T = ℕ}) (sym (is x refl)))
front (x ∷ out) (suc i) frame within is = front out i frame (omega (arith, within)) is

-- the frame of an item, and those of the items behind it
pub front_of : (out : List Item) (i : ℕ) (frame : Option ℕ) → i < length out → ((item : Item) → slice_get out i ≡ Some item → frame ≡ option_map number_of item.frame)
    → numbers (drop i out) ≡ of_option frame ++ numbers (drop (i + 1) out)
front_of out i frame within is =
    let on : suc i ≡ i + 1 = omega arith in
    front out i frame within is ∙ ap (λ (k : ℕ). of_option frame ++ numbers (drop k out)) on
