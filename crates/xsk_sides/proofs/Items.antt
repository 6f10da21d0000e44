-- The frames of items, and those that their entries name.
use Rattle.std.proofs.Common.{◌≡◌, ℕ, ◌+◌, ◌/◌, ◌==◌, Bool, true, false, ◌&&◌, cond, Option, Some, None, List, [], ◌∷◌, refl, ap, ◌∙◌, arith}
use Rattle.std.specs.Prelude.{All, nat_lt}
use Rattle.std.specs.Option.{option_map}
use Rattle.std.proofs.lemmas.List.Elements.{All-head, All-tail}
use Rattle.xsk_umem.specs.Frame.{Frame}
use Rattle.xsk_umem.specs.Geometry.{area_of}
use Rattle.xsk_umem.specs.declared.batch.Item.{Item}
use Rattle.xsk_model.specs.Config.{Config}
use Rattle.xsk_model.specs.Numbers.{times, numbers, number_of}
use Rattle.xsk_model.specs.Legal.{IsItemOn}
use Rattle.xsk_model.specs.declared.call.Ring.{Ring}
use Rattle.xsk_model.proofs.Counting.{times-append}
use Rattle.xsk_side.specs.Entries.{times as times_of, names}
use Rattle.xsk_sides.specs.Sides.{entries, setting_of}

-- an item names its frame
one_item : (c : Config) (r : Ring) (f : ℕ) (item : Item) → IsItemOn c.geometry r item
    → times f (number_of item.frame) ≡ cond (names (setting_of c) f item.desc) 1 0
one_item c r f item is = by item.frame (nat_lt item.desc.addr (area_of c.geometry)) is.frame
  where
    same : (x n : ℕ) → Some x ≡ Some n → x ≡ n
    same x n h = cc

    by : (o : Option Frame) (b : Bool) → option_map (λ (x : Frame). x.number) o ≡ cond b (Some (item.desc.addr / c.geometry.chunk)) None
        → times f (number_of o) ≡ cond (b && item.desc.addr / c.geometry.chunk == f) 1 0
    by None true h = absurd (cc)
    by None false h = refl
    by (Some frame) true h = ap (λ n. times f (n ∷ [])) (same frame.number (item.desc.addr / c.geometry.chunk) h) ∙ alone (cond (item.desc.addr / c.geometry.chunk == f) 1 0)
      where
        alone : (n : ℕ) → n + 0 ≡ n
        alone n = omega arith
    by (Some frame) false h = absurd (cc)

pub same_times : (c : Config) (r : Ring) (f : ℕ) (items : List Item) → All (IsItemOn c.geometry r) items → times_of (setting_of c) f (entries items) ≡ times f (numbers items)
same_times c r f [] all = refl
same_times c r f (item ∷ items) all =
    omega (
      arith,
      one_item c r f item (All-head (IsItemOn c.geometry r) item items all),
      same_times c r f items (All-tail (IsItemOn c.geometry r) item items all),
      times-append f (number_of item.frame) (numbers items),
    )
