use Rattle.std.proofs.Common.{◌≡◌, ◌<◌, ◌≤◌, ℕ, length, get_or, None, Some}
use Rattle.xsk_model.specs.Config.{callers_of}
use Rattle.xsk_table.specs.Held.{Holder, Belongs}
use Rattle.test_object.specs.Resting.{AllRest}
use Rattle.test_object.proofs.table.give_all.Given as goal

abbrev pub invariant-passes : goal.invariant-passes
invariant-passes l = record {
  wide : length l.passes ≡ callers_of l.shared.setup.config;
  few : length l.checked.items ≤ callers_of l.shared.setup.config;
  taken : (w : ℕ) → w < length l.checked.items → get_or l.passes w None ≡ None;
  given : (w : ℕ) → length l.checked.items ≤ w → w < callers_of l.shared.setup.config → (h : Holder) × (get_or l.passes w None ≡ Some h) × Belongs l.shared h;
  rest : AllRest l.shared (length l.checked.items) l.checked.items;
}

abbrev pub decreases-passes : goal.decreases-passes
decreases-passes l = length l.checked.items
