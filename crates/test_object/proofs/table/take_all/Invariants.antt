use Rattle.std.proofs.Common.{◌≡◌, ◌<◌, ◌≤◌, ℕ, length, get_or, None, Some}
use Rattle.xsk_model.specs.Config.{callers_of}
use Rattle.xsk_table.specs.Held.{new_pass}
use Rattle.test_object.specs.Resting.{AllRest}
use Rattle.test_object.proofs.table.take_all.Given as goal

abbrev pub invariant-loop-who : goal.invariant-loop-who
invariant-loop-who l = record {
  wide : length l.passes ≡ callers_of l.shared.setup.config;
  taken : (w : ℕ) → w < l.who → get_or l.passes w None ≡ None;
  left : (w : ℕ) → l.who ≤ w → w < callers_of l.shared.setup.config → get_or l.passes w None ≡ Some (new_pass l.shared w);
  rest : AllRest l.shared l.who l.checked.items;
}
