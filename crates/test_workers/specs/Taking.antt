-- What the tests say of passes that are taken.
use Rattle.std.specs.Prelude.{◌≡◌, ℕ, ◌<◌, ◌≤◌, List, get_or, Option, Some, None}
use Rattle.xsk_model.specs.Config.{callers_of}
use Rattle.xsk_table.specs.Held.{Board, Holder, new_pass}

-- those of the callers from one on are there, with no call made
abbrev pub AreLeft : Board → ℕ → List (Option Holder) → Type 0
AreLeft b first passes = (who : ℕ) → first ≤ who → who < callers_of b.setup.config → get_or passes who None ≡ Some (new_pass b who)
