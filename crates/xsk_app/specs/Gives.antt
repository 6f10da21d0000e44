-- What each step of the application's machine keeps and gives.
use Rattle.std.specs.Prelude.{◌≡◌, Option, List}
use Rattle.xsk_umem.specs.declared.batch.Item.{Item}
use Rattle.xsk_model.specs.Expected.{expected_of}
use Rattle.xsk_model.specs.declared.ask.Ask.{Ask}
use Rattle.xsk_turns.specs.Stepping.{joined_ask, IsGivenBack}
use Rattle.xsk_app.specs.Waits.{expects}
use Rattle.xsk_app.specs.Stands.{IsSame}
use Rattle.xsk_app.specs.declared.machine.Machine.{Machine}

-- it waits for the answer to what it asks, beside which stand the items that it submits; and its application stays the same
pub record Gives (old new : Machine) (asked : Option Ask) (items : List Item) : Type 0 where
  pub expected : expects new.wait ≡ expected_of (joined_ask asked items)
  pub given_back : IsGivenBack asked items
  pub same : IsSame old new
