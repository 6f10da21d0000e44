-- That a batch is as it was given back is a fact with at most one proof.
use Rattle.std.specs.Prelude.{◌≡◌, Option, None, Some, List, []}
use Rattle.std.specs.Coded.{Unit-prop}
use Rattle.std.proofs.Props.{props}
use Rattle.xsk_umem.specs.declared.batch.Item.{Item}
use Rattle.xsk_model.specs.declared.ask.Ask.{Ask}
use Rattle.xsk_model.specs.declared.ask.Ask.TheVariants.{Reserve, Submit, Peek, Release, Swap, Look}
use Rattle.xsk_turns.specs.Stepping.{IsGivenBack}

none_left : (items : List Item) → IsProp (items ≡ [])
none_left items = hlevel props

pub IsGivenBack-prop : (ask : Option Ask) (items : List Item) → IsProp (IsGivenBack ask items)
IsGivenBack-prop None items = none_left items
IsGivenBack-prop (Some (Reserve r n)) items = none_left items
IsGivenBack-prop (Some (Submit r)) items = Unit-prop
IsGivenBack-prop (Some (Peek r n)) items = none_left items
IsGivenBack-prop (Some (Release r n)) items = none_left items
IsGivenBack-prop (Some (Swap m value)) items = none_left items
IsGivenBack-prop (Some (Look m)) items = none_left items
