-- A step of a worker with a batch that is lent to it: its reply is the answer, and its act the ask, with the batch's items.
-- This form is this project's own.
use Rattle.std.specs.Prelude.{◌≡◌, Option, None, Some, List, []}
use Rattle.xsk_umem.specs.declared.batch.Item.{Item}
use Rattle.xsk_model.specs.Asks.{joined_call, joined_reply, HasAsked, HasAnswered}
use Rattle.xsk_model.specs.declared.ask.Ask.{Ask}
use Rattle.xsk_model.specs.declared.ask.Answer.{Answer}
use Rattle.xsk_model.specs.declared.call.Reply.{Reply}
use Rattle.xsk_model.specs.declared.call.Act.{Act}
use Rattle.xsk_model.specs.declared.call.Act.TheVariants.{Call as Gave, Ended}

-- the reply with its items, or none at first
abbrev pub joined_answer : Option Answer → List Item → Option Reply
joined_answer None items = None
joined_answer (Some answer) items = Some (joined_reply answer items)

-- the call with its items, or the end
abbrev pub joined_ask : Option Ask → List Item → Act
joined_ask None items = Ended
joined_ask (Some ask) items = Gave (joined_call ask items)

-- the batch as it is lent: empty but for the items that were peeked
abbrev pub IsLent : Option Answer → List Item → Type 0
IsLent None items = items ≡ []
IsLent (Some answer) items = HasAnswered answer items

-- and as it is given back: empty but for the items that are submitted
abbrev pub IsGivenBack : Option Ask → List Item → Type 0
IsGivenBack None items = items ≡ []
IsGivenBack (Some ask) items = HasAsked ask items
