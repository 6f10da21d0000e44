-- A call and a reply whose items stand in a batch beside them. This form is this project's own.
use Rattle.std.specs.Prelude.{◌≡◌, ◌↔◌, List, []}
use Rattle.xsk_umem.specs.declared.batch.Item.{Item}
use Rattle.xsk_model.specs.Object.{submitted, taken}
use Rattle.xsk_model.specs.declared.ask.Ask.{Ask}
use Rattle.xsk_model.specs.declared.ask.Ask.TheVariants.{Reserve, Submit, Peek, Release, Swap, Look}
use Rattle.xsk_model.specs.declared.ask.Answer.{Answer}
use Rattle.xsk_model.specs.declared.ask.Answer.TheVariants.{Granted, Full, Submitted, Items, Empty, Released, Old}
use Rattle.xsk_model.specs.declared.call.Call.{Call}
use Rattle.xsk_model.specs.declared.call.Call.TheVariants as call
use Rattle.xsk_model.specs.declared.call.Reply.{Reply}
use Rattle.xsk_model.specs.declared.call.Reply.TheVariants as reply

-- the call with the items that it puts into a ring
abbrev pub joined_call : Ask → List Item → Call
joined_call (Reserve r n) items = call.Reserve r n
joined_call (Submit r) items = call.Submit r items
joined_call (Peek r n) items = call.Peek r n
joined_call (Release r n) items = call.Release r n
joined_call (Swap m value) items = call.Swap m value
joined_call (Look m) items = call.Look m

-- the reply with the items that it takes from a ring
abbrev pub joined_reply : Answer → List Item → Reply
joined_reply Granted items = reply.Granted
joined_reply (Full free) items = reply.Full free
joined_reply Submitted items = reply.Submitted
joined_reply Items items = reply.Items items
joined_reply Empty items = reply.Empty
joined_reply Released items = reply.Released
joined_reply (Old number) items = reply.Old number

-- only a Submit has items beside it
abbrev pub HasAsked : Ask → List Item → Type 0
HasAsked (Submit r) items = Unit {0}
HasAsked _ items = items ≡ []

-- only a Peek that took some has items beside its answer
abbrev pub HasAnswered : Answer → List Item → Type 0
HasAnswered Items items = Unit {0}
HasAnswered _ items = items ≡ []

-- ---- the form without items

abbrev pub ask_of : Call → Ask
ask_of (call.Reserve r n) = Reserve r n
ask_of (call.Submit r items) = Submit r
ask_of (call.Peek r n) = Peek r n
ask_of (call.Release r n) = Release r n
ask_of (call.Swap m value) = Swap m value
ask_of (call.Look m) = Look m

abbrev pub answer_of : Reply → Answer
answer_of reply.Granted = Granted
answer_of (reply.Full free) = Full free
answer_of reply.Submitted = Submitted
answer_of (reply.Items items) = Items
answer_of reply.Empty = Empty
answer_of reply.Released = Released
answer_of (reply.Old number) = Old number

-- ---- the laws of both forms

-- each call is its form without items, joined with what it submits
abbrev pub CallsSplit : Type 0
CallsSplit = (call : Call) → (joined_call (ask_of call) (submitted call) ≡ call) × HasAsked (ask_of call) (submitted call)

-- what is joined splits to the ask, and to the items exactly where the ask has such beside it
abbrev pub AsksJoin : Type 0
AsksJoin = (ask : Ask) (items : List Item) → (ask_of (joined_call ask items) ≡ ask) × ((submitted (joined_call ask items) ≡ items) ↔ HasAsked ask items)

-- each reply is its form without items, joined with what was taken
abbrev pub RepliesSplit : Type 0
RepliesSplit = (reply : Reply) → (joined_reply (answer_of reply) (taken reply) ≡ reply) × HasAnswered (answer_of reply) (taken reply)

-- what is joined splits to the answer, and to the items exactly where the answer has such beside it
abbrev pub AnswersJoin : Type 0
AnswersJoin = (answer : Answer) (items : List Item) → (answer_of (joined_reply answer items) ≡ answer) × ((taken (joined_reply answer items) ≡ items) ↔ HasAnswered answer items)
