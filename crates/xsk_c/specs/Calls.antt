-- What the exports that make a call do: the call of xsk_bench, and what they tell of it.
use Rattle.std.specs.Prelude.{◌≡◌, ℕ, ◌<◌, ◌≤◌, ◌⊎◌, Result, Ok, Err, Option, List, [], ◌∷◌, ◌++◌, length, min}
use Rattle.xsk_umem.specs.Frame.{Frame}
use Rattle.xsk_umem.specs.Geometry.{Geometry}
use Rattle.xsk_umem.specs.Limits.{most_items}
use Rattle.xsk_umem.specs.declared.batch.Item.{Item}
use Rattle.xsk_model.specs.Asks.{joined_reply}
use Rattle.xsk_model.specs.Entry.{Entry, own}
use Rattle.xsk_model.specs.History.{state_after}
use Rattle.xsk_model.specs.Object.{reply_at, taken}
use Rattle.xsk_model.specs.Rings.{caller_of}
use Rattle.xsk_model.specs.declared.ask.Answer.{Answer}
use Rattle.xsk_model.specs.declared.call.Call.{Call}
use Rattle.xsk_model.specs.declared.call.Call.TheVariants.{Submit, Peek}
use Rattle.xsk_model.specs.declared.call.Reply.{Reply}
use Rattle.xsk_model.specs.declared.call.Ring.{Ring}
use Rattle.xsk_legal.specs.Why.{Fails}
use Rattle.xsk_legal.specs.declared.why.Illegal.{Illegal}
use Rattle.xsk_turns.specs.Workers.{Setting}
use Rattle.xsk_bench.specs.Played.{HasPlayed}
use Rattle.xsk_bench.specs.Serving.{entry_by}
use Rattle.xsk_bench.specs.declared.play.Play.{Play}
use Rattle.xsk_c.specs.Answers.{condition_number, reply_number, told_in}
use Rattle.xsk_c.specs.Items.{drawn_over, items_of, left_by}
use Rattle.xsk_c.specs.Purse.{with_frames}
use Rattle.xsk_c.specs.declared.answers.TheConstants.{NO_MEMORY, COUNT}
use Rattle.xsk_c.specs.declared.items.Desc.{Desc}
use Rattle.xsk_c.specs.declared.state.State.{State}

-- ---- a call

-- how a call ended: its reply, or the number of why it wasn't made
abbrev pub Outcome : Type 0
Outcome = Result Reply ℕ

abbrev pub outcome_of : Result Answer ℕ → List Item → Outcome
outcome_of (Ok answer) items = Ok (joined_reply answer items)
outcome_of (Err number) items = Err number

-- after each history that was played so far the application has made this call, with the object's reply there
abbrev pub IsMade : Play → ℕ → Call → Play → Reply → Type 0
IsMade old app call new reply = (s : Setting) (frames : List Frame) (h : List Entry) → HasPlayed s frames h old
    → (reply ≡ reply_at s.config (state_after s.config frames h) call) × HasPlayed s frames (h ++ entry_by (caller_of s.config app) call reply ∷ []) new

-- the history stands as it was
abbrev pub IsLeft : Play → Play → Type 0
IsLeft old new = (s : Setting) (frames : List Frame) (h : List Entry) → HasPlayed s frames h old → HasPlayed s frames h new

-- a condition of a legal call fails, and is the first that does; or memory couldn't be had
abbrev pub IsWhy : Play → ℕ → Call → ℕ → Type 0
IsWhy old app call number =
    ((why : Illegal) × (number ≡ condition_number why)
    × Fails why old.checked.config (own (caller_of old.checked.config app) old.checked.log) (caller_of old.checked.config app) call)
    ⊎ (number ≡ NO_MEMORY)

abbrev pub Called : Play → ℕ → Call → Play → Outcome → Type 0
Called old app call new (Ok reply) = IsMade old app call new reply
Called old app call new (Err number) = IsLeft old new × IsWhy old app call number

-- ---- what is told of it

abbrev pub number_in : Outcome → ℕ
number_in (Ok reply) = reply_number reply
number_in (Err number) = number

abbrev pub told_of : ℕ → Outcome → ℕ
told_of before (Ok reply) = told_in before reply
told_of before (Err number) = before

abbrev pub items_in : Outcome → List Item
items_in (Ok reply) = taken reply
items_in (Err number) = []

abbrev pub count_in : ℕ → Outcome → ℕ
count_in before (Ok reply) = length (taken reply)
count_in before (Err number) = before

-- ---- the exports

-- Each makes its call, and answers the number of how that ended. One that moves no items leaves the applications' frames.
abbrev pub Makes : State → State → ℕ → Call → (before after answer : ℕ) → Type 0
Makes old new app call before after answer =
    (outcome : Outcome) × Called old.bench app call new.bench outcome × (answer ≡ number_in outcome) × (after ≡ told_of before outcome)
    × (new.purse ≡ old.purse)

abbrev pub geometry_of : State → Geometry
geometry_of state = state.bench.checked.config.geometry

-- the applications' frames after a Submit: those of the items are gone, and where it isn't made they are put back
abbrev pub left_after : List (Option Frame) → List Item → Outcome → List (Option Frame)
left_after left items (Ok reply) = left
left_after left items (Err number) = with_frames left items

-- the call of a Submit has the items of the descriptors
abbrev pub SubmitsThese : State → State → ℕ → Ring → List Desc → ℕ → Type 0
SubmitsThese old new app r descs answer =
    let items = items_of (geometry_of old) old.purse.frames.items descs in
    (outcome : Outcome) × Called old.bench app (Submit r items) new.bench outcome × (answer ≡ number_in outcome)
    × (new.purse.frames.items ≡ left_after (left_by (geometry_of old) old.purse.frames.items descs) items outcome)

-- no call is made where there are more than 32 descriptors
abbrev pub Submits : State → State → ℕ → Ring → List Desc → (answer : ℕ) → Type 0
Submits old new app r descs answer =
    (most_items < length descs → (answer ≡ COUNT) × (new ≡ old)) × (length descs ≤ most_items → SubmitsThese old new app r descs answer)

-- The call of a Peek takes at most so many items. Their descriptors stand in place of as many, and the application has their frames.
abbrev pub Peeks : State → State → ℕ → Ring → (before after : List Desc) → (had count answer : ℕ) → Type 0
Peeks old new app r before after had count answer =
    (outcome : Outcome) × Called old.bench app (Peek r (min (length before) 64)) new.bench outcome × (answer ≡ number_in outcome)
    × (after ≡ drawn_over before (items_in outcome)) × (count ≡ count_in had outcome)
    × (new.purse.frames.items ≡ with_frames old.purse.frames.items (items_in outcome))
