-- What a call that is served adds to a history, and why another isn't served.
use Rattle.std.specs.Prelude.{◌≡◌, ℕ, Result, Ok, Err, List, [], ◌∷◌, ◌++◌}
use Rattle.xsk_umem.specs.Frame.{Frame}
use Rattle.xsk_umem.specs.declared.batch.Item.{Item}
use Rattle.xsk_model.specs.Asks.{joined_reply}
use Rattle.xsk_model.specs.Entry.{Entry, own}
use Rattle.xsk_model.specs.History.{state_after}
use Rattle.xsk_model.specs.Object.{reply_at}
use Rattle.xsk_model.specs.declared.ask.Answer.{Answer}
use Rattle.xsk_model.specs.declared.call.Call.{Call}
use Rattle.xsk_model.specs.declared.call.Reply.{Reply}
use Rattle.xsk_legal.specs.Why.{Fails}
use Rattle.xsk_plain.specs.Engine.{Engine}
use Rattle.xsk_turns.specs.Workers.{Setting}
use Rattle.xsk_bench.specs.Played.{HasPlayed}
use Rattle.xsk_bench.specs.declared.bench.Unserved.{Unserved}
use Rattle.xsk_bench.specs.declared.bench.Unserved.TheVariants.{Illegal as Refused}
use Rattle.xsk_bench.specs.declared.play.Play.{Play}

abbrev pub entry_by : ℕ → Call → Reply → Entry
entry_by who call reply = record { who = who; call = call; reply = reply }

-- The caller's call is made after the history, and its reply is the object's there; or it isn't, and the batch and the log are as
-- they were.
abbrev pub Serves : Setting → List Frame → List Entry → ℕ → Call → (before after : List Item) → (old new : Play) → Result Answer Unserved → Type 0
Serves s frames h who call before after old new (Ok answer) =
    (joined_reply answer after ≡ reply_at s.config (state_after s.config frames h) call)
    × HasPlayed s frames (h ++ entry_by who call (joined_reply answer after) ∷ []) new
Serves s frames h who call before after old new (Err e) = (after ≡ before) × (new.checked.log ≡ old.checked.log) × HasPlayed s frames h new

-- ---- why it isn't served

-- it isn't since it isn't legal
abbrev pub IsIllegal : Result Answer Unserved → Type 0
IsIllegal (Err (Refused why)) = Unit {0}
IsIllegal result = ⊥

-- a reason that is told is the first condition that fails after the caller's own calls and replies in the log
abbrev pub TellsWhy : Engine → ℕ → Call → Result Answer Unserved → Type 0
TellsWhy engine who call (Err (Refused why)) = Fails why engine.config (own who engine.log) who call
TellsWhy engine who call result = Unit {0}
