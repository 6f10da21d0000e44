-- Where the object stands after a history, and a worker's turn.
use Rattle.std.specs.Prelude.{◌≡◌, ◌↔◌, ℕ, Bool, false, IsTrue, List, [], ◌∷◌, ◌++◌, length}
use Rattle.xsk_umem.specs.Frame.{Frame}
use Rattle.xsk_model.specs.Entry.{Told, Entry, own}
use Rattle.xsk_model.specs.History.{IsHistory, state_after}
use Rattle.xsk_model.specs.Stored.{stored}
use Rattle.xsk_model.specs.OtherWords.{changes}
use Rattle.xsk_model.specs.declared.call.Act.{Act}
use Rattle.xsk_model.specs.declared.call.Act.TheVariants.{Call as Calls}
use Rattle.xsk_plain.specs.Engine.{Shows}
use Rattle.xsk_turns.specs.Workers.{Setting, IsWholeRun}
use Rattle.xsk_machine.specs.Acts.{IsActAfter}
use Rattle.xsk_sim.specs.Rounds.{IsTurn}
use Rattle.xsk_sim.specs.Server.{Seen}

-- a legal history from the opening has so many entries as calls were made, and the object shows the state that it leaves; where it
-- keeps its log, this is the history as it is stored
pub record HasRun (s : Setting) (frames : List Frame) (h : List Entry) (object : Seen) : Type 0 where
  pub config : object.engine.config ≡ s.config
  pub legal : IsHistory s.config frames h
  pub shows : Shows object.engine (state_after s.config frames h)
  pub calls : object.engine.calls ≡ length h
  pub log : IsTrue object.keeps → object.engine.log ≡ stored s.config.geometry s.config.sg h

-- a worker took its turn after a history, and stands for its own calls and replies with the act that it gave then
pub record TakesTurn (s : Setting) (frames : List Frame) (who : ℕ) (h : List Entry) (Stands : List Told → Type 0) (act : Act) (object : Seen) : Type 0 where
  pub entries : List Entry
  pub turn : IsTurn (IsWholeRun s) h who entries
  pub run : HasRun s frames (h ++ entries) object
  pub stands : Stands (own who (h ++ entries))
  pub after : IsActAfter s who act (own who (h ++ entries))

-- What is told and noted of a turn: whether its call, if it makes one, changes nothing, neither the object nor the number of
-- settled packets, which was one number at the call before and is another now.
abbrev pub Notes : Act → ℕ → ℕ → ℕ → Bool → List Entry → Type 0
Notes act before settled noted still [] = IsTrue still × (noted ≡ before)
Notes act before settled noted still (e ∷ es) = (act ≡ Calls e.call) × (noted ≡ settled) × (IsTrue still ↔ ((changes e.call e.reply ≡ false) × (settled ≡ before)))
