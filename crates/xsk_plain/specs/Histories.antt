-- That the log of an engine is one legal history from the opening, and that what is noted of each caller stands for its
-- own calls and replies in it.
use Rattle.std.specs.Prelude.{◌≡◌, ℕ, Some, List, length, slice_get}
use Rattle.xsk_umem.specs.Frame.{Frame}
use Rattle.xsk_model.specs.Config.{Config, callers_of}
use Rattle.xsk_model.specs.Entry.{Entry, own}
use Rattle.xsk_model.specs.History.{IsHistory, state_after}
use Rattle.xsk_model.specs.Stored.{stored}
use Rattle.xsk_legal.specs.Noted.{Noted}
use Rattle.xsk_legal.specs.ItemNotes.{IsFor}
use Rattle.xsk_legal.specs.Standing.{StandsFor}
use Rattle.xsk_plain.specs.Engine.{Engine, Shows}

-- the log is a legal history from the opening with these frames, as it is stored, and the engine shows the state that
-- the history leaves
pub record HasRun (engine : Engine) (frames : List Frame) (h : List Entry) : Type 0 where
  pub legal : IsHistory engine.config frames h
  pub shows : Shows engine (state_after engine.config frames h)
  pub log : engine.log ≡ stored engine.config.geometry engine.config.sg h

-- there is such a history
pub record IsRun (engine : Engine) : Type 0 where
  pub frames : List Frame
  pub history : List Entry
  pub is : HasRun engine frames history

-- what is noted of a caller stands for its own calls and replies
pub record NotesOwn (c : Config) (h : List Entry) (who : ℕ) (kept : Noted) : Type 0 where
  pub caller : kept.who ≡ who
  pub stands : StandsFor c kept (own who h)

-- it is that of a caller after the calls of the log
pub record IsStanding (engine : Engine) (who : ℕ) (kept : Noted) : Type 0 where
  pub kind : IsFor engine.config kept
  pub frames : List Frame
  pub history : List Entry
  pub run : HasRun engine frames history
  pub notes : NotesOwn engine.config history who kept

-- so it is for each caller
pub record EachNotesOwn (c : Config) (h : List Entry) (noted : List Noted) : Type 0 where
  pub count : length noted ≡ callers_of c
  pub each : (who : ℕ) (kept : Noted) → slice_get noted who ≡ Some kept → NotesOwn c h who kept
