-- Calls that are made on the object, with frames from the shelf.
use Rattle.std.specs.Prelude.{◌≡◌, ℕ, ◌≤◌, Bool, true, false, List, [], ◌∷◌, ◌++◌, length}
use Rattle.xsk_umem.specs.Frame.{Frame}
use Rattle.xsk_model.specs.Numbers.{times}
use Rattle.xsk_model.specs.Entry.{Entry, own}
use Rattle.xsk_model.specs.Own.{had_of}
use Rattle.xsk_model.specs.Legal.{IsLegal}
use Rattle.xsk_model.specs.declared.call.Call.{Call}
use Rattle.xsk_plain.specs.Engine.{Engine}
use Rattle.xsk_plain.specs.Histories.{HasRun}
use Rattle.xsk_audit.specs.Reading.{read_call}
use Rattle.xsk_audit.specs.Shelf.{Places, has, AreInPlace}
use Rattle.xsk_audit.specs.Telling.{AreMade}

-- each frame that a caller has lies on the shelf
abbrev pub IsStocked : List Entry → Places → Type 0
IsStocked h places = (who n : ℕ) → 1 ≤ times n (had_of (own who h)) → has places n ≡ 1

-- and each frame on the shelf some caller has
abbrev pub AreHad : List Entry → Places → Type 0
AreHad h places = (n : ℕ) → has places n ≡ 1 → (who : ℕ) × (1 ≤ times n (had_of (own who h)))

-- a history was made on the engine, and the frames of its callers lie on the shelf
pub record IsPlaying (engine : Engine) (shelf : Places) (frames : List Frame) (h : List Entry) : Type 0 where
  pub run : HasRun engine frames h
  pub stocked : IsStocked h shelf
  pub had : AreHad h shelf
  pub places : AreInPlace engine.config.geometry shelf
  pub size : length shelf ≡ engine.config.geometry.frames

-- a call with these descriptors was made, or none is legal
pub record IsMadeBy (engine : Engine) (shelf : Places) (frames : List Frame) (h : List Entry) (who : ℕ) (call : Call) : Type 0 where
  pub entry : Entry
  pub playing : IsPlaying engine shelf frames (h ++ entry ∷ [])
  pub caller : entry.who ≡ who
  pub told : read_call entry.call ≡ call

abbrev pub Makes : Engine → Places → List Frame → List Entry → ℕ → Call → Bool → Type 0
Makes engine shelf frames h who call true = IsMadeBy engine shelf frames h who call
Makes engine shelf frames h who call false = HasRun engine frames h × ((other : Call) → read_call other ≡ call → IsLegal engine.config (own who h) who other → ⊥)

-- the calls of the first lines were made, up to one that can't be read or isn't legal
pub record Plays (engine : Engine) (lines : List (List ℕ)) : Type 0 where
  pub frames : List Frame
  pub history : List Entry
  pub run : HasRun engine frames history
  pub made : AreMade engine.config history lines
