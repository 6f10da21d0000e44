-- What legality, histories and registration say of the object on one thread.
use Rattle.std.specs.Prelude.{ℕ, ◌≤◌, ◌↔◌, List, length}
use Rattle.xsk_umem.specs.Frame.{Frame}
use Rattle.xsk_umem.specs.Geometry.{Geometry}
use Rattle.xsk_umem.specs.Registration.{fresh}
use Rattle.xsk_model.specs.Entry.{Entry, own}
use Rattle.xsk_model.specs.Legal.{IsLegal}
use Rattle.xsk_model.specs.Opening.{AreFrames}
use Rattle.xsk_model.specs.History.{IsHistory, state_after}
use Rattle.xsk_model.specs.Config.{Config}
use Rattle.xsk_model.specs.Stored.{stored}
use Rattle.xsk_model.specs.declared.call.Call.{Call}
use Rattle.xsk_plain.specs.Engine.{Engine, Shows, CanPerform, frames_out}

-- where the state is shown that a history leaves, each call that is legal after it can be performed
abbrev pub LegalCanPerform : Type 0
LegalCanPerform = (frames : List Frame) (h : List Entry) (engine : Engine) (who : ℕ) (call : Call) → IsHistory engine.config frames h
    → Shows engine (state_after engine.config frames h) → IsLegal engine.config (own who h) who call → CanPerform engine.config engine.rings call

-- where the state is shown that a history leaves, no more frames stand in rings than there are
abbrev pub FewFramesOut : Type 0
FewFramesOut = (frames : List Frame) (h : List Entry) (engine : Engine) → IsHistory engine.config frames h → Shows engine (state_after engine.config frames h)
    → length (frames_out engine.rings) ≤ engine.config.geometry.frames

-- the frames that registration gives are all frames of its geometry
abbrev pub FreshAreFrames : Type 0
FreshAreFrames = (g : Geometry) → AreFrames g (fresh g.chunk g.frames)

-- a call is legal after a caller's own entries of a history exactly where it is after those of the history as it is
-- stored: of the frames' bytes legality asks nothing
abbrev pub LogDecides : Type 0
LogDecides = (c : Config) (h : List Entry) (who : ℕ) (call : Call)
    → IsLegal c (own who (stored c.geometry c.sg h)) who call ↔ IsLegal c (own who h) who call
