-- A standing between a call and its reply.
use Rattle.std.specs.Prelude.{List}
use Rattle.xsk_model.specs.Config.{Config}
use Rattle.xsk_model.specs.Entry.{Told, with_told}
use Rattle.xsk_model.specs.declared.call.Call.{Call}
use Rattle.xsk_model.specs.declared.call.Call.TheVariants.{Reserve, Submit, Peek, Release, Swap, Look}
use Rattle.xsk_model.specs.declared.call.Reply.TheVariants.{Submitted, Released}
use Rattle.xsk_legal.specs.Noted.{Noted}
use Rattle.xsk_legal.specs.Standing.{StandsFor}

-- A standing that stands for a caller's own calls and replies and for what a further call gives, whatever its reply: the
-- items of a Submit, and the places of a Release.
abbrev pub StandsGiven : Config → Noted → List Told → Call → Type 0
StandsGiven c kept mine (Reserve r n) = StandsFor c kept mine
StandsGiven c kept mine (Submit r items) = StandsFor c kept (with_told mine (Submit r items) Submitted)
StandsGiven c kept mine (Peek r n) = StandsFor c kept mine
StandsGiven c kept mine (Release r n) = StandsFor c kept (with_told mine (Release r n) Released)
StandsGiven c kept mine (Swap m value) = StandsFor c kept mine
StandsGiven c kept mine (Look m) = StandsFor c kept mine
