-- Laws of what a standing stands for. Each is the contract of a function of its own.
use Rattle.std.specs.Prelude.{◌≡◌, ℕ, Bool, true, false, not, List, [], ◌∷◌, ◌++◌}
use Rattle.xsk_umem.specs.declared.batch.Item.{Item}
use Rattle.xsk_model.specs.Config.{Config}
use Rattle.xsk_model.specs.Entry.{Told, with_told}
use Rattle.xsk_model.specs.Legal.{IsLegal}
use Rattle.xsk_model.specs.History.{MayGive, Fits}
use Rattle.xsk_model.specs.OtherWords.{is_flag}
use Rattle.xsk_model.specs.declared.call.Ring.{Ring}
use Rattle.xsk_model.specs.declared.call.Mark.{Mark}
use Rattle.xsk_model.specs.declared.call.Mark.TheVariants.{Closing}
use Rattle.xsk_model.specs.declared.call.Call.{Call}
use Rattle.xsk_model.specs.declared.call.Call.TheVariants.{Reserve, Submit, Peek, Release, Swap, Look}
use Rattle.xsk_model.specs.declared.call.Reply.{Reply}
use Rattle.xsk_model.specs.declared.call.Reply.TheVariants.{Granted, Full, Items, Empty}
use Rattle.xsk_legal.specs.Noted.{Noted}
use Rattle.xsk_legal.specs.declared.why.Illegal.{Illegal}
use Rattle.xsk_legal.specs.Why.{Fails}
use Rattle.xsk_legal.specs.Standing.{StandsFor, IsPlacing, IsFetching}
use Rattle.xsk_legal.specs.ItemNotes.{IsFor, CanGrant, CanRelease, CanFetch, CanPlace}

-- whether a standing notes what a mark was found to be
abbrev pub is_watched : Mark → Bool
is_watched (Closing s) = true
is_watched m = false

-- whether a call with its reply is one that a standing notes: not a Swap of a flag, a Look but at Closing, a Reserve that
-- found too few places free or a Peek that found nothing
abbrev pub is_noted : Call → Reply → Bool
is_noted (Swap m value) reply = not (is_flag m)
is_noted (Look m) reply = is_watched m
is_noted call (Full places) = false
is_noted call Empty = false
is_noted call reply = true

-- a call that isn't noted leaves what the standing stands for, with this call
abbrev pub NeedsNoNote : Type 0
NeedsNoNote = (c : Config) (kept : Noted) (mine : List Told) (call : Call) (reply : Reply) → StandsFor c kept mine → IsLegal c mine kept.who call → Fits c mine call reply
    → is_noted call reply ≡ false → StandsFor c kept (with_told mine call reply)

-- before the first item of a Submit or a Peek, a standing stands for the list and no item
abbrev pub BeginsWithNone : Type 0
BeginsWithNone = (c : Config) (kept : Noted) (mine : List Told) (r : Ring) → StandsFor c kept mine → IsPlacing c kept mine r [] × IsFetching c kept mine r []

-- each call that was legal, with a reply that the object may give, can be noted
pub record CanBeNoted : Type 0 where
  pub kind : (c : Config) (kept : Noted) (mine : List Told) → StandsFor c kept mine → IsFor c kept
  pub grant : (c : Config) (kept : Noted) (mine : List Told) (r : Ring) (n : ℕ) → StandsFor c kept mine → MayGive c mine kept.who (Reserve r n) Granted → CanGrant c kept r n
  pub release : (c : Config) (kept : Noted) (mine : List Told) (r : Ring) (n : ℕ) → StandsFor c kept mine → IsLegal c mine kept.who (Release r n) → CanRelease c kept r n
  pub fetch : (c : Config) (kept : Noted) (mine : List Told) (r : Ring) (n : ℕ) (done : List Item) (item : Item) (later : List Item) → IsFetching c kept mine r done
      → MayGive c mine kept.who (Peek r n) (Items (done ++ item ∷ later)) → CanFetch c kept r item
  pub place : (c : Config) (kept : Noted) (mine : List Told) (r : Ring) (done : List Item) (item : Item) (later : List Item) → IsPlacing c kept mine r done
      → IsLegal c mine kept.who (Submit r (done ++ item ∷ later)) → CanPlace c kept r item

-- a call of which a condition fails isn't legal
abbrev pub FailsNotLegal : Type 0
FailsNotLegal = (why : Illegal) (c : Config) (mine : List Told) (who : ℕ) (call : Call) → Fails why c mine who call → IsLegal c mine who call → ⊥
