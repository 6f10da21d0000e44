-- The list of calls and replies for which an application stands.
use Rattle.std.specs.Prelude.{◌≡◌, ℕ, List, []}
use Rattle.xsk_model.specs.Config.{Config}
use Rattle.xsk_model.specs.Rings.{caller_of}
use Rattle.xsk_model.specs.Numbers.{times}
use Rattle.xsk_model.specs.Entry.{Told}
use Rattle.xsk_model.specs.Own.{had_of}
use Rattle.xsk_model.specs.Legal.{IsLegal}
use Rattle.xsk_model.specs.declared.call.Call.{Call}
use Rattle.xsk_model.specs.declared.call.Act.{Act}
use Rattle.xsk_model.specs.declared.call.Act.TheVariants.{Call as Calls, Ended}
use Rattle.xsk_turns.specs.Script.{Asks, Ends}
use Rattle.xsk_turns.specs.Owned.{AllFit}
use Rattle.xsk_turns.specs.AppTurns.{app_turn, app_start_by, IsAppRunBy, IsWholeAppRunBy}
use Rattle.xsk_turns.specs.declared.manner.Manner.{Manner}
use Rattle.xsk_turns.specs.AppOwned.{IsApp, HasOwnFrames, app_numbers, AppOwned}
use Rattle.xsk_app.specs.Shown.{Shown}
use Rattle.xsk_app.specs.Stands.{left}
use Rattle.xsk_app.specs.declared.machine.Wait.TheVariants.{Start}

-- an application of a regular configuration with a manner that has made no call yet
pub record IsNew (m : Manner) (c : Config) (a : ℕ) (s : Shown) : Type 0 where
  pub config : s.config ≡ c
  pub app : s.app ≡ a
  pub one : IsApp c a
  pub wait : s.wait ≡ Start
  pub kept : s.kept ≡ app_start_by m c

-- An application that stands for a list: after it, its turns keep what the application keeps, and ask for the call that it
-- gave.
pub record Stands (m : Manner) (c : Config) (a : ℕ) (s : Shown) (call : Call) (l : List Told) : Type 0 where
  pub config : s.config ≡ c
  pub app : s.app ≡ a
  pub one : IsApp c a
  pub fit : AllFit c [] l
  pub asks : Asks (app_turn c a) (app_start_by m c) l s.kept call (left c a s.wait s.noted s.kept)

-- or one that has ended, as its turns have, with what they keep
pub record HasEnded (m : Manner) (c : Config) (a : ℕ) (s : Shown) (l : List Told) : Type 0 where
  pub config : s.config ≡ c
  pub app : s.app ≡ a
  pub one : IsApp c a
  pub fit : AllFit c [] l
  pub ends : Ends (app_turn c a) (app_start_by m c) l s.kept

abbrev pub StandsWith : Manner → Config → ℕ → Shown → Act → List Told → Type 0
StandsWith m c a s (Calls call) l = Stands m c a s call l
StandsWith m c a s Ended l = HasEnded m c a s l

-- ---- what follows of it, by the laws of the turns

-- Where it gives a call, the list is a run, and no whole one. Its frames, with those of the call, are those that it peeked
-- and didn't submit. The call is legal where all frames that it has had are at home with it, as they are in every history of
-- the object.
pub record Tells (m : Manner) (c : Config) (a : ℕ) (s : Shown) (call : Call) (l : List Told) : Type 0 where
  pub run : IsAppRunBy m c a l
  pub more : IsWholeAppRunBy m c a l → ⊥
  pub owned : AppOwned s.kept call l
  pub legal : HasOwnFrames c a l → IsLegal c l (caller_of c a) call

-- Where it has ended, the list is a whole run, and its frames are those that it keeps.
pub record TellsAll (m : Manner) (c : Config) (a : ℕ) (s : Shown) (l : List Told) : Type 0 where
  pub whole : IsWholeAppRunBy m c a l
  pub frames : (n : ℕ) → times n (app_numbers s.kept) ≡ times n (had_of l)

abbrev pub TellsWith : Manner → Config → ℕ → Shown → Act → List Told → Type 0
TellsWith m c a s (Calls call) l = Tells m c a s call l
TellsWith m c a s Ended l = TellsAll m c a s l
