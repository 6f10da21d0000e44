-- An application that goes on from what its own earlier calls left: its later calls are a run from there.
use Rattle.std.specs.Prelude.{◌≡◌, ℕ, false, None, List, [], ◌∷◌, ◌++◌}
use Rattle.xsk_model.specs.Config.{Config}
use Rattle.xsk_model.specs.Rings.{caller_of}
use Rattle.xsk_model.specs.Numbers.{times}
use Rattle.xsk_model.specs.Entry.{Told}
use Rattle.xsk_model.specs.Own.{had_of}
use Rattle.xsk_model.specs.Legal.{IsLegal}
use Rattle.xsk_model.specs.declared.call.Call.{Call}
use Rattle.xsk_model.specs.declared.call.Act.{Act}
use Rattle.xsk_model.specs.declared.call.Act.TheVariants.{Call as Calls, Ended}
use Rattle.xsk_turns.specs.Script.{Asks, Ends, IsRun, IsWhole}
use Rattle.xsk_turns.specs.Owned.{AllFit}
use Rattle.xsk_turns.specs.AppTurns.{AppKept, app_turn}
use Rattle.xsk_turns.specs.AppOwned.{IsApp, HasOwnFrames, app_numbers, AppOwned}
use Rattle.xsk_turns.specs.AppSplit.{HasLeft}
use Rattle.xsk_turns.specs.Mangling.{plain}
use Rattle.xsk_app.specs.Shown.{Shown}
use Rattle.xsk_app.specs.Stands.{left}
use Rattle.xsk_app.specs.declared.carried.Carried.{Carried}
use Rattle.xsk_app.specs.declared.machine.Wait.TheVariants.{Start}

-- what it keeps between steps, where it hasn't told that it sends nothing more, and changes nothing
abbrev pub kept_in : Carried → AppKept
kept_in k = record {
  pending = k.pending.items;
  back = k.backs.items;
  seen = k.seen;
  gone = false ∷ false ∷ [];
  tx_done = false;
  manner = plain;
  number = 0;
  awaited = 0;
  cut = false ∷ false ∷ [];
  begun = false;
  acked = false;
}

-- an application at the start of a turn, with what its earlier calls and replies left it
pub record IsResumed (c : Config) (a : ℕ) (start : AppKept) (past : List Told) (s : Shown) : Type 0 where
  pub config : s.config ≡ c
  pub app : s.app ≡ a
  pub one : IsApp c a
  pub closes : c.closing ≡ None
  pub wait : s.wait ≡ Start
  pub kept : s.kept ≡ start
  pub begins : HasLeft c start past

-- One that stands for a list behind those: its turns from there keep what the application keeps, and ask for the call that it
-- gave; or it has ended, as they have.
pub record StandsFrom (c : Config) (a : ℕ) (start : AppKept) (past : List Told) (s : Shown) (call : Call) (l : List Told) : Type 0 where
  pub config : s.config ≡ c
  pub app : s.app ≡ a
  pub one : IsApp c a
  pub closes : c.closing ≡ None
  pub begins : HasLeft c start past
  pub fit : AllFit c past l
  pub asks : Asks (app_turn c a) start l s.kept call (left c a s.wait s.noted s.kept)

pub record HasEndedFrom (c : Config) (a : ℕ) (start : AppKept) (past : List Told) (s : Shown) (l : List Told) : Type 0 where
  pub config : s.config ≡ c
  pub app : s.app ≡ a
  pub one : IsApp c a
  pub closes : c.closing ≡ None
  pub begins : HasLeft c start past
  pub fit : AllFit c past l
  pub ends : Ends (app_turn c a) start l s.kept

abbrev pub StandsFromWith : Config → ℕ → AppKept → List Told → Shown → Act → List Told → Type 0
StandsFromWith c a start past s (Calls call) l = StandsFrom c a start past s call l
StandsFromWith c a start past s Ended l = HasEndedFrom c a start past s l

-- ---- what follows of it, by the laws of the turns

-- Where it gives a call, the list is a run from there, and no whole one; its frames, with those of the call, are those that it had;
-- and the call is legal after all that it made, where all frames that it has had are at home with it.
pub record TellsFrom (c : Config) (a : ℕ) (start : AppKept) (past : List Told) (s : Shown) (call : Call) (l : List Told) : Type 0 where
  pub run : IsRun (app_turn c a) start l
  pub more : IsWhole (app_turn c a) start l → ⊥
  pub owned : AppOwned s.kept call (past ++ l)
  pub legal : HasOwnFrames c a (past ++ l) → IsLegal c (past ++ l) (caller_of c a) call

-- Where it has ended, the list is a whole run from there, and its frames are those that it keeps.
pub record TellsAllFrom (c : Config) (a : ℕ) (start : AppKept) (past : List Told) (s : Shown) (l : List Told) : Type 0 where
  pub whole : IsWhole (app_turn c a) start l
  pub frames : (n : ℕ) → times n (app_numbers s.kept) ≡ times n (had_of (past ++ l))

abbrev pub TellsFromWith : Config → ℕ → AppKept → List Told → Shown → Act → List Told → Type 0
TellsFromWith c a start past s (Calls call) l = TellsFrom c a start past s call l
TellsFromWith c a start past s Ended l = TellsAllFrom c a start past s l

abbrev pub ResumedTells : Type 0
ResumedTells = (c : Config) (a : ℕ) (start : AppKept) (past : List Told) (s : Shown) (act : Act) (l : List Told) → StandsFromWith c a start past s act l → TellsFromWith c a start past s act l
