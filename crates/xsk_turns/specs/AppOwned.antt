-- What an application has: at each call the frames that it keeps, with those of the call, are those that it peeked and
-- didn't submit, and the call is legal where all frames that it has had are at home with it: it wakes the driver of a home
-- after it gave the frames back. That they are is a law of the object: in every history frames stay with one application.
use Rattle.std.specs.Prelude.{◌≡◌, ℕ, ◌+◌, ◌<◌, ◌≤◌, List, [], ◌++◌, flat_map}
use Rattle.xsk_umem.specs.Geometry.{IsGeometry}
use Rattle.xsk_model.specs.Config.{Config, IsConfig, IsRegular}
use Rattle.xsk_model.specs.Marks.{apps_of}
use Rattle.xsk_model.specs.Rings.{caller_of}
use Rattle.xsk_model.specs.Numbers.{times, numbers}
use Rattle.xsk_model.specs.Object.{submitted}
use Rattle.xsk_model.specs.Homes.{home_app}
use Rattle.xsk_model.specs.Entry.{Told}
use Rattle.xsk_model.specs.Own.{had_of}
use Rattle.xsk_model.specs.Legal.{IsLegal}
use Rattle.xsk_model.specs.declared.call.Call.{Call}
use Rattle.xsk_model.specs.declared.call.Reply.{Reply}
use Rattle.xsk_turns.specs.Script.{Script, Asks, Ends}
use Rattle.xsk_turns.specs.AppTurns.{AppKept, app_turn, app_start_by}
use Rattle.xsk_turns.specs.declared.manner.Manner.{Manner}
use Rattle.xsk_turns.specs.Owned.{AllFit, frame_numbers}

-- an application of a regular configuration
pub record IsApp (c : Config) (app : ℕ) : Type 0 where
  pub config : IsConfig c
  pub regular : IsRegular c
  pub geometry : IsGeometry c.geometry
  pub known : app < apps_of c

-- the numbers of all frames that it keeps
abbrev pub app_numbers : AppKept → List ℕ
app_numbers kept = flat_map numbers kept.pending ++ flat_map frame_numbers kept.back

-- each frame that an application has had, after some first of its calls and replies, is at home with it
abbrev pub HasOwnFrames : Config → ℕ → List Told → Type 0
HasOwnFrames c app l = (first later : List Told) (n : ℕ) → first ++ later ≡ l → 1 ≤ times n (had_of first) → home_app c n ≡ caller_of c app

-- an application that keeps this, and gave the call after a list of its calls and replies
abbrev pub AppOwned : AppKept → Call → List Told → Type 0
AppOwned kept call l = (n : ℕ) → times n (app_numbers kept) + times n (numbers (submitted call)) ≡ times n (had_of l)

-- ---- the laws

-- so it is at each call that an application makes, and there the call is legal where its frames are its own
abbrev pub AppKeepsFrames : Type 0
AppKeepsFrames = (m : Manner) (c : Config) (app : ℕ) (l : List Told) (kept : AppKept) (call : Call) (rest : Reply → Script AppKept) → IsApp c app → AllFit c [] l
    → Asks (app_turn c app) (app_start_by m c) l kept call rest → AppOwned kept call l

abbrev pub AppCallsLegal : Type 0
AppCallsLegal = (m : Manner) (c : Config) (app : ℕ) (l : List Told) (kept : AppKept) (call : Call) (rest : Reply → Script AppKept) → IsApp c app → HasOwnFrames c app l → AllFit c [] l
    → Asks (app_turn c app) (app_start_by m c) l kept call rest → IsLegal c l (caller_of c app) call

-- at its end its frames are those that it keeps
abbrev pub AppKeepsFramesAtEnd : Type 0
AppKeepsFramesAtEnd = (m : Manner) (c : Config) (app : ℕ) (l : List Told) (kept : AppKept) → IsApp c app → AllFit c [] l
    → Ends (app_turn c app) (app_start_by m c) l kept → (n : ℕ) → times n (app_numbers kept) ≡ times n (had_of l)
