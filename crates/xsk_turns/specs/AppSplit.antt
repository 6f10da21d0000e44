-- Split runs of an application. Threads that take an application's ends in turn make its calls by steps, in any order: a visit to
-- a lane, a visit to a side, or the looks at the marks by which the drivers tell that they have no further packet. Each is the
-- piece of a turn that it is, cut at its start, from what the steps before it left. Then the application goes on from there by
-- its turns. No socket is closed there. All of this is this project's own.
use Rattle.std.specs.Prelude.{◌≡◌, ℕ, ◌<◌, ◌≤◌, true, false, None, List, [], ◌∷◌, ◌++◌, length, All}
use Rattle.xsk_umem.specs.Frame.{Frame}
use Rattle.xsk_umem.specs.Limits.{most_items}
use Rattle.xsk_umem.specs.declared.batch.Item.{Item}
use Rattle.xsk_model.specs.Config.{Config}
use Rattle.xsk_model.specs.Ends.{draining_of}
use Rattle.xsk_model.specs.Entry.{Told}
use Rattle.xsk_model.specs.Legal.{IsLegal, IsItemOn}
use Rattle.xsk_model.specs.Numbers.{times}
use Rattle.xsk_model.specs.Opening.{home_item}
use Rattle.xsk_model.specs.Own.{had_of, submitted_of, peeked_of}
use Rattle.xsk_model.specs.Rings.{caller_of}
use Rattle.xsk_model.specs.declared.call.Call.{Call}
use Rattle.xsk_model.specs.declared.call.Mark.TheVariants.{RxDone}
use Rattle.xsk_model.specs.declared.call.Reply.{Reply}
use Rattle.xsk_model.specs.declared.call.Ring.TheVariants.{Fill, Rx, Tx}
use Rattle.xsk_turns.specs.Script.{Script, ask, again, Leaves, Asks, Ends, IsRun, IsWhole}
use Rattle.xsk_turns.specs.AppTurns.{AppKept, AppNoted, pair_of, rx_of, tx_of, lanes_of, pending_at, back_at, visit_lane, visit_side, look_rx_done, app_turn, app_start}
use Rattle.xsk_turns.specs.AppOwned.{IsApp, HasOwnFrames, app_numbers, AppOwned}
use Rattle.xsk_turns.specs.Owned.{AllFit}

-- ---- steps

pub data SplitStep : Type 0 where
  AtLane : ℕ → SplitStep
  AtSide : ℕ → SplitStep
  AtMarks : SplitStep

-- there is such a lane, or side
abbrev pub HasPlace : Config → SplitStep → Type 0
HasPlace c (AtLane lane) = lane < lanes_of c
HasPlace c (AtSide side) = side < 2
HasPlace c AtMarks = Unit {0}

-- a step has no use of what a turn notes
abbrev pub no_note : AppNoted
no_note = record { seen = false; gone = false; lanes_empty = false; sides_empty = false; acked = false }

-- the piece of a turn that a step is, from what is kept; after it another step may begin
abbrev pub piece : Config → ℕ → SplitStep → AppKept → Script AppKept
piece c app (AtLane lane) kept = visit_lane c app lane (pending_at kept lane) no_note kept (λ noted kept. again kept)
piece c app (AtSide side) kept = visit_side c app side (back_at kept side) no_note kept (λ noted kept. again kept)
piece c app AtMarks kept = look_rx_done c app 2 0 kept

-- after a list of calls and replies this is left of a piece
abbrev pub LeavesOf : Script AppKept → List Told → Script AppKept → Type 0
LeavesOf script l left = Leaves (λ kept. again kept) script l left

-- a list is a step from what is kept, and leaves this
pub record IsStep (c : Config) (app : ℕ) (step : SplitStep) (kept : AppKept) (l : List Told) (now : AppKept) : Type 0 where
  pub place : HasPlace c step
  pub leaves : LeavesOf (piece c app step kept) l (again now)

-- it is these steps, one after the other
abbrev pub AreSteps : Config → ℕ → List SplitStep → AppKept → List Told → AppKept → Type 0
AreSteps c app [] kept l now = (l ≡ []) × (now ≡ kept)
AreSteps c app (step ∷ steps) kept l now =
    (first : List Told) × (later : List Told) × (next : AppKept) × (l ≡ first ++ later) × IsStep c app step kept first next × AreSteps c app steps next later now

-- ---- split runs

-- a list is made of steps of a new application, and leaves this
abbrev pub IsSplit : Config → ℕ → List Told → AppKept → Type 0
IsSplit c app l kept = (steps : List SplitStep) × AreSteps c app steps (app_start c) l kept

-- and then of a run from there; no socket is closed in it
pub record IsSplitRun (c : Config) (app : ℕ) (l : List Told) : Type 0 where
  pub closes : c.closing ≡ None
  pub steps : List Told
  pub later : List Told
  pub kept : AppKept
  pub cut : l ≡ steps ++ later
  pub split : IsSplit c app steps kept
  pub run : IsRun (app_turn c app) kept later

-- The run is a whole one, and by the steps before it each lane's RX ring was found empty, after both drivers had told that they
-- have no further packet. So a whole split run has steps.
pub record IsWholeSplitRun (c : Config) (app : ℕ) (l : List Told) : Type 0 where
  pub closes : c.closing ≡ None
  pub steps : List Told
  pub later : List Told
  pub kept : AppKept
  pub cut : l ≡ steps ++ later
  pub split : IsSplit c app steps kept
  pub run : IsWhole (app_turn c app) kept later
  pub drained : (lane : ℕ) → lane < lanes_of c → (draining_of (RxDone (pair_of c app 0) ∷ RxDone (pair_of c app 1) ∷ []) (Rx (rx_of c app lane)) steps).empty ≡ true

-- ---- what earlier calls left

-- an item that may stand on a TX ring, whichever, and a frame that may go back to a FILL ring
abbrev pub MayPass : Config → Item → Type 0
MayPass c item = IsItemOn c.geometry (Tx 0) item

abbrev pub MayGoBack : Config → Frame → Type 0
MayGoBack c frame = IsItemOn c.geometry (Fill 0) (home_item c.geometry frame)

-- what an application keeps is what its earlier calls and replies left it: it has these frames and no other, each once
pub record HasLeft (c : Config) (kept : AppKept) (past : List Told) : Type 0 where
  pub lanes : length kept.pending ≡ lanes_of c
  pub sides : length kept.back ≡ 2
  pub items : (lane : ℕ) → All (MayPass c) (pending_at kept lane)
  pub few : (lane : ℕ) → length (pending_at kept lane) ≤ most_items
  pub frames : (side : ℕ) → All (MayGoBack c) (back_at kept side)
  pub once : (n : ℕ) → times n (had_of past) ≤ 1
  pub counts : (n : ℕ) → times n (app_numbers kept) ≡ times n (had_of past)

-- ---- laws

-- After steps, for each lane the items that were peeked are those that were submitted, followed by those that are pending.
abbrev pub SplitKeepsLanes : Type 0
SplitKeepsLanes = (c : Config) (app : ℕ) (l : List Told) (kept : AppKept) (lane : ℕ) → IsApp c app → c.closing ≡ None → AllFit c [] l → IsSplit c app l kept → lane < lanes_of c
    → peeked_of (Rx (rx_of c app lane)) l ≡ submitted_of (Tx (tx_of c app lane)) l ++ pending_at kept lane

-- what is kept is what the steps left
abbrev pub SplitKeepsFrames : Type 0
SplitKeepsFrames = (c : Config) (app : ℕ) (l : List Told) (kept : AppKept) → IsApp c app → c.closing ≡ None → AllFit c [] l → IsSplit c app l kept → HasLeft c kept l

-- Each call of a step is legal after the steps before it and its own earlier calls, where all frames that the application has
-- had are at home with it.
abbrev pub StepCallsLegal : Type 0
StepCallsLegal = (c : Config) (app : ℕ) (past : List Told) (step : SplitStep) (start : AppKept) (l : List Told) (kept : AppKept) (call : Call) (rest : Reply → Script AppKept) → IsApp c app → c.closing ≡ None
    → start.tx_done ≡ false → HasLeft c start past → HasPlace c step → AllFit c past l → LeavesOf (piece c app step start) l (ask kept call rest) → HasOwnFrames c app (past ++ l)
    → IsLegal c (past ++ l) (caller_of c app) call

-- And so is each call of a run from what earlier calls left; its frames are those that it keeps, and those of the call.
abbrev pub LaterCallsLegal : Type 0
LaterCallsLegal = (c : Config) (app : ℕ) (past : List Told) (start : AppKept) (l : List Told) (kept : AppKept) (call : Call) (rest : Reply → Script AppKept) → IsApp c app → c.closing ≡ None
    → HasLeft c start past → AllFit c past l → Asks (app_turn c app) start l kept call rest
    → AppOwned kept call (past ++ l) × (HasOwnFrames c app (past ++ l) → IsLegal c (past ++ l) (caller_of c app) call)

-- at its end its frames are those that it keeps
abbrev pub LaterFramesAtEnd : Type 0
LaterFramesAtEnd = (c : Config) (app : ℕ) (past : List Told) (start : AppKept) (l : List Told) (kept : AppKept) → IsApp c app → c.closing ≡ None → HasLeft c start past → AllFit c past l
    → Ends (app_turn c app) start l kept → (n : ℕ) → times n (app_numbers kept) ≡ times n (had_of (past ++ l))
