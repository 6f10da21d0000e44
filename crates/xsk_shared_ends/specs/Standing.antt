-- Where an application's pass stands in a step.
use Rattle.std.specs.Prelude.{◌≡◌, ℕ, ◌<◌, ◌==◌, Bool, true, false, if◌then◌else◌, None, List, ◌++◌, length}
use Rattle.xsk_umem.specs.declared.batch.Item.{Item}
use Rattle.xsk_umem.specs.Frame.{Frame}
use Rattle.xsk_model.specs.Config.{Config}
use Rattle.xsk_model.specs.Entry.{Told}
use Rattle.xsk_model.specs.Rings.{caller_of}
use Rattle.xsk_model.specs.declared.call.Call.{Call}
use Rattle.xsk_model.specs.declared.call.Call.TheVariants.{Look}
use Rattle.xsk_model.specs.declared.call.Mark.{Mark}
use Rattle.xsk_model.specs.declared.call.Reply.{Reply}
use Rattle.xsk_turns.specs.Script.{Script, ask, again, on_old}
use Rattle.xsk_turns.specs.AppTurns.{AppKept, pair_of, rx_of, tx_of, tx_pair, lanes_of, pending_at, back_at, wake, pass_on, visit_lane, visit_side, give_back}
use Rattle.xsk_turns.specs.AppOwned.{IsApp, HasOwnFrames}
use Rattle.xsk_turns.specs.AppSplit.{SplitStep, HasPlace, HasLeft, piece, LeavesOf, no_note}
use Rattle.xsk_turns.specs.Owned.{AllFit}
use Rattle.xsk_table.specs.View.{idle}
use Rattle.xsk_table.specs.Held.{Holder}
use Rattle.xsk_rings.specs.Rounds.{mine_of}
use Rattle.xsk_app.specs.declared.machine.Way.{Way}
use Rattle.xsk_shared_ends.specs.Steps.{came_of}
use Rattle.xsk_shared_ends.specs.declared.visiting.Step.{Step}
use Rattle.xsk_shared_ends.specs.declared.visiting.Step.TheVariants.{Moved}

-- a step of an application, what was kept as it began, and the calls and replies before it
pub record Origin : Type 0 where
  pub config : Config
  pub app : ℕ
  pub step : SplitStep
  pub start : AppKept
  pub past : List Told

pub record Begins (o : Origin) : Type 0 where
  pub one : IsApp o.config o.app
  pub closes : o.config.closing ≡ None
  pub place : HasPlace o.config o.step
  pub sends : o.start.tx_done ≡ false
  pub left : HasLeft o.config o.start o.past

-- A pass that is in the step, where this is left of it: its calls and replies since then have come to this place, each reply one
-- that fits, and this came of them.
pub record At (o : Origin) (p : Holder) (script : Script AppKept) (came : Step) : Type 0 where
  pub begins : Begins o
  pub config : p.view.setup.config ≡ o.config
  pub caller : p.who ≡ caller_of o.config o.app
  pub rests : p.view.flight ≡ idle
  pub own : HasOwnFrames o.config o.app (mine_of p)
  pub part : List Told
  pub mine : mine_of p ≡ o.past ++ part
  pub fit : AllFit o.config o.past part
  pub leaves : LeavesOf (piece o.config o.app o.step o.start) part script
  pub came_is : came ≡ came_of part

-- it stands at this call
abbrev pub Asks : Holder → Call → Type 0
Asks p call = (o : Origin) × (k : AppKept) × (rest : Reply → Script AppKept) × (came : Step) × At o p (ask k call rest) came

-- it stays the pass of its caller on its table
pub record IsSamePass (p q : Holder) : Type 0 where
  pub table : q.table ≡ p.table
  pub setup : q.view.setup ≡ p.view.setup
  pub who : q.who ≡ p.who

-- the step is over, with this kept
abbrev pub Over : Origin → Holder → AppKept → Step → Type 0
Over o p kept came = At o p (again kept) came

-- ---- by lane and side

-- the rings of a lane
pub record IsWayOf (c : Config) (app lane : ℕ) (way : Way) : Type 0 where
  pub below : lane < lanes_of c
  pub rx : way.rx ≡ rx_of c app lane
  pub tx : way.tx ≡ tx_of c app lane
  pub pair : way.pair ≡ tx_pair c app lane

abbrev pub next : AppKept → Script AppKept
next kept = again kept

abbrev pub after : {N : Type 0} → N → AppKept → Script AppKept
after noted kept = again kept

-- at the start of a visit to a lane with these items pending, and where they go on
pub record VisitsLane (c : Config) (way : Way) (o : Origin) (lane : ℕ) (k : AppKept) (items : List Item) (p : Holder) : Type 0 where
  pub config : c ≡ o.config
  pub way_is : IsWayOf o.config o.app lane way
  pub items_are : items ≡ pending_at k lane
  pub lanes : lane < length k.pending
  pub plain : k.manner.mangle ≡ None
  pub at : At o p (visit_lane o.config o.app lane items no_note k after) Moved

pub record PassesOn (c : Config) (way : Way) (o : Origin) (lane : ℕ) (k : AppKept) (items : List Item) (p : Holder) : Type 0 where
  pub config : c ≡ o.config
  pub way_is : IsWayOf o.config o.app lane way
  pub items_are : items ≡ pending_at k lane
  pub lanes : lane < length k.pending
  pub plain : k.manner.mangle ≡ None
  pub at : At o p (pass_on o.config o.app lane k next) Moved

-- at the start of a visit to a side with these frames to give back, and where they go back
pub record VisitsSide (c : Config) (pair : ℕ) (o : Origin) (side : ℕ) (k : AppKept) (frames : List Frame) (p : Holder) : Type 0 where
  pub config : c ≡ o.config
  pub pair_is : pair ≡ pair_of o.config o.app side
  pub frames_are : frames ≡ back_at k side
  pub at : At o p (visit_side o.config o.app side frames no_note k after) Moved

pub record GivesBack (c : Config) (o : Origin) (side : ℕ) (k : AppKept) (frames : List Frame) (p : Holder) : Type 0 where
  pub config : c ≡ o.config
  pub at : At o p (give_back o.config side 0 frames k next) Moved

-- where a ring's driver is woken if its flag is set
pub record Wakes (c : Config) (o : Origin) (need : Mark) (pair : ℕ) (k : AppKept) (later : Script AppKept) (came : Step) (p : Holder) : Type 0 where
  pub config : c ≡ o.config
  pub at : At o p (wake o.config need pair k later) came

-- where a mark is looked at if its side isn't seen, and where the look led, by the number that it found
pub record Looks (o : Origin) (mark : Mark) (seen : Bool) (k : AppKept) (done : Script AppKept) (later : ℕ → Script AppKept) (p : Holder) : Type 0 where
  pub at : At o p (if seen then done else ask k (Look mark) (on_old later)) Moved

abbrev pub HasLooked : Origin → Bool → Bool → Script AppKept → (ℕ → Script AppKept) → Holder → Type 0
HasLooked o true now done later p = (now ≡ true) × At o p done Moved
HasLooked o false now done later p = (number : ℕ) × (now ≡ (number == 1)) × At o p (later number) Moved
