-- Members before and after they ran, in the order of their numbers.
use Rattle.std.specs.Prelude.{◌≡◌, ℕ, ◌+◌, ◌<◌, ◌≤◌, Option, Some, None, List, [], ◌∷◌, length, map, get_or, All}
use Rattle.xsk_model.specs.Config.{callers_of}
use Rattle.xsk_model.specs.Entry.{Told, own}
use Rattle.xsk_model.specs.declared.call.Act.TheVariants.{Ended}
use Rattle.xsk_turns.specs.Statistics.{capped}
use Rattle.xsk_turns.specs.Hands.{IsWholeRunOf}
use Rattle.xsk_turns.specs.Workers.{Setting, input_of}
use Rattle.xsk_machine.specs.Acts.{sent_along}
use Rattle.xsk_machine.specs.HistoryFigures.{driver_figures_by}
use Rattle.xsk_machine.specs.declared.figures.DriverFigures.{DriverFigures}
use Rattle.xsk_machine.proofs.Acts.{IsWithin}
use Rattle.xsk_table.specs.Held.{Board, Holder, new_pass}
use Rattle.xsk_machine.specs.Workers.{Stands}
use Rattle.xsk_machine.specs.declared.worker.AnyWorker.{AnyWorker}
use Rattle.xsk_workers.specs.Crew.{Seat}

-- what is left of a caller of this number: a machine that has ended, or of an application nothing
abbrev pub StandsLeft : Setting → ℕ → Option AnyWorker → List Told → Type 0
StandsLeft s n None l = length s.config.pairs ≤ n
StandsLeft s n (Some m) l = Stands s n m Ended l

-- a member that has ended, by its pass and what may be left of it: by so many hands, it made a whole run of this caller of a table
pub record IsDone (b : Board) (hands : ℕ) (s : Setting) (n : ℕ) (p : Holder) (leaves : Option AnyWorker → Type 0) : Type 0 where
  pub who : p.who ≡ n
  pub table : p.table ≡ b.table
  pub setup : p.view.setup ≡ b.setup
  pub whole : IsWholeRunOf hands s n (own n p.view.seen)
  pub left : (left : Option AnyWorker) → leaves left → StandsLeft s n left (own n p.view.seen)

module _ {W : Type 0} (pass : W → Holder) (leaves : W → Option AnyWorker → Type 0) where
  -- members that have ended, by number from one on
  abbrev pub HaveRunFrom : Board → ℕ → Setting → ℕ → List W → Type 0
  HaveRunFrom b hands s n [] = Unit {0}
  HaveRunFrom b hands s n (m ∷ ms) = IsDone b hands s n (pass m) (leaves m) × HaveRunFrom b hands s (n + 1) ms

  -- those of all callers of a table, in a setting of its configuration
  pub record HaveRun (b : Board) (hands : ℕ) (s : Setting) (members : List W) : Type 0 where
    pub config : s.config ≡ b.setup.config
    pub count : length members ≡ callers_of b.setup.config
    pub run : HaveRunFrom b hands s 0 members

  -- members in these seats have run once their calls are whole
  abbrev pub WillHaveRun : (W → Seat) → (W → Type 0) → Board → ℕ → Setting → List Seat → Type 0
  WillHaveRun seat has_run b hands s seats = (members : List W) → map seat members ≡ seats → All has_run members → HaveRun b hands s members

-- the passes of the first callers are taken, and the others are there, with no call made
pub record AreTaken (b : Board) (count : ℕ) (passes : List (Option Holder)) : Type 0 where
  pub length_is : length passes ≡ callers_of b.setup.config
  pub there : (w : ℕ) → count ≤ w → w < callers_of b.setup.config → get_or passes w None ≡ Some (new_pass b w)
  pub gone : (w : ℕ) → w < count → get_or passes w None ≡ None

-- the passes of the first callers are given back, each with a whole run of its caller, and the others aren't there
pub record AreGiven (b : Board) (hands : ℕ) (s : Setting) (count : ℕ) (passes : List (Option Holder)) : Type 0 where
  pub length_is : length passes ≡ callers_of b.setup.config
  pub there : (w : ℕ) → w < count → (p : Holder) × (get_or passes w None ≡ Some p) × (p.table ≡ b.table) × (p.view.setup ≡ b.setup) × IsWholeRunOf hands s w (own w p.view.seen)
  pub gone : (w : ℕ) → count ≤ w → w < callers_of b.setup.config → get_or passes w None ≡ None

-- What was kept of the first drivers, one thing of each, is what it should be by what their passes saw.
pub record AreKept {X : Type 0} (Is : ℕ → List Told → X → Type 0) (s : Setting) (count : ℕ) (passes : List (Option Holder)) (kept : List X) : Type 0 where
  pub first : count ≤ length s.config.pairs → length kept ≡ count
  pub all : length s.config.pairs ≤ count → length kept ≡ length s.config.pairs
  pub each : (w : ℕ) (none : X) → w < length kept → (p : Holder) × (get_or passes w None ≡ Some p) × Is w (own w p.view.seen) (get_or kept w none)

-- a list of packets is what a driver sent, by what its pass saw, unless that is more than it has room for
abbrev pub IsSentOf : Setting → ℕ → List Told → List (List ℕ) → Type 0
IsSentOf s who l packets = IsWithin s who (sent_along s who l) → packets ≡ sent_along s who l

abbrev pub AreSent : Setting → ℕ → List (Option Holder) → List (List (List ℕ)) → Type 0
AreSent s = AreKept (IsSentOf s) s

-- and so are its figures
abbrev pub IsFiguresOf : Setting → ℕ → List Told → DriverFigures → Type 0
IsFiguresOf s who l figures = IsWithin s who (sent_along s who l)
    → figures ≡ driver_figures_by s.wire s.config who (input_of s who) (length (sent_along s who l)) l

abbrev pub AreFiguresOf : Setting → ℕ → List (Option Holder) → List DriverFigures → Type 0
AreFiguresOf s = AreKept (IsFiguresOf s) s

-- how many calls the passes' callers made, by number from one on
abbrev pub calls_in : ℕ → List (Option Holder) → ℕ
calls_in n [] = 0
calls_in n (None ∷ passes) = calls_in (n + 1) passes
calls_in n (Some p ∷ passes) = length (own n p.view.seen) + calls_in (n + 1) passes

-- all passes are given back, and what was kept and how many calls were made is what it should be by what they saw
pub record IsGathered (b : Board) (hands : ℕ) (s : Setting) (passes : List (Option Holder)) (sent : List (List (List ℕ))) (figures : List DriverFigures) (calls : ℕ) : Type 0 where
  pub given : AreGiven b hands s (callers_of b.setup.config) passes
  pub are_sent : AreSent s (callers_of b.setup.config) passes sent
  pub are_figures : AreFiguresOf s (callers_of b.setup.config) passes figures
  pub are_calls : calls ≡ capped (calls_in 0 passes)
