-- The workers in their seats, each with its number among the callers.
use Rattle.std.specs.Prelude.{◌≡◌, ◌↔◌, ℕ, ◌+◌, ◌<◌, ◌≤◌, Bool, IsTrue, flat_map, List, [], ◌∷◌, ◌++◌, length, vec_len}
use Rattle.xsk_turns.specs.Stepping.{joined_ask}
use Rattle.xsk_umem.specs.Frame.{Frame}
use Rattle.xsk_model.specs.Config.{callers_of}
use Rattle.xsk_model.specs.Entry.{Told, Entry, own}
use Rattle.xsk_model.specs.declared.call.Act.{Act}
use Rattle.xsk_model.specs.declared.call.Act.TheVariants.{Ended as IsEnd}
use Rattle.xsk_machine.specs.declared.figures.DriverFigures.{DriverFigures}
use Rattle.xsk_sim.specs.Order.{start_of, rotated, next_number}
use Rattle.xsk_sim.specs.Rounds.{AreTurns, AreRounds}
use Rattle.xsk_sim.specs.Stalls.{settled_by, AreQuiet, StandStill}
use Rattle.xsk_turns.specs.Workers.{Setting, IsWholeRun}
use Rattle.xsk_machine.specs.Acts.{IsActAfter}
use Rattle.xsk_machine.specs.Workers.{Stands, kept_of, figures_kept}
use Rattle.xsk_machine.specs.declared.worker.AnyWorker.{AnyWorker}
use Rattle.xsk_sim.specs.Server.{Seen}
use Rattle.xsk_sim.specs.Turning.{HasRun}
use Rattle.xsk_sim.specs.declared.rounds.Workers.{Workers}

-- each element of a list holds with its number, of which the first is given
unfoldable pub EachFrom : {A : Type 0} → List A → ℕ → (ℕ → A → Type 0) → Type 0
EachFrom [] n P = Unit {0}
EachFrom (x ∷ xs) n P = P n x × EachFrom xs (n + 1) P

-- a worker stands for its own calls and replies, with the act that it gave then
abbrev pub Sits : Setting → (ℕ → List Told) → ℕ → AnyWorker → Act → Type 0
Sits s mine who w act = Stands s who w act (mine who) × IsActAfter s who act (mine who)

-- a caller's own calls and replies in a history
abbrev pub own_in : List Entry → ℕ → List Told
own_in h who = own who h

abbrev pub new_own : ℕ → List Told
new_own who = []

-- at a driver's seat it is noted how many of its packets have their disposals by a history, and at an application's none
pub record IsNoted (s : Setting) (h : List Entry) (who noted : ℕ) : Type 0 where
  pub driver : who < length s.config.pairs → noted ≡ settled_by s h who
  pub app : length s.config.pairs ≤ who → noted ≡ 0

-- all callers are in their seats, before any call
pub record AreSet (s : Setting) (w : Workers) : Type 0 where
  pub seats : EachFrom w.seats.items 0 (λ who seat. Sits s new_own who seat.machine (joined_ask seat.ask seat.items))
  pub settled : EachFrom w.seats.items 0 (λ who seat. seat.settled ≡ 0)
  pub count : vec_len w.seats ≡ callers_of s.config

-- all callers stand for their own calls and replies in a history that the object has run, with what is noted at their seats
pub record AreSeated (s : Setting) (frames : List Frame) (h : List Entry) (w : Workers) (object : Seen) : Type 0 where
  pub run : HasRun s frames h object
  pub seats : EachFrom w.seats.items 0 (λ who seat. Sits s (own_in h) who seat.machine (joined_ask seat.ask seat.items))
  pub noted : EachFrom w.seats.items 0 (λ who seat. IsNoted s h who seat.settled)
  pub count : vec_len w.seats ≡ callers_of s.config

-- they are so after some history
pub record AreGoing (w : Workers) (object : Seen) : Type 0 where
  pub setting : Setting
  pub frames : List Frame
  pub history : List Entry
  pub seated : AreSeated setting frames history w object

-- they are so before any call
pub record AreReady (w : Workers) (object : Seen) : Type 0 where
  pub setting : Setting
  pub frames : List Frame
  pub seated : AreSeated setting frames [] w object

-- after a history, the callers had their turns, and it is told whether they changed nothing
pub record HadTurns (s : Setting) (frames : List Frame) (h : List Entry) (callers : List ℕ) (w : Workers) (object : Seen) (still : Bool) : Type 0 where
  pub entries : List Entry
  pub turns : AreTurns (IsWholeRun s) h callers entries
  pub seated : AreSeated s frames (h ++ entries) w object
  pub quiet : IsTrue still ↔ AreQuiet s frames h entries

-- all callers had the round with this order number, and the next number stands
pub record HadRound (s : Setting) (frames : List Frame) (h : List Entry) (order next : ℕ) (w : Workers) (object : Seen) (still : Bool) : Type 0 where
  pub turns : HadTurns s frames h (rotated (callers_of s.config) (start_of (callers_of s.config) order)) w object still
  pub number : next ≡ next_number order

-- they had so many rounds, from the first on
pub record HadRounds (s : Setting) (frames : List Frame) (order count : ℕ) (w : Workers) (object : Seen) : Type 0 where
  pub history : List Entry
  pub rounds : AreRounds (IsWholeRun s) (callers_of s.config) order count history
  pub seated : AreSeated s frames history w object

-- of these, the last ones, so many, changed nothing, and no further ones before them
pub record HaveStood (s : Setting) (frames : List Frame) (order count still : ℕ) (h : List Entry) : Type 0 where
  pub stood : StandStill s frames order still count h
  pub most : (longer : ℕ) → still < longer → StandStill s frames order longer count h → ⊥

-- all have ended
abbrev pub HaveEnded : Workers → Type 0
HaveEnded w = EachFrom w.seats.items 0 (λ who seat. joined_ask seat.ask seat.items ≡ IsEnd)

-- what the drivers keep of the packets that they sent
abbrev pub kept_lists : Workers → List (List (List ℕ))
kept_lists w = flat_map (λ seat. kept_of seat.machine) w.seats.items

-- and their figures
abbrev pub kept_figures : ℕ → Workers → List DriverFigures
kept_figures classes w = flat_map (λ seat. figures_kept classes seat.machine) w.seats.items
