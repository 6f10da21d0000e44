-- A driver or an application as a caller of a setting: each as it is said of its own kind.
use Rattle.std.specs.Prelude.{◌≡◌, ℕ, ◌+◌, Some, List, [], ◌∷◌, length, map}
use Rattle.std.specs.List.{flat_map, slice_get}
use Rattle.std.specs.Fn.{Shared}
use denote.Ref.{Bor}
use Rattle.xsk_umem.specs.PacketList.{PacketList}
use Rattle.xsk_model.specs.Config.{Config}
use Rattle.xsk_model.specs.declared.config.PairInfo.{PairInfo}
use Rattle.xsk_model.specs.Entry.{Told}
use Rattle.xsk_model.specs.Expected.{Expected, nothing}
use Rattle.xsk_model.specs.declared.call.Act.{Act}
use Rattle.xsk_prog.specs.Program.{XdpProgram}
use Rattle.xsk_prog.specs.declared.rule.Verdict.{Verdict}
use Rattle.xsk_turns.specs.Workers.{Setting, packets_to}
use Rattle.xsk_turns.specs.Mangling.{plain}
use Rattle.xsk_turns.specs.declared.manner.Manner.{Manner}
use Rattle.xsk_turns.specs.declared.wire.Wire.{Wire}
use Rattle.xsk_driver.specs.Asking.{AreAsked, Question, questions_on, verdicts_in}
use Rattle.xsk_driver.specs.Shown.{Shown as DriverShown}
use Rattle.xsk_machine.specs.Acts.{IsDriver, DriverStands, IsApp, AppStands}
use Rattle.xsk_machine.specs.Figures.{figures_in}
use Rattle.xsk_machine.specs.declared.figures.DriverFigures.{DriverFigures}
use Rattle.xsk_machine.specs.declared.worker.AnyWorker.{AnyWorker}
use Rattle.xsk_machine.specs.declared.worker.AnyWorker.TheVariants.{Driver, App}

abbrev pub awaits : AnyWorker → Expected
awaits (Driver d) = d.expected
awaits (App a) = a.expected

abbrev pub IsNew : Setting → ℕ → AnyWorker → Type 0
IsNew s who (Driver d) = IsDriver s who d
IsNew s who (App a) = IsApp s who a

abbrev pub Stands : Setting → ℕ → AnyWorker → Act → List Told → Type 0
Stands s who (Driver d) act l = DriverStands s who d act l
Stands s who (App a) act l = AppStands s who a act l

-- how many packets have their disposals; an application has none
abbrev pub settled_in : AnyWorker → ℕ
settled_in (Driver d) = length d.kept.disposals
settled_in (App a) = 0

-- what a driver keeps of the packets that it sent; an application keeps none
abbrev pub kept_of : AnyWorker → List (List (List ℕ))
kept_of (Driver d) = d.sent.packets ∷ []
kept_of (App a) = []

-- and its figures, where a queue has so many sockets
abbrev pub figures_kept : ℕ → AnyWorker → List DriverFigures
figures_kept classes (Driver d) = figures_in classes d ∷ []
figures_kept classes (App a) = []

-- ---- new ones, in the order of their numbers

-- a setting, by its parts
abbrev pub setting_by : Config → Wire → Manner → List PacketList → List (List Verdict) → Setting
setting_by c wire manner packets verdicts = record { config = c; wire = wire; manner = manner; packets = packets; verdicts = verdicts }

-- and one whose applications change nothing
abbrev pub setting_with : Config → Wire → List PacketList → List (List Verdict) → Setting
setting_with c wire packets verdicts = setting_by c wire plain packets verdicts

-- a worker of a setting that has made no call
pub record IsFresh (s : Setting) (who : ℕ) (w : AnyWorker) : Type 0 where
  pub is : IsNew s who w
  pub expected : awaits w ≡ nothing

-- and a driver
pub record IsFreshDriver (s : Setting) (who : ℕ) (d : DriverShown) : Type 0 where
  pub is : IsDriver s who d
  pub expected : d.expected ≡ nothing

-- the verdicts that drivers keep
abbrev pub kept_in : List DriverShown → List (List Verdict)
kept_in drivers = map (λ (d : DriverShown). verdicts_in d.kept) drivers

-- those of a setting, from a pair on
abbrev pub AreNew : Setting → ℕ → List DriverShown → Type 0
AreNew s n drivers = (k : ℕ) (d : DriverShown) → slice_get drivers k ≡ Some d → IsFreshDriver s (n + k) d

-- ---- what a chain is asked

-- the packets of a pair, each on its queue, and those of all pairs in order
abbrev pub questions_to : Config → List PacketList → PairInfo → List Question
questions_to c lists pair = questions_on pair.queue (packets_to c lists pair)

abbrev pub questions_of : Config → List PacketList → List Question
questions_of c lists = flat_map (questions_to c lists) c.pairs

-- a chain before and after it was asked once of each of them that has an Ethernet header, and gave these verdicts: those of each
-- pair's packets, pair after pair
abbrev pub HasGiven : {F : Type 0} → Shared F (Bor (List ℕ) × (ℕ × Unit {0})) Verdict → Config → List PacketList → List (List Verdict) → List (XdpProgram F) → List (XdpProgram F) → Type 0
HasGiven g c lists verdicts before after = AreAsked g (questions_of c lists) (flat_map (λ (pair : List Verdict). pair) verdicts) before after

-- whatever it answered
abbrev pub IsAskedOnce : {F : Type 0} → Shared F (Bor (List ℕ) × (ℕ × Unit {0})) Verdict → Config → List PacketList → List (XdpProgram F) → List (XdpProgram F) → Type 0
IsAskedOnce g c lists before after = (verdicts : List (List Verdict)) × HasGiven g c lists verdicts before after
