-- A run that has stalled, with the object on which it ran and the counters of its drivers: the object shows the state that the run's
-- history leaves, and where it keeps its log, that is the history as it is stored; and the counters are those of the history.
use Rattle.std.specs.Prelude.{◌≡◌, ℕ, List}
use Rattle.std.specs.Fn.{Shared}
use denote.Ref.{Bor}
use Rattle.xsk_umem.specs.Frame.{Frame}
use Rattle.xsk_umem.specs.PacketList.{PacketList}
use Rattle.xsk_model.specs.Config.{Config}
use Rattle.xsk_prog.specs.Program.{XdpProgram}
use Rattle.xsk_prog.specs.declared.rule.Verdict.{Verdict}
use Rattle.xsk_turns.specs.Workers.{Setting}
use Rattle.xsk_turns.specs.declared.disposal.DriverCounters.{DriverCounters}
use Rattle.xsk_turns.specs.declared.manner.Manner.{Manner}
use Rattle.xsk_turns.specs.declared.wire.Wire.{Wire}
use Rattle.xsk_machine.specs.Workers.{setting_by}
use Rattle.xsk_sim.specs.Runs.{HasStalled, HasStalledUnder}
use Rattle.xsk_sim.specs.Server.{Seen}
use Rattle.xsk_sim.specs.SoFar.{all_counters}
use Rattle.xsk_sim.specs.Turning.{HasRun}

pub record HasStalledOn (s : Setting) (frames : List Frame) (order round : ℕ) (object : Seen) (counters : List DriverCounters) : Type 0 where
  pub stalled : HasStalled s frames order round
  pub run : HasRun s frames stalled.past.history object
  pub counted : counters ≡ all_counters s stalled.past.history

-- the same under a chain
pub record HasStalledOnUnder {F : Type 0} (g : Shared F (Bor (List ℕ) × (ℕ × Unit {0})) Verdict) (programs after : List (XdpProgram F)) (wire : Wire) (manner : Manner) (c : Config) (packets : List PacketList) (frames : List Frame) (order round : ℕ) (object : Seen) (counters : List DriverCounters) : Type 0 where
  pub under : HasStalledUnder g programs after wire manner c packets frames order round
  pub run : HasRun (setting_by c wire manner packets under.verdicts) frames under.stalled.past.history object
  pub counted : counters ≡ all_counters (setting_by c wire manner packets under.verdicts) under.stalled.past.history
