-- No wake is lost (af_xdp.rst, "XDP_USE_NEED_WAKEUP bind flag"): a law of every history in which each worker's own entries are a
-- run, after each prefix of it, whatever object and whatever order of the workers made it.
use Rattle.std.specs.Prelude.{ℕ, ◌<◌, List, ◌++◌, length}
use Rattle.xsk_umem.specs.Frame.{Frame}
use Rattle.xsk_umem.specs.PacketList.{PacketList}
use Rattle.xsk_model.specs.Config.{Config, IsRegular, callers_of}
use Rattle.xsk_model.specs.Entry.{Entry, own}
use Rattle.xsk_model.specs.History.{IsHistory}
use Rattle.xsk_prog.specs.declared.rule.Verdict.{Verdict}
use Rattle.xsk_turns.specs.Hands.{IsRunOf}
use Rattle.xsk_turns.specs.Owned.{IsSteady}
use Rattle.xsk_turns.specs.Wakes.{NoWakeIsLost}
use Rattle.xsk_turns.specs.Workers.{Setting, IsWorkerRun}
use Rattle.xsk_turns.specs.declared.manner.Manner.{Manner}
use Rattle.xsk_turns.specs.declared.wire.Wire.{Wire}
use Rattle.xsk_laws.specs.Laws.{AreWholeRunsBy}

-- a history of a setting's configuration in which all workers' entries are runs, whether or not they have ended
pub record AreWorkerRuns (s : Setting) (frames : List Frame) (h : List Entry) : Type 0 where
  pub steady : IsSteady s.config
  pub history : IsHistory s.config frames h
  pub runs : (who : ℕ) → who < callers_of s.config → IsWorkerRun s who (own who h)

-- after each prefix of it each wake that is owed to a driver comes: its kick is set, or its application owes it one
abbrev pub NoWakesAreLost : Type 0
NoWakesAreLost = (s : Setting) (frames : List Frame) (h more : List Entry) (d : ℕ) → AreWorkerRuns s frames (h ++ more) → d < length s.config.pairs
    → NoWakeIsLost s.config frames h d

-- So it is by any number of hands, and where a socket is to be closed: then the entries of an application are a run by so many.
pub record AreRunsByHands (hands : ℕ) (s : Setting) (frames : List Frame) (h : List Entry) : Type 0 where
  pub regular : IsRegular s.config
  pub history : IsHistory s.config frames h
  pub runs : (who : ℕ) → who < callers_of s.config → IsRunOf hands s who (own who h)

abbrev pub NoHandLosesWakes : Type 0
NoHandLosesWakes = (hands : ℕ) (s : Setting) (frames : List Frame) (h more : List Entry) (d : ℕ) → AreRunsByHands hands s frames (h ++ more) → d < length s.config.pairs
    → NoWakeIsLost s.config frames h d

-- and where all workers have run to their ends
abbrev pub NoneIsLostInWholeRuns : Type 0
NoneIsLostInWholeRuns = (hands : ℕ) (manner : Manner) (wire : Wire) (c : Config) (lists : List PacketList) (verdicts : List (List Verdict)) (frames : List Frame) (h more : List Entry) (d : ℕ)
    → AreWholeRunsBy hands manner wire c lists verdicts frames (h ++ more) → d < length c.pairs → NoWakeIsLost c frames h d
