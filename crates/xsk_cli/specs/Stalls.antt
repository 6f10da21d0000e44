-- What is told of a run that stalls, behind the line of the stall. It is a function of the run's history.
use Rattle.std.specs.Prelude.{◌≡◌, ℕ, List, [], ◌++◌, length, map, if◌then◌else◌}
use Rattle.xsk_umem.specs.Frame.{Frame}
use Rattle.xsk_model.specs.Config.{Config}
use Rattle.xsk_model.specs.Entry.{Entry}
use Rattle.xsk_model.specs.History.{state_after}
use Rattle.xsk_model.specs.Stored.{stored}
use Rattle.xsk_plain.specs.Engine.{Part, seen}
use Rattle.xsk_sim.specs.Journal.{journal_of}
use Rattle.xsk_sim.specs.Runs.{HasStalled}
use Rattle.xsk_sim.specs.SoFar.{all_counters}
use Rattle.xsk_stats.specs.Counters.{counters_text}
use Rattle.xsk_turns.specs.Workers.{Setting}
use Rattle.xsk_turns.specs.declared.disposal.DriverCounters.{DriverCounters}
use Rattle.xsk_why.specs.Why.{why_text}
use Rattle.xsk_cli.specs.declared.words.Telling.{Telling}

-- Where it was asked for: why it stalls, so what each worker waits for, what stands in each ring, and the frames and the drivers'
-- counters so far; and behind that the journal of all calls, where that was asked for too. This is told of calls and of the rings and
-- the counters that they left.
abbrev pub told_on : Telling → Config → List Part → List Entry → List DriverCounters → List ℕ
told_on telling c rings h counters =
    if telling.why then why_text c rings h ++ (counters_text c counters ++ (if telling.journal then journal_of (length c.pairs) h else [])) else []

-- so of a history of a setting from the opening with these frames, and of the state that it leaves
abbrev pub told_of_stall : Telling → Setting → List Frame → List Entry → List ℕ
told_of_stall telling s frames h =
    told_on telling s.config (map seen (state_after s.config frames h).rings) (stored s.config.geometry s.config.sg h) (all_counters s h)

-- the run stalls in a round, and this is told of it
pub record IsStall (s : Setting) (frames : List Frame) (order round : ℕ) (telling : Telling) (told : List ℕ) : Type 0 where
  pub stalled : HasStalled s frames order round
  pub tells : told ≡ told_of_stall telling s frames stalled.past.history
