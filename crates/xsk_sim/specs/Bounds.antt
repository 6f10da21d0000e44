-- How many rounds a run can have: where it neither ends nor stands still, something changes in each 64 rounds, and the object
-- changes, and packets get their disposals, only so often. With ample room it never stands still. This is this project's own.
use Rattle.std.specs.Prelude.{◌≡◌, ℕ, ◌+◌, ◌*◌, ◌<◌, List}
use Rattle.xsk_umem.specs.Frame.{Frame}
use Rattle.xsk_model.specs.Config.{IsRegular, callers_of}
use Rattle.xsk_model.specs.Entry.{Entry, own}
use Rattle.xsk_turns.specs.Owned.{IsSteady}
use Rattle.xsk_turns.specs.Mangling.{plain}
use Rattle.xsk_turns.specs.Workers.{Setting, IsWholeRun}
use Rattle.xsk_bounds.specs.Bounds.{packets_of, most_changes, closing_changes}
use Rattle.xsk_still.specs.Still.{HasAmpleRoom}
use Rattle.xsk_sim.specs.Runs.{IsRoundHistory, StandsStill, NeverStill}

-- 64 rounds for each change of the object and each packet, and for none
abbrev pub most_rounds : Setting → ℕ
most_rounds s = 64 * (most_changes s.config (packets_of s) + packets_of s + 1)

-- where no socket is closed, a run that stood still at none of its rounds, and in which some worker's own calls and replies aren't whole, has fewer rounds
abbrev pub EndsOrStandsStill : Type 0
EndsOrStandsStill = (s : Setting) (frames : List Frame) (order count : ℕ) (h : List Entry) (who : ℕ) → IsSteady s.config → IsRoundHistory s frames order count h
    → who < callers_of s.config → (IsWholeRun s who (own who h) → ⊥) → NeverStill s frames order count → count < most_rounds s

-- in every regular configuration: 64 rounds more for each change that comes with a socket to close
abbrev pub EndsOrStandsStillWithClosings : Type 0
EndsOrStandsStillWithClosings = (s : Setting) (frames : List Frame) (order count : ℕ) (h : List Entry) (who : ℕ) → IsRegular s.config → IsRoundHistory s frames order count h
    → who < callers_of s.config → (IsWholeRun s who (own who h) → ⊥) → NeverStill s frames order count → count < most_rounds s + 64 * closing_changes s.config.closing

-- where each ring has 32 entries or more and each pool 18 frames or more, and applications change nothing, no run stands still
abbrev pub NoneStandsStill : Type 0
NoneStandsStill = (s : Setting) (frames : List Frame) (order round : ℕ) → IsSteady s.config → HasAmpleRoom s.config → s.manner ≡ plain → StandsStill s frames order round → ⊥
