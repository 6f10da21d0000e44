-- Where no run stands still: laws of every history in which each worker's own entries are a run.
use Rattle.std.specs.Prelude.{◌≡◌, ◌⊎◌, ℕ, ◌<◌, ◌≤◌, All, List, ◌++◌, length, cond}
use Rattle.xsk_umem.specs.Frame.{Frame}
use Rattle.xsk_model.specs.Config.{Config, callers_of}
use Rattle.xsk_model.specs.Marks.{HasMark, IsMarkOwner}
use Rattle.xsk_model.specs.Object.{ring_at, mark_at}
use Rattle.xsk_model.specs.Entry.{Entry, own}
use Rattle.xsk_model.specs.Ends.{telling_of}
use Rattle.xsk_model.specs.Opening.{opening}
use Rattle.xsk_model.specs.History.{IsHistory, state_after}
use Rattle.xsk_model.specs.declared.call.Ring.{Ring}
use Rattle.xsk_model.specs.declared.call.Ring.TheVariants.{Fill}
use Rattle.xsk_model.specs.declared.call.Mark.{Mark}
use Rattle.xsk_turns.specs.Mangling.{plain}
use Rattle.xsk_turns.specs.Workers.{Setting, input_of, IsWholeRun}
use Rattle.xsk_laws.specs.Woken.{AreWorkerRuns}
use Rattle.xsk_still.specs.Still.{HasAmpleRoom, AreStill}
use Rattle.xsk_still.specs.Own.{HasSettled, SetsOnes, IsHomeItem}

-- after past entries, further ones change nothing: each worker that hasn't ended after them made 64 calls or more, all of which
-- the state answers and none of which changes it, no packet of a driver gets its disposal there, and its applications change nothing
pub record IsStretch (s : Setting) (frames : List Frame) (past es : List Entry) : Type 0 where
  pub unchanged : s.manner ≡ plain
  pub same : state_after s.config frames (past ++ es) ≡ state_after s.config frames past
  pub still : (who : ℕ) → who < callers_of s.config → AreStill s.config (state_after s.config frames past) (own who es)
  pub long : (who : ℕ) → who < callers_of s.config → IsWholeRun s who (own who (past ++ es)) ⊎ (64 ≤ length (own who es))
  pub settled : (d : ℕ) → d < length s.config.pairs
      → (count : ℕ) × HasSettled s.wire s.config d (input_of s d) count (own d past) (own d es)

-- so where there is ample room all workers have ended
abbrev pub NoStretch : Type 0
NoStretch = (s : Setting) (frames : List Frame) (past es : List Entry) → AreWorkerRuns s frames (past ++ es) → HasAmpleRoom s.config → IsStretch s frames past es
    → (who : ℕ) → who < callers_of s.config → IsWholeRun s who (own who (past ++ es))

-- ---- on the way

-- a mark that its owner sets to 1 alone is 1 exactly where it did so
abbrev pub MarkIsTold : Type 0
MarkIsTold = (c : Config) (frames : List Frame) (h : List Entry) (m : Mark) (r : Ring) (who : ℕ) → IsHistory c frames h → HasMark c m
    → mark_at c (opening c frames) m ≡ 0 → ((other : ℕ) → IsMarkOwner c other m → other ≡ who) → SetsOnes m (own who h)
    → mark_at c (state_after c frames h) m ≡ cond (telling_of m r (own who h)).told 1 0

-- on FILL of a pair there are only frames of its pool where applications change nothing
abbrev pub OnlyHomes : Type 0
OnlyHomes = (s : Setting) (frames : List Frame) (h : List Entry) (d : ℕ) → s.manner ≡ plain → AreWorkerRuns s frames h → d < length s.config.pairs
    → All (IsHomeItem s.config d) (ring_at s.config (state_after s.config frames h) (Fill d)).out
