-- How often the object changes in a history in which each caller's own calls and replies are a run: at most so often as the
-- packets, the frames and the configuration allow, whatever the order of the calls. This is this project's own.
use Rattle.std.specs.Prelude.{ℕ, ◌+◌, ◌*◌, ◌<◌, ◌≤◌, Option, None, Some, List, length}
use Rattle.xsk_umem.specs.Frame.{Frame}
use Rattle.xsk_model.specs.Config.{Config, IsRegular, callers_of}
use Rattle.xsk_model.specs.Marks.{apps_of}
use Rattle.xsk_model.specs.Rings.{places_of}
use Rattle.xsk_model.specs.Entry.{Entry, own, all_told}
use Rattle.xsk_model.specs.History.{IsHistory}
use Rattle.xsk_turns.specs.Owned.{IsSteady}
use Rattle.xsk_turns.specs.Workers.{Setting, input_of, IsWorkerRun}
use Rattle.xsk_turns.specs.Totals.{total}
use Rattle.xsk_bounds.specs.Totals.{sum_below, changed}

-- the packets of all drivers
abbrev pub packets_of : Setting → ℕ
packets_of s = sum_below (length s.config.pairs) (λ d. length (input_of s d))

-- how often the object may change where there are so many packets
abbrev pub most_changes : Config → ℕ → ℕ
most_changes c packets = 3456 * packets + 13 * c.geometry.frames + 2048 * places_of c + 24 * length c.pairs + 36 * apps_of c

-- where no socket is closed
abbrev pub FewChanges : Type 0
FewChanges = (s : Setting) (frames : List Frame) (h : List Entry) → IsSteady s.config → IsHistory s.config frames h
    → ((who : ℕ) → who < callers_of s.config → IsWorkerRun s who (own who h))
    → total changed (all_told h) ≤ most_changes s.config (packets_of s)

-- So many more come with a socket to close: each of 64 cells is lowered, the socket is closed, which is acknowledged, and its driver
-- is kicked and clears that, and then the flags of FILL and four TX rings are cleared, and may be set, once more.
abbrev pub closing_changes : Option ℕ → ℕ
closing_changes None = 0
closing_changes (Some socket) = 78

-- in every regular configuration
abbrev pub FewChangesWithClosings : Type 0
FewChangesWithClosings = (s : Setting) (frames : List Frame) (h : List Entry) → IsRegular s.config → IsHistory s.config frames h
    → ((who : ℕ) → who < callers_of s.config → IsWorkerRun s who (own who h))
    → total changed (all_told h) ≤ most_changes s.config (packets_of s) + closing_changes s.config.closing
