use Rattle.std.proofs.Common.{◌≡◌, ◌≤◌, ◌++◌, length, take}
use Rattle.xsk_umem.specs.Limits.{most_frames}
use Rattle.xsk_turns.specs.Turns.{frames_in}
use Rattle.xsk_app.proofs.closing.keep_behind.Given as goal

abbrev pub invariant-loop-item : goal.invariant-loop-item
invariant-loop-item l = (take most_frames (l.back ++ frames_in l.items) ≡ take most_frames (l.fn.back ++ frames_in l.fn.items)) × (length l.back ≤ 4096)

abbrev pub decreases-loop-item : goal.decreases-loop-item
decreases-loop-item l = length l.items
