use Rattle.std.proofs.Common.{◌≡◌, ◌+◌, ◌≤◌, ◌++◌, length, take}
use Rattle.xsk_umem.specs.Limits.{most_frames}
use Rattle.xsk_turns.specs.Mangling.{mangled, frames_taken}
use Rattle.xsk_app.proofs.mangling.mangle.Given as goal

abbrev pub invariant-loop-item : goal.invariant-loop-item
invariant-loop-item l =
    (l.items ++ mangled l.geometry l.every l.number l.pending ≡ mangled l.geometry l.every l.fn.number l.fn.pending)
    × (take most_frames (l.back ++ frames_taken l.every l.number l.pending) ≡ take most_frames (l.fn.back ++ frames_taken l.every l.fn.number l.fn.pending))
    × (length l.items + length l.pending ≡ length l.fn.pending) × (l.number + length l.pending ≡ l.fn.number + length l.fn.pending) × (length l.back ≤ 4096)

abbrev pub decreases-loop-item : goal.decreases-loop-item
decreases-loop-item l = length l.pending
