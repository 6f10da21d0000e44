use Rattle.std.proofs.Common.{ℕ, ◌≤◌, take}
use Rattle.xsk_model.specs.Numbers.{times, numbers}
use Rattle.xsk_legal.specs.Pieces.{has}
use Rattle.xsk_legal.proofs.standing.Standing.has_frames.Given as goal

abbrev pub invariant-loop-i : goal.invariant-loop-i
invariant-loop-i l = (n : ℕ) → times n (numbers (take l.i l.items)) ≤ has l.self.sources n
