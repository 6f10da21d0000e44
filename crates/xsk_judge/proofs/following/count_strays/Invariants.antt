use Rattle.std.proofs.Common.{◌≡◌, ◌≤◌, take}
use Rattle.xsk_side.specs.Entries.{strays_in}
use Rattle.xsk_judge.proofs.following.count_strays.Given as goal

abbrev pub invariant-loop-i : goal.invariant-loop-i
invariant-loop-i l = (l.strays ≡ strays_in l.setting (take l.i l.entries)) × (l.strays ≤ l.i)
