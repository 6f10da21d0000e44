use Rattle.std.proofs.Common.{◌≡◌, ◌++◌, take, map}
use Rattle.xsk_judge.specs.First.{fill_end}
use Rattle.xsk_judge.proofs.first.push_fills.Given as goal

abbrev pub invariant-loop-i : goal.invariant-loop-i
invariant-loop-i l = l.ends.items ≡ l.initial.ends.items ++ map fill_end (take l.i l.pairs)
