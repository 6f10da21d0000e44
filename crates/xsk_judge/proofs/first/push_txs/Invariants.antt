use Rattle.std.proofs.Common.{◌≡◌, ◌++◌, take, map}
use Rattle.xsk_judge.specs.First.{tx_end}
use Rattle.xsk_judge.proofs.first.push_txs.Given as goal

abbrev pub invariant-loop-i : goal.invariant-loop-i
invariant-loop-i l = l.ends.items ≡ l.initial.ends.items ++ map tx_end (take l.i l.sockets)
