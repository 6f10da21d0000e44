use Rattle.std.proofs.Common.{◌≡◌, ◌++◌}
use Rattle.xsk_pcapng.proofs.Apart.{spans_from}
use Rattle.xsk_pcapng.proofs.lists.spans_of.Given as goal

abbrev pub invariant-loop-i : goal.invariant-loop-i
invariant-loop-i l = l.spans.items ++ spans_from l.port l.found l.i ≡ spans_from l.port l.found 0
