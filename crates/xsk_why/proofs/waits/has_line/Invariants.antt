use Rattle.std.proofs.Common.{◌≡◌, drop}
use Rattle.xsk_why.specs.KeptWaits.{shown}
use Rattle.xsk_why.specs.Waiting.{is_told}
use Rattle.xsk_why.proofs.waits.has_line.Given as goal

abbrev pub invariant-loop-wait : goal.invariant-loop-wait
invariant-loop-wait l = is_told l.line (shown l.waits) ≡ is_told l.line (shown (drop l.wait-index l.waits))
