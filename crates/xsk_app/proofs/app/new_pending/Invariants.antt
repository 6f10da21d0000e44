use Rattle.std.proofs.Common.{◌≡◌, [], replicate}
use Rattle.xsk_app.proofs.app.new_pending.Given as goal

abbrev pub invariant-loop : goal.invariant-loop
invariant-loop l = l.pending.items ≡ replicate l.counter []
