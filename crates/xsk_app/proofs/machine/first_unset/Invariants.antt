use Rattle.std.proofs.Common.{◌≡◌, ◌-◌}
use Rattle.xsk_app.specs.Ways.{first_unset}
use Rattle.xsk_app.proofs.machine.first_unset.Given as goal

abbrev pub invariant-loop-other : goal.invariant-loop-other
invariant-loop-other l = first_unset l.flags (2 - l.fn.side) l.fn.side ≡ first_unset l.flags (2 - l.other) l.other
