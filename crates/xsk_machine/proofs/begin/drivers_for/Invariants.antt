use Rattle.std.proofs.Common.{◌≡◌, length, vec_items}
use Rattle.xsk_driver.specs.Asking.{IsAnswer}
use Rattle.xsk_machine.specs.Workers.{kept_in}
use Rattle.xsk_machine.proofs.Making.{AreMade, GaveFirst}
use Rattle.xsk_machine.proofs.begin.drivers_for.Given as goal

abbrev pub invariant-loop-pair : goal.invariant-loop-pair
invariant-loop-pair g l =
    AreMade (IsAnswer g.F.Fn l.fn.chain) l.config l.wire l.packets (vec_items l.drivers)
    × (length (vec_items l.drivers) ≡ l.pair)
    × GaveFirst g.F.Fn l.config l.packets l.fn.chain l.pair (kept_in (vec_items l.drivers)) l.chain
