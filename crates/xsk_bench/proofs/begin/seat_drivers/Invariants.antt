use Rattle.std.proofs.Common.{◌≡◌, List, length, vec_items}
use Rattle.xsk_prog.specs.declared.rule.Verdict.{Verdict}
use Rattle.xsk_driver.specs.Asking.{IsAnswer}
use Rattle.xsk_machine.proofs.Making.{GaveFirst}
use Rattle.xsk_bench.proofs.Beginning.{Begun}
use Rattle.xsk_bench.proofs.begin.seat_drivers.Given as goal

abbrev pub invariant-loop-pair : goal.invariant-loop-pair
invariant-loop-pair g l =
    (length (vec_items l.seats) ≡ l.pair)
    × Begun (IsAnswer g.F.Fn l.fn.chain) l.config l.wire l.packets l.room l.pair (vec_items l.seats)
    × ((kept : List (List Verdict)) × GaveFirst g.F.Fn l.config l.packets l.fn.chain l.pair kept l.chain)
