use Rattle.std.proofs.Common.{◌≤◌, length, ◌≡◌, take, vec_capacity}
use Rattle.xsk_prog.specs.Chain.{AllObey, SamePrograms}
use Rattle.xsk_turns.specs.Verdicts.{EachHas, IsGiven}
use Rattle.xsk_driver.specs.Asking.{AreAsked, IsAnswer, packets_by, questions_on}
use Rattle.xsk_driver.proofs.verdicts.ask_all.Given as goal

abbrev pub invariant-loop-number : goal.invariant-loop-number
invariant-loop-number g l = (length l.numbers ≤ vec_capacity l.verdicts) × (length l.verdicts.items ≡ l.number-index)
    × EachHas (IsGiven (IsAnswer g.F.Fn l.fn.chain l.queue)) (packets_by l.packets (take l.number-index l.numbers)) l.verdicts.items
    × AreAsked g.F.Fn (questions_on l.queue (packets_by l.packets (take l.number-index l.numbers))) l.verdicts.items l.fn.chain l.chain
    × AllObey g.F.Fn l.chain × SamePrograms l.fn.chain l.chain
