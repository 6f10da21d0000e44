use Rattle.std.proofs.Common.{◌≡◌, take}
use Rattle.xsk_turns.specs.Inputs.{numbers_from}
use Rattle.xsk_machine.proofs.inputs.numbers_of_queue.Given as goal

abbrev pub invariant-loop-number : goal.invariant-loop-number
invariant-loop-number l = l.numbers.items ≡ numbers_from l.queues l.queue 0 (take l.number l.list.packets)
