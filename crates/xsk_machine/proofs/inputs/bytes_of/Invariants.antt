use Rattle.std.proofs.Common.{◌≡◌, length, min, take}
use Rattle.std.specs.List.{concat}
use Rattle.xsk_driver.specs.Asking.{packets_by}
use Rattle.xsk_machine.proofs.inputs.bytes_of.Given as goal

abbrev pub invariant-loop-number : goal.invariant-loop-number
invariant-loop-number l = l.bytes ≡ min (length (concat (packets_by l.packets (take l.number-index l.numbers)))) 18446744073709551615
