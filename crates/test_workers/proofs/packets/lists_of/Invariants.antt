use Rattle.std.specs.Prelude.{◌≡◌, All, length}
use Rattle.xsk_machine.specs.Acts.{HasShortPackets}
use Rattle.test_workers.proofs.packets.lists_of.Given as goal

abbrev pub invariant-loop-port : goal.invariant-loop-port
invariant-loop-port l = (length l.lists.items ≡ l.port) × All HasShortPackets l.lists.items
