use Rattle.std.specs.Prelude.{All}
use Rattle.xsk_driver.specs.SentRoom.{IsShort}
use Rattle.test_workers.proofs.packets.list_of.Given as goal

abbrev pub invariant-loop-line : goal.invariant-loop-line
invariant-loop-line l = All IsShort l.list.packets
