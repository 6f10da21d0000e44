use Rattle.std.specs.Prelude.{All}
use Rattle.xsk_driver.specs.SentRoom.{IsShort}
use Rattle.test_workers.proofs.packets.push_all.Given as goal

abbrev pub invariant-loop-place : goal.invariant-loop-place
invariant-loop-place l = All IsShort l.list.packets
