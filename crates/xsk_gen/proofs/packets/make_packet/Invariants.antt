use Rattle.std.proofs.Common.{◌≡◌, ◌≤◌}
use Rattle.xsk_gen.specs.Generator.{byte_at, first}
use Rattle.xsk_gen.proofs.packets.make_packet.Given as goal

abbrev pub invariant-loop-place : goal.invariant-loop-place
invariant-loop-place l = (l.bytes.items ≡ first l.place (byte_at l.fn.index l.fn.draws.state)) × (14 ≤ l.place)
