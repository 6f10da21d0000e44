use Rattle.std.proofs.Common.{◌≡◌, ◌*◌}
use Rattle.xsk_gen.specs.Generator.{first, first_state, packet, state_after}
use Rattle.xsk_gen.proofs.packets.generate.Given as goal

abbrev pub invariant-loop-index : goal.invariant-loop-index
invariant-loop-index l = (l.list.packets ≡ first l.index (packet l.fn.number l.fn.port))
    × (l.draws.state ≡ state_after (13 * l.index) (first_state l.fn.number l.fn.port))
