use Rattle.std.proofs.Common.{◌≡◌, ◌%◌}
use Rattle.xsk_gen.specs.Generator.{draw, first, state_after}
use Rattle.xsk_gen.proofs.packets.draw_bytes.Given as goal

abbrev pub invariant-loop : goal.invariant-loop
invariant-loop l = (l.bytes.items ≡ first l.counter (λ i. draw l.fn.draws.state i % 256))
    × (l.draws.state ≡ state_after l.counter l.fn.draws.state)
