use Rattle.std.proofs.Common.{◌≡◌, ◌+◌, ◌∷◌, [], ◌++◌, length, arith, ap, ◌∙◌}
use Rattle.xsk_plain.specs.declared.ring_store.Stored.{Stored}
use Rattle.xsk_plain.specs.Stores.{unnoted}
use Rattle.xsk_plain.proofs.Moves.{out_step}
use Rattle.xsk_plain.proofs.moving.put_unnoted.Goals as goal

pub loop-preserved : goal.loop-preserved
loop-preserved c =
    let first : c.loop.items ≡ c.unwrap-item.result ∷ c.pop_front.new.self = rw c.unwrap-item.ensures at c.pop_front.ensures.some in
    let count : length c.loop.items ≡ length c.pop_front.new.self + 1 = ap length first ∙ omega arith in
    record {
      rest = omega (arith, c.loop.invariant.rest, count);
      out = out_step c.loop.store.out.items c.put.new.self.out.items c.loop.items c.pop_front.new.self _ (unnoted c.unwrap-item.result)
          (c.put.ensures.out ∙ ap (λ (stored : Stored). c.loop.store.out.items ++ stored ∷ []) c.unnoted.ensures) first c.loop.invariant.out;
      room = omega (arith, c.put.ensures.room, c.requires.room, c.loop.invariant.room, count);
      held = c.put.ensures.held ∙ c.loop.invariant.held;
      size = c.put.ensures.size ∙ c.loop.invariant.size;
    }

pub put-requires : goal.put-requires
put-requires c =
    let first : c.loop.items ≡ c.unwrap-item.result ∷ c.pop_front.new.self = rw c.unwrap-item.ensures at c.pop_front.ensures.some in
    let count : length c.loop.items ≡ length c.pop_front.new.self + 1 = ap length first ∙ omega arith in
    omega (arith, c.loop.invariant.room, c.requires.room, count)
