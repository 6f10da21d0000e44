use Rattle.std.proofs.Common.{◌≡◌, ◌+◌, ◌∷◌, [], ◌++◌, length, arith, ap, length-append, ◌∙◌}
use Rattle.xsk_plain.specs.Stores.{Has}
use Rattle.xsk_plain.proofs.Moves.{taken_step}
use Rattle.xsk_plain.proofs.moving.take_unnoted.Goals as goal

pub loop-preserved : goal.loop-preserved
loop-preserved c =
    let first : c.loop.store.out.items ≡ c.unwrap.result ∷ c.take.new.self.out.items = rw c.unwrap.ensures at c.take.ensures.first in
    let has : Has c.take.new.self c.take.new.self.out.items (c.loop.store.held + 1) c.loop.store.room c.loop.store.size = rw c.unwrap.ensures at c.take.ensures.some in
    let pushed : c.push.new.self ≡ c.loop.items ++ c.unwrap.result.item ∷ [] = c.push.ensures in
    record {
      count = omega (arith, ap length pushed, length-append c.loop.items (c.unwrap.result.item ∷ []), c.loop.invariant.count);
      all = taken_step c.loop.items c.push.new.self c.loop.store.out.items c.take.new.self.out.items _ c.unwrap.result pushed first c.loop.invariant.all;
      room = has.room ∙ c.loop.invariant.room;
      held = omega (arith, has.held, c.loop.invariant.held);
      size = has.size ∙ c.loop.invariant.size;
    }
