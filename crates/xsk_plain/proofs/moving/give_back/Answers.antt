use Rattle.std.proofs.Common.{◌≡◌, ◌+◌, ◌∷◌, length, map, ap, arith, ◌∙◌}
use Rattle.xsk_plain.specs.Engine.{frames_in}
use Rattle.xsk_plain.specs.Stores.{stored_item_of}
use Rattle.xsk_plain.proofs.Closing.{give_step}
use Rattle.xsk_plain.proofs.moving.give_back.Goals as goal

pub loop-preserved : goal.loop-preserved
loop-preserved c =
    let first : c.loop.store.out.items ≡ c.unwrap-stored.result ∷ c.pop.new.self.out.items = rw c.unwrap-stored.ensures at c.pop.ensures.first in
    let count : length c.loop.store.out.items ≡ length c.pop.new.self.out.items + 1 = ap length first ∙ omega arith in
    record {
      rest = omega (arith, count, c.loop.invariant.rest);
      limit = c.give_frame.ensures.limit ∙ c.loop.invariant.limit;
      frames = λ few. give_step c.loop.home.items c.give_frame.new.home.items c.args.home.now.items (frames_in (map stored_item_of c.args.store.out.items)) c.loop.store.out.items c.pop.new.self.out.items
          c.unwrap-stored.result c.loop.home.limit c.args.home.now.limit first c.give_frame.ensures.items c.loop.invariant.limit few (c.loop.invariant.frames few);
    }
