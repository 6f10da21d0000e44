use Rattle.std.proofs.Common.{◌≡◌, ◌+◌, ◌≤◌, ◌∷◌, List, length, drop, arith, length-drop, sym, ap, ◌∙◌}
use Rattle.xsk_umem.specs.Frame.{Frame}
use Rattle.xsk_umem.specs.Frames.{Frames}
use Rattle.xsk_plain.proofs.Openings.{is_some, one_more, fill_step}
use Rattle.xsk_plain.proofs.opening.fill_pool.Goals as goal

pub unwrap-frame-requires : goal.unwrap-frame-requires
unwrap-frame-requires c =
    let is : c.loop.home.items ≡ drop c.loop.counter c.args.home.now.items = ap (λ (q : Frames). q.items) c.loop.invariant.home in
    let some : 1 ≤ length c.loop.home.items = omega (arith, ap length is, length-drop c.loop.counter c.args.home.now.items) in
    is_some c.pop_front.result c.loop.home.items c.pop_front.ensures.empty some

pub loop-preserved : goal.loop-preserved
loop-preserved c =
    let is : c.loop.home.items ≡ drop c.loop.counter c.args.home.now.items = ap (λ (q : Frames). q.items) c.loop.invariant.home in
    let first : c.loop.home.items ≡ c.unwrap-frame.result ∷ c.pop_front.new.self.items = rw c.unwrap-frame.ensures at c.pop_front.ensures.some in
    let next : drop c.loop.counter c.args.home.now.items ≡ c.unwrap-frame.result ∷ c.pop_front.new.self.items = sym is ∙ first in
    let limit = c.pop_front.ensures.limit ∙ ap (λ (q : Frames). q.limit) c.loop.invariant.home in
    record {
      ring = fill_step c.args.geometry.now c.loop.store c.fill.new.self c.args.home.now.items c.pop_front.new.self.items c.loop.counter c.args.store.now.size
          c.unwrap-frame.result c.home_item.result c.loop.invariant.ring c.home_item.ensures next c.fill.ensures;
      home = ap (λ (fs : List Frame). record { items = fs; limit = c.pop_front.new.self.limit }) (sym (one_more c.args.home.now.items c.pop_front.new.self.items c.loop.counter c.unwrap-frame.result next).1)
          ∙ ap (λ n. record { items = drop (c.loop.counter + 1) c.args.home.now.items; limit = n }) limit;
    }
