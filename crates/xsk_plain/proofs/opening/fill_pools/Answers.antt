use Rattle.std.proofs.Common.{◌≡◌, ◌+◌, ◌-◌, ◌*◌, ◌<◌, ◌≤◌, List, [], length, take, drop, map, arith, length-drop, sym, ap, refl, ◌∙◌}
use Rattle.xsk_umem.specs.Frame.{Frame}
use Rattle.xsk_umem.specs.Frames.{Frames}
use Rattle.xsk_umem.specs.Geometry.{Geometry}
use Rattle.xsk_model.specs.Config.{pool_of}
use Rattle.xsk_plain.specs.Stores.{Has, home_stored, size_in}
use Rattle.xsk_plain.proofs.StoreSteps.{sizes-set, length-sizes_of, length-rings}
use Rattle.xsk_plain.proofs.Openings.{all_pools, pool_left, home_step, drop_pools, next_filled, next_blank, next_kept, pool_fits, opened_all}
use Rattle.xsk_plain.proofs.opening.fill_pools.Goals as goal

pub fill_pool-requires-clause-frames : goal.fill_pool-requires-clause-frames
fill_pool-requires-clause-frames c =
    let home : length c.loop-pair.home.items ≡ length (drop (c.loop-pair.pair * c.pool-pool.result) c.args.home.now.items) = ap (λ (q : Frames). length q.items) c.loop-pair.invariant.home in
    let all : length c.args.home.now.items ≡ length c.args.config.now.pairs * pool_of c.args.config.now = all_pools c.args.config.now c.args.home.now.items c.requires.lawful c.requires.frames in
    let pool : c.pool-pool.result ≡ pool_of c.args.config.now = c.pool-pool.ensures in
    let end : c.loop-pair.pair < length c.args.config.now.pairs = rw c.pairs-pair-end.ensures.value at c.loop-pair-test.true in
    let left : c.pool-pool.result ≤ length c.args.home.now.items - c.loop-pair.pair * c.pool-pool.result =
    pool_left c.loop-pair.pair (length c.args.config.now.pairs) c.pool-pool.result (length c.args.home.now.items) end (all ∙ ap (λ n. length c.args.config.now.pairs * n) (sym pool)) in
    omega (arith, home, length-drop (c.loop-pair.pair * c.pool-pool.result) c.args.home.now.items, left)

pub fill_pool-requires-clause-blank : goal.fill_pool-requires-clause-blank
fill_pool-requires-clause-blank c =
    let end : c.loop-pair.pair < length c.args.config.now.pairs = rw c.pairs-pair-end.ensures.value at c.loop-pair-test.true in
    let rings : length c.args.rings.now ≡ 2 * length c.args.config.now.pairs + 2 * length c.args.config.now.sockets = length-rings c.args.config.now c.args.rings.now c.requires.sizes in
    c.loop-pair.invariant.blank c.loop-pair.pair c.index-rings-pair.result (omega arith) (omega (arith, rings, end, c.loop-pair.auto.rings))

pub fill_pool-requires-clause-room : goal.fill_pool-requires-clause-room
fill_pool-requires-clause-room c =
    let end : c.loop-pair.pair < length c.args.config.now.pairs = rw c.pairs-pair-end.ensures.value at c.loop-pair-test.true in
    let rings : length c.args.rings.now ≡ 2 * length c.args.config.now.pairs + 2 * length c.args.config.now.sockets = length-rings c.args.config.now c.args.rings.now c.requires.sizes in
    let sizes = c.loop-pair.invariant.sizes ∙ c.requires.sizes in
    rw c.pool-pool.ensures (pool_fits c.args.config.now c.loop-pair.rings c.loop-pair.pair c.index-rings-pair.result c.requires.lawful sizes end (omega (arith, rings, end, c.loop-pair.auto.rings)))

pub loop-pair-preserved : goal.loop-pair-preserved
loop-pair-preserved c =
    let end : c.loop-pair.pair < length c.args.config.now.pairs = rw c.pairs-pair-end.ensures.value at c.loop-pair-test.true in
    let rings : length c.args.rings.now ≡ 2 * length c.args.config.now.pairs + 2 * length c.args.config.now.sockets = length-rings c.args.config.now c.args.rings.now c.requires.sizes in
    let within : c.loop-pair.pair < length c.loop-pair.rings = omega (arith, rings, end, c.loop-pair.auto.rings) in
    let home : c.loop-pair.home.items ≡ drop (c.loop-pair.pair * c.pool-pool.result) c.args.home.now.items = ap (λ (q : Frames). q.items) c.loop-pair.invariant.home in
    let size = c.fill_pool.ensures.ring.size in
    let has : Has c.fill_pool.new.store (map (home_stored c.args.config.now.geometry) (take c.pool-pool.result (drop (c.loop-pair.pair * c.pool-pool.result) c.args.home.now.items))) 0 0 c.fill_pool.new.store.size =
    record {
      out = c.fill_pool.ensures.ring.out ∙ ap (λ (g : Geometry). map (home_stored g) (take c.pool-pool.result c.loop-pair.home.items)) c.geometry.ensures.value
          ∙ ap (λ (fs : List Frame). map (home_stored c.args.config.now.geometry) (take c.pool-pool.result fs)) home;
      held = c.fill_pool.ensures.ring.held;
      room = c.fill_pool.ensures.ring.room;
      size = refl;
    } in
    let whole = rw c.pool-pool.ensures at has in
    record {
      sizes = sizes-set c.args.config.now c.loop-pair.rings c.loop-pair.pair c.index-rings-pair.result c.fill_pool.new.store within c.index-rings-pair.is
          (size ∙ sym (ap size_in c.index-rings-pair.is)) ∙ c.loop-pair.invariant.sizes;
      home = home_step c.loop-pair.home c.fill_pool.new.home c.args.home.now.items c.loop-pair.pair c.pool-pool.result c.args.home.now.limit c.fill_pool.ensures.home c.loop-pair.invariant.home;
      filled = rw c.pool-pool.ensures (next_filled c.args.config.now c.loop-pair.rings c.loop-pair.pair c.fill_pool.new.store c.args.home.now.items c.fill_pool.new.store.size within whole
          (rw c.pool-pool.ensures at c.loop-pair.invariant.filled));
      blank = next_blank c.args.config.now c.loop-pair.rings c.loop-pair.pair c.fill_pool.new.store c.args.home.now.items c.fill_pool.new.store.size within whole c.loop-pair.invariant.blank;
      kept = next_kept c.args.config.now c.loop-pair.rings c.loop-pair.pair c.fill_pool.new.store c.args.home.now.items c.fill_pool.new.store.size within whole c.loop-pair.invariant.kept;
    }

pub returns-clause-parts : goal.returns-clause-parts
returns-clause-parts c =
    let end : length c.args.config.now.pairs ≤ c.loop-pair.pair = rw c.pairs-pair-end.ensures.value at c.loop-pair-test.false in
    let last : c.loop-pair.pair ≤ length c.args.config.now.pairs = rw c.pairs-pair-end.ensures.value at c.loop-pair.auto.pair-end in
    let filled = rw c.pool-pool.ensures at c.loop-pair.invariant.filled in
    opened_all c.args.config.now c.args.home.now.items c.loop-pair.rings (c.loop-pair.invariant.sizes ∙ c.requires.sizes) (length-sizes_of c.args.config.now)
    (λ k d h. filled k d (omega arith))
    (λ k d h within. c.loop-pair.invariant.blank k d (omega arith) within)

pub returns-clause-home : goal.returns-clause-home
returns-clause-home c =
    let end : length c.args.config.now.pairs ≤ c.loop-pair.pair = rw c.pairs-pair-end.ensures.value at c.loop-pair-test.false in
    let none : drop (c.loop-pair.pair * c.pool-pool.result) c.args.home.now.items ≡ [] = rw c.pool-pool.ensures (drop_pools c.args.config.now c.args.home.now.items c.loop-pair.pair c.requires.lawful c.requires.frames end) in
    c.loop-pair.invariant.home ∙ ap (λ (fs : List Frame). record { items = fs; limit = c.args.home.now.limit }) none
