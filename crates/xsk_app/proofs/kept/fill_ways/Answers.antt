use Rattle.std.proofs.Common.{rules, arith, ◌≡◌, ◌+◌, [], ◌∷◌, ◌++◌, length, length-append, sym, subst}
use Rattle.xsk_turns.specs.AppTurns.{lanes_of}
use Rattle.xsk_app.specs.Ways.{IsWay}
use Rattle.xsk_app.proofs.Ways.{all_ways, way_pushed}
use Rattle.xsk_app.proofs.kept.fill_ways.Invariants.{IsSoFar}
use Rattle.xsk_app.proofs.kept.fill_ways.Goals as goal

pub loop-lane-preserved : goal.loop-lane-preserved
loop-lane-preserved c =
    let k = c.args.config.now in
    let app = c.args.app in
    let ways = c.loop-lane.ways.items in
    let way = c.lane_way.result in
    let pushed : c.push_reserved.new.self.items ≡ ways ++ way ∷ [] = search rules in
    let is = c.lane_way.ensures in
    let at : IsWay k app c.loop-lane.lane way = record { rx = is.rx; tx = is.tx; pair = is.pair; side = is.side; below = is.below } in
    let here = subst (λ lane. IsWay k app lane way) (sym c.loop-lane.invariant.count) at in
    subst (IsSoFar k app (c.loop-lane.lane + 1)) (sym pushed)
    (record { count = omega (arith, length-append ways (way ∷ []), c.loop-lane.invariant.count); each = way_pushed k app ways way c.loop-lane.invariant.each here })

pub returns : goal.returns
returns c =
    let k = c.args.config.now in
    let ways = c.loop-lane.ways.items in
    let end : c.loop-lane.lane ≡ lanes_of k = search rules in
    let count : length ways ≡ lanes_of k = omega (arith, c.loop-lane.invariant.count, end) in
    all_ways k c.args.app ways count c.loop-lane.invariant.each
