use Rattle.std.proofs.Common.{rules, tests, ◌≡◌, ◌∙◌, ◌+◌, true, ap, subst, sym}
use Rattle.xsk_workers.specs.declared.came.Came.{Came}
use Rattle.xsk_workers.specs.Visits.{came_of, together, Has, WereVisited}
use Rattle.xsk_workers.proofs.Visits.{one_visited}
use Rattle.xsk_workers.proofs.hands.visit_share.Goals as goal

pub loop-lane-preserved : goal.loop-lane-preserved
loop-lane-preserved g c =
    let lock = c.args.common.now.lock.now in
    let lane = c.loop-lane.lane in
    let came = c.loop-lane.came in
    let one = c.visit-step.result in
    let has : Has c.args.share lane = c.has.ensures.0 (search (rules, tests)) in
    let same : c.and-came.result ≡ together came (came_of one) = c.and-came.ensures ∙ ap (together came) c.of.ensures in
    record {
      stays = record { free = c.visit-step.ensures.stays.free; mine = c.visit-step.ensures.stays.mine ∙ c.loop-lane.invariant.stays.mine };
      were = subst (λ (x : Came). WereVisited g.T.Named.name lock g.T.Lanes.lane_came c.args.share (lane + 1) x) (sym same)
          (one_visited g.T.Named.name lock g.T.Lanes.lane_came c.args.share lane came one has c.visit-step.ensures.came c.loop-lane.invariant.were);
    }
