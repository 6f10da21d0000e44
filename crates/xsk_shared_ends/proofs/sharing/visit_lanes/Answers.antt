use Rattle.std.proofs.Common.{rules, ◌≡◌, true, refl, ap, arith}
use Rattle.xsk_model.specs.Config.{Config}
use Rattle.xsk_turns.specs.AppTurns.{lanes_of}
use Rattle.xsk_shared_ends.proofs.Ending.{are_same_on}
use Rattle.xsk_shared_ends.proofs.Emptying.{none_yet, one_more_empty, all_drained}
use Rattle.xsk_shared_ends.proofs.sharing.visit_lanes.Goals as goal

pub loop-lane-init : goal.loop-lane-init
loop-lane-init c = record { same = record { name = refl; config = refl; app = refl }; found = λ empty told. none_yet c.args.ends.now c.keeps.ensures.ends told }

pub loop-lane-preserved : goal.loop-lane-preserved
loop-lane-preserved c =
    let was = c.loop-lane.invariant in
    let old = c.loop-lane.ends in
    let new = c.lane-step.new.self in
    let both : c.if-empty.empty ≡ true → (c.loop-lane.empty ≡ true) × (c.is_idle-idle.result ≡ true) = search rules in
    record {
      same = are_same_on _ old new was.same c.lane-step.ensures.same;
      found = λ empty told. one_more_empty old new c.loop-lane.lane c.lane-step.ensures.same (c.lane-step.ensures.idle (c.is_idle-idle.ensures (both empty).1)) (was.found (both empty).0 told);
    }

pub returns-clause-drained : goal.returns-clause-drained
returns-clause-drained c = λ empty told.
    let was = c.loop-lane.invariant in
    let count = ap (λ (k : Config). lanes_of k) was.same.config in
    all_drained c.loop-lane.ends c.loop-lane.lane (omega (arith, c.lanes-lane-end.ensures, count)) (was.found empty told)
