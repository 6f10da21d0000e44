use Rattle.std.proofs.Common.{rules, arith, ◌≡◌, ◌<◌, [], length, vec_len, sym, ◌∙◌, subst}
use Rattle.std.proofs.lemmas.List.{get_or_default}
use Rattle.xsk_turns.specs.AppTurns.{lanes_of, pending_at}
use Rattle.xsk_turns.specs.AppSplit.{AtLane}
use Rattle.xsk_app.specs.Resumed.{kept_in}
use Rattle.xsk_shared_ends.specs.Shown.{EndsShown}
use Rattle.xsk_shared_ends.proofs.Ending.{origin, left, lane_begins, made, made_from, ends_again, found_empty, found_from}
use Rattle.xsk_shared_ends.proofs.ends.Ends.lane.Goals as goal

pub index_mut-requires : goal.index_mut-requires
index_mut-requires c =
    let e : EndsShown = record { config = c.self.inside.config.now; app = c.self.inside.app; pass = c.self.inside.pass; kept = kept_in c.self.inside.kept } in
    let below : c.args.lane < lanes_of e.config = subst (λ (x : EndsShown). c.args.lane < lanes_of x.config) (sym c.self.view_is) c.requires.lane in
    let count : vec_len c.self.inside.kept.pending ≡ length c.self.inside.kept.pending.items = search rules in
    omega (arith, below, count, (left e c.self.invariant).lanes)

pub visit_lane-requires-clause-at : goal.visit_lane-requires-clause-at
visit_lane-requires-clause-at c =
    let e : EndsShown = record { config = c.self.inside.config.now; app = c.self.inside.app; pass = c.self.inside.pass; kept = kept_in c.self.inside.kept } in
    let below : c.args.lane < lanes_of e.config = subst (λ (x : EndsShown). c.args.lane < lanes_of x.config) (sym c.self.view_is) c.requires.lane in
    let here : c.index_mut.result.now ≡ pending_at e.kept c.args.lane =
    c.index_mut.ensures.value ∙ get_or_default c.self.inside.kept.pending.items c.args.lane c.index_mut.result.now [] (omega (arith, below, (left e c.self.invariant).lanes)) in
    (origin e (AtLane c.args.lane), c.args.lane, e.kept, lane_begins e c.args.lane c.lane_way-way.result _ c.self.invariant below c.lane_way-way.ensures.rx c.lane_way-way.ensures.tx c.lane_way-way.ensures.pair here)

pub invariant_of-self : goal.invariant_of-self
invariant_of-self c =
    let e : EndsShown = record { config = c.self.inside.config.now; app = c.self.inside.app; pass = c.self.inside.pass; kept = kept_in c.self.inside.kept } in
    let below : c.args.lane < lanes_of e.config = subst (λ (x : EndsShown). c.args.lane < lanes_of x.config) (sym c.self.view_is) c.requires.lane in
    let here : c.index_mut.result.now ≡ pending_at e.kept c.args.lane =
    c.index_mut.ensures.value ∙ get_or_default c.self.inside.kept.pending.items c.args.lane c.index_mut.result.now [] (omega (arith, below, (left e c.self.invariant).lanes)) in
    let visits = lane_begins e c.args.lane c.lane_way-way.result _ c.self.invariant below c.lane_way-way.ensures.rx c.lane_way-way.ensures.tx c.lane_way-way.ensures.pair here in
    let over = c.visit_lane.ensures.over (origin e (AtLane c.args.lane)) c.args.lane e.kept visits in
    ends_again e (AtLane c.args.lane) _ _ c.visit_lane.result c.self.invariant over

pub returns-clause-made : goal.returns-clause-made
returns-clause-made c =
    let e : EndsShown = record { config = c.self.inside.config.now; app = c.self.inside.app; pass = c.self.inside.pass; kept = kept_in c.self.inside.kept } in
    let below : c.args.lane < lanes_of e.config = subst (λ (x : EndsShown). c.args.lane < lanes_of x.config) (sym c.self.view_is) c.requires.lane in
    let here : c.index_mut.result.now ≡ pending_at e.kept c.args.lane =
    c.index_mut.ensures.value ∙ get_or_default c.self.inside.kept.pending.items c.args.lane c.index_mut.result.now [] (omega (arith, below, (left e c.self.invariant).lanes)) in
    let visits = lane_begins e c.args.lane c.lane_way-way.result _ c.self.invariant below c.lane_way-way.ensures.rx c.lane_way-way.ensures.tx c.lane_way-way.ensures.pair here in
    let over = c.visit_lane.ensures.over (origin e (AtLane c.args.lane)) c.args.lane e.kept visits in
    made_from (AtLane c.args.lane) e _ _ c.visit_lane.result c.self.view_is (made e (AtLane c.args.lane) _ _ c.visit_lane.result c.self.invariant over)

pub returns-clause-idle : goal.returns-clause-idle
returns-clause-idle c = λ idle.
    let e : EndsShown = record { config = c.self.inside.config.now; app = c.self.inside.app; pass = c.self.inside.pass; kept = kept_in c.self.inside.kept } in
    let below : c.args.lane < lanes_of e.config = subst (λ (x : EndsShown). c.args.lane < lanes_of x.config) (sym c.self.view_is) c.requires.lane in
    let here : c.index_mut.result.now ≡ pending_at e.kept c.args.lane =
    c.index_mut.ensures.value ∙ get_or_default c.self.inside.kept.pending.items c.args.lane c.index_mut.result.now [] (omega (arith, below, (left e c.self.invariant).lanes)) in
    let found = c.visit_lane.ensures.idle idle in
    found_from c.args.lane e _ _ c.self.view_is (found_empty e c.args.lane c.lane_way-way.result.rx _ _ _ c.lane_way-way.ensures.rx (sym here ∙ found.0) found.1 found.2)
