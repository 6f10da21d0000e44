use Rattle.std.proofs.Common.{rules, arith, ◌≡◌, [], vec_len, length, ◌∙◌}
use Rattle.std.proofs.lemmas.List.{get_or_default}
use Rattle.xsk_turns.specs.AppTurns.{back_at}
use Rattle.xsk_turns.specs.AppSplit.{AtSide}
use Rattle.xsk_app.specs.Resumed.{kept_in}
use Rattle.xsk_shared_ends.specs.Shown.{EndsShown}
use Rattle.xsk_shared_ends.proofs.Ending.{origin, left, side_begins, made, made_from, ends_again}
use Rattle.xsk_shared_ends.proofs.ends.Ends.recycle.Goals as goal

pub visit_side-requires-clause-at : goal.visit_side-requires-clause-at
visit_side-requires-clause-at c =
    let e : EndsShown = record { config = c.self.inside.config.now; app = c.self.inside.app; pass = c.self.inside.pass; kept = kept_in c.self.inside.kept } in
    let here : c.index_mut.result.now ≡ back_at e.kept c.args.side =
    c.index_mut.ensures.value ∙ get_or_default c.self.inside.kept.backs.items c.args.side c.index_mut.result.now [] (omega (arith, c.requires.side, (left e c.self.invariant).sides)) in
    (origin e (AtSide c.args.side), c.args.side, e.kept, side_begins e c.args.side c.side_pair-pair.result _ c.self.invariant c.requires.side c.side_pair-pair.ensures.pair here)

pub invariant_of-self : goal.invariant_of-self
invariant_of-self c =
    let e : EndsShown = record { config = c.self.inside.config.now; app = c.self.inside.app; pass = c.self.inside.pass; kept = kept_in c.self.inside.kept } in
    let here : c.index_mut.result.now ≡ back_at e.kept c.args.side =
    c.index_mut.ensures.value ∙ get_or_default c.self.inside.kept.backs.items c.args.side c.index_mut.result.now [] (omega (arith, c.requires.side, (left e c.self.invariant).sides)) in
    let visits = side_begins e c.args.side c.side_pair-pair.result _ c.self.invariant c.requires.side c.side_pair-pair.ensures.pair here in
    ends_again e (AtSide c.args.side) _ _ c.visit_side.result c.self.invariant (c.visit_side.ensures.over (origin e (AtSide c.args.side)) c.args.side e.kept visits)

pub returns-clause-made : goal.returns-clause-made
returns-clause-made c =
    let e : EndsShown = record { config = c.self.inside.config.now; app = c.self.inside.app; pass = c.self.inside.pass; kept = kept_in c.self.inside.kept } in
    let here : c.index_mut.result.now ≡ back_at e.kept c.args.side =
    c.index_mut.ensures.value ∙ get_or_default c.self.inside.kept.backs.items c.args.side c.index_mut.result.now [] (omega (arith, c.requires.side, (left e c.self.invariant).sides)) in
    let visits = side_begins e c.args.side c.side_pair-pair.result _ c.self.invariant c.requires.side c.side_pair-pair.ensures.pair here in
    made_from (AtSide c.args.side) e _ _ c.visit_side.result c.self.view_is
    (made e (AtSide c.args.side) _ _ c.visit_side.result c.self.invariant (c.visit_side.ensures.over (origin e (AtSide c.args.side)) c.args.side e.kept visits))
