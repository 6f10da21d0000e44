use Rattle.std.proofs.Common.{rules, ◌≡◌, length}
use Rattle.xsk_turns.specs.AppTurns.{is_set}
use Rattle.xsk_turns.specs.AppSplit.{AtMarks}
use Rattle.xsk_app.specs.Resumed.{kept_in}
use Rattle.xsk_shared_ends.specs.Shown.{EndsShown}
use Rattle.xsk_shared_ends.specs.declared.visiting.Step.TheVariants.{Moved}
use Rattle.xsk_shared_ends.proofs.Ending.{origin, seen_as, in_order, second, no_more, after_first, after_second, looks_first, looks_second, second_looked, made, made_from, ends_again}
use Rattle.xsk_shared_ends.proofs.ends.Ends.inputs_done.Goals as goal

pub look-requires-clause-at : goal.look-requires-clause-at
look-requires-clause-at c =
    let e : EndsShown = record { config = c.self.inside.config.now; app = c.self.inside.app; pass = c.self.inside.pass; kept = kept_in c.self.inside.kept } in
    let two : length e.kept.seen ≡ 2 = search rules in
    let k = in_order e.kept in
    let first = looks_first e c.self.invariant two c.side_pair.result c.side_pair.ensures.pair in
    (origin e AtMarks, k, second e.config e.app k, after_first e, first)

pub look-requires-2-clause-at : goal.look-requires-2-clause-at
look-requires-2-clause-at c =
    let e : EndsShown = record { config = c.self.inside.config.now; app = c.self.inside.app; pass = c.self.inside.pass; kept = kept_in c.self.inside.kept } in
    let two : length e.kept.seen ≡ 2 = search rules in
    let k = in_order e.kept in
    let first = looks_first e c.self.invariant two c.side_pair.result c.side_pair.ensures.pair in
    let now = c.look.result in
    let looked = c.look.ensures.goes_on (origin e AtMarks) k (second e.config e.app k) (after_first e) first in
    let more = seen_as e.kept now (is_set e.kept.seen 1) in
    let next = looks_second e c.self.invariant two c.look.new.pass now c.side_pair-2.result c.side_pair-2.ensures.pair looked in
    (origin e AtMarks, more, no_more e.config e.app more, after_second e now, next)

pub invariant_of-self : goal.invariant_of-self
invariant_of-self c =
    let e : EndsShown = record { config = c.self.inside.config.now; app = c.self.inside.app; pass = c.self.inside.pass; kept = kept_in c.self.inside.kept } in
    let two : length e.kept.seen ≡ 2 = search rules in
    let k = in_order e.kept in
    let first = looks_first e c.self.invariant two c.side_pair.result c.side_pair.ensures.pair in
    let now = c.look.result in
    let looked = c.look.ensures.goes_on (origin e AtMarks) k (second e.config e.app k) (after_first e) first in
    let more = seen_as e.kept now (is_set e.kept.seen 1) in
    let next = looks_second e c.self.invariant two c.look.new.pass now c.side_pair-2.result c.side_pair-2.ensures.pair looked in
    let over = second_looked (origin e AtMarks) c.look-2.new.pass e.kept now (is_set e.kept.seen 1) c.look-2.result (c.look-2.ensures.goes_on (origin e AtMarks) more (no_more e.config e.app more) (after_second e now) next) in
    ends_again e AtMarks _ _ Moved c.self.invariant over

pub returns-clause-made : goal.returns-clause-made
returns-clause-made c =
    let e : EndsShown = record { config = c.self.inside.config.now; app = c.self.inside.app; pass = c.self.inside.pass; kept = kept_in c.self.inside.kept } in
    let two : length e.kept.seen ≡ 2 = search rules in
    let k = in_order e.kept in
    let first = looks_first e c.self.invariant two c.side_pair.result c.side_pair.ensures.pair in
    let now = c.look.result in
    let looked = c.look.ensures.goes_on (origin e AtMarks) k (second e.config e.app k) (after_first e) first in
    let more = seen_as e.kept now (is_set e.kept.seen 1) in
    let next = looks_second e c.self.invariant two c.look.new.pass now c.side_pair-2.result c.side_pair-2.ensures.pair looked in
    let over = second_looked (origin e AtMarks) c.look-2.new.pass e.kept now (is_set e.kept.seen 1) c.look-2.result (c.look-2.ensures.goes_on (origin e AtMarks) more (no_more e.config e.app more) (after_second e now) next) in
    made_from AtMarks e _ _ Moved c.self.view_is (made e AtMarks _ _ Moved c.self.invariant over)
