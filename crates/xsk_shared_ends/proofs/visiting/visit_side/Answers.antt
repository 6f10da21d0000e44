use Rattle.std.proofs.Common.{rules, ◌≡◌, []}
use Rattle.xsk_turns.specs.Script.{on_released}
use Rattle.xsk_turns.specs.Turns.{frames_in}
use Rattle.xsk_turns.specs.AppTurns.{with_back, give_back}
use Rattle.xsk_shared_ends.specs.Standing.{next}
use Rattle.xsk_shared_ends.specs.declared.visiting.Step.TheVariants.{Moved, Idle}
use Rattle.xsk_shared_ends.proofs.Standing.{after_released}
use Rattle.xsk_shared_ends.proofs.Giving.{on_comp, side_full, side_peeks, side_stays, side_gives, releases_comp, kept_again}
use Rattle.xsk_shared_ends.proofs.visiting.visit_side.Goals as goal

pub returns-then-not-is_empty-clause-over : goal.returns-then-not-is_empty-clause-over
returns-then-not-is_empty-clause-over c o side k v =
    let some : c.args.back.now ≡ [] → ⊥ = search rules in c.give_back.ensures.over o side k (side_full _ c.args.pair o side k _ _ some v)

pub serve-requires-in-Items-clause-at : goal.serve-requires-in-Items-clause-at
serve-requires-in-Items-clause-at c =
    let at = c.requires.at in
    let o = at.0 in
    let side = at.1 in
    let k = at.2 in
    let v = at.3 in
    let got = c.serve.new.items in
    let kept = with_back k side (frames_in got) in
    let none : c.args.back.now ≡ [] = search rules in
    let completed = c.in-Items.ensures.goes_on o k (on_comp o side k) Moved (side_peeks _ _ o side k _ _ _ none c.batch.ensures v) in
    (o, kept, on_released (give_back o.config side 0 (frames_in got) kept next), Moved, releases_comp o side k _ _ _ got v.pair_is c.len-count.ensures.value completed)

pub give_back-requires-in-Items-clause-at : goal.give_back-requires-in-Items-clause-at
give_back-requires-in-Items-clause-at c =
    let at = c.requires.at in
    let o = at.0 in
    let side = at.1 in
    let k = at.2 in
    let v = at.3 in
    let got = c.serve.new.items in
    let kept = with_back k side (frames_in got) in
    let left = give_back o.config side 0 (frames_in got) kept next in
    let none : c.args.back.now ≡ [] = search rules in
    let completed = c.in-Items.ensures.goes_on o k (on_comp o side k) Moved (side_peeks _ _ o side k _ _ _ none c.batch.ensures v) in
    let released = c.serve-in-Items.ensures.goes_on o kept (on_released left) Moved (releases_comp o side k _ _ _ got v.pair_is c.len-count.ensures.value completed) in
    (o, side, kept, side_gives _ c.args.pair o side k _ _ got _ _ c.keep.ensures.frames v (after_released o _ left _ Moved c.serve-in-Items.ensures.kind released))

pub returns-in-Items-clause-over : goal.returns-in-Items-clause-over
returns-in-Items-clause-over c o side k v =
    let got = c.serve.new.items in
    let kept = with_back k side (frames_in got) in
    let left = give_back o.config side 0 (frames_in got) kept next in
    let none : c.args.back.now ≡ [] = search rules in
    let completed = c.in-Items.ensures.goes_on o k (on_comp o side k) Moved (side_peeks _ _ o side k _ _ _ none c.batch.ensures v) in
    let released = c.serve-in-Items.ensures.goes_on o kept (on_released left) Moved (releases_comp o side k _ _ _ got v.pair_is c.len-count.ensures.value completed) in
    let gives = side_gives _ c.args.pair o side k _ _ got _ _ c.keep.ensures.frames v (after_released o _ left _ Moved c.serve-in-Items.ensures.kind released) in
    kept_again o side k (frames_in got) _ _ _ (c.give_back-in-Items.ensures.over o side kept gives)

pub returns-in-Empty-clause-over : goal.returns-in-Empty-clause-over
returns-in-Empty-clause-over c o side k v =
    let none : c.args.back.now ≡ [] = search rules in
    side_stays _ c.args.pair o side k _ _ _ Idle v (c.in-Empty.ensures.goes_on o k (on_comp o side k) Moved (side_peeks _ _ o side k _ _ _ none c.batch.ensures v))
