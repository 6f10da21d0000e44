use Rattle.std.proofs.Common.{◌<◌, ℕ, List, length, drop, sym, subst, arith}
use Rattle.xsk_umem.specs.Frame.{Frame}
use Rattle.xsk_turns.specs.Script.{on_submitted}
use Rattle.xsk_turns.specs.AppTurns.{AppKept, with_back, give_back}
use Rattle.xsk_turns.proofs.Places.{batch_few}
use Rattle.xsk_app.proofs.TurnLemmas.{group_bounds}
use Rattle.xsk_shared_ends.specs.Standing.{Origin, GivesBack, next}
use Rattle.xsk_shared_ends.specs.declared.visiting.Step.TheVariants.{Moved, Full}
use Rattle.xsk_shared_ends.proofs.Standing.{after_submitted}
use Rattle.xsk_shared_ends.proofs.Giving.{on_fill, given, stays_back, group_of, same_on, fewer, gives_left, asks_group, puts_group, wakes_group}
use Rattle.xsk_shared_ends.proofs.visiting.give_back.Goals as goal

pub first_group-requires-clause-batch : goal.first_group-requires-clause-batch
first_group-requires-clause-batch c = omega (arith, c.batch.ensures, batch_few c.args.config.now)

pub give-requires-clause-few : goal.give-requires-clause-few
give-requires-clause-few c =
    let bounds = group_bounds c.pool.result c.batch.result c.groups.back c.in-Some.home c.in-Some.count c.in-Some.ensures.some in
    omega (arith, bounds.0, c.batch.ensures, batch_few c.args.config.now)

pub returns-in-Some-reserve-clause-over : goal.returns-in-Some-reserve-clause-over
returns-in-Some-reserve-clause-over c o side k h =
    let back = c.groups.back in
    let home = c.in-Some.home in
    let count = c.in-Some.count in
    let group = group_of c.args.config.now o c.pool.result c.batch.result home count back h.config c.pool.ensures c.batch.ensures c.in-Some.ensures.some in
    let asks = asks_group c.args.config.now o side k back home count group _ (c.groups.invariant.goes_on o side k h) in
    stays_back o side k back _ home count c.in-Some-reserve.free (Full c.in-Some-reserve.free) group (c.in-Some-reserve.ensures.goes_on o (with_back k side back) (on_fill o side k back) Moved asks)

pub serve-requires-clause-at : goal.serve-requires-clause-at
serve-requires-clause-at c =
    let at = c.requires.at in
    let o = at.0 in
    let side = at.1 in
    let k = at.2 in
    let h = at.3 in
    let back = c.groups.back in
    let home = c.in-Some.home in
    let count = c.in-Some.count in
    let group = group_of c.args.config.now o c.pool.result c.batch.result home count back h.config c.pool.ensures c.batch.ensures c.in-Some.ensures.some in
    let asks = asks_group c.args.config.now o side k back home count group _ (c.groups.invariant.goes_on o side k h) in
    let granted = c.in_default-reserve.ensures.goes_on o (with_back k side back) (on_fill o side k back) Moved asks in
    (o, with_back k side (drop count back), on_submitted (given o side k back home count), Moved, puts_group c.args.config.now o side k back home count group _ c.give.new.items _ h.config c.geometry.ensures.value c.give.ensures.items granted)

pub wake-requires-clause-at : goal.wake-requires-clause-at
wake-requires-clause-at c =
    let at = c.requires.at in
    let o = at.0 in
    let side = at.1 in
    let k = at.2 in
    let h = at.3 in
    let back = c.groups.back in
    let home = c.in-Some.home in
    let count = c.in-Some.count in
    let group = group_of c.args.config.now o c.pool.result c.batch.result home count back h.config c.pool.ensures c.batch.ensures c.in-Some.ensures.some in
    let asks = asks_group c.args.config.now o side k back home count group _ (c.groups.invariant.goes_on o side k h) in
    let granted = c.in_default-reserve.ensures.goes_on o (with_back k side back) (on_fill o side k back) Moved asks in
    let left = with_back k side (drop count back) in
    let put = c.serve.ensures.goes_on o left (on_submitted (given o side k back home count)) Moved
    (puts_group c.args.config.now o side k back home count group _ c.give.new.items _ h.config c.geometry.ensures.value c.give.ensures.items granted) in
    (o, left, give_back o.config side 0 (drop count back) left next, Moved, wakes_group c.args.config.now o side k back home count group _ h.config (after_submitted o _ (given o side k back home count) _ Moved c.serve.ensures.kind put))

pub groups-smaller : goal.groups-smaller
groups-smaller c =
    let at = c.requires.at in
    let o = at.0 in
    let h = at.3 in
    let back = c.groups.back in
    let group = group_of c.args.config.now o c.pool.result c.batch.result c.in-Some.home c.in-Some.count back h.config c.pool.ensures c.batch.ensures c.in-Some.ensures.some in
    subst (λ (xs : List Frame). length xs < length back) (sym c.give.ensures.left) (fewer c.args.config.now o _ _ _ back c.in-Some.home c.in-Some.count h.at group)

pub groups-preserved : goal.groups-preserved
groups-preserved c =
    let back = c.groups.back in
    let home = c.in-Some.home in
    let count = c.in-Some.count in
    let same = same_on _ _ _ c.groups.invariant.same (same_on _ _ _ c.reserve.ensures.same (same_on _ _ _ c.serve.ensures.same c.wake.ensures.same)) in
    let goes : (o : Origin) (side : ℕ) (k : AppKept) → GivesBack c.args.config.now o side k c.args.back.now c.args.pass.now → GivesBack c.args.config.now o side k c.give.new.self c.wake.new.pass =
    λ o side k h.
    let group = group_of c.args.config.now o c.pool.result c.batch.result home count back h.config c.pool.ensures c.batch.ensures c.in-Some.ensures.some in
    let asks = asks_group c.args.config.now o side k back home count group _ (c.groups.invariant.goes_on o side k h) in
    let granted = c.in_default-reserve.ensures.goes_on o (with_back k side back) (on_fill o side k back) Moved asks in
    let left = with_back k side (drop count back) in
    let put = c.serve.ensures.goes_on o left (on_submitted (given o side k back home count)) Moved
    (puts_group c.args.config.now o side k back home count group _ c.give.new.items _ h.config c.geometry.ensures.value c.give.ensures.items granted) in
    let woken = c.wake.ensures.goes_on o left (give_back o.config side 0 (drop count back) left next) Moved
    (wakes_group c.args.config.now o side k back home count group _ h.config (after_submitted o _ (given o side k back home count) _ Moved c.serve.ensures.kind put)) in
    subst (λ (xs : List Frame). GivesBack c.args.config.now o side k xs c.wake.new.pass) (sym c.give.ensures.left) (gives_left c.args.config.now o side k (drop count back) _ h.config woken) in
    record { same = same; empty = c.wake.ensures.empty; goes_on = goes }
