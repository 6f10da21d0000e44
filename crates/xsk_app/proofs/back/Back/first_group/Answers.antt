use Rattle.std.proofs.Common.{rules, List, ◌<◌, length, subst, ◌/◌}
use Rattle.xsk_umem.specs.Frame.{Frame}
use Rattle.xsk_app.specs.Ways.{IsGroup}
use Rattle.xsk_app.proofs.TurnLemmas.{group_first}
use Rattle.xsk_app.proofs.back.Back.first_group.Goals as goal

pub returns-clause-some : goal.returns-clause-some
returns-clause-some c =
    let some : 0 < length c.self.inside.frames.items = search rules in
    let group = group_first c.args.pool c.args.batch c.self.inside.frames.items c.in_ok-front.field-0.now c.number.result c.count_at_home-count.result some
    c.in_ok-front.ensures.lookup c.number.ensures.value c.count_at_home-count.ensures in
    subst (λ (back : List Frame). IsGroup c.args.pool c.args.batch back (c.number.result / c.args.pool) c.count_at_home-count.result) c.self.view_is group
