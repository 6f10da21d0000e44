use Rattle.std.proofs.Common.{◌<◌, ap, ◌∙◌, arith}
use Rattle.xsk_model.specs.Config.{callers_of}
use Rattle.xsk_table.specs.View.{View}
use Rattle.test_object.proofs.Resting.{rest_at, rest_set}
use Rattle.test_object.proofs.table.Table.meet.Goals as goal

pub meet-requires-clause-belongs : goal.meet-requires-clause-belongs
meet-requires-clause-belongs c =
    let b = c.self.inside.shared in
    let all = c.self.invariant.1 in
    let lt : c.args.who < callers_of b.setup.config = (let below = c.if-who-len.false in omega (arith, below, c.len.ensures, all.0)) in
    (rest_at b (callers_of b.setup.config) c.self.inside.checked.items c.args.who _ c.index_mut.result.now all lt c.index_mut.ensures.value).0.0

pub invariant_of-self : goal.invariant_of-self
invariant_of-self c =
    let b = c.self.inside.shared in
    let all = c.self.invariant.1 in
    let lt : c.args.who < callers_of b.setup.config = (let below = c.if-who-len.false in omega (arith, below, c.len.ensures, all.0)) in
    let before = rest_at b (callers_of b.setup.config) c.self.inside.checked.items c.args.who _ c.index_mut.result.now all lt c.index_mut.ensures.value in
    let did = c.meet.ensures in (
      c.self.invariant.0,
      rest_set b (callers_of b.setup.config) c.self.inside.checked.items c.args.who c.meet.new.self all lt
          (record { table = did.same.0 ∙ before.0.0.table; setup = ap (λ (v : View). v.setup) did.view ∙ before.0.0.setup }, ap (λ (v : View). v.flight) did.view ∙ before.0.1)
          (did.same.1 ∙ before.1),
    )
