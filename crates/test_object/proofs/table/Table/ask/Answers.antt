use Rattle.std.proofs.Common.{◌<◌, ◌∙◌, arith}
use Rattle.xsk_model.specs.Config.{callers_of}
use Rattle.test_object.proofs.Resting.{rest_at, rest_set}
use Rattle.test_object.proofs.table.Table.ask.Goals as goal

pub asked_anew-requires : goal.asked_anew-requires
asked_anew-requires c =
    let b = c.self.inside.shared in
    let all = c.self.invariant.1 in
    let lt : c.args.who < callers_of b.setup.config = (let below = c.if-who-len.false in omega (arith, below, c.len.ensures, all.0)) in
    record { rests = (rest_at b (callers_of b.setup.config) c.self.inside.checked.items c.args.who _ c.index_mut.result.now all lt c.index_mut.ensures.value).0 }

pub invariant_of-self : goal.invariant_of-self
invariant_of-self c =
    let b = c.self.inside.shared in
    let all = c.self.invariant.1 in
    let lt : c.args.who < callers_of b.setup.config = (let below = c.if-who-len.false in omega (arith, below, c.len.ensures, all.0)) in
    let before = rest_at b (callers_of b.setup.config) c.self.inside.checked.items c.args.who _ c.index_mut.result.now all lt c.index_mut.ensures.value in (
      c.self.invariant.0,
      rest_set b (callers_of b.setup.config) c.self.inside.checked.items c.args.who c.asked_anew.new.pass all lt c.asked_anew.ensures.rests (c.asked_anew.ensures.caller ∙ before.1),
    )
