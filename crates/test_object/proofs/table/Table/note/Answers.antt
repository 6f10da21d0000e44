use Rattle.std.proofs.Common.{◌<◌, arith}
use Rattle.xsk_model.specs.Config.{callers_of}
use Rattle.test_object.proofs.Resting.{rest_at}
use Rattle.test_object.proofs.table.Table.note.Goals as goal

pub note-requires : goal.note-requires
note-requires c =
    let b = c.self.inside.shared in
    let all = c.self.invariant.1 in
    let lt : c.args.who < callers_of b.setup.config = (let below = c.if-who-len.false in omega (arith, below, c.len.ensures, all.0)) in
    record { belongs = (rest_at b (callers_of b.setup.config) c.self.inside.checked.items c.args.who _ c.index_mut.result.now all lt c.index_mut.ensures.value).0.0 }
