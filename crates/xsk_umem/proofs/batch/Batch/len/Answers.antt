use Rattle.std.proofs.Common.{◌≡◌, length, sym, arith}
use Rattle.xsk_umem.proofs.Places.{length-items_from}
use Rattle.xsk_umem.proofs.batch.Batch.len.Goals as goal

pub returns-clause-value : goal.returns-clause-value
returns-clause-value c = sym (rw c.self.view_is at (length-items_from c.self.inside.places c.self.inside.head c.self.inside.len))

pub returns-clause-few : goal.returns-clause-few
returns-clause-few c =
    let count : length c.args.self.now ≡ c.self.inside.len = rw c.self.view_is at (length-items_from c.self.inside.places c.self.inside.head c.self.inside.len) in
    omega (arith, c.self.invariant.1)
