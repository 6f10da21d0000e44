use Rattle.std.proofs.Common.{rules, ◌≡◌, length, arith}
use Rattle.xsk_umem.proofs.Places.{length-items_from, put_behind}
use Rattle.xsk_umem.proofs.batch.Batch.push.Goals as goal

pub invariant_of-self : goal.invariant_of-self
invariant_of-self c =
    let count : length c.args.self.now ≡ c.self.inside.len = rw c.self.view_is at (length-items_from c.self.inside.places c.self.inside.head c.self.inside.len) in
    (c.self.invariant.0, omega (arith, count, c.requires))

pub returns : goal.returns
returns c =
    let count : length c.args.self.now ≡ c.self.inside.len = rw c.self.view_is at (length-items_from c.self.inside.places c.self.inside.head c.self.inside.len) in
    let full : length c.self.inside.places ≡ 32 = search rules in
    rw (← c.self.view_is) (put_behind c.self.inside.places c.self.inside.head c.self.inside.len c.args.item full (omega (arith, count, c.requires)))
