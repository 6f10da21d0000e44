use Rattle.std.proofs.Common.{◌≡◌, ◌+◌, length, ◌%◌, ap, arith}
use Rattle.std.proofs.lemmas.List.{get_or_default}
use Rattle.xsk_umem.specs.declared.batch.Item.{Item}
use Rattle.xsk_umem.specs.Batch.{blank}
use Rattle.xsk_umem.proofs.Places.{at_place, length-items_from}
use Rattle.xsk_umem.proofs.batch.Batch.desc.Goals as goal

pub returns : goal.returns
returns c =
    let count : length c.args.self.now ≡ c.self.inside.len = rw c.self.view_is at (length-items_from c.self.inside.places c.self.inside.head c.self.inside.len) in
    let item = rw c.self.view_is at (at_place c.self.inside.places c.self.inside.head c.self.inside.len c.args.i (omega (arith, count, c.requires))) in
    rw item (ap (λ (x : Item). x.desc) (get_or_default c.self.inside.places ((c.self.inside.head + c.args.i) % 32) c.index-self-place.result blank (omega (arith, c.self.told))))
