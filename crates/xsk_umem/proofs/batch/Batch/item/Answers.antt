use Rattle.std.proofs.Common.{◌≡◌, ◌+◌, length, ◌%◌, ap, sym, arith, Some}
use Rattle.std.proofs.lemmas.List.{get_or_default}
use Rattle.xsk_umem.specs.Batch.{blank}
use Rattle.xsk_umem.proofs.Places.{at_place, length-items_from}
use Rattle.xsk_umem.proofs.batch.Batch.item.Goals as goal

pub returns : goal.returns
returns c =
    let count : length c.args.self.now ≡ c.self.inside.len = rw c.self.view_is at (length-items_from c.self.inside.places c.self.inside.head c.self.inside.len) in
    let item = rw c.self.view_is at (at_place c.self.inside.places c.self.inside.head c.self.inside.len c.args.i (omega (arith, count, c.requires))) in
    rw item (ap Some (sym (get_or_default c.self.inside.places ((c.self.inside.head + c.args.i) % 32) c.index-self-at.result blank (omega (arith, c.self.told)))))
