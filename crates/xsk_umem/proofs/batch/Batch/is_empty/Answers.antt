use Rattle.std.proofs.Common.{rules, ◌≡◌, length}
use Rattle.xsk_umem.proofs.Places.{length-items_from}
use Rattle.xsk_umem.proofs.batch.Batch.is_empty.Goals as goal

pub returns : goal.returns
returns c =
    let count : length c.args.self.now ≡ c.self.inside.len = rw c.self.view_is at (length-items_from c.self.inside.places c.self.inside.head c.self.inside.len) in
    search rules
