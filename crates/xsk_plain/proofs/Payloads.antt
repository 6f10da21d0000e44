-- How long payloads are.
use Rattle.std.proofs.Common.{◌*◌, ◌≤◌, get_or, List, length}
use Rattle.std.proofs.lemmas.List.Sums.{sum_by-le}
use Rattle.xsk_umem.specs.Geometry.{IsGeometry}
use Rattle.xsk_umem.specs.declared.batch.Item.{Item}
use Rattle.xsk_model.specs.Config.{Config}
use Rattle.xsk_model.specs.Descriptor.{payload}
use Rattle.xsk_model.proofs.Payloads.{length-payload}
use Rattle.xsk_plain.specs.Rooms.{items_bytes}

pub items_bytes-le : (c : Config) (items : List Item) → IsGeometry c.geometry → items_bytes c items ≤ length items * 4096
items_bytes-le c items is = sum_by-le (λ item. length (payload c.geometry c.sg item)) 4096 items (λ k d within. length-payload c.geometry c.sg (get_or items k d) is)
