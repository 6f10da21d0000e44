use Rattle.std.proofs.Common.{◌*◌, ◌≤◌, List, length, arith}
use Rattle.xsk_umem.specs.Geometry.{IsGeometry}
use Rattle.xsk_umem.specs.declared.batch.Item.{Item}
use Rattle.xsk_model.specs.Asks.{joined_call}
use Rattle.xsk_model.specs.Config.{Config}
use Rattle.xsk_model.specs.declared.ask.Ask.{Ask}
use Rattle.xsk_model.specs.declared.ask.Ask.TheVariants.{Reserve, Submit, Peek, Release, Swap, Look}
use Rattle.xsk_plain.specs.Rooms.{payload_bytes}
use Rattle.xsk_plain.proofs.Payloads.{items_bytes-le}
use Rattle.xsk_plain.proofs.plain.items_room.Goals as goal

-- a call takes no more than the chunks of the items beside it
payload_bytes-le : (c : Config) (ask : Ask) (items : List Item) → IsGeometry c.geometry → payload_bytes c (joined_call ask items) ≤ length items * 4096
payload_bytes-le c (Reserve r n) items is = omega arith
payload_bytes-le c (Submit r) items is = items_bytes-le c items is
payload_bytes-le c (Peek r n) items is = omega arith
payload_bytes-le c (Release r n) items is = omega arith
payload_bytes-le c (Swap m value) items is = omega arith
payload_bytes-le c (Look m) items is = omega arith

pub returns-clause-enough : goal.returns-clause-enough
returns-clause-enough c config ask is = rw c.len.ensures.value (payload_bytes-le config ask c.args.items.now is)
