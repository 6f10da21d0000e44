-- The room that a call takes in the log.
use Rattle.std.proofs.Common.{◌≤◌, List, length, arith}
use Rattle.xsk_umem.specs.Geometry.{IsGeometry}
use Rattle.xsk_umem.specs.Limits.{most_items}
use Rattle.xsk_umem.specs.declared.batch.Item.{Item}
use Rattle.xsk_model.specs.Asks.{joined_call}
use Rattle.xsk_model.specs.Config.{Config}
use Rattle.xsk_model.specs.declared.ask.Ask.{Ask}
use Rattle.xsk_model.specs.declared.ask.Ask.TheVariants.{Reserve, Submit, Peek, Release, Swap, Look}
use Rattle.xsk_plain.specs.Rooms.{payload_bytes}
use Rattle.xsk_plain.proofs.Payloads.{items_bytes-le}
use Rattle.xsk_sim.specs.Rooms.{most_payload}

-- a call with the items of a batch has no more payload bytes
pub payload_within : (c : Config) (ask : Ask) (items : List Item) → IsGeometry c.geometry → length items ≤ most_items → payload_bytes c (joined_call ask items) ≤ most_payload
payload_within c (Reserve r n) items is few = omega arith
payload_within c (Submit r) items is few = omega (arith, items_bytes-le c items is, few)
payload_within c (Peek r n) items is few = omega arith
payload_within c (Release r n) items is few = omega arith
payload_within c (Swap m value) items is few = omega arith
payload_within c (Look m) items is few = omega arith
