-- What a gather keeps between two items, and the lists of items that it stands for.
use Rattle.std.specs.Prelude.{◌≡◌, Option, Some, None, List}
use Rattle.xsk_umem.specs.Geometry.{Geometry}
use Rattle.xsk_umem.specs.declared.batch.Item.{Item}
use Rattle.xsk_model.specs.Packets.{Packet, whole, bad, rest}
use Rattle.xsk_desc.specs.Unfinished.{Unfinished}
use Rattle.xsk_desc.specs.declared.gather.Gathered.{Gathered}
use Rattle.xsk_desc.specs.declared.gather.Gathered.TheVariants.{More as Pending, Whole as Ended, Bad as Broken}
use Rattle.xsk_desc.specs.declared.gather.Ending.{Ending}
use Rattle.xsk_desc.specs.declared.gather.Ending.TheVariants.{More, Whole, Bad}

-- the list of all items that were pushed may be this one: what is kept is its unfinished rest
abbrev pub StandsFor : Geometry → Unfinished → List Item → Type 0
StandsFor g gather items = rest g gather.sg items ≡ gather.items

-- the packet that an item ended, if any: these items with it
abbrev pub packet_by : Ending → List Item → Option Packet
packet_by More items = None
packet_by Whole items = Some (whole items)
packet_by Bad items = Some (bad items)

-- the packet that a push ended, if any
abbrev pub packet_of : Gathered → Option Packet
packet_of Pending = None
packet_of (Ended items) = Some (whole items)
packet_of (Broken items) = Some (bad items)
