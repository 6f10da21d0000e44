-- What is left of a walk.
use Rattle.std.specs.Prelude.{ℕ, List, drop}
use Rattle.xsk_umem.specs.declared.batch.Item.{Item}
use Rattle.xsk_umem.specs.declared.walks.Items.{Items}
use Rattle.xsk_umem.specs.declared.walks.Packets.{Packets}

-- the items that come yet
abbrev pub items_left : Items → List Item
items_left walk = drop walk.next walk.batch.now

-- the packets that come yet
abbrev pub packets_left : Packets → List (List ℕ)
packets_left walk = drop walk.next walk.list.now.packets
