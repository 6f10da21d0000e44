-- What a step leaves of the descriptors that are kept of a TX ring, and when items give back its first packet.
use Rattle.std.specs.Prelude.{◌≡◌, ◌≢◌, ◌+◌, ◌-◌, Bool, true, false, not, ◌||◌, ◌==◌, nat_le, if◌then◌else◌, List, [], ◌∷◌, ◌++◌, length, take, drop}
use Rattle.xsk_umem.specs.Geometry.{Geometry}
use Rattle.xsk_umem.specs.declared.batch.Item.{Item}
use Rattle.xsk_umem.specs.declared.batch.XdpDesc.{XdpDesc}
use Rattle.xsk_model.specs.Descriptor.{is_valid}
use Rattle.xsk_model.specs.Limits.{most_fragments}
use Rattle.xsk_legal.specs.Noted.{Queue}

-- one more descriptor: it is kept, or its packet is bad and forgotten
abbrev pub pushed : Geometry → Bool → Queue → XdpDesc → Queue
pushed g sg queue desc =
    if nat_le most_fragments queue.begun || not (is_valid g sg desc)
    then record queue { descs = take (length queue.descs - queue.begun) queue.descs; begun = 0 }
    else record queue { descs = queue.descs ++ desc ∷ []; begun = if desc.options == 1 then queue.begun + 1 else 0 }

abbrev pub first_off : Queue → Queue
first_off queue = record queue { descs = drop 1 queue.descs }

-- the descriptor has the item's address, and the packet ends with it exactly where the item is the last
pub record IsNext (desc : XdpDesc) (last : Bool) (item : Item) : Type 0 where
  pub address : desc.addr ≡ item.desc.addr
  pub ends : last ≡ true → desc.options ≢ 1
  pub goes_on : last ≡ false → desc.options ≡ 1

-- the items have the addresses of the first packet of the descriptors, or of its end, up to its last one
abbrev pub IsPacket : List XdpDesc → List Item → Type 0
IsPacket descs [] = Unit {0}
IsPacket [] (item ∷ items) = ⊥
IsPacket (desc ∷ descs) (item ∷ []) = (desc.addr ≡ item.desc.addr) × (desc.options ≢ 1)
IsPacket (desc ∷ descs) (item ∷ next ∷ items) = (desc.addr ≡ item.desc.addr) × (desc.options ≡ 1) × IsPacket descs (next ∷ items)
