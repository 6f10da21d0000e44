-- What a gather keeps: the items of the packet that isn't finished yet, and whether the socket has XDP_USE_SG.
use Rattle.std.specs.Prelude.{Bool, List}
use Rattle.xsk_umem.specs.declared.batch.Item.{Item}

pub record Unfinished : Type 0 where
  pub items : List Item
  pub sg : Bool
