-- Histories as they are kept: each frame's bytes are left out but for the payload of its item.
use Rattle.std.specs.Prelude.{Bool, List, map}
use Rattle.std.specs.Option.{option_map}
use Rattle.xsk_umem.specs.Frame.{Frame}
use Rattle.xsk_umem.specs.Geometry.{Geometry}
use Rattle.xsk_umem.specs.declared.batch.Item.{Item}
use Rattle.xsk_model.specs.Descriptor.{payload}
use Rattle.xsk_model.specs.Entry.{Entry}
use Rattle.xsk_model.specs.declared.call.Call.{Call}
use Rattle.xsk_model.specs.declared.call.Call.TheVariants.{Reserve, Submit, Peek, Release, Swap, Look}
use Rattle.xsk_model.specs.declared.call.Reply.{Reply}
use Rattle.xsk_model.specs.declared.call.Reply.TheVariants.{Granted, Full, Submitted, Items, Empty, Released, Old}

-- the item with its payload in place of its frame's bytes
abbrev pub stored_item : Geometry → Bool → Item → Item
stored_item g sg item = record item { frame = option_map (λ (f : Frame). record f { bytes = payload g sg item }) item.frame }

abbrev pub stored_call : Geometry → Bool → Call → Call
stored_call g sg (Reserve r n) = Reserve r n
stored_call g sg (Submit r items) = Submit r (map (stored_item g sg) items)
stored_call g sg (Peek r n) = Peek r n
stored_call g sg (Release r n) = Release r n
stored_call g sg (Swap m value) = Swap m value
stored_call g sg (Look m) = Look m

abbrev pub stored_reply : Geometry → Bool → Reply → Reply
stored_reply g sg Granted = Granted
stored_reply g sg (Full places) = Full places
stored_reply g sg Submitted = Submitted
stored_reply g sg (Items items) = Items (map (stored_item g sg) items)
stored_reply g sg Empty = Empty
stored_reply g sg Released = Released
stored_reply g sg (Old value) = Old value

abbrev pub stored_entry : Geometry → Bool → Entry → Entry
stored_entry g sg e = record { who = e.who; call = stored_call g sg e.call; reply = stored_reply g sg e.reply }

abbrev pub stored : Geometry → Bool → List Entry → List Entry
stored g sg h = map (stored_entry g sg) h
