-- The journal's line of an entry: who made the call, the call and its reply. This project's own.
use Rattle.std.specs.Prelude.{◌≡◌, ℕ, ◌-◌, nat_lt, if◌then◌else◌, List, [], ◌∷◌, ◌++◌, codes, slice_get, Option, None, Some}
use Rattle.std.specs.Fmt.{decimal}
use Rattle.std.specs.List.{flat_map}
use Rattle.xsk_umem.specs.declared.batch.Item.{Item}
use Rattle.xsk_umem.specs.declared.batch.XdpDesc.{XdpDesc}
use Rattle.xsk_model.specs.Entry.{Entry}
use Rattle.xsk_model.specs.declared.call.Ring.{Ring}
use Rattle.xsk_model.specs.declared.call.Ring.TheVariants.{Fill, Comp, Rx, Tx}
use Rattle.xsk_model.specs.declared.call.Mark.{Mark}
use Rattle.xsk_model.specs.declared.call.Mark.TheVariants.{NeedFill, NeedTx, Kick, RxDone, Gone, TxDone, Cell, Closing, Acked, Bounced}
use Rattle.xsk_model.specs.declared.call.Call.{Call}
use Rattle.xsk_model.specs.declared.call.Call.TheVariants.{Reserve, Submit, Peek, Release, Swap, Look}
use Rattle.xsk_model.specs.declared.call.Reply.{Reply}
use Rattle.xsk_model.specs.declared.call.Reply.TheVariants.{Granted, Full, Submitted, Items, Empty, Released, Old}

-- drivers are the first callers, one for each pair, and applications come behind them, each counted from 0
abbrev pub who_text : ℕ → ℕ → List ℕ
who_text pairs who = if nat_lt who pairs then codes "d" ++ decimal who else codes "a" ++ decimal (who - pairs)

-- a ring with the number of its pair or socket
abbrev pub ring_text : Ring → List ℕ
ring_text (Fill pair) = codes "fill." ++ decimal pair
ring_text (Comp pair) = codes "comp." ++ decimal pair
ring_text (Rx socket) = codes "rx." ++ decimal socket
ring_text (Tx socket) = codes "tx." ++ decimal socket

abbrev pub mark_text : Mark → List ℕ
mark_text (NeedFill pair) = codes "need.fill." ++ decimal pair
mark_text (NeedTx socket) = codes "need.tx." ++ decimal socket
mark_text (Kick pair) = codes "kick." ++ decimal pair
mark_text (RxDone pair) = codes "rxdone." ++ decimal pair
mark_text (Gone pair) = codes "gone." ++ decimal pair
mark_text (TxDone app) = codes "txdone." ++ decimal app
mark_text (Cell port index) = codes "cell." ++ decimal port ++ codes "." ++ decimal index
mark_text (Closing socket) = codes "closing." ++ decimal socket
mark_text (Acked socket) = codes "acked." ++ decimal socket
mark_text (Bounced pair) = codes "bounced." ++ decimal pair

-- address, length and options of a descriptor
abbrev pub desc_text : XdpDesc → List ℕ
desc_text d = decimal d.addr ++ codes ":" ++ decimal d.len ++ codes ":" ++ decimal d.options

abbrev pub item_text : Item → List ℕ
item_text x = codes " " ++ desc_text x.desc

-- each behind a space
abbrev pub items_text : List Item → List ℕ
items_text items = flat_map item_text items

abbrev pub call_text : Call → List ℕ
call_text (Reserve r n) = codes "reserve " ++ ring_text r ++ codes " " ++ decimal n
call_text (Submit r items) = codes "submit " ++ ring_text r ++ items_text items
call_text (Peek r n) = codes "peek " ++ ring_text r ++ codes " " ++ decimal n
call_text (Release r n) = codes "release " ++ ring_text r ++ codes " " ++ decimal n
call_text (Swap m value) = codes "swap " ++ mark_text m ++ codes " " ++ decimal value
call_text (Look m) = codes "look " ++ mark_text m

abbrev pub reply_text : Reply → List ℕ
reply_text Granted = codes "granted"
reply_text (Full free) = codes "full " ++ decimal free
reply_text Submitted = codes "submitted"
reply_text (Items items) = codes "items" ++ items_text items
reply_text Empty = codes "empty"
reply_text Released = codes "released"
reply_text (Old value) = decimal value

-- where the configuration has so many pairs
abbrev pub line_of : ℕ → Entry → List ℕ
line_of pairs e = who_text pairs e.who ++ codes " " ++ call_text e.call ++ codes " -> " ++ reply_text e.reply ++ codes "\n"

-- the line of an entry of a log
pub record IsLineAt (pairs : ℕ) (log : List Entry) (i : ℕ) (line : List ℕ) : Type 0 where
  pub entry : Entry
  pub at : slice_get log i ≡ Some entry
  pub is : line ≡ line_of pairs entry

-- Of the entries that are left the first is passed: its caller is told, and its line stands in place of the one before. Where
-- none is left, all stays as it is.
abbrev pub TakesLine : ℕ → List Entry → List Entry → List ℕ → List ℕ → Option ℕ → Type 0
TakesLine pairs [] later before line told = (told ≡ None) × (later ≡ []) × (line ≡ before)
TakesLine pairs (e ∷ es) later before line told = (told ≡ Some e.who) × (later ≡ es) × (line ≡ line_of pairs e)
