-- When the owner of a mark may set it, and what it may no more do once it has, by its own earlier calls and replies
-- alone. How a socket is closed and that bounced packets are counted are this project's own.
use Rattle.std.specs.Prelude.{◌≡◌, ◌≢◌, ℕ, suc, if◌then◌else◌, Option, None, Some, List, unwrap_or}
use Rattle.std.specs.List.{fold}
use Rattle.xsk_model.specs.Config.{Config}
use Rattle.xsk_model.specs.Rings.{port_of}
use Rattle.xsk_model.specs.Marks.{is_mark, HasMark, HoldsClosing, IsMarkOwner}
use Rattle.xsk_model.specs.Entry.{Told}
use Rattle.xsk_model.specs.Own.{room_of}
use Rattle.xsk_model.specs.declared.call.Ring.{Ring}
use Rattle.xsk_model.specs.declared.call.Ring.TheVariants.{Fill, Comp, Rx, Tx}
use Rattle.xsk_model.specs.declared.call.Mark.{Mark}
use Rattle.xsk_model.specs.declared.call.Mark.TheVariants.{NeedFill, NeedTx, Kick, RxDone, Gone, TxDone, Cell, Closing, Acked, Bounced}
use Rattle.xsk_model.specs.declared.call.Call.{Call}
use Rattle.xsk_model.specs.declared.call.Call.TheVariants.{Reserve, Submit, Peek, Release, Swap, Look}
use Rattle.xsk_model.specs.declared.call.Reply.{Reply}
use Rattle.xsk_model.specs.declared.call.Reply.TheVariants.{Granted, Full, Submitted, Items, Empty, Released, Old}

-- ---- what a caller set and saw

abbrev pub set_after : Mark → Option ℕ → Call → Option ℕ
set_after m before (Reserve r n) = before
set_after m before (Submit r items) = before
set_after m before (Peek r n) = before
set_after m before (Release r n) = before
set_after m before (Swap n value) = if is_mark m n then Some value else before
set_after m before (Look n) = before

abbrev pub set_step : Mark → Option ℕ → Told → Option ℕ
set_step m before t = set_after m before t.call

-- the number to which a caller last set a mark, if it ever did
abbrev pub last_set : Mark → List Told → Option ℕ
last_set m mine = fold (set_step m) None mine

abbrev pub number_in : Option ℕ → Reply → Option ℕ
number_in before Granted = before
number_in before (Full free) = before
number_in before Submitted = before
number_in before (Items items) = before
number_in before Empty = before
number_in before Released = before
number_in before (Old value) = Some value

abbrev pub seen_after : Mark → Option ℕ → Call → Reply → Option ℕ
seen_after m before (Reserve r n) reply = before
seen_after m before (Submit r items) reply = before
seen_after m before (Peek r n) reply = before
seen_after m before (Release r n) reply = before
seen_after m before (Swap n value) reply = before
seen_after m before (Look n) reply = if is_mark m n then number_in before reply else before

abbrev pub seen_step : Mark → Option ℕ → Told → Option ℕ
seen_step m before t = seen_after m before t.call t.reply

-- the number that a caller's last Look at a mark was answered, if it ever looked
abbrev pub last_seen : Mark → List Told → Option ℕ
last_seen m mine = fold (seen_step m) None mine

-- ---- what it may set

-- the caller has lowered each cell of the socket's port that held the socket at the opening
abbrev pub HasCleared : Config → List Told → ℕ → Type 0
HasCleared c mine s = (index : ℕ) → HasMark c (Cell (port_of c (Rx s)) index) → HoldsClosing c (port_of c (Rx s)) index s
    → last_set (Cell (port_of c (Rx s)) index) mine ≡ Some 0

-- A cell is only lowered, to 0. A socket is closed once its cells are, and that is acknowledged once it was seen, with no
-- place of the RX ring reserved. Bounced packets are counted one by one. All other marks may be set at any time.
abbrev pub IsTimely : Config → List Told → Mark → ℕ → Type 0
IsTimely c mine (NeedFill d) value = Unit {0}
IsTimely c mine (NeedTx s) value = Unit {0}
IsTimely c mine (Kick d) value = Unit {0}
IsTimely c mine (RxDone d) value = Unit {0}
IsTimely c mine (Gone d) value = Unit {0}
IsTimely c mine (TxDone a) value = Unit {0}
IsTimely c mine (Cell port index) value = value ≡ 0
IsTimely c mine (Closing s) value = (value ≡ 1) × HasCleared c mine s
IsTimely c mine (Acked s) value = (value ≡ 1) × (last_seen (Closing s) mine ≡ Some 1) × (room_of (Rx s) mine ≡ 0)
IsTimely c mine (Bounced d) value = value ≡ suc (unwrap_or (last_set (Bounced d) mine) 0)

-- after its own earlier calls and replies the owner may set a mark to a number
abbrev pub MaySwap : Config → List Told → ℕ → Mark → ℕ → Type 0
MaySwap c mine who m value = IsMarkOwner c who m × IsTimely c mine m value

-- ---- what it may no more do

-- the producer of a ring has not ended it: RX of the socket to close by acknowledging, TX of it by closing
abbrev pub IsFed : Config → List Told → Ring → Type 0
IsFed c mine (Fill d) = Unit {0}
IsFed c mine (Comp d) = Unit {0}
IsFed c mine (Rx s) = c.closing ≡ Some s → last_set (Acked s) mine ≢ Some 1
IsFed c mine (Tx s) = c.closing ≡ Some s → last_set (Closing s) mine ≢ Some 1

-- nothing more is reserved or submitted on a ring that was ended
abbrev pub MayFeed : Config → List Told → Call → Type 0
MayFeed c mine (Reserve r n) = IsFed c mine r
MayFeed c mine (Submit r items) = IsFed c mine r
MayFeed c mine (Peek r n) = Unit {0}
MayFeed c mine (Release r n) = Unit {0}
MayFeed c mine (Swap m value) = Unit {0}
MayFeed c mine (Look m) = Unit {0}
