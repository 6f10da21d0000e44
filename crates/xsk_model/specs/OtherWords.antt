-- What is said of single calls in other words than those of `Object.antt` and `Own.antt`: whether a call changes the
-- state, from which ring a frame came last, which packet a driver completes next, the layouts of packets by their
-- lengths alone, and calls without the bytes of their frames. All of this is this project's own.
use Rattle.std.specs.Prelude.{◌≡◌, ℕ, suc, unwrap_or, ◌<◌, ◌≤◌, ◌⊎◌, Bool, true, false, not, IsTrue, ◌==◌, Some, List, [], ◌∷◌, ◌++◌, length, map, All}
use Rattle.std.specs.Option.{option_map}
use Rattle.xsk_umem.specs.Frame.{Frame}
use Rattle.xsk_umem.specs.Geometry.{Geometry, payload_of, data_of}
use Rattle.xsk_umem.specs.declared.batch.Item.{Item}
use Rattle.xsk_umem.specs.Limits.{most_items}
use Rattle.xsk_model.specs.Config.{Config, HasRing, callers_of}
use Rattle.xsk_model.specs.Numbers.{times, numbers}
use Rattle.xsk_model.specs.Packets.{packets, whole_packets}
use Rattle.xsk_model.specs.Rings.{port_of, queue_of, producer, consumer}
use Rattle.xsk_model.specs.Object.{taken}
use Rattle.xsk_model.specs.Entry.{Told, Entry, own}
use Rattle.xsk_model.specs.Own.{peeked_of}
use Rattle.xsk_model.specs.Sent.{sent_by}
use Rattle.xsk_model.specs.Marks.{IsMarkOwner}
use Rattle.xsk_model.specs.Swaps.{last_set}
use Rattle.xsk_model.specs.Legal.{IsKnown, IsCounted, HasFrames, AreItems, ArePackets}
use Rattle.xsk_model.specs.declared.call.Ring.TheVariants.{Fill, Comp, Tx}
use Rattle.xsk_model.specs.declared.call.Mark.{Mark}
use Rattle.xsk_model.specs.declared.call.Mark.TheVariants.{NeedFill, NeedTx, Kick, RxDone, Gone, TxDone, Cell, Closing, Acked, Bounced}
use Rattle.xsk_model.specs.declared.call.Call.{Call}
use Rattle.xsk_model.specs.declared.call.Call.TheVariants.{Reserve, Submit, Peek, Release, Swap, Look}
use Rattle.xsk_model.specs.declared.call.Reply.{Reply}
use Rattle.xsk_model.specs.declared.call.Reply.TheVariants.{Granted, Full, Submitted, Items, Empty, Released, Old}

-- Whether a call with its reply changes the state: a Reserve that found too few places free and a Peek that found nothing
-- don't, nor does a Look, nor a Swap that sets the number that was there.
abbrev pub changes : Call → Reply → Bool
changes (Look m) reply = false
changes (Swap m value) (Old old) = not (old == value)
changes call (Full places) = false
changes call Empty = false
changes call reply = true

-- 1 to 32 at once
abbrev pub IsFew : ℕ → Type 0
IsFew n = (1 ≤ n) × (n ≤ most_items)

-- a caller's last call that took the frame was a Peek on FILL
pub record WasLastOnFill (n : ℕ) (mine : List Told) : Type 0 where
  pub before : List Told
  pub t : Told
  pub later : List Told
  pub split : mine ≡ before ++ t ∷ later
  pub peek : (pair : ℕ) × (most : ℕ) × (t.call ≡ Peek (Fill pair) most)
  pub took : 1 ≤ times n (numbers (taken t.reply))
  pub last : All (λ (u : Told). times n (numbers (taken u.reply)) ≡ 0) later

-- the items give back the frames of the packet that follows those sent before of all the Whole packets that the driver
-- peeked on one TX ring of its queue, in order and with their addresses
pub record IsNextToSend (c : Config) (past : List Entry) (d : ℕ) (items : List Item) : Type 0 where
  pub socket : ℕ
  pub tx : HasRing c (Tx socket)
  pub port : port_of c (Tx socket) ≡ port_of c (Comp d)
  pub queue : queue_of c (Tx socket) ≡ queue_of c (Comp d)
  pub front : List (List Item)
  pub packet : List Item
  pub rest : List (List Item)
  pub packets : whole_packets (packets c.geometry c.sg (peeked_of (Tx socket) (own d past))) ≡ front ++ packet ∷ rest
  pub sent : length front ≡ length (sent_by c past d socket)
  pub frames : numbers items ≡ numbers packet
  pub addresses : map (λ (i : Item). i.desc.addr) items ≡ map (λ (i : Item). i.desc.addr) packet

-- ---- flags, and legality with no socket to close

-- the marks that their owners may set to 0 and 1 at any time
abbrev pub is_flag : Mark → Bool
is_flag (NeedFill d) = true
is_flag (NeedTx s) = true
is_flag (Kick d) = true
is_flag (RxDone d) = true
is_flag (Gone d) = true
is_flag (TxDone a) = true
is_flag (Cell port index) = false
is_flag (Closing s) = false
is_flag (Acked s) = false
is_flag (Bounced d) = false

-- a call but a Swap by the caller whose it is; a flag is set to 0 or 1 by its owner, and a count of bounced packets to one
-- more by its driver
abbrev pub HasOpenRole : Config → List Told → ℕ → Call → Type 0
HasOpenRole c mine who (Reserve r n) = who ≡ producer c r
HasOpenRole c mine who (Submit r items) = who ≡ producer c r
HasOpenRole c mine who (Peek r n) = who ≡ consumer c r
HasOpenRole c mine who (Release r n) = who ≡ consumer c r
HasOpenRole c mine who (Swap (Bounced d) value) = (who ≡ d) × (value ≡ suc (unwrap_or (last_set (Bounced d) mine) 0))
HasOpenRole c mine who (Swap m value) = (is_flag m ≡ true) × IsMarkOwner c who m
HasOpenRole c mine who (Look m) = Unit {0}

-- a legal call where nothing is closed: no cell is set, nothing is closed or acknowledged, and no ring is ended
pub record IsLegalOpen (c : Config) (mine : List Told) (who : ℕ) (call : Call) : Type 0 where
  pub caller : who < callers_of c
  pub known : IsKnown c call
  pub role : HasOpenRole c mine who call
  pub counted : IsCounted c mine call
  pub frames : HasFrames mine call
  pub items : AreItems c.geometry call
  pub packets : ArePackets c mine call

-- ---- without bytes

abbrev pub bare_frame : Frame → Frame
bare_frame frame = record { number = frame.number; bytes = [] }

abbrev pub bare_item : Item → Item
bare_item item = record { frame = option_map bare_frame item.frame; desc = item.desc }

abbrev pub bare_call : Call → Call
bare_call (Reserve r n) = Reserve r n
bare_call (Submit r items) = Submit r (map bare_item items)
bare_call (Peek r n) = Peek r n
bare_call (Release r n) = Release r n
bare_call (Swap m value) = Swap m value
bare_call (Look m) = Look m

abbrev pub bare_reply : Reply → Reply
bare_reply Granted = Granted
bare_reply (Full places) = Full places
bare_reply Submitted = Submitted
bare_reply (Items items) = Items (map bare_item items)
bare_reply Empty = Empty
bare_reply Released = Released
bare_reply (Old number) = Old number

-- a call and its reply, with all frames' bytes left out
abbrev pub bare : Told → Told
bare t = record { call = bare_call t.call; reply = bare_reply t.reply }

-- ---- shapes

-- the item has a frame of the UMEM and names the data of that frame
abbrev pub NamesItsData : Geometry → Item → Type 0
NamesItsData g item = (frame : Frame) × (item.frame ≡ Some frame) × (frame.number < g.frames) × (item.desc.addr ≡ data_of g frame.number)

-- each item but the last names as many bytes as a frame holds and has the continuation bit, and the last names 1 to as
-- many and hasn't
abbrev pub HaveLayoutLengths : Geometry → List Item → Type 0
HaveLayoutLengths g [] = ⊥
HaveLayoutLengths g (last ∷ []) = (1 ≤ last.desc.len) × (last.desc.len ≤ payload_of g) × (last.desc.options ≡ 0)
HaveLayoutLengths g (item ∷ next ∷ items) = (item.desc.len ≡ payload_of g) × (item.desc.options ≡ 1) × HaveLayoutLengths g (next ∷ items)

-- the shape of a layout of some packet
pub record IsShaped (g : Geometry) (sg : Bool) (items : List Item) : Type 0 where
  pub named : All (NamesItsData g) items
  pub lengths : HaveLayoutLengths g items
  pub single : IsTrue sg ⊎ (length items ≡ 1)
