-- The laws of the object, each over all histories.
use Rattle.std.specs.Prelude.{◌≡◌, ◌≢◌, ◌↔◌, ℕ, suc, ◌+◌, ◌^◌, ◌<◌, ◌≤◌, Bool, true, false, List, [], ◌∷◌, ◌++◌, length, take, drop, map, flat_map, All, AllPairs, Contains, IfSome, None, Some, unwrap_or, slice_index}
use Rattle.std.specs.List.{filter}
use Rattle.xsk_umem.specs.Frame.{Frame}
use Rattle.xsk_umem.specs.Geometry.{Geometry, IsGeometry}
use Rattle.xsk_umem.specs.declared.batch.Item.{Item}
use Rattle.xsk_model.specs.Config.{Config, IsConfig, IsRegular, HasRing, size_of, callers_of, classes_of, map_of, socket_at}
use Rattle.xsk_model.specs.Numbers.{times, numbers}
use Rattle.xsk_model.specs.Rings.{is_ring, place, places_of, port_of, queue_of, driver_of, application_on, caller_of, app_of, producer, consumer}
use Rattle.xsk_model.specs.Steering.{driver_on, socket_on}
use Rattle.xsk_model.specs.Marks.{HasMark, mark_place, mark_places_of, HoldsClosing, IsMarkNumber, IsMarkOwner}
use Rattle.xsk_model.specs.Object.{State, ring_at, mark_at, had_by, submitted, peek_reply, reply_at, after, IsWithinRing}
use Rattle.xsk_model.specs.Entry.{Told, Entry, own, all_told}
use Rattle.xsk_model.specs.Own.{had_of, part_of, is_on, room_of, held_of, given_of, released_of, peeked_of, submitted_of, tx_work_of}
use Rattle.xsk_model.specs.Swaps.{last_set, last_seen, HasCleared}
use Rattle.xsk_model.specs.Legal.{IsItemOn, IsKnown, IsLegal}
use Rattle.xsk_model.specs.Opening.{IsOpened, opening}
use Rattle.xsk_model.specs.History.{IsHistory, state_after, MayGive, Fits, OwnGoesOn}
use Rattle.xsk_model.specs.Ends.{telling_of}
use Rattle.xsk_model.specs.Holders.{HasOneHolder, out_numbers}
use Rattle.xsk_model.specs.Homes.{home_app, serves, AreApart, AreBelow, IsFirst}
use Rattle.xsk_model.specs.Packets.{packets, whole_packets, bytes_of, IsLayout}
use Rattle.xsk_model.specs.Sent.{sockets_of, completed_in, sent, sent_by, bounced_in, bounced_of, all_sent}
use Rattle.xsk_model.specs.OtherWords.{changes, IsFew, WasLastOnFill, IsNextToSend, bare, IsShaped, is_flag, IsLegalOpen}
use Rattle.xsk_model.specs.declared.call.Ring.{Ring}
use Rattle.xsk_model.specs.declared.call.Ring.TheVariants.{Comp, Rx, Tx}
use Rattle.xsk_model.specs.declared.call.Mark.{Mark}
use Rattle.xsk_model.specs.declared.call.Mark.TheVariants.{Cell, Closing, Acked, Bounced}
use Rattle.xsk_model.specs.declared.call.Call.{Call}
use Rattle.xsk_model.specs.declared.call.Call.TheVariants.{Reserve, Submit, Peek, Release, Swap}
use Rattle.xsk_model.specs.declared.call.Reply.{Reply}
use Rattle.xsk_model.specs.declared.call.Reply.TheVariants.{Granted, Items}

-- ---- frames

-- after each prefix of a history each frame has one holder
abbrev pub OneHolder : Type 0
OneHolder = (c : Config) (frames : List Frame) (past later : List Entry) → IsHistory c frames (past ++ later)
    → HasOneHolder c.geometry.frames (state_after c frames past)

-- the frames that a caller has are those that its own calls and replies leave
abbrev pub FramesByOwn : Type 0
FramesByOwn = (c : Config) (frames : List Frame) (h : List Entry) (who : ℕ) → IsHistory c frames h
    → had_by (state_after c frames h) who ≡ had_of (own who h)

-- that a caller has the frames of items, each as often as it stands there, says that it has them and that they are
-- distinct
abbrev pub HadAndDistinct : Type 0
HadAndDistinct = (c : Config) (frames : List Frame) (h : List Entry) (who : ℕ) (items : List Item) → IsHistory c frames h
    → ((n : ℕ) → times n (numbers items) ≤ times n (had_of (own who h)))
    ↔ (All (λ n. Contains (had_of (own who h)) n) (numbers items) × AllPairs (λ (m n : ℕ). m ≢ n) (numbers items))

-- no more frames are out in rings than there are
abbrev pub FewInRings : Type 0
FewInRings = (c : Config) (frames : List Frame) (h : List Entry) → IsHistory c frames h
    → length (flat_map out_numbers (state_after c frames h).rings) ≤ c.geometry.frames

-- frames stay with one application: those of a caller with the one that it serves, those out in a ring with the ring's
abbrev pub FramesStay : Type 0
FramesStay = (c : Config) (frames : List Frame) (h : List Entry) (n : ℕ) → IsHistory c frames h
    → ((who : ℕ) → 1 ≤ times n (had_of (own who h)) → serves c who ≡ home_app c n)
    × ((r : Ring) → HasRing c r → 1 ≤ times n (out_numbers (ring_at c (state_after c frames h) r)) → app_of c r ≡ home_app c n)

-- two callers' frames are apart, a caller's and those out in a ring, and those out in two rings
abbrev pub FramesApart : Type 0
FramesApart = (c : Config) (frames : List Frame) (h : List Entry) → IsHistory c frames h
    → ((who other : ℕ) → who ≢ other → AreApart (had_of (own who h)) (had_of (own other h)))
    × ((who : ℕ) (r : Ring) → AreApart (had_of (own who h)) (out_numbers (ring_at c (state_after c frames h) r)))
    × ((r q : Ring) → HasRing c r → HasRing c q → is_ring r q ≡ false
    → AreApart (out_numbers (ring_at c (state_after c frames h) r)) (out_numbers (ring_at c (state_after c frames h) q)))

-- the frames of callers and those out in rings are frames of the UMEM
abbrev pub FramesBelow : Type 0
FramesBelow = (c : Config) (frames : List Frame) (h : List Entry) → IsHistory c frames h
    → ((who : ℕ) → AreBelow c.geometry.frames (had_of (own who h)))
    × ((r : Ring) → AreBelow c.geometry.frames (out_numbers (ring_at c (state_after c frames h) r)))

-- what a call submits stands with no other caller and in no ring
abbrev pub SubmitsOwn : Type 0
SubmitsOwn = (c : Config) (frames : List Frame) (past later : List Entry) (e : Entry) → IsHistory c frames (past ++ e ∷ later)
    → ((other : ℕ) → other ≢ e.who → AreApart (numbers (submitted e.call)) (had_of (own other past)))
    × ((r : Ring) → AreApart (numbers (submitted e.call)) (out_numbers (ring_at c (state_after c frames past) r)))

-- ---- the opening

-- at the opening FILL of each pair has the frames of its pool, in order, every other ring is empty, a cell has its
-- configured number, every other mark is 0, and no caller has a frame
abbrev pub OpeningIs : Type 0
OpeningIs = (c : Config) (frames : List Frame) → IsOpened c frames → IsFirst c frames (opening c frames)

-- ---- rings

-- on each ring the items peeked and then those that are out are the opening's followed by those submitted
abbrev pub InOrder : Type 0
InOrder = (c : Config) (frames : List Frame) (h : List Entry) (r : Ring) → IsHistory c frames h → HasRing c r
    → peeked_of r (all_told h) ++ (ring_at c (state_after c frames h) r).out ≡ (ring_at c (opening c frames) r).out ++ submitted_of r (all_told h)

-- so a Peek takes the items that follow those peeked before
abbrev pub PeekInOrder : Type 0
PeekInOrder = (c : Config) (frames : List Frame) (past later : List Entry) (r : Ring) (n : ℕ) (e : Entry) → IsHistory c frames (past ++ e ∷ later)
    → e.call ≡ Peek r n
    → e.reply ≡ peek_reply n (drop (length (peeked_of r (all_told past))) ((ring_at c (opening c frames) r).out ++ submitted_of r (all_told past)))

-- a ring's room is what its producer's own calls and replies leave, and its held items are as many as its consumer's
-- leave
abbrev pub PartsByOwn : Type 0
PartsByOwn = (c : Config) (frames : List Frame) (h : List Entry) (r : Ring) → IsHistory c frames h → HasRing c r
    → ((ring_at c (state_after c frames h) r).room ≡ room_of r (own (producer c r) h))
    × (length (ring_at c (state_after c frames h) r).held ≡ held_of r (own (consumer c r) h))

-- all items peeked on a ring were peeked by its consumer, and all submitted were submitted by its producer
abbrev pub ItemsByOwn : Type 0
ItemsByOwn = (c : Config) (frames : List Frame) (h : List Entry) (r : Ring) → IsHistory c frames h → HasRing c r
    → (peeked_of r (all_told h) ≡ peeked_of r (own (consumer c r) h)) × (submitted_of r (all_told h) ≡ submitted_of r (own (producer c r) h))

-- the items and the reserved places of a ring fit its size
abbrev pub WithinSize : Type 0
WithinSize = (c : Config) (frames : List Frame) (h : List Entry) (r : Ring) → IsHistory c frames h → HasRing c r
    → length (ring_at c (state_after c frames h) r).out + length (ring_at c (state_after c frames h) r).held + (ring_at c (state_after c frames h) r).room ≤ size_of c r

-- so does what a legal call takes from its ring
abbrev pub WithinRing : Type 0
WithinRing = (c : Config) (frames : List Frame) (h : List Entry) (who : ℕ) (call : Call) (r : Ring) → IsHistory c frames h → IsLegal c (own who h) who call
    → is_on r call ≡ true → IsWithinRing (ring_at c (state_after c frames h) r) call

-- the opening's items and those submitted are as many as those released, those held and those out
abbrev pub CountsAgree : Type 0
CountsAgree = (c : Config) (frames : List Frame) (h : List Entry) (r : Ring) → IsHistory c frames h → HasRing c r
    → length (ring_at c (opening c frames) r).out + given_of r (own (producer c r) h)
    ≡ released_of r (own (consumer c r) h) + length (ring_at c (state_after c frames h) r).held + length (ring_at c (state_after c frames h) r).out

-- what a ring holds and then what is out are the opening's items followed by those submitted, without those released
abbrev pub HeldAndOut : Type 0
HeldAndOut = (c : Config) (frames : List Frame) (h : List Entry) (r : Ring) → IsHistory c frames h → HasRing c r
    → (ring_at c (state_after c frames h) r).held ++ (ring_at c (state_after c frames h) r).out
    ≡ drop (released_of r (own (consumer c r) h)) ((ring_at c (opening c frames) r).out ++ submitted_of r (own (producer c r) h))

-- what a caller gave, released, submitted and peeked grows by what its later entries add
abbrev pub CountsGrow : Type 0
CountsGrow = (past later : List Entry) (who : ℕ) (r : Ring)
    → (given_of r (own who (past ++ later)) ≡ given_of r (own who past) + given_of r (own who later))
    × (released_of r (own who (past ++ later)) ≡ released_of r (own who past) + released_of r (own who later))
    × (submitted_of r (own who (past ++ later)) ≡ submitted_of r (own who past) ++ submitted_of r (own who later))
    × (peeked_of r (own who (past ++ later)) ≡ peeked_of r (own who past) ++ peeked_of r (own who later))

-- A Peek finds items where more were given, as far as its consumer has seen, than it has peeked, whatever others did
-- since. What it finds are the items that follow those that it peeked.
abbrev pub PeekFinds : Type 0
PeekFinds = (c : Config) (frames : List Frame) (seen later : List Entry) (r : Ring) (n : ℕ) → IsHistory c frames (seen ++ later) → HasRing c r
    → length (peeked_of r (own (consumer c r) (seen ++ later))) < length (ring_at c (opening c frames) r).out + given_of r (own (producer c r) seen)
    → reply_at c (state_after c frames (seen ++ later)) (Peek r n)
    ≡ Items (take n (drop (length (peeked_of r (own (consumer c r) (seen ++ later)))) ((ring_at c (opening c frames) r).out ++ submitted_of r (own (producer c r) (seen ++ later)))))

-- a Reserve is granted where the places that its producer gave or has reserved, without those that it has seen released,
-- leave so many of the ring, whatever others did since
abbrev pub ReserveFinds : Type 0
ReserveFinds = (c : Config) (frames : List Frame) (seen later : List Entry) (r : Ring) (n : ℕ) → IsHistory c frames (seen ++ later) → HasRing c r
    → length (ring_at c (opening c frames) r).out + given_of r (own (producer c r) (seen ++ later)) + room_of r (own (producer c r) (seen ++ later)) + n
    ≤ size_of c r + released_of r (own (consumer c r) seen)
    → reply_at c (state_after c frames (seen ++ later)) (Reserve r n) ≡ Granted

-- what is out in a ring may stand there
abbrev pub LawfulItems : Type 0
LawfulItems = (c : Config) (frames : List Frame) (h : List Entry) (r : Ring) → IsHistory c frames h → HasRing c r
    → All (IsItemOn c.geometry r) (ring_at c (state_after c frames h) r).out

-- ---- replies

-- each reply of a history fits its call
abbrev pub FittingReplies : Type 0
FittingReplies = (c : Config) (frames : List Frame) (past later : List Entry) (e : Entry) → IsHistory c frames (past ++ e ∷ later)
    → Fits c (own e.who past) e.call e.reply

-- so does each reply that the object may give
abbrev pub FittingGifts : Type 0
FittingGifts = (c : Config) (mine : List Told) (who : ℕ) (call : Call) (reply : Reply) → MayGive c mine who call reply
    → Fits c mine call reply

-- so a caller's own entries in a history are legal calls with fitting replies
abbrev pub OwnEntries : Type 0
OwnEntries = (c : Config) (frames : List Frame) (h : List Entry) (who : ℕ) → IsHistory c frames h → OwnGoesOn c who [] (own who h)

-- the reply of a history's last call is one that the object may give to its caller
abbrev pub LastIsGift : Type 0
LastIsGift = (c : Config) (frames : List Frame) (h : List Entry) (e : Entry) → IsHistory c frames (h ++ e ∷ [])
    → MayGive c (own e.who h) e.who e.call e.reply

-- ---- one entry more

-- each legal call with the object's reply makes a history longer
abbrev pub OneMore : Type 0
OneMore = (c : Config) (frames : List Frame) (h : List Entry) (e : Entry) → IsHistory c frames h → IsLegal c (own e.who h) e.who e.call
    → e.reply ≡ reply_at c (state_after c frames h) e.call → IsHistory c frames (h ++ e ∷ [])

-- each caller of a history is one that the configuration has
abbrev pub CallersExist : Type 0
CallersExist = (c : Config) (frames : List Frame) (h : List Entry) → IsHistory c frames h → All (λ (e : Entry). e.who < callers_of c) h

-- ---- sent packets

-- each Submit on COMPLETION completes one packet of one TX ring
abbrev pub OneCompletion : Type 0
OneCompletion = (c : Config) (d : ℕ) (mine : List Told) (items : List Item) → OwnGoesOn c d [] mine → IsLegal c mine d (Submit (Comp d) items)
    → length (completed_in c (sockets_of c d) mine (Submit (Comp d) items)) ≡ 1

-- what a driver sent of a socket's packets are the first Whole packets of all that it peeked on the TX ring
abbrev pub SentInOrder : Type 0
SentInOrder = (c : Config) (frames : List Frame) (h : List Entry) (d socket : ℕ) → IsHistory c frames h
    → sent_by c h d socket ≡ map (bytes_of c.geometry c.sg) (take (tx_work_of c socket (own d h)).completed (whole_packets (packets c.geometry c.sg (peeked_of (Tx socket) (own d h)))))

-- the packets that a driver bounced are the first of those that it is to bounce, as many as it counted
abbrev pub BouncedInOrder : Type 0
BouncedInOrder = (c : Config) (frames : List Frame) (h : List Entry) (d : ℕ) (bounces : List (List ℕ)) → IsHistory c frames h → HasMark c (Bounced d)
    → (bounced_of bounces (own d h) ≡ take (mark_at c (state_after c frames h) (Bounced d)) bounces)

-- all that a driver sends stands in the history's order: an entry of its own puts what it completes or bounces behind all
-- that was sent before
abbrev pub SentGrows : Type 0
SentGrows = (c : Config) (bounces : List (List ℕ)) (h : List Entry) (e : Entry) (d : ℕ)
    → (e.who ≡ d → all_sent c bounces (h ++ e ∷ []) d ≡ all_sent c bounces h d
    ++ (map (bytes_of c.geometry c.sg) (completed_in c (sockets_of c d) (own d h) e.call) ++ bounced_in bounces e.call))
    × (e.who ≢ d → all_sent c bounces (h ++ e ∷ []) d ≡ all_sent c bounces h d)

-- with no packet to bounce, all that is sent was completed
abbrev pub AllCompleted : Type 0
AllCompleted = (c : Config) (h : List Entry) (d : ℕ) → all_sent c [] h d ≡ sent c h d

-- ---- marks

-- each mark has a number of its kind
abbrev pub MarkNumbers : Type 0
MarkNumbers = (c : Config) (frames : List Frame) (h : List Entry) (m : Mark) → IsHistory c frames h → HasMark c m
    → IsMarkNumber c m (mark_at c (state_after c frames h) m)

-- a Swap of a flag is legal exactly where its owner sets it to 0 or 1
abbrev pub LegalSwaps : Type 0
LegalSwaps = (c : Config) (mine : List Told) (who : ℕ) (m : Mark) (value : ℕ) → is_flag m ≡ true
    → IsLegal c mine who (Swap m value) ↔ ((who < callers_of c) × HasMark c m × IsMarkOwner c who m × (value ≤ 1))

-- a cell is lowered, to 0, by the application of its socket's queue, where it holds the socket to close
abbrev pub LegalCells : Type 0
LegalCells = (c : Config) (mine : List Told) (who port index value : ℕ)
    → IsLegal c mine who (Swap (Cell port index) value) ↔ ((who < callers_of c) × HasMark c (Cell port index) × (value ≡ 0)
    × (s : ℕ) × HoldsClosing c port index s × (who ≡ caller_of c (application_on c port (socket_at c.sockets s).queue)))

-- a socket is closed by its application, once the cells of its port that held it are lowered
abbrev pub LegalClosings : Type 0
LegalClosings = (c : Config) (mine : List Told) (who s value : ℕ)
    → IsLegal c mine who (Swap (Closing s) value) ↔ ((who < callers_of c) × HasMark c (Closing s) × (c.closing ≡ Some s) × (who ≡ app_of c (Rx s))
    × (value ≡ 1) × HasCleared c mine s)

-- that is acknowledged by the socket's driver, once it saw it and has no place of the RX ring reserved
abbrev pub LegalAcks : Type 0
LegalAcks = (c : Config) (mine : List Told) (who s value : ℕ)
    → IsLegal c mine who (Swap (Acked s) value) ↔ ((who < callers_of c) × HasMark c (Acked s) × (c.closing ≡ Some s) × (who ≡ driver_of c (Rx s))
    × (value ≡ 1) × (last_seen (Closing s) mine ≡ Some 1) × (room_of (Rx s) mine ≡ 0))

-- a bounced packet is counted by its driver, as one more than it counted before
abbrev pub LegalBounces : Type 0
LegalBounces = (c : Config) (mine : List Told) (who d value : ℕ)
    → IsLegal c mine who (Swap (Bounced d) value) ↔ ((who < callers_of c) × HasMark c (Bounced d) × (who ≡ d) × (value < 2 ^ 64)
    × (value ≡ suc (unwrap_or (last_set (Bounced d) mine) 0)))

-- cells only fall
abbrev pub CellsFall : Type 0
CellsFall = (c : Config) (frames : List Frame) (past later : List Entry) (port index : ℕ) → IsHistory c frames (past ++ later) → HasMark c (Cell port index)
    → mark_at c (state_after c frames (past ++ later)) (Cell port index) ≤ mark_at c (state_after c frames past) (Cell port index)

-- where Closing is 1, each cell of the socket's port that held the socket at the opening is 0
abbrev pub ClosedCells : Type 0
ClosedCells = (c : Config) (frames : List Frame) (h : List Entry) (s index : ℕ) → IsHistory c frames h → HasMark c (Closing s)
    → mark_at c (state_after c frames h) (Closing s) ≡ 1 → HasMark c (Cell (port_of c (Rx s)) index) → HoldsClosing c (port_of c (Rx s)) index s
    → mark_at c (state_after c frames h) (Cell (port_of c (Rx s)) index) ≡ 0

-- Acked is 1 only where Closing is, and so only where those cells are 0
abbrev pub AckedIsClosed : Type 0
AckedIsClosed = (c : Config) (frames : List Frame) (h : List Entry) (s : ℕ) → IsHistory c frames h → HasMark c (Acked s)
    → mark_at c (state_after c frames h) (Acked s) ≡ 1 → mark_at c (state_after c frames h) (Closing s) ≡ 1

-- nobody submits on RX after it was acknowledged, nor on TX after it was closed
abbrev pub EndedRings : Type 0
EndedRings = (c : Config) (frames : List Frame) (past later : List Entry) (e : Entry) (s value : ℕ) → IsHistory c frames (past ++ e ∷ later)
    → (e.call ≡ Swap (Acked s) value → submitted_of (Rx s) (all_told later) ≡ [])
    × (e.call ≡ Swap (Closing s) value → submitted_of (Tx s) (all_told later) ≡ [])

-- nor does anybody reserve there, and of an RX ring that was acknowledged no place stays reserved
abbrev pub NothingReserved : Type 0
NothingReserved = (c : Config) (frames : List Frame) (past later : List Entry) (e : Entry) (s value : ℕ) → IsHistory c frames (past ++ e ∷ later)
    → (e.call ≡ Swap (Acked s) value → All (λ (x : Entry). (n : ℕ) → x.call ≢ Reserve (Rx s) n) later)
    × (e.call ≡ Swap (Acked s) value → room_of (Rx s) (own (driver_of c (Rx s)) (past ++ e ∷ later)) ≡ 0)
    × (e.call ≡ Swap (Closing s) value → All (λ (x : Entry). (n : ℕ) → x.call ≢ Reserve (Tx s) n) later)

-- so by a caller's own calls and replies alone nothing is submitted late (`Ends.antt`)
abbrev pub NeverLate : Type 0
NeverLate = (c : Config) (who s : ℕ) (mine : List Told) → OwnGoesOn c who [] mine
    → ((telling_of (Acked s) (Rx s) mine).late ≡ false) × ((telling_of (Closing s) (Tx s) mine).late ≡ false)

-- with no socket to close, cells stay, nothing is closed or acknowledged, and no ring is ended: which calls are legal is as it
-- was without all this
abbrev pub NothingCloses : Type 0
NothingCloses = (c : Config) → c.closing ≡ None
    → ((mine : List Told) (who : ℕ) (call : Call) → IsLegal c mine who call ↔ IsLegalOpen c mine who call)
    × ((frames : List Frame) (h : List Entry) (port index : ℕ) → IsHistory c frames h → HasMark c (Cell port index)
    → mark_at c (state_after c frames h) (Cell port index) ≡ slice_index (map_of c port) index)

-- a mark is what a Swap of it sets, and what it was after all other calls
abbrev pub MarksAfter : Type 0
MarksAfter = (c : Config) (frames : List Frame) (h : List Entry) (e : Entry) (m : Mark) → IsHistory c frames (h ++ e ∷ []) → HasMark c m
    → ((value : ℕ) → e.call ≡ Swap m value → mark_at c (state_after c frames (h ++ e ∷ [])) m ≡ value)
    × (((value : ℕ) → e.call ≢ Swap m value) → mark_at c (state_after c frames (h ++ e ∷ [])) m ≡ mark_at c (state_after c frames h) m)

-- ---- places

-- each ring has a place of its own, below their number
abbrev pub OwnPlaces : Type 0
OwnPlaces = (c : Config) (r s : Ring) → HasRing c r → HasRing c s → (place c r < places_of c) × (place c r ≡ place c s → r ≡ s)

-- so has each mark
abbrev pub OwnMarkPlaces : Type 0
OwnMarkPlaces = (c : Config) (m n : Mark) → IsConfig c → HasMark c m → HasMark c n
    → (mark_place c m < mark_places_of c) × (mark_place c m ≡ mark_place c n → m ≡ n)

-- the driver, the sockets and the application of a port's queue in a regular configuration
pub record AreSeated (c : Config) (port queue class : ℕ) : Type 0 where
  pub rx : HasRing c (Rx (socket_on c port queue class))
  pub tx : HasRing c (Tx (socket_on c port queue class))
  pub on_port : port_of c (Rx (socket_on c port queue class)) ≡ port
  pub on_queue : queue_of c (Rx (socket_on c port queue class)) ≡ queue
  pub driver : driver_of c (Rx (socket_on c port queue class)) ≡ driver_on c port queue
  pub app : app_of c (Rx (socket_on c port queue class)) ≡ caller_of c (application_on c port queue)

abbrev pub RegularSeats : Type 0
RegularSeats = (c : Config) (port queue class : ℕ) → IsConfig c → IsRegular c → port < c.ports → queue < c.queues → class < classes_of c
    → AreSeated c port queue class

-- a ring's producer and its consumer are two callers
abbrev pub TwoOwners : Type 0
TwoOwners = (c : Config) (r : Ring) → IsConfig c → HasRing c r
    → (producer c r < callers_of c) × (consumer c r < callers_of c) × (producer c r ≢ consumer c r)

-- ---- what a call leaves alone

-- a call leaves each other ring and each other caller's frames as they were
abbrev pub LeavesOthers : Type 0
LeavesOthers = (c : Config) (s : State) (who other : ℕ) (call : Call) (r : Ring) → HasRing c r → IsKnown c call
    → (is_on r call ≡ false → ring_at c (after c s who call) r ≡ ring_at c s r) × (other ≢ who → had_by (after c s who call) other ≡ had_by s other)

-- a call whose reply says that it changes nothing leaves the state as it was
abbrev pub LeavesState : Type 0
LeavesState = (c : Config) (frames : List Frame) (h : List Entry) (e : Entry) → IsHistory c frames (h ++ e ∷ []) → changes e.call e.reply ≡ false
    → state_after c frames (h ++ e ∷ []) ≡ state_after c frames h

-- and each other call leaves another state
abbrev pub ChangesState : Type 0
ChangesState = (c : Config) (frames : List Frame) (h : List Entry) (e : Entry) → IsHistory c frames (h ++ e ∷ []) → changes e.call e.reply ≡ true
    → state_after c frames (h ++ e ∷ []) ≢ state_after c frames h

-- An entry on another ring leaves a caller's own entries on this one, and so what is folded over them, a number or a
-- list of items; an entry of another caller leaves all of a caller's own.
abbrev pub LeavesFolds : Type 0
LeavesFolds = (r : Ring) (who : ℕ) (past : List Entry) (e : Entry)
    → (is_on r e.call ≡ false → filter (λ (t : Told). is_on r t.call) (own who (past ++ e ∷ [])) ≡ filter (λ (t : Told). is_on r t.call) (own who past))
    × ((change : ℕ → Told → ℕ) (n : ℕ) → is_on r e.call ≡ false → part_of change r n (own who (past ++ e ∷ [])) ≡ part_of change r n (own who past))
    × ((change : List Item → Told → List Item) (items : List Item) → is_on r e.call ≡ false → part_of change r items (own who (past ++ e ∷ [])) ≡ part_of change r items (own who past))
    × (e.who ≢ who → own who (past ++ e ∷ []) ≡ own who past)

-- ---- legality in other words

-- a caller moves 1 to 32 at once, and gets 1 to 32 items
abbrev pub FewMoved : Type 0
FewMoved = (c : Config) (frames : List Frame) (past later : List Entry) (e : Entry) → IsHistory c frames (past ++ e ∷ later)
    → ((r : Ring) (n : ℕ) → e.call ≡ Reserve r n → IsFew n)
    × ((r : Ring) (items : List Item) → e.call ≡ Submit r items → IsFew (length items))
    × ((r : Ring) (n : ℕ) → e.call ≡ Peek r n → IsFew n)
    × ((r : Ring) (n : ℕ) → e.call ≡ Release r n → IsFew n)
    × ((items : List Item) → e.reply ≡ Items items → IsFew (length items))

-- each frame that is submitted on RX was last taken from FILL
abbrev pub FromFill : Type 0
FromFill = (c : Config) (frames : List Frame) (past later : List Entry) (e : Entry) (s : ℕ) (items : List Item) → IsHistory c frames (past ++ e ∷ later)
    → e.call ≡ Submit (Rx s) items → All (λ n. WasLastOnFill n (own e.who past)) (numbers items)

-- a Submit on COMPLETION gives back the packet that the driver is to send next on one of its TX rings
abbrev pub ExactCompletion : Type 0
ExactCompletion = (c : Config) (frames : List Frame) (past later : List Entry) (e : Entry) (d : ℕ) (items : List Item) → IsHistory c frames (past ++ e ∷ later)
    → e.call ≡ Submit (Comp d) items → (e.who ≡ d) × IsNextToSend c past d items

-- which call is legal doesn't hang on what the frames of earlier calls and replies hold
abbrev pub BodiesDontMatter : Type 0
BodiesDontMatter = (c : Config) (mine other : List Told) (who : ℕ) (call : Call) → map bare mine ≡ map bare other → IsLegal c mine who call → IsLegal c other who call

-- which items may be submitted as one packet on RX is said by their frames, addresses, lengths and options alone
abbrev pub ShapesDecide : Type 0
ShapesDecide = (g : Geometry) (sg : Bool) (items : List Item) → IsGeometry g → All (λ (i : Item). IfSome i.frame (λ (f : Frame). length f.bytes ≡ g.chunk)) items
    → ((packet : List ℕ) × IsLayout g sg packet items) ↔ IsShaped g sg items
