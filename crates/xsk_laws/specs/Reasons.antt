-- Why a wire that drops loses a packet (af_xdp.rst, "XDP_STATISTICS": rx_dropped, rx_ring_full). For want of frames: FILL gave fewer than
-- the packet lacked. For want of room: its RX ring had fewer free places than the packet needs frames.
use Rattle.std.specs.Prelude.{◌≡◌, ℕ, ◌+◌, ◌-◌, ◌<◌, true, All, Some, List, [], ◌∷◌, ◌++◌, length, slice_get}
use Rattle.std.specs.List.{fold}
use Rattle.xsk_umem.specs.Frame.{Frame}
use Rattle.xsk_umem.specs.PacketList.{PacketList}
use Rattle.xsk_model.specs.Config.{Config, classes_of}
use Rattle.xsk_model.specs.Entry.{Told, Entry, own}
use Rattle.xsk_model.specs.History.{IsHistory}
use Rattle.xsk_model.specs.Steering.{driver_on}
use Rattle.xsk_model.specs.declared.call.Ring.TheVariants.{Fill, Rx}
use Rattle.xsk_model.specs.declared.call.Mark.TheVariants.{Cell}
use Rattle.xsk_model.specs.declared.call.Call.{Call}
use Rattle.xsk_model.specs.declared.call.Call.TheVariants.{Reserve, Submit, Peek, Look}
use Rattle.xsk_model.specs.declared.call.Reply.{Reply}
use Rattle.xsk_model.specs.declared.call.Reply.TheVariants.{Full, Items, Old}
use Rattle.xsk_prog.specs.declared.rule.Verdict.{Verdict}
use Rattle.xsk_turns.specs.Disposals.{attempts_of, disposals_of, goes_on}
use Rattle.xsk_turns.specs.KeptDisposals.{finished_with}
use Rattle.xsk_turns.specs.Owned.{AllFit}
use Rattle.xsk_turns.specs.Script.{Script, Asks, Ends}
use Rattle.xsk_turns.specs.Turns.{Seat, Judged, Kept, seat_of, start, turn, cell_of, redirect_to, pieces_of, frames_in}
use Rattle.xsk_turns.specs.declared.disposal.Disposal.{Disposal}
use Rattle.xsk_turns.specs.declared.disposal.Disposal.TheVariants.{NoFrames, RxFull}
use Rattle.xsk_turns.specs.declared.manner.Manner.{Manner}
use Rattle.xsk_turns.specs.declared.wire.Wire.{Wire}
use Rattle.xsk_laws.specs.Expected.{received_judged}
use Rattle.xsk_laws.specs.Laws.{AreEndedRunsBy}
use Rattle.xsk_laws.specs.Lost.{is_lost, disposals_on}

-- how many frames a reply brings: Empty brings none, nor does an item whose address names no frame of the UMEM
abbrev pub frames_given : Reply → ℕ
frames_given (Items items) = length (frames_in items)
frames_given reply = 0

-- how many frames a driver has for receiving: those that it peeked on FILL and didn't submit on an RX ring
abbrev pub spare_after : ℕ → Call → Reply → ℕ
spare_after n (Peek (Fill d) asked) reply = n + frames_given reply
spare_after n (Submit (Rx s) items) reply = n - length items
spare_after n call reply = n

abbrev pub spare_of : List Told → ℕ
spare_of l = fold (λ (n : ℕ) (t : Told). spare_after n t.call t.reply) 0 l

-- directly behind the look it asked FILL for exactly the frames that the packet lacked, and with those that FILL gave it has too few
pub record FoundTooFew (seat : Seat) (packet : List ℕ) (before calls : List Told) : Type 0 where
  pub reply : Reply
  pub asked : calls ≡ (record { call = Peek (Fill seat.pair) (pieces_of seat packet - spare_of before); reply = reply }) ∷ []
  pub few : spare_of before + frames_given reply < pieces_of seat packet

-- it asked the RX ring of the socket to which it was redirected for exactly the places that the packet needs, and found fewer free
pub record FoundFull (seat : Seat) (packet : List ℕ) (number : ℕ) (calls : List Told) : Type 0 where
  pub socket : ℕ
  pub target : redirect_to seat.config seat.port seat.queue number ≡ Some socket
  pub earlier : List Told
  pub free : ℕ
  pub asked : calls ≡ earlier ++ (record { call = Reserve (Rx socket) (pieces_of seat packet); reply = Full free }) ∷ []
  pub few : free < pieces_of seat packet

abbrev pub IsReason : Seat → List ℕ → List Told → ℕ → List Told → Disposal → Type 0
IsReason seat packet before number calls NoFrames = FoundTooFew seat packet before calls
IsReason seat packet before number calls RxFull = FoundFull seat packet number calls
IsReason seat packet before number calls disposal = ⊥

-- the look at the cell of a packet's verdict, with the number that it told
abbrev pub look_at : Seat → Judged → ℕ → Told
look_at seat packet number = record { call = Look (Cell seat.port (cell_of packet.verdict)); reply = Old number }

-- The packet of this index was lost in the attempt at it, by the driver's own calls and replies: the attempts before it made the
-- disposals of the packets before this one; then comes the look at its cell; and the first of the calls on FILL and RX rings that directly
-- follow tell the reason.
pub record WasLost (seat : Seat) (input : List Judged) (l : List Told) (index : ℕ) (disposal : Disposal) : Type 0 where
  pub packet : Judged
  pub here : slice_get input index ≡ Some packet
  pub before : List Told
  pub number : ℕ
  pub calls : List Told
  pub later : List Told
  pub is : l ≡ before ++ (look_at seat packet number ∷ (calls ++ later))
  pub at : length (disposals_of seat input (attempts_of before)) ≡ index
  pub on : All (λ (t : Told). goes_on t.call ≡ true) calls
  pub reason : IsReason seat packet.bytes before number calls disposal

-- each packet that was lost was lost so
abbrev pub AreReasoned : Seat → List Judged → List Told → List Disposal → Type 0
AreReasoned seat input l disposals = (index : ℕ) (disposal : Disposal) → slice_get disposals index ≡ Some disposal → is_lost disposal ≡ true → WasLost seat input l index disposal

-- ---- the laws

-- so it is at each call that a driver makes, which then counts as made, where the replies fit
abbrev pub LosesForReason : Type 0
LosesForReason = (wire : Wire) (c : Config) (d : ℕ) (input : List Judged) (l : List Told) (kept : Kept) (call : Call) (rest : Reply → Script Kept)
    → AllFit c [] l → Asks (turn (seat_of wire c d)) (start (classes_of c) input) l kept call rest
    → AreReasoned (seat_of wire c d) input l (disposals_of (seat_of wire c d) input (finished_with l call))

-- so it is in every legal history, as far as the driver has come in it
abbrev pub LosesForReasonInHistories : Type 0
LosesForReasonInHistories = (wire : Wire) (c : Config) (d : ℕ) (input : List Judged) (frames : List Frame) (h : List Entry) (kept : Kept) (call : Call) (rest : Reply → Script Kept)
    → IsHistory c frames h → Asks (turn (seat_of wire c d)) (start (classes_of c) input) (own d h) kept call rest
    → AreReasoned (seat_of wire c d) input (own d h) (disposals_of (seat_of wire c d) input (finished_with (own d h) call))

-- and in a whole run
abbrev pub LostForReason : Type 0
LostForReason = (wire : Wire) (c : Config) (d : ℕ) (input : List Judged) (l : List Told) (kept : Kept)
    → AllFit c [] l → Ends (turn (seat_of wire c d)) (start (classes_of c) input) l kept
    → AreReasoned (seat_of wire c d) input l (disposals_of (seat_of wire c d) input (attempts_of l))

-- and of what a port lost on a queue in a history of whole runs of all workers, whether or not a socket is closed
abbrev pub LostForReasonInRuns : Type 0
LostForReasonInRuns = (hands : ℕ) (manner : Manner) (wire : Wire) (c : Config) (lists : List PacketList) (verdicts : List (List Verdict)) (frames : List Frame) (h : List Entry) (port queue : ℕ)
    → AreEndedRunsBy hands manner wire c lists verdicts frames h → port < c.ports → queue < c.queues
    → AreReasoned (seat_of wire c (driver_on c port queue)) (received_judged c lists verdicts port queue) (own (driver_on c port queue) h) (disposals_on wire c h lists verdicts port queue)
