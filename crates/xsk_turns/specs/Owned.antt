-- What a driver has: the frames that it keeps, with those of the call that it gave, are those that it peeked and didn't
-- submit, and what it keeps of them is what its own calls and replies leave. Then each call that it gives is legal.
use Rattle.std.specs.Prelude.{◌≡◌, ℕ, ◌+◌, ◌*◌, ◌<◌, ◌≤◌, ◌==◌, IsTrue, if◌then◌else◌, List, [], ◌∷◌, ◌++◌, length, map, flat_map, All, None, Some}
use Rattle.xsk_umem.specs.Frame.{Frame}
use Rattle.xsk_umem.specs.Geometry.{IsGeometry}
use Rattle.xsk_umem.specs.declared.batch.Item.{Item}
use Rattle.xsk_model.specs.Config.{Config, IsConfig, IsRegular, pair_at, classes_of, socket_at}
use Rattle.xsk_model.specs.Limits.{most_fragments}
use Rattle.xsk_model.specs.Packets.{rest}
use Rattle.xsk_model.specs.Numbers.{times, numbers}
use Rattle.xsk_model.specs.Object.{submitted}
use Rattle.xsk_model.specs.Entry.{Told}
use Rattle.xsk_model.specs.Own.{had_of, is_from_fill, peeked_of, waiting, tx_work_of}
use Rattle.xsk_model.specs.Legal.{IsLegal}
use Rattle.xsk_model.specs.History.{Fits, OwnGoesOn}
use Rattle.xsk_model.specs.Sent.{completed_in}
use Rattle.xsk_model.specs.Marks.{HoldsClosing}
use Rattle.xsk_model.specs.Rings.{port_of}
use Rattle.xsk_model.specs.Swaps.{last_seen}
use Rattle.xsk_model.specs.declared.call.Ring.TheVariants.{Rx, Tx}
use Rattle.xsk_model.specs.declared.call.Mark.TheVariants.{Cell, Closing}
use Rattle.xsk_model.specs.declared.call.Call.{Call}
use Rattle.xsk_model.specs.declared.call.Call.TheVariants.{Look}
use Rattle.xsk_model.specs.declared.call.Reply.{Reply}
use Rattle.xsk_model.specs.declared.call.Reply.TheVariants.{Items, Old}
use Rattle.xsk_turns.specs.Turns.{Judged, Kept, seat_of, start, turn, group_at, frames_in}
use Rattle.xsk_turns.specs.declared.wire.Wire.{Wire}
use Rattle.xsk_turns.specs.Script.{Script, Asks, Ends}

-- a regular configuration in which no socket is closed
pub record IsSteady (c : Config) : Type 0 where
  pub regular : IsRegular c
  pub closes : c.closing ≡ None

-- a pair of a regular configuration
pub record IsSeat (c : Config) (pair : ℕ) : Type 0 where
  pub config : IsConfig c
  pub regular : IsRegular c
  pub geometry : IsGeometry c.geometry
  pub known : pair < length c.pairs

-- the socket of a class: sockets are numbered pair by pair
abbrev pub socket_at_class : Config → ℕ → ℕ → ℕ
socket_at_class c pair class = pair * classes_of c + class

-- ---- frames

abbrev pub frame_numbers : List Frame → List ℕ
frame_numbers frames = map (λ (f : Frame). f.number) frames

-- the numbers of all frames that are kept
abbrev pub numbers_kept : Kept → List ℕ
numbers_kept kept = frame_numbers kept.spare ++ flat_map numbers kept.groups ++ flat_map numbers kept.finished ++ frame_numbers kept.lost

-- a frame of the UMEM that came from FILL
pub record IsSpare (c : Config) (l : List Told) (frame : Frame) : Type 0 where
  pub number : frame.number < c.geometry.frames
  pub bytes : length frame.bytes ≡ c.geometry.chunk
  pub from_fill : IsTrue (is_from_fill frame.number l)

-- ---- packets

-- the packets of one class, where each packet has the class at its place
abbrev pub of_class : ℕ → List ℕ → List (List Item) → List (List Item)
of_class class [] packets = []
of_class class (k ∷ classes) [] = []
of_class class (k ∷ classes) (packet ∷ packets) = if k == class then packet ∷ of_class class classes packets else of_class class classes packets

-- Each finished packet is of a class. Those of a class are, in order, what waits on its TX ring, behind the packet that the
-- call completes.
pub record IsQueue (c : Config) (pair : ℕ) (finished : List (List Item)) (call : Call) (l : List Told) : Type 0 where
  pub origins : List ℕ
  pub each : length origins ≡ length finished
  pub known : All (λ (class : ℕ). class < classes_of c) origins
  pub waits : (class : ℕ) → class < classes_of c → completed_in c (socket_at_class c pair class ∷ []) l call ++ of_class class origins finished
      ≡ waiting c (tx_work_of c (socket_at_class c pair class) l)

-- a driver that keeps this, and gave the call after a list of its calls and replies
pub record Owned (c : Config) (pair : ℕ) (kept : Kept) (call : Call) (l : List Told) : Type 0 where
  pub own : OwnGoesOn c pair [] l
  pub frames : (n : ℕ) → times n (numbers_kept kept) + times n (numbers (submitted call)) ≡ times n (had_of l)
  pub spare : All (IsSpare c l) kept.spare
  pub few : length kept.spare ≤ most_fragments
  pub classes : length kept.groups ≡ classes_of c
  pub groups : (class : ℕ) → class < classes_of c → group_at kept class ≡ rest c.geometry c.sg (peeked_of (Tx (socket_at_class c pair class)) l)
  pub queue : IsQueue c pair kept.finished call l

-- a socket that is bound to the port and queue of a pair
pub record IsHere (c : Config) (pair socket : ℕ) : Type 0 where
  pub known : socket < length c.sockets
  pub port : (socket_at c.sockets socket).port ≡ (pair_at c.pairs pair).port
  pub queue : (socket_at c.sockets socket).queue ≡ (pair_at c.pairs pair).queue

-- ---- the room

-- there is room for the items of a Peek, and their frames are whole
abbrev pub IsWholeIn : Config → Frame → Type 0
IsWholeIn c frame = length frame.bytes ≡ c.geometry.chunk

pub record HasRoomFor (c : Config) (kept : Kept) (items : List Item) : Type 0 where
  pub spare : length kept.spare + length items ≤ 64
  pub whole : All (IsWholeIn c) (frames_in items)
  pub lost : (class : ℕ) → class < classes_of c → length kept.lost + length (frames_in (group_at kept class)) + length (frames_in items) ≤ c.geometry.frames

abbrev pub HasRoom : Config → Kept → Reply → Type 0
HasRoom c kept (Items items) = HasRoomFor c kept items
HasRoom c kept reply = Unit {0}

-- ---- the laws

-- who has seen that a socket is closed finds each cell lowered that held it: so the object replies, by its law ClosedCells
abbrev pub FindsLowered : Config → List Told → Call → Reply → Type 0
FindsLowered c past (Look (Cell port index)) (Old number) =
    (s : ℕ) → HoldsClosing c port index s → port ≡ port_of c (Rx s) → last_seen (Closing s) past ≡ Some 1 → number ≡ 0
FindsLowered c past call reply = Unit {0}

-- so each reply is one that the object may give
abbrev pub Suits : Config → List Told → Call → Reply → Type 0
Suits c past call reply = Fits c past call reply × FindsLowered c past call reply

-- the calls and replies of a caller, where each reply fits
abbrev pub AllFit : Config → List Told → List Told → Type 0
AllFit c past [] = Unit {0}
AllFit c past (t ∷ l) = Suits c past t.call t.reply × AllFit c (past ++ t ∷ []) l

-- At each call that a driver makes after legal ones whose replies fit, the frames that it keeps, with those of the call, are those that it peeked and didn't
-- submit; and the call is legal, where the replies also show cells as lowered and a list counts its packets in 32 bits.
abbrev pub KeepsFrames : Type 0
KeepsFrames = (wire : Wire) (c : Config) (pair : ℕ) (input : List Judged) (l : List Told) (kept : Kept) (call : Call) (rest : Reply → Script Kept) → IsSeat c pair → OwnGoesOn c pair [] l
    → Asks (turn (seat_of wire c pair)) (start (classes_of c) input) l kept call rest → Owned c pair kept call l × (AllFit c [] l → length input < 4294967296 → IsLegal c l pair call)

-- at its end they are those that it keeps
abbrev pub KeepsFramesAtEnd : Type 0
KeepsFramesAtEnd = (wire : Wire) (c : Config) (pair : ℕ) (input : List Judged) (l : List Told) (kept : Kept) → IsSeat c pair → OwnGoesOn c pair [] l
    → Ends (turn (seat_of wire c pair)) (start (classes_of c) input) l kept → OwnGoesOn c pair [] l × ((n : ℕ) → times n (numbers_kept kept) ≡ times n (had_of l))

-- so there is room for each reply that fits
abbrev pub LeavesRoom : Type 0
LeavesRoom = (c : Config) (pair : ℕ) (l : List Told) (kept : Kept) (call : Call) (reply : Reply) → IsSeat c pair → Owned c pair kept call l → IsLegal c l pair call → Fits c l call reply
    → HasRoom c kept reply

-- and it has no more finished packets than 128, four Peeks of 32 items each
abbrev pub FinishedFew : Type 0
FinishedFew = (wire : Wire) (c : Config) (pair : ℕ) (input : List Judged) (l : List Told) (kept : Kept) (call : Call) (rest : Reply → Script Kept) → IsSeat c pair → AllFit c [] l
    → Asks (turn (seat_of wire c pair)) (start (classes_of c) input) l kept call rest → length kept.finished ≤ 128
