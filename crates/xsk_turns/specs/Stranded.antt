-- The frames that a driver peeked on TX rings and hasn't submitted on COMPLETION, as a count over its own calls and replies, and
-- what it keeps of them: those of packets that aren't at their end, of whole packets that it has yet to complete, and of bad
-- packets, which it never completes (docs/KERNEL.md).
use Rattle.std.specs.Prelude.{◌≡◌, ℕ, ◌+◌, ◌-◌, ◌<◌, List, [], ◌∷◌, length}
use Rattle.xsk_umem.specs.declared.batch.Item.{Item}
use Rattle.xsk_model.specs.Config.{Config, classes_of}
use Rattle.xsk_model.specs.Packets.{packets, rest, bad_items}
use Rattle.xsk_model.specs.Object.{taken}
use Rattle.xsk_model.specs.History.{OwnGoesOn}
use Rattle.xsk_model.specs.Entry.{Told}
use Rattle.xsk_model.specs.Own.{peeked_of}
use Rattle.xsk_model.specs.declared.call.Ring.TheVariants.{Comp, Tx}
use Rattle.xsk_model.specs.declared.call.Call.{Call}
use Rattle.xsk_model.specs.declared.call.Call.TheVariants.{Submit, Peek}
use Rattle.xsk_model.specs.declared.call.Reply.{Reply}
use Rattle.xsk_turns.specs.Script.{Script, Asks, Ends}
use Rattle.xsk_turns.specs.Turns.{Judged, Kept, seat_of, start, turn, frames_in}
use Rattle.xsk_turns.specs.Owned.{IsSeat, socket_at_class}
use Rattle.xsk_turns.specs.declared.wire.Wire.{Wire}

-- the frames that came by a call on a TX ring, and those that a call gives to COMPLETION
abbrev pub frames_sent : Call → List Item → ℕ
frames_sent (Peek (Tx s) n) items = length (frames_in items)
frames_sent call items = 0

abbrev pub frames_completed : Call → ℕ
frames_completed (Submit (Comp d) items) = length (frames_in items)
frames_completed call = 0

abbrev pub sent_count : List Told → ℕ
sent_count [] = 0
sent_count (t ∷ l) = frames_sent t.call (taken t.reply) + sent_count l

abbrev pub completed_count : List Told → ℕ
completed_count [] = 0
completed_count (t ∷ l) = frames_completed t.call + completed_count l

abbrev pub stranded_of : List Told → ℕ
stranded_of l = sent_count l - completed_count l

-- what is kept of them, where each item of a packet that isn't bad has a frame
abbrev pub items_in : List (List Item) → ℕ
items_in [] = 0
items_in (items ∷ lists) = length items + items_in lists

abbrev pub stranded_in : Kept → ℕ
stranded_in kept = items_in kept.groups + items_in kept.finished + length kept.lost

-- so it is at each call that a driver makes, the call counted as made, and at its end
abbrev pub KeepsStranded : Type 0
KeepsStranded = (wire : Wire) (c : Config) (pair : ℕ) (input : List Judged) (l : List Told) (kept : Kept) (call : Call) (rest : Reply → Script Kept) → IsSeat c pair → OwnGoesOn c pair [] l
    → Asks (turn (seat_of wire c pair)) (start (classes_of c) input) l kept call rest → sent_count l ≡ stranded_in kept + frames_completed call + completed_count l

abbrev pub KeepsStrandedAtEnd : Type 0
KeepsStrandedAtEnd = (wire : Wire) (c : Config) (pair : ℕ) (input : List Judged) (l : List Told) (kept : Kept) → IsSeat c pair → OwnGoesOn c pair [] l
    → Ends (turn (seat_of wire c pair)) (start (classes_of c) input) l kept → sent_count l ≡ stranded_in kept + completed_count l

-- and at its end nothing is stranded where each item that it peeked on its TX rings stands in a whole packet
abbrev pub NoneStranded : Type 0
NoneStranded = (wire : Wire) (c : Config) (pair : ℕ) (input : List Judged) (l : List Told) (kept : Kept) → IsSeat c pair → OwnGoesOn c pair [] l
    → Ends (turn (seat_of wire c pair)) (start (classes_of c) input) l kept
    → ((class : ℕ) → class < classes_of c → (bad_items (packets c.geometry c.sg (peeked_of (Tx (socket_at_class c pair class)) l)) ≡ 0)
    × (rest c.geometry c.sg (peeked_of (Tx (socket_at_class c pair class)) l) ≡ []))
    → stranded_in kept ≡ 0
