-- The laws of histories from any start. Those of `Laws.antt` that say the same of histories from the opening have the same
-- names, without the last word.
use Rattle.std.specs.Prelude.{◌≡◌, ◌≢◌, ℕ, ◌+◌, ◌<◌, ◌≤◌, true, false, List, [], ◌∷◌, ◌++◌, length, flat_map, All}
use Rattle.xsk_umem.specs.Frame.{Frame}
use Rattle.xsk_model.specs.Config.{Config, HasRing, size_of, callers_of}
use Rattle.xsk_model.specs.Numbers.{times}
use Rattle.xsk_model.specs.Rings.{is_ring, port_of, app_of, producer, consumer}
use Rattle.xsk_model.specs.Marks.{HasMark, HoldsClosing, IsMarkNumber}
use Rattle.xsk_model.specs.Object.{State, ring_at, mark_at, had_by, reply_at, IsWithinRing}
use Rattle.xsk_model.specs.Entry.{Entry, own, all_told}
use Rattle.xsk_model.specs.Own.{had_of, is_on, room_of, held_of, peeked_of, submitted_of}
use Rattle.xsk_model.specs.Legal.{IsItemOn, IsLegal}
use Rattle.xsk_model.specs.Opening.{IsOpened, opening, IsReturnable, returned}
use Rattle.xsk_model.specs.History.{after_all, IsHistory, IsHistoryFrom, Fits, OwnGoesOn}
use Rattle.xsk_model.specs.Holders.{HasOneHolder, out_numbers}
use Rattle.xsk_model.specs.Homes.{home_app, serves, AreApart}
use Rattle.xsk_model.specs.OtherWords.{changes}
use Rattle.xsk_model.specs.Starts.{IsStart, returned_ring}
use Rattle.xsk_model.specs.declared.call.Ring.{Ring}
use Rattle.xsk_model.specs.declared.call.Ring.TheVariants.{Rx}
use Rattle.xsk_model.specs.declared.call.Mark.{Mark}
use Rattle.xsk_model.specs.declared.call.Mark.TheVariants.{Cell, Closing}
use Rattle.xsk_model.specs.declared.call.Call.{Call}

-- ---- two starts

-- the opening is a start, and a history is one from there
abbrev pub OpeningStarts : Type 0
OpeningStarts = (c : Config) (frames : List Frame)
    → (IsOpened c frames → IsStart c (opening c frames))
    × ((h : List Entry) → IsHistory c frames h → IsHistoryFrom c (opening c frames) h)

-- so is the state in which COMPLETION has the frames; there the COMPLETION ring of each pair has the frames of its pool, in
-- order, and every other ring is empty
abbrev pub ReturnedStarts : Type 0
ReturnedStarts = (c : Config) (frames : List Frame) → IsReturnable c frames
    → IsStart c (returned c frames) × ((r : Ring) → HasRing c r → ring_at c (returned c frames) r ≡ returned_ring c frames r)

-- ---- frames

abbrev pub OneHolderFrom : Type 0
OneHolderFrom = (c : Config) (start : State) (h : List Entry) → IsHistoryFrom c start h → HasOneHolder c.geometry.frames (after_all c start h)

abbrev pub FramesByOwnFrom : Type 0
FramesByOwnFrom = (c : Config) (start : State) (h : List Entry) (who : ℕ) → IsHistoryFrom c start h → had_by (after_all c start h) who ≡ had_of (own who h)

abbrev pub FewInRingsFrom : Type 0
FewInRingsFrom = (c : Config) (start : State) (h : List Entry) → IsHistoryFrom c start h
    → length (flat_map out_numbers (after_all c start h).rings) ≤ c.geometry.frames

abbrev pub FramesStayFrom : Type 0
FramesStayFrom = (c : Config) (start : State) (h : List Entry) (n : ℕ) → IsHistoryFrom c start h
    → ((who : ℕ) → 1 ≤ times n (had_of (own who h)) → serves c who ≡ home_app c n)
    × ((r : Ring) → HasRing c r → 1 ≤ times n (out_numbers (ring_at c (after_all c start h) r)) → app_of c r ≡ home_app c n)

abbrev pub FramesApartFrom : Type 0
FramesApartFrom = (c : Config) (start : State) (h : List Entry) → IsHistoryFrom c start h
    → ((who other : ℕ) → who ≢ other → AreApart (had_of (own who h)) (had_of (own other h)))
    × ((who : ℕ) (r : Ring) → AreApart (had_of (own who h)) (out_numbers (ring_at c (after_all c start h) r)))
    × ((r q : Ring) → HasRing c r → HasRing c q → is_ring r q ≡ false
    → AreApart (out_numbers (ring_at c (after_all c start h) r)) (out_numbers (ring_at c (after_all c start h) q)))

-- ---- rings

abbrev pub InOrderFrom : Type 0
InOrderFrom = (c : Config) (start : State) (h : List Entry) (r : Ring) → IsHistoryFrom c start h → HasRing c r
    → peeked_of r (all_told h) ++ (ring_at c (after_all c start h) r).out ≡ (ring_at c start r).out ++ submitted_of r (all_told h)

abbrev pub PartsByOwnFrom : Type 0
PartsByOwnFrom = (c : Config) (start : State) (h : List Entry) (r : Ring) → IsHistoryFrom c start h → HasRing c r
    → ((ring_at c (after_all c start h) r).room ≡ room_of r (own (producer c r) h))
    × (length (ring_at c (after_all c start h) r).held ≡ held_of r (own (consumer c r) h))

abbrev pub ItemsByOwnFrom : Type 0
ItemsByOwnFrom = (c : Config) (start : State) (h : List Entry) (r : Ring) → IsHistoryFrom c start h → HasRing c r
    → (peeked_of r (all_told h) ≡ peeked_of r (own (consumer c r) h)) × (submitted_of r (all_told h) ≡ submitted_of r (own (producer c r) h))

abbrev pub WithinSizeFrom : Type 0
WithinSizeFrom = (c : Config) (start : State) (h : List Entry) (r : Ring) → IsHistoryFrom c start h → HasRing c r
    → length (ring_at c (after_all c start h) r).out + length (ring_at c (after_all c start h) r).held + (ring_at c (after_all c start h) r).room ≤ size_of c r

abbrev pub WithinRingFrom : Type 0
WithinRingFrom = (c : Config) (start : State) (h : List Entry) (who : ℕ) (call : Call) (r : Ring) → IsHistoryFrom c start h → IsLegal c (own who h) who call
    → is_on r call ≡ true → IsWithinRing (ring_at c (after_all c start h) r) call

abbrev pub LawfulItemsFrom : Type 0
LawfulItemsFrom = (c : Config) (start : State) (h : List Entry) (r : Ring) → IsHistoryFrom c start h → HasRing c r
    → All (IsItemOn c.geometry r) (ring_at c (after_all c start h) r).out

-- ---- replies

abbrev pub FittingRepliesFrom : Type 0
FittingRepliesFrom = (c : Config) (start : State) (past later : List Entry) (e : Entry) → IsHistoryFrom c start (past ++ e ∷ later)
    → Fits c (own e.who past) e.call e.reply

abbrev pub OwnEntriesFrom : Type 0
OwnEntriesFrom = (c : Config) (start : State) (h : List Entry) (who : ℕ) → IsHistoryFrom c start h → OwnGoesOn c who [] (own who h)

abbrev pub OneMoreFrom : Type 0
OneMoreFrom = (c : Config) (start : State) (h : List Entry) (e : Entry) → IsHistoryFrom c start h → IsLegal c (own e.who h) e.who e.call
    → e.reply ≡ reply_at c (after_all c start h) e.call → IsHistoryFrom c start (h ++ e ∷ [])

abbrev pub CallersExistFrom : Type 0
CallersExistFrom = (c : Config) (start : State) (h : List Entry) → IsHistoryFrom c start h → All (λ (e : Entry). e.who < callers_of c) h

-- ---- marks, and what a call leaves

abbrev pub MarkNumbersFrom : Type 0
MarkNumbersFrom = (c : Config) (start : State) (h : List Entry) (m : Mark) → IsHistoryFrom c start h → HasMark c m
    → IsMarkNumber c m (mark_at c (after_all c start h) m)

abbrev pub ClosedCellsFrom : Type 0
ClosedCellsFrom = (c : Config) (start : State) (h : List Entry) (s index : ℕ) → IsHistoryFrom c start h → HasMark c (Closing s)
    → mark_at c (after_all c start h) (Closing s) ≡ 1 → HasMark c (Cell (port_of c (Rx s)) index) → HoldsClosing c (port_of c (Rx s)) index s
    → mark_at c (after_all c start h) (Cell (port_of c (Rx s)) index) ≡ 0

abbrev pub LeavesStateFrom : Type 0
LeavesStateFrom = (c : Config) (start : State) (h : List Entry) (e : Entry) → IsHistoryFrom c start (h ++ e ∷ []) → changes e.call e.reply ≡ false
    → after_all c start (h ++ e ∷ []) ≡ after_all c start h

abbrev pub ChangesStateFrom : Type 0
ChangesStateFrom = (c : Config) (start : State) (h : List Entry) (e : Entry) → IsHistoryFrom c start (h ++ e ∷ []) → changes e.call e.reply ≡ true
    → after_all c start (h ++ e ∷ []) ≢ after_all c start h
