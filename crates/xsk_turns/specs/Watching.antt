-- How a driver watches a ring whose need-wakeup flag it has set (af_xdp.rst, "XDP_USE_NEED_WAKEUP bind flag"), read off its
-- own calls and replies: from a look that found the ring empty while the flag was set, until the flag is swapped, the kick is
-- cleared, or items come. It watches its end so too, once it told that it has no further packet. A driver that is parked
-- watches each ring whose flag is set, so that nothing can come there between the flag and the look. The kick, the end and
-- the rules of watching are this project's own.
use Rattle.std.specs.Prelude.{◌≡◌, ◌≢◌, ◌↔◌, ℕ, ◌<◌, Bool, true, false, ◌&&◌, ◌==◌, not, is_some, None, Some, if◌then◌else◌, List}
use Rattle.std.specs.List.{fold}
use Rattle.xsk_model.specs.Config.{Config, pair_at, classes_of}
use Rattle.xsk_model.specs.Rings.{is_ring, application_on}
use Rattle.xsk_model.specs.Marks.{is_mark}
use Rattle.xsk_model.specs.Swaps.{last_set}
use Rattle.xsk_model.specs.Entry.{Told, with_told}
use Rattle.xsk_model.specs.declared.call.Ring.{Ring}
use Rattle.xsk_model.specs.declared.call.Ring.TheVariants.{Fill, Tx}
use Rattle.xsk_model.specs.declared.call.Mark.{Mark}
use Rattle.xsk_model.specs.declared.call.Mark.TheVariants.{NeedFill, NeedTx, Kick, RxDone, TxDone, Closing, Acked}
use Rattle.xsk_model.specs.declared.call.Call.{Call}
use Rattle.xsk_model.specs.declared.call.Call.TheVariants.{Peek, Swap, Look}
use Rattle.xsk_model.specs.declared.call.Reply.{Reply}
use Rattle.xsk_model.specs.declared.call.Reply.TheVariants.{Items, Empty, Old}
use Rattle.xsk_turns.specs.Script.{Script, Asks, Ends}
use Rattle.xsk_turns.specs.Turns.{Judged, Kept, seat_of, start, turn, closing_on, IsDriverRun}
use Rattle.xsk_turns.specs.Owned.{socket_at_class}
use Rattle.xsk_turns.specs.declared.wire.Wire.{Wire}

-- whether the flag is set, as its last swap left it, and whether what it stands for is watched
pub record Watching : Type 0 where
  pub set : Bool
  pub watched : Bool

-- a swap of the flag sets or clears it, and one of the kick ends the watch
abbrev pub swapped : Mark → Mark → Watching → Mark → ℕ → Watching
swapped flag kick s m value =
    if is_mark flag m then record { set = value == 1; watched = false }
    else if is_mark kick m then record s { watched = false }
    else s

-- ---- a ring

-- a Peek that found the ring empty while the flag is set begins the watch, and one that gave items ends it
abbrev pub peeked : Ring → Watching → Ring → Reply → Watching
peeked r s q (Items items) = if is_ring r q then record s { watched = false } else s
peeked r s q Empty = if is_ring r q then record s { watched = s.set } else s
peeked r s q reply = s

abbrev pub watching_after : Mark → Ring → Mark → Watching → Call → Reply → Watching
watching_after flag r kick s (Peek q n) reply = peeked r s q reply
watching_after flag r kick s (Swap m value) reply = swapped flag kick s m value
watching_after flag r kick s call reply = s

abbrev pub watching_step : Mark → Ring → Mark → Watching → Told → Watching
watching_step flag r kick s t = watching_after flag r kick s t.call t.reply

abbrev pub watching_of : Mark → Ring → Mark → List Told → Watching
watching_of flag r kick l = fold (watching_step flag r kick) (record { set = false; watched = false }) l

-- ---- the end

-- a look that found the application's mark other than 1, once the driver's own is set, begins the watch
abbrev pub looked : Mark → Watching → Mark → Reply → Watching
looked done s m (Old number) = if is_mark done m then record s { watched = s.set && not (number == 1) } else s
looked done s m reply = s

abbrev pub ending_after : Mark → Mark → Mark → Watching → Call → Reply → Watching
ending_after told done kick s (Swap m value) reply = swapped told kick s m value
ending_after told done kick s (Look m) reply = looked done s m reply
ending_after told done kick s call reply = s

abbrev pub ending_step : Mark → Mark → Mark → Watching → Told → Watching
ending_step told done kick s t = ending_after told done kick s t.call t.reply

abbrev pub ending_of : Mark → Mark → Mark → List Told → Watching
ending_of told done kick l = fold (ending_step told done kick) (record { set = false; watched = false }) l

-- ---- a socket that is closed

-- a look that found the mark of the closing other than 1 begins the watch, and a swap of the kick ends it
abbrev pub found_fed : Mark → Bool → Mark → Reply → Bool
found_fed closing watched m (Old number) = if is_mark closing m then not (number == 1) else watched
found_fed closing watched m reply = watched

abbrev pub closing_after : Mark → Mark → Bool → Call → Reply → Bool
closing_after closing kick watched (Swap m value) reply = if is_mark kick m then false else watched
closing_after closing kick watched (Look m) reply = found_fed closing watched m reply
closing_after closing kick watched call reply = watched

abbrev pub closing_step : Mark → Mark → Bool → Told → Bool
closing_step closing kick watched t = closing_after closing kick watched t.call t.reply

abbrev pub watches_closing : Mark → Mark → List Told → Bool
watches_closing closing kick l = fold (closing_step closing kick) false l

-- ---- a driver that is parked

-- where what was set is watched
abbrev pub IsWatched : Watching → Type 0
IsWatched s = s.set ≡ true → s.watched ≡ true

-- a driver watches FILL, the TX ring of each class, and its end, each where its flag is set, and a socket of its pair that is to be
-- closed, until it has acknowledged that
pub record WatchesAll (c : Config) (d : ℕ) (l : List Told) : Type 0 where
  pub fill : IsWatched (watching_of (NeedFill d) (Fill d) (Kick d) l)
  pub tx : (class : ℕ) → class < classes_of c → IsWatched (watching_of (NeedTx (socket_at_class c d class)) (Tx (socket_at_class c d class)) (Kick d) l)
  pub ends : IsWatched (ending_of (RxDone d) (TxDone (application_on c (pair_at c.pairs d).port (pair_at c.pairs d).queue)) (Kick d) l)
  pub closing : (s : ℕ) → closing_on d (classes_of c) c.closing ≡ Some s → last_set (Acked s) l ≢ Some 1 → watches_closing (Closing s) (Kick d) l ≡ true

-- so does a driver that is parked: its last call was a look at its kick, which was answered 0
abbrev pub ParkedWatches : Type 0
ParkedWatches = (wire : Wire) (c : Config) (d : ℕ) (input : List Judged) (l : List Told) → IsDriverRun wire c d input (with_told l (Look (Kick d)) (Old 0))
    → WatchesAll c d (with_told l (Look (Kick d)) (Old 0))

-- a driver keeps that it is parked exactly where the call that it makes next is the look at its kick
abbrev pub ParkedLooks : Type 0
ParkedLooks = (wire : Wire) (c : Config) (d : ℕ) (input : List Judged) (l : List Told) (kept : Kept) (call : Call) (rest : Reply → Script Kept)
    → Asks (turn (seat_of wire c d)) (start (classes_of c) input) l kept call rest → (is_some kept.parked ≡ true) ↔ (call ≡ Look (Kick d))

-- and it isn't once it has ended
abbrev pub EndsAwake : Type 0
EndsAwake = (wire : Wire) (c : Config) (d : ℕ) (input : List Judged) (l : List Told) (kept : Kept) → Ends (turn (seat_of wire c d)) (start (classes_of c) input) l kept → kept.parked ≡ None
