-- Frames on TX and no wake behind them (af_xdp.rst, "XDP_USE_NEED_WAKEUP bind flag"): such a kernel needn't send. Lists have the latest
-- look or wake first.
use Rattle.std.specs.Prelude.{◌≡◌, ℕ, ◌==◌, ◌<◌, ◌&&◌, ◌||◌, not, nat_lt, if◌then◌else◌, Bool, false, List, [], ◌∷◌, ◌++◌, length, flat_map, codes}
use Rattle.std.specs.List.{slice_index_or, slice_set, range_with_len}
use Rattle.xsk_model.specs.Rings.{is_ring}
use Rattle.xsk_model.specs.declared.call.Ring.{Ring}
use Rattle.xsk_model.specs.declared.call.Ring.TheVariants.{Fill, Comp, Rx, Tx}
use Rattle.xsk_log.specs.Line.{ring_text}
use Rattle.xsk_side.specs.Setting.{Setting}
use Rattle.xsk_judge.specs.declared.known.Known.{Known}
use Rattle.xsk_judge.specs.declared.known.Spot.{Spot}
use Rattle.xsk_judge.specs.declared.known.Spot.TheVariants.{On}
use Rattle.xsk_judge.specs.Kept.{spot_by, is_spot}
use Rattle.xsk_judge.specs.Stands.{Line}
use Rattle.xsk_recording.specs.Text.{Beside}
use Rattle.xsk_recording.specs.declared.wakeup.Wakeup.{Wakeup}
use Rattle.xsk_recording.specs.declared.wakeup.Wakeup.TheVariants.{Look, Kick}
use Rattle.xsk_hints.specs.declared.tally.Tally.{Tally}
use Rattle.xsk_hints.specs.declared.wakes.Wake.{Wake}
use Rattle.xsk_hints.specs.Facts.{since_at}
use Rattle.xsk_hints.specs.Tallies.{tally_of, with_line}
use Rattle.xsk_hints.specs.Told.{numbered, lines_part}

-- ---- the last wake of a ring, and the last look at its flag; a line 0 says that there is none

abbrev pub no_wake : Wake
no_wake = record { kicked = 0; looked = 0; needed = false }

abbrev pub ring_of : Wakeup → Ring
ring_of (Look r needed) = r
ring_of (Kick r) = r

abbrev pub wake_with : ℕ → Wakeup → Wake → Wake
wake_with line (Look r needed) w = record w { looked = line; needed = needed }
wake_with line (Kick r) w = record w { kicked = line }

abbrev pub wake_of : Ring → List Beside → Wake
wake_of r [] = no_wake
wake_of r (a ∷ asides) = if is_ring r (ring_of a.wakeup) then wake_with a.line a.wakeup (wake_of r asides) else wake_of r asides

-- ---- the frames behind it

abbrev pub behind : ℕ → List ℕ → List ℕ
behind line [] = []
behind line (since ∷ lines) = if nat_lt line since then since ∷ behind line lines else behind line lines

-- of the frames on a ring, those that came there behind a line
abbrev pub tally_behind : Setting → List Line → Ring → ℕ → Tally
tally_behind s lines r line = tally_of (behind line (since_at s lines (On r) s.geometry.frames))

-- ---- what is kept of TX by socket

abbrev pub wake_in : List Wake → ℕ → Wake
wake_in wakes k = slice_index_or wakes k no_wake

-- it is what these looks and wakes leave
abbrev pub Wakens : List Wake → List Beside → Type 0
Wakens wakes asides = (k : ℕ) → k < length wakes → wake_in wakes k ≡ wake_of (Tx k) asides

abbrev pub woken : Ring → ℕ → Wakeup → List Wake → List Wake
woken (Fill d) line wakeup wakes = wakes
woken (Comp d) line wakeup wakes = wakes
woken (Rx k) line wakeup wakes = wakes
woken (Tx k) line wakeup wakes = slice_set wakes k (wake_with line wakeup (wake_in wakes k))

-- the line of a frame more, where it is in a place since a line behind that one
abbrev pub with_behind : Spot → ℕ → Known → Tally → Tally
with_behind spot line known t = if is_spot (spot_by known.place) spot && nat_lt line known.since then with_line known.since t else t

-- ---- the text

abbrev pub look_part : ℕ → Wake → List ℕ
look_part last w =
    if nat_lt last w.looked then numbered (codes ", and the look of line ") w.looked ++ codes " says that one is needed\n"
    else codes ", and no look behind the last\n"

-- there are no frames behind the last wake, or the last look behind them says that none is needed
abbrev pub is_served : Wake → Tally → Bool
is_served w t = t.count == 0 || (nat_lt t.last w.looked && not w.needed)

abbrev pub unwoken : ℕ → Wake → Tally → List ℕ
unwoken k w t =
    if is_served w t then []
    else ring_text (Tx k) ++ numbered (codes ": frames with no wake behind them: ") t.count ++ lines_part t ++ look_part t.last w

abbrev pub wake_line : Setting → List Line → ℕ → Wake → List ℕ
wake_line s lines k w = unwoken k w (tally_behind s lines (Tx k) w.kicked)

abbrev pub wake_lines : Setting → List Line → List Beside → ℕ → List ℕ
wake_lines s lines asides k = wake_line s lines k (wake_of (Tx k) asides)

abbrev pub wakes_text : Setting → List Line → List Beside → List ℕ
wakes_text s lines asides = flat_map (wake_lines s lines asides) (range_with_len 0 (length s.sockets))
