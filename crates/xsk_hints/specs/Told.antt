-- The text of the hints. The form of the lines is this project's own; a line 0 is the start.
use Rattle.std.specs.Prelude.{ℕ, ◌==◌, nat_lt, Bool, if◌then◌else◌, Option, Some, None, List, [], ◌++◌, length, flat_map, codes}
use Rattle.std.specs.List.{range_with_len}
use Rattle.std.specs.Fmt.{decimal}
use Rattle.xsk_model.specs.declared.call.Ring.{Ring}
use Rattle.xsk_model.specs.declared.call.Ring.TheVariants.{Fill, Comp, Rx, Tx}
use Rattle.xsk_log.specs.Line.{ring_text}
use Rattle.xsk_side.specs.Setting.{Setting, socket_at, pair_of}
use Rattle.xsk_side.specs.Own.{room_of, held_of}
use Rattle.xsk_judge.specs.declared.known.Spot.{Spot}
use Rattle.xsk_judge.specs.declared.known.Spot.TheVariants.{First, Shown, On, Back}
use Rattle.xsk_judge.specs.Stands.{Line, calls_of}
use Rattle.xsk_hints.specs.declared.oddity.Oddity.{Oddity}
use Rattle.xsk_hints.specs.declared.oddity.Oddity.TheVariants.{Outside, Within, Empty, Crossing, Options, Refused}
use Rattle.xsk_hints.specs.declared.tally.Tally.{Tally}
use Rattle.xsk_hints.specs.Facts.{met, last_peek, since_at}
use Rattle.xsk_hints.specs.Tallies.{tally_of}

-- ---- a line

abbrev pub numbered : List ℕ → ℕ → List ℕ
numbered words n = words ++ decimal n

-- a number of a ring, where it isn't 0
abbrev pub count_line : Ring → List ℕ → ℕ → List ℕ
count_line r words n = if n == 0 then [] else ring_text r ++ numbered words n ++ codes "\n"

-- the first and the last line, or the only one
abbrev pub lines_part : Tally → List ℕ
lines_part t =
    if t.first == t.last then numbered (codes ", line ") t.first else numbered (codes ", lines ") t.first ++ numbered (codes " to ") t.last

-- how many there are of a ring, and their first and last line, where there is one
abbrev pub tally_line : Ring → List ℕ → Tally → List ℕ
tally_line r words t = if t.count == 0 then [] else ring_text r ++ numbered words t.count ++ lines_part t ++ codes "\n"

-- ---- FILL and TX

abbrev pub words_of : Oddity → List ℕ
words_of Outside = codes ": addresses outside of the UMEM: "
words_of Within = codes ": addresses that aren't the first of a chunk: "
words_of Empty = codes ": invalid descriptors (length 0): "
words_of Crossing = codes ": invalid descriptors (across the end of a chunk): "
words_of Options = codes ": invalid descriptors (unknown options): "
words_of Refused = codes ": refused reserves: "

abbrev pub odd_line : Setting → Bool → List Line → Ring → Oddity → List ℕ
odd_line s metadata lines r o = tally_line r (words_of o) (tally_of (met s metadata r o lines))

abbrev pub odd_lines : Setting → Bool → List Line → Ring → List ℕ
odd_lines s metadata lines r =
    odd_line s metadata lines r Outside ++ odd_line s metadata lines r Within ++ odd_line s metadata lines r Empty
    ++ odd_line s metadata lines r Crossing ++ odd_line s metadata lines r Options ++ odd_line s metadata lines r Refused

-- since when the frames in a place are there
abbrev pub tally_in : Setting → List Line → Spot → Tally
tally_in s lines spot = tally_of (since_at s lines spot s.geometry.frames)

abbrev pub made_lines : Setting → Bool → List Line → Ring → List ℕ
made_lines s metadata lines r =
    odd_lines s metadata lines r
    ++ count_line r (codes ": places reserved and not filled at the end: ") (room_of r (calls_of lines))
    ++ tally_line r (codes ": frames on it at the end: ") (tally_in s lines (On r))

-- where COMPLETION wasn't peeked since frames came to a TX of its pair, which are there still
abbrev pub unpeeked : ℕ → ℕ → ℕ → Tally → List ℕ
unpeeked socket pair peek t =
    if nat_lt peek t.last
    then ring_text (Comp pair) ++ numbered (codes ": not peeked since line ") peek ++ codes ", and frames were submitted on " ++ ring_text (Tx socket)
    ++ numbered (codes " up to line ") t.last ++ codes "\n"
    else []

abbrev pub tx_lines : Setting → Bool → List Line → ℕ → List ℕ
tx_lines s metadata lines k =
    made_lines s metadata lines (Tx k)
    ++ unpeeked k (pair_of s (Tx k)) (last_peek (Comp (pair_of s (Tx k))) lines) (tally_in s lines (On (Tx k)))

-- ---- COMPLETION and RX

abbrev pub shown_lines : Setting → List Line → Ring → List ℕ
shown_lines s lines r =
    count_line r (codes ": entries peeked and not released at the end: ") (length (held_of s r (calls_of lines)))
    ++ tally_line r (codes ": frames of it with the program at the end: ") (tally_in s lines (Shown r))
    ++ tally_line r (codes ": frames put back into it at the end: ") (tally_in s lines (Back r))

-- ---- all

abbrev pub pair_lines : Setting → Bool → List Line → ℕ → List ℕ
pair_lines s metadata lines d = made_lines s metadata lines (Fill d) ++ shown_lines s lines (Comp d)

-- a text where a socket has a ring
abbrev pub where_some : Option ℕ → List ℕ → List ℕ
where_some None text = []
where_some (Some size) text = text

abbrev pub socket_lines : Setting → Bool → List Line → ℕ → List ℕ
socket_lines s metadata lines k =
    where_some (socket_at s k).rx (shown_lines s lines (Rx k)) ++ where_some (socket_at s k).tx (tx_lines s metadata lines k)

abbrev pub start_line : ℕ → List ℕ
start_line n = if n == 0 then [] else numbered (codes "frames with the program from the start: ") n ++ codes "\n"

abbrev pub hints_text : Setting → Bool → List Line → List ℕ
hints_text s metadata lines =
    start_line (tally_in s lines First).count
    ++ flat_map (pair_lines s metadata lines) (range_with_len 0 (length s.pairs))
    ++ flat_map (socket_lines s metadata lines) (range_with_len 0 (length s.sockets))

-- since which line a FILL has no frame at the end
abbrev pub dry_line : ℕ → ℕ → List ℕ
dry_line pair since = if since == 0 then [] else ring_text (Fill pair) ++ numbered (codes ": no frame on it from line ") since ++ codes " to the end\n"
