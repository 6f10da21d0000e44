-- The text of a recording: the header's lines, and behind them the line of each call. A line has its line feed, and 2,048 bytes at most
-- with it; times don't fall; there are 2^58 lines at most.
use Rattle.std.specs.Prelude.{ℕ, ◌+◌, ◌^◌, ◌&&◌, nat_le, nat_lt, if◌then◌else◌, Option, None, Some, List, [], ◌∷◌, length, ◌==◌, Bool, false}
use Rattle.xsk_side.specs.declared.call.Call.{Call}
use Rattle.xsk_lines.specs.Reading.{◌>>=◌}
use Rattle.xsk_recording.specs.Line.{line_at}
use Rattle.xsk_recording.specs.Header.{Header, no_header, header_after}
use Rattle.xsk_recording.specs.declared.line.Told.{Told}
use Rattle.xsk_recording.specs.declared.line.Told.TheVariants.{Judged, Aside}
use Rattle.xsk_recording.specs.declared.line.Timed.{Timed}
use Rattle.xsk_recording.specs.declared.wakeup.Wakeup.{Wakeup}
use Rattle.xsk_recording.specs.declared.head.Next.{Next}
use Rattle.xsk_recording.specs.declared.head.Next.TheVariants.{Title, Umem, Pairs, Sockets, Mark, Calls}

-- a call with the number of its line
pub record Numbered : Type 0 where
  pub line : ℕ
  pub call : Call

-- a look at a flag or a wake with the number of its line
pub record Beside : Type 0 where
  pub line : ℕ
  pub wakeup : Wakeup

-- What the first lines tell: the header's, the last time, how many lines these are, and the calls, and looks and wakes, the latest first.
pub record Read : Type 0 where
  pub header : Header
  pub time : ℕ
  pub lines : ℕ
  pub calls : List Numbered
  pub asides : List Beside

abbrev pub nothing_read : Read
nothing_read = record { header = no_header; time = 0; lines = 0; calls = []; asides = [] }

-- ---- calls

abbrev pub with_told : ℕ → List Numbered → Told → List Numbered
with_told line calls (Judged call) = record { line = line; call = call } ∷ calls
with_told line calls (Aside wakeup) = calls

abbrev pub with_aside : ℕ → List Beside → Told → List Beside
with_aside line asides (Judged call) = asides
with_aside line asides (Aside wakeup) = record { line = line; wakeup = wakeup } ∷ asides

abbrev pub call_after : Read → Timed → Option Read
call_after r t =
    if nat_lt t.time r.time then None
    else Some (record r { time = t.time; lines = r.lines + 1; calls = with_told (r.lines + 1) r.calls t.told; asides = with_aside (r.lines + 1) r.asides t.told })

-- ---- lines

abbrev pub header_read : Read → List ℕ → Option Read
header_read r xs = header_after r.header xs >>= λ h. Some (record r { header = h; lines = r.lines + 1 })

-- behind the line `calls` each line is a call's
abbrev pub body_after : Next → Read → List ℕ → Option Read
body_after Title r xs = header_read r xs
body_after Umem r xs = header_read r xs
body_after Pairs r xs = header_read r xs
body_after Sockets r xs = header_read r xs
body_after Mark r xs = header_read r xs
body_after Calls r xs = line_at xs >>= call_after r

abbrev pub most_bytes : ℕ
most_bytes = 2048

-- lines are numbered with 64 bits, and so are addresses that name no frame counted, of which a line has 32 at most
abbrev pub most_lines : ℕ
most_lines = 2 ^ 58

-- a line feed stands at its end
unfoldable pub ends_line : List ℕ → Bool
ends_line [] = false
ends_line (b ∷ []) = b == 10
ends_line (b ∷ c ∷ bs) = ends_line (c ∷ bs)

-- one line more, and some; nothing where a line isn't of the form
unfoldable pub line_after : Read → List ℕ → Option Read
line_after r xs = if nat_le (length xs) most_bytes && nat_lt r.lines most_lines && ends_line xs then body_after r.header.next r xs else None

unfoldable pub lines_after : Read → List (List ℕ) → Option Read
lines_after r [] = Some r
lines_after r (line ∷ lines) = line_after r line >>= λ next. lines_after next lines
