-- The line of a call in a recording: its time, its thread, the place in the program, the call and its reply.
--
--     TIME THREAD PLACE CALL -> REPLY
--
-- Rings and entries are written as in a journal (docs/AUDIT.md). A reader gives what it read, with the text behind it where more follows.
use Rattle.std.specs.Prelude.{ℕ, zero, suc, ◌==◌, Bool, false, not, if◌then◌else◌, Option, None, Some, List, [], ◌∷◌, codes, drop, true}
use Rattle.xsk_umem.specs.declared.batch.XdpDesc.{XdpDesc}
use Rattle.xsk_model.specs.declared.call.Ring.{Ring}
use Rattle.xsk_side.specs.declared.call.Answer.{Answer}
use Rattle.xsk_side.specs.declared.call.Answer.TheVariants.{Granted, Full, Refused}
use Rattle.xsk_side.specs.declared.call.Call.TheVariants.{Reserve, Free, Submit, Peek, Release, Cancel}
use Rattle.xsk_lines.specs.Reading.{Reads, ◌>>=◌, choose, word_at, number_at, small_at, ring_at, desc_at, begins_item}
use Rattle.xsk_recording.specs.declared.line.Told.{Told}
use Rattle.xsk_recording.specs.declared.wakeup.Wakeup.TheVariants.{Look, Kick}
use Rattle.xsk_recording.specs.declared.line.Told.TheVariants.{Judged, Aside}
use Rattle.xsk_recording.specs.declared.line.Timed.{Timed}

-- the line feed that ends a line
abbrev pub is_end : List ℕ → Bool
is_end [] = false
is_end (b ∷ []) = b == 10
is_end (b ∷ c ∷ bs) = false

-- what was read, where the line ends here
abbrev pub closed : {A : Type 0} → A → List ℕ → Option A
closed value xs = if is_end xs then Some value else None

-- whether this word ends the line, and what was read where it does
abbrev pub ends : Option (List ℕ) → Bool
ends None = false
ends (Some rest) = is_end rest

unfoldable pub is_ended : List ℕ → List ℕ → Bool
is_ended word xs = ends (word_at word xs)

abbrev pub ended : {A : Type 0} → List ℕ → A → List ℕ → Option A
ended word value xs = if is_ended word xs then Some value else None

-- the text behind the first space
unfoldable pub behind_space : List ℕ → Option (List ℕ)
behind_space [] = None
behind_space (b ∷ bs) = if b == 32 then Some bs else behind_space bs

-- the text behind a place in the program and a space: any bytes but a space, one at least
unfoldable pub behind_place : List ℕ → Option (List ℕ)
behind_place [] = None
behind_place (b ∷ bs) = if b == 32 then None else behind_space bs

-- so many entries at most, each behind a space, up to where none begins
unfoldable pub entries_at : ℕ → List ℕ → Reads (List XdpDesc)
entries_at zero xs = Some ([], xs)
entries_at (suc n) xs =
    if not (begins_item xs) then Some ([], xs)
    else desc_at (drop 1 xs) >>= λ desc. entries_at n desc.1 >>= λ more. Some (desc.0 ∷ more.0, more.1)

-- one entry at least, and 32 at most
abbrev pub some_entries : List XdpDesc × List ℕ → Reads (List XdpDesc)
some_entries ([], rest) = None
some_entries (entry ∷ entries, rest) = Some (entry ∷ entries, rest)

unfoldable pub listed_at : List ℕ → Reads (List XdpDesc)
listed_at xs = entries_at 32 xs >>= some_entries

-- ---- calls and replies

-- a ring and a number, up to the reply
unfoldable pub counted_at : List ℕ → Reads (Ring × ℕ)
counted_at xs =
    ring_at xs >>= λ ring. word_at (codes " ") ring.1 >>= λ rest.
    small_at rest >>= λ n. word_at (codes " -> ") n.1 >>= λ reply. Some ((ring.0, n.0), reply)

abbrev pub full_at : List ℕ → Option Answer
full_at xs = small_at xs >>= λ n. closed (Full n.0) n.1

unfoldable pub answer_at : List ℕ → Option Answer
answer_at xs =
    if is_ended (codes "granted") xs then Some Granted
    else if is_ended (codes "refused") xs then Some Refused
    else word_at (codes "full ") xs >>= full_at

unfoldable pub reserve_at : List ℕ → Option Told
reserve_at xs = counted_at xs >>= λ c. answer_at c.1 >>= λ answer. Some (Judged (Reserve c.0.0 c.0.1 answer))

unfoldable pub free_at : List ℕ → Option Told
free_at xs = counted_at xs >>= λ c. small_at c.1 >>= λ places. closed (Judged (Free c.0.0 c.0.1 places.0)) places.1

unfoldable pub submit_at : List ℕ → Option Told
submit_at xs = ring_at xs >>= λ ring. listed_at ring.1 >>= λ entries. ended (codes " -> submitted") (Judged (Submit ring.0 entries.0)) entries.1

-- the entries that a Peek shows
abbrev pub shown_at : Ring → ℕ → List ℕ → Option Told
shown_at ring n xs = listed_at xs >>= λ entries. closed (Judged (Peek ring n entries.0)) entries.1

unfoldable pub peek_at : List ℕ → Option Told
peek_at xs =
    counted_at xs >>= λ c.
    choose (word_at (codes "items") c.1) (shown_at c.0.0 c.0.1)
    (ended (codes "empty") (Judged (Peek c.0.0 c.0.1 [])) c.1)

unfoldable pub release_at : List ℕ → Option Told
release_at xs = counted_at xs >>= λ c. ended (codes "released") (Judged (Release c.0.0 c.0.1)) c.1

unfoldable pub cancel_at : List ℕ → Option Told
cancel_at xs = counted_at xs >>= λ c. ended (codes "cancelled") (Judged (Cancel c.0.0 c.0.1)) c.1

-- a look at a need-wakeup flag, and a wake: any kernel may answer so
unfoldable pub look_at : List ℕ → Option Told
look_at xs =
    ring_at xs >>= λ ring.
    if is_ended (codes " -> 0") ring.1 then Some (Aside (Look ring.0 false))
    else if is_ended (codes " -> 1") ring.1 then Some (Aside (Look ring.0 true))
    else None

unfoldable pub kick_at : List ℕ → Option Told
kick_at xs = ring_at xs >>= λ ring. ended (codes " -> 0") (Aside (Kick ring.0)) ring.1

-- calls that tell of counts and flags alone
unfoldable pub other_at : List ℕ → Option Told
other_at xs =
    choose (word_at (codes "free ") xs) free_at
    (choose (word_at (codes "look ") xs) look_at
    (choose (word_at (codes "kick ") xs) kick_at None))

unfoldable pub call_at : List ℕ → Option Told
call_at xs =
    choose (word_at (codes "reserve ") xs) reserve_at
    (choose (word_at (codes "submit ") xs) submit_at
    (choose (word_at (codes "peek ") xs) peek_at
    (choose (word_at (codes "release ") xs) release_at
    (choose (word_at (codes "cancel ") xs) cancel_at (other_at xs)))))

-- ---- the line

-- the time; the thread, a number, and the place are passed over
unfoldable pub stamp_at : List ℕ → Reads ℕ
stamp_at xs =
    number_at xs >>= λ time. word_at (codes " ") time.1 >>= λ rest.
    number_at rest >>= λ thread. word_at (codes " ") thread.1 >>= λ place.
    behind_place place >>= λ call. Some (time.0, call)

unfoldable pub line_at : List ℕ → Option Timed
line_at xs = stamp_at xs >>= λ stamp. call_at stamp.1 >>= λ told. Some (record { time = stamp.0; told = told })
