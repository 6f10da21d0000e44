-- A recording that is read in pieces: a reader stands for all bytes that it was given, whatever the pieces were.
use Rattle.std.specs.Prelude.{◌≡◌, ℕ, ◌+◌, ◌<◌, ◌≤◌, Bool, true, false, ◌==◌, if◌then◌else◌, None, Some, List, [], ◌∷◌, ◌++◌, length}
use Rattle.xsk_lines.specs.Lines.{lines_of}
use Rattle.xsk_recording.specs.Header.{Header}
use Rattle.xsk_recording.specs.HeaderFields.{IsNoSetting}
use Rattle.xsk_recording.specs.Text.{Numbered, Read, nothing_read, line_after, lines_after, most_bytes}
use Rattle.xsk_recording.specs.declared.head.Next.{Next}
use Rattle.xsk_recording.specs.declared.head.Next.TheVariants.{Title, Umem, Pairs, Sockets, Mark, Calls}
use Rattle.xsk_recording.specs.declared.reading.Event.{Event}
use Rattle.xsk_recording.specs.declared.reading.Event.TheVariants as an_event

-- what a reader keeps: what was told, and the bytes of a line that isn't whole
pub record Reader : Type 0 where
  pub header : Header
  pub time : ℕ
  pub lines : ℕ
  pub begun : List ℕ

-- what a header has told is kept up to the line of the kernel, behind which it is handed out
abbrev pub Keeps : Next → Header → Header → Type 0
Keeps Title h kept = kept ≡ h
Keeps Umem h kept = kept ≡ h
Keeps Pairs h kept = kept ≡ h
Keeps Sockets h kept = kept ≡ h
Keeps Mark h kept = Unit {0}
Keeps Calls h kept = Unit {0}

pub record Shows (reader : Reader) (r : Read) : Type 0 where
  pub next : reader.header.next ≡ r.header.next
  pub header : Keeps r.header.next r.header reader.header
  pub time : reader.time ≡ r.time
  pub lines : reader.lines ≡ r.lines

-- whether the line `calls` was read
abbrev pub is_calls : Next → Bool
is_calls Title = false
is_calls Umem = false
is_calls Pairs = false
is_calls Sockets = false
is_calls Mark = false
is_calls Calls = true

-- ---- the bytes so far

abbrev pub has_no_feed : List ℕ → Bool
has_no_feed [] = true
has_no_feed (b ∷ bs) = if b == 10 then false else has_no_feed bs

-- a line with its line feed
abbrev pub IsLine : List ℕ → Type 0
IsLine line = (body : List ℕ) × (line ≡ body ++ 10 ∷ []) × (has_no_feed body ≡ true)

abbrev pub AreLines : List (List ℕ) → Type 0
AreLines [] = Unit {0}
AreLines (line ∷ lines) = IsLine line × AreLines lines

abbrev pub joined : List (List ℕ) → List ℕ
joined [] = []
joined (line ∷ lines) = line ++ joined lines

-- the bytes are whole lines, which were read, and a line that isn't whole
pub record StandsFor (reader : Reader) (text : List ℕ) (r : Read) : Type 0 where
  pub whole : List (List ℕ)
  pub text_is : text ≡ joined whole ++ reader.begun
  pub lines : AreLines whole
  pub begun : has_no_feed reader.begun ≡ true
  pub read : lines_after nothing_read whole ≡ Some r
  pub shows : Shows reader r

-- ---- one line more

-- the line was read, and the calls are these then
pub record Goes (r : Read) (line : List ℕ) (calls : List Numbered) (Then : Read → Type 0) : Type 0 where
  pub read : Read
  pub is : line_after r line ≡ Some read
  pub calls_are : read.calls ≡ calls
  pub rest : Then read

-- what an event tells of the next line
abbrev pub Tells : Read → List ℕ → Event → (Read → Type 0) → Type 0
Tells r line an_event.Begun Then = ⊥
Tells r line an_event.Passed Then = Goes r line r.calls (λ n. Then n × (n.header.next ≡ Mark → ⊥) × (n.asides ≡ r.asides))
Tells r line (an_event.Setting s metadata) Then =
    Goes r line r.calls (λ n. Then n × (n.header.next ≡ Mark) × (n.header.setting ≡ s) × (n.header.metadata ≡ metadata) × (n.asides ≡ r.asides))
Tells r line (an_event.NoSetting error) Then = Goes r line r.calls (λ n. Then n × (n.header.next ≡ Mark) × IsNoSetting n.header.setting error)
Tells r line (an_event.Call call) Then = Goes r line (record { line = r.lines + 1; call = call } ∷ r.calls) (λ n. Then n × (n.asides ≡ r.asides))
Tells r line (an_event.Aside wakeup) Then =
    Goes r line r.calls (λ n. Then n × (r.header.next ≡ Calls) × (n.asides ≡ record { line = r.lines + 1; wakeup = wakeup } ∷ r.asides))
Tells r line an_event.Fault Then = line_after r line ≡ None

-- the lines of a text that were read, and one behind them that isn't of the form
pub record HasFault (text : List ℕ) (r : Read) : Type 0 where
  pub before : List (List ℕ)
  pub line : List ℕ
  pub later : List (List ℕ)
  pub lines_are : lines_of text ≡ before ++ line ∷ later
  pub read : lines_after nothing_read before ≡ Some r
  pub fault : line_after r line ≡ None

-- a piece up to the end of a line was read, and this is left of it
pub record IsUsed (old new : Reader) (text : List ℕ) (r : Read) (piece : List ℕ) (event : Event) (rest : List ℕ) : Type 0 where
  pub used : List ℕ
  pub piece_is : piece ≡ used ++ rest
  pub line : IsLine (old.begun ++ used)
  pub told : Tells r (old.begun ++ used) event (StandsFor new (text ++ used))

-- what an event tells of a piece behind the bytes so far; a fault stays one whatever follows
abbrev pub IsNext : Reader → Reader → List ℕ → Read → List ℕ → Event → List ℕ → Type 0
IsNext old new text r piece an_event.Begun rest = (rest ≡ []) × StandsFor new (text ++ piece) r
IsNext old new text r piece an_event.Passed rest = IsUsed old new text r piece an_event.Passed rest
IsNext old new text r piece (an_event.Setting s metadata) rest = IsUsed old new text r piece (an_event.Setting s metadata) rest
IsNext old new text r piece (an_event.NoSetting error) rest = IsUsed old new text r piece (an_event.NoSetting error) rest
IsNext old new text r piece (an_event.Call call) rest = IsUsed old new text r piece (an_event.Call call) rest
IsNext old new text r piece (an_event.Aside wakeup) rest = IsUsed old new text r piece (an_event.Aside wakeup) rest
IsNext old new text r piece an_event.Fault rest = (later : List ℕ) → HasFault (text ++ piece ++ later) r

abbrev pub IsFault : Event → Type 0
IsFault an_event.Begun = ⊥
IsFault an_event.Passed = ⊥
IsFault (an_event.Setting s metadata) = ⊥
IsFault (an_event.NoSetting error) = ⊥
IsFault (an_event.Call call) = ⊥
IsFault (an_event.Aside wakeup) = ⊥
IsFault an_event.Fault = Unit {0}

-- a part of a line is kept, behind what was kept, unless it is too long
abbrev pub IsKept : Reader → Reader → List ℕ → Bool → Type 0
IsKept old new part true = (new ≡ record old { begun = old.begun ++ part }) × (length old.begun + length part ≤ most_bytes)
IsKept old new part false = most_bytes < length old.begun + length part

-- a header's setting is handed out, and `metadata` beside it; or why it is none
abbrev pub IsHanded : Header → Event → Type 0
IsHanded h an_event.Begun = ⊥
IsHanded h an_event.Passed = ⊥
IsHanded h (an_event.Setting s metadata) = (s ≡ h.setting) × (metadata ≡ h.metadata)
IsHanded h (an_event.NoSetting error) = IsNoSetting h.setting error
IsHanded h (an_event.Call call) = ⊥
IsHanded h (an_event.Aside wakeup) = ⊥
IsHanded h an_event.Fault = ⊥
