-- A recording that is read in pieces and judged: all bytes that a check has read, and what settles their verdict.
use Rattle.std.specs.Prelude.{◌≡◌, ℕ, Bool, Option, Some, None, List, [], ◌∷◌, ◌++◌, length, map}
use Rattle.std.specs.Borrow.{Bor}
use Rattle.xsk_side.specs.Setting.{Setting}
use Rattle.xsk_judge.specs.Stands.{Line, IsReady as IsReadyJudge, IsWhy, StandsFor as StandsForLines}
use Rattle.xsk_judge.specs.Reasons.{IsReasonOf}
use Rattle.xsk_hints.specs.Noted.{IsSized, Notes}
use Rattle.xsk_hints.specs.Fills.{Feeds, fills_text}
use Rattle.xsk_hints.specs.Told.{hints_text}
use Rattle.xsk_hints.specs.Wakes.{Wakens, wakes_text}
use Rattle.xsk_recording.specs.Text.{Beside, Numbered, Read, line_after}
use Rattle.xsk_recording.specs.Feeding.{Reader, StandsFor as StandsForText, Tells}
use Rattle.xsk_recording.specs.Verdict.{Begins, IsVerdict}
use Rattle.xsk_recording.specs.declared.head.Next.{Next}
use Rattle.xsk_recording.specs.declared.head.Next.TheVariants.{Title, Umem, Pairs, Sockets, Mark, Calls}
use Rattle.xsk_recording.specs.declared.reading.Event.{Event}
use Rattle.xsk_recording.specs.declared.reading.Event.TheVariants as an_event
use Rattle.xsk_recording.specs.declared.verdict.Verdict.{Verdict}
use Rattle.xsk_recording.specs.declared.verdict.Verdict.TheVariants as a_verdict
use Rattle.xsk_check.specs.declared.check.Court.{Court}
use Rattle.xsk_check.specs.declared.finding.Blame.{Blame}
use Rattle.xsk_check.specs.declared.finding.Finding.{Finding}

-- what a check keeps: what its reader keeps, and, once the setting is told, the judge and the hints; and how many calls were judged
pub record Checked : Type 0 where
  pub reading : Reader
  pub court : Option Court
  pub calls : ℕ

-- the setting, where it is told
abbrev pub setting_in : Option Court → Option Setting
setting_in None = None
setting_in (Some court) = Some court.setting

abbrev pub setting_view : Option (Bor Setting) → Option Setting
setting_view None = None
setting_view (Some setting) = Some setting.now

-- ---- what it stands for

-- a call with its line, as the judge has it
abbrev pub line_of : Numbered → Line
line_of n = record { line = n.line; call = n.call }

abbrev pub lines_of_calls : List Numbered → List Line
lines_of_calls calls = map line_of calls

pub record IsOpen (court : Court) : Type 0 where
  pub ready : IsReadyJudge court.setting court.judge
  pub sized : IsSized court.setting court.hints
  pub pairs : length court.fills ≡ length court.setting.pairs
  pub sockets : length court.wakes ≡ length court.setting.sockets

-- the judge stands for these lines, and the hints are on them and on these looks and wakes
pub record Follows (court : Court) (lines : List Line) (asides : List Beside) : Type 0 where
  pub stands : StandsForLines court.setting court.judge lines
  pub notes : Notes court.setting court.hints lines
  pub feeds : Feeds court.setting court.fills lines
  pub wakens : Wakens court.wakes asides

abbrev pub hints_on : Setting → Bool → List Line → List Beside → List ℕ
hints_on s metadata lines asides = hints_text s metadata lines ++ fills_text s lines ++ wakes_text s lines asides

-- they are those of what the header tells and of its calls, looks and wakes
abbrev pub Judges : Read → Option Court → Type 0
Judges r None = ⊥
Judges r (Some court) =
    (court.setting ≡ r.header.setting) × (court.hints.metadata ≡ r.header.metadata) × IsOpen court × Follows court (lines_of_calls r.calls) r.asides

-- no call, look or wake was read
pub record IsBare (r : Read) : Type 0 where
  pub calls : r.calls ≡ []
  pub asides : r.asides ≡ []

-- there is one from the line of the kernel on
abbrev pub IsHeard : Next → Read → Option Court → Type 0
IsHeard Title r court = (court ≡ None) × IsBare r
IsHeard Umem r court = (court ≡ None) × IsBare r
IsHeard Pairs r court = (court ≡ None) × IsBare r
IsHeard Sockets r court = (court ≡ None) × IsBare r
IsHeard Mark r court = Judges r court × IsBare r
IsHeard Calls r court = Judges r court

pub record Heard (checked : Checked) (r : Read) : Type 0 where
  pub court : IsHeard r.header.next r checked.court
  pub calls : checked.calls ≡ length r.calls

-- all bytes were read, and all their calls are possible
pub record StandsFor (checked : Checked) (text : List ℕ) : Type 0 where
  pub read : Read
  pub reads : StandsForText checked.reading text read
  pub heard : Heard checked read

abbrev pub IsReady : Checked → Type 0
IsReady checked = (text : List ℕ) × StandsFor checked text

-- ---- what is found

-- the call of a line, and why it isn't possible after those before it: the first reason of the judge's table
pub record IsReason (text : List ℕ) (line : ℕ) (blame : Blame) : Type 0 where
  pub read : Read
  pub last : List ℕ
  pub later : List (List ℕ)
  pub next : Read
  pub begins : Begins text (last ∷ later) read
  pub after : line_after read last ≡ Some next
  pub calls : next.calls ≡ record { line = line; call = blame.call } ∷ read.calls
  pub why : IsWhy next.header.setting (lines_of_calls read.calls) blame.call blame.why
  pub reason : IsReasonOf next.header.setting (lines_of_calls read.calls) line blame.call blame.why

-- what only the end of a text can tell isn't found before it
abbrev pub IsBlamed : List ℕ → Verdict → Option Blame → Type 0
IsBlamed text a_verdict.Empty blame = ⊥
IsBlamed text a_verdict.NoCalls blame = ⊥
IsBlamed text (a_verdict.Possible calls) blame = ⊥
IsBlamed text (a_verdict.NotPossible line) None = ⊥
IsBlamed text (a_verdict.NotPossible line) (Some blame) = IsReason text line blame
IsBlamed text (a_verdict.NoRecording line) blame = blame ≡ None
IsBlamed text (a_verdict.NoSetting line error) blame = blame ≡ None

abbrev pub IsFound : List ℕ → Finding → Type 0
IsFound text finding = IsVerdict text finding.verdict × IsBlamed text finding.verdict finding.blame

-- ---- the end

-- the hints on a recording that is whole: on all its calls, looks and wakes, each with the number of its line
pub record AreHints (text hints : List ℕ) : Type 0 where
  pub read : Read
  pub begins : Begins text [] read
  pub calls : read.header.next ≡ Calls
  pub text_is : hints ≡ hints_on read.header.setting read.header.metadata (lines_of_calls read.calls) read.asides

-- ---- pieces

-- a piece more was read; or a part of it, which settles the verdict whatever follows
abbrev pub Goes : Checked → List ℕ → List ℕ → Option Finding → Type 0
Goes new text piece None = StandsFor new (text ++ piece)
Goes new text piece (Some finding) = (later : List ℕ) → IsFound (text ++ piece ++ later) finding

-- the same where this is left of the piece
abbrev pub Steps : Checked → List ℕ → List ℕ → List ℕ → Option Finding → Type 0
Steps new text piece rest None = (used : List ℕ) × (piece ≡ used ++ rest) × StandsFor new (text ++ used)
Steps new text piece rest (Some finding) = (later : List ℕ) → IsFound (text ++ piece ++ later) finding

-- ---- one line more

-- what an event tells of a line; where a line has begun it tells nothing
abbrev pub HasTold : Read → List ℕ → Event → Type 0
HasTold r line an_event.Begun = Unit {0}
HasTold r line an_event.Passed = Tells r line an_event.Passed (λ next. Unit {0})
HasTold r line (an_event.Setting s metadata) = Tells r line (an_event.Setting s metadata) (λ next. Unit {0})
HasTold r line (an_event.NoSetting error) = Tells r line (an_event.NoSetting error) (λ next. Unit {0})
HasTold r line (an_event.Call call) = Tells r line (an_event.Call call) (λ next. Unit {0})
HasTold r line (an_event.Aside wakeup) = Tells r line (an_event.Aside wakeup) (λ next. Unit {0})
HasTold r line an_event.Fault = Tells r line an_event.Fault (λ next. Unit {0})

-- what is found where the line stands behind those that were read
abbrev pub IsFoundAt : Read → List ℕ → Finding → Type 0
IsFoundAt r line finding = (text : List ℕ) (later : List (List ℕ)) → Begins text (line ∷ later) r → IsFound text finding

-- what the line comes to: it was read, and what it tells was heard; or it settles the verdict
abbrev pub Hears : Checked → Read → List ℕ → Event → Option Finding → Type 0
Hears new r line an_event.Begun None = Heard new r
Hears new r line an_event.Begun (Some finding) = ⊥
Hears new r line an_event.Passed None = (next : Read) → line_after r line ≡ Some next → Heard new next
Hears new r line an_event.Passed (Some finding) = ⊥
Hears new r line (an_event.Setting s metadata) None = (next : Read) → line_after r line ≡ Some next → Heard new next
Hears new r line (an_event.Setting s metadata) (Some finding) = ⊥
Hears new r line (an_event.NoSetting error) None = ⊥
Hears new r line (an_event.NoSetting error) (Some finding) = IsFoundAt r line finding
Hears new r line (an_event.Call call) None = (next : Read) → line_after r line ≡ Some next → Heard new next
Hears new r line (an_event.Call call) (Some finding) = IsFoundAt r line finding
Hears new r line (an_event.Aside wakeup) None = (next : Read) → line_after r line ≡ Some next → Heard new next
Hears new r line (an_event.Aside wakeup) (Some finding) = ⊥
Hears new r line an_event.Fault None = ⊥
Hears new r line an_event.Fault (Some finding) = IsFoundAt r line finding
