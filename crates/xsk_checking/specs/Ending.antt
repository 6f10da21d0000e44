-- How the command `check` ends: with the verdict of the file's bytes, or by a failure. The words, lines and statuses are this project's
-- own.
use Rattle.std.specs.Prelude.{◌≡◌, ◌≢◌, ℕ, ◌⊎◌, Bool, true, false, codes, List, [], ◌∷◌, ◌++◌, Option, Some, None, IfSome, Result, Ok, Err, if◌then◌else◌}
use Rattle.std.specs.Io.KnownBytes.{prepend_known}
use Rattle.std.specs.Fmt.{decimal}
use Rattle.std.specs.Str.{bytes_eq}
use Rattle.xsk_args.specs.Words.{Text, is_dashed}
use Rattle.xsk_side.specs.declared.setting.SettingError.{SettingError}
use Rattle.xsk_side.specs.declared.setting.SettingError.TheVariants.{Frames, Chunk, Pairs, Sockets}
use Rattle.xsk_recording.specs.Verdict.{IsVerdict}
use Rattle.xsk_recording.specs.declared.verdict.Verdict.{Verdict}
use Rattle.xsk_recording.specs.declared.verdict.Verdict.TheVariants as a_verdict
use Rattle.xsk_check.specs.Checking.{Checked, StandsFor, IsFound, AreHints}
use Rattle.xsk_check.specs.Naming.{IsNamed}
use Rattle.xsk_check.specs.declared.finding.Finding.{Finding}
use Rattle.xsk_io.specs.Bay.{Grows, GrowsByPart, Moment, Rose, Same}
use Rattle.xsk_io.specs.declared.bay.Kind.{Kind}
use Rattle.xsk_io.specs.declared.bay.Kind.TheVariants.{Open, Read, Write}
use Rattle.xsk_io.specs.declared.bay.Stream.{Stream}
use Rattle.xsk_io.specs.declared.bay.Stream.TheVariants.{Input, Report}
use Rattle.xsk_checking.specs.declared.end.End.{End}
use Rattle.xsk_checking.specs.declared.end.End.TheVariants.{Judged, Failed}
use Rattle.xsk_checking.specs.declared.end.Failure.{Failure}
use Rattle.xsk_checking.specs.declared.end.Failure.TheVariants.{Usage, Unopened, Unread, Unwritten, OutOfMemory}

-- ---- the words: `check FILE`

abbrev pub is_check : List Text → Bool
is_check [] = false
is_check (first ∷ rest) = bytes_eq first (codes "check")

abbrev pub file_in : List Text → Option Text
file_in (first ∷ file ∷ []) = if is_dashed file then None else Some file
file_in _ = None

-- ---- statuses and lines

abbrev pub verdict_status : Verdict → ℕ
verdict_status a_verdict.Empty = 15
verdict_status a_verdict.NoCalls = 15
verdict_status (a_verdict.Possible calls) = 0
verdict_status (a_verdict.NotPossible line) = 14
verdict_status (a_verdict.NoRecording line) = 15
verdict_status (a_verdict.NoSetting line error) = 15

abbrev pub failure_status : Failure → ℕ
failure_status Usage = 2
failure_status Unread = 4
failure_status Unwritten = 5
failure_status Unopened = 6
failure_status OutOfMemory = 10

abbrev pub exit_status_of : End → ℕ
exit_status_of (Judged verdict) = verdict_status verdict
exit_status_of (Failed failure) = failure_status failure

abbrev pub fault_text : SettingError → List ℕ
fault_text Frames = codes "frames"
fault_text Chunk = codes "chunk"
fault_text Pairs = codes "pairs"
fault_text Sockets = codes "sockets"

abbrev pub verdict_text : Verdict → List ℕ
verdict_text a_verdict.Empty = codes "empty\n"
verdict_text a_verdict.NoCalls = codes "no calls\n"
verdict_text (a_verdict.Possible calls) = codes "possible " ++ decimal calls ++ codes "\n"
verdict_text (a_verdict.NotPossible line) = codes "not possible " ++ decimal line ++ codes "\n"
verdict_text (a_verdict.NoRecording line) = codes "no recording " ++ decimal line ++ codes "\n"
verdict_text (a_verdict.NoSetting line error) = codes "no setting " ++ decimal line ++ codes " " ++ fault_text error ++ codes "\n"

abbrev pub line_of : Failure → List ℕ
line_of Usage = codes "usage\n"
line_of Unopened = codes "open fault input 0\n"
line_of Unread = codes "read fault 0\n"
line_of Unwritten = []
line_of OutOfMemory = codes "out of memory\n"

-- ---- what is told behind the line of a verdict

-- of a possible recording the hints, and nothing more; of a call that can't be why it can't, which isn't said here; else nothing
abbrev pub IsBehind : List ℕ → Verdict → List ℕ → Type 0
IsBehind bytes a_verdict.Empty behind = behind ≡ []
IsBehind bytes a_verdict.NoCalls behind = behind ≡ []
IsBehind bytes (a_verdict.Possible calls) behind = AreHints bytes behind
IsBehind bytes (a_verdict.NotPossible line) behind = Unit {0}
IsBehind bytes (a_verdict.NoRecording line) behind = behind ≡ []
IsBehind bytes (a_verdict.NoSetting line error) behind = behind ≡ []

pub record HasTold (bytes : List ℕ) (verdict : Verdict) (text : List ℕ) : Type 0 where
  pub behind : List ℕ
  pub text_is : text ≡ verdict_text verdict ++ behind
  pub is : IsBehind bytes verdict behind

-- where it is told before the end
abbrev pub MayFollow : Verdict → List ℕ → Type 0
MayFollow (a_verdict.NotPossible line) behind = Unit {0}
MayFollow verdict behind = behind ≡ []

-- ---- the file

-- what a bay tells, where it tells it
abbrev pub IsTold : Option (List ℕ) → List ℕ → Type 0
IsTold told bytes = IfSome told (λ xs. xs ≡ bytes)

-- these bytes were read to their end, or settle the verdict
abbrev pub Settles : Checked → List ℕ → Option Finding → Type 0
Settles checked bytes None = StandsFor checked bytes
Settles checked bytes (Some finding) = IsFound bytes finding

-- ---- faults

-- the call that failed
abbrev pub IsFaultOf : Failure → Kind → Stream → Type 0
IsFaultOf Usage kind stream = ⊥
IsFaultOf Unopened kind stream = (kind ≡ Open) × (stream ≡ Input 0)
IsFaultOf Unread kind stream = (kind ≡ Read) × (stream ≡ Input 0)
IsFaultOf Unwritten kind stream = (kind ≡ Write) × (stream ≡ Report)
IsFaultOf OutOfMemory kind stream = ⊥

-- its count has risen, and no other has changed
pub record FailsReading (old new : Kind → Stream → ℕ) (failure : Failure) : Type 0 where
  pub cause : (kind : Kind) (stream : Stream) → IsFaultOf failure kind stream → Rose (old kind stream) (new kind stream)
  pub others : (kind : Kind) (stream : Stream) → (IsFaultOf failure kind stream → ⊥) → new kind stream ≡ old kind stream
  pub not_words : failure ≢ Usage
  pub not_report : failure ≢ Unwritten

-- ---- the report

-- it got the text; or, where a write failed, a front of it
abbrev pub GotText : List ℕ → Moment → Moment → Type 0
GotText text old new =
    Grows (old.held Report) (new.held Report) text
    ⊎ (GrowsByPart (old.held Report) (new.held Report) text × Rose (old.faults Write Report) (new.faults Write Report))

-- that a recording is possible is told whole
abbrev pub IsReported : Verdict → List ℕ → Moment → Moment → Type 0
IsReported (a_verdict.Possible calls) text old new = Grows (old.held Report) (new.held Report) text
IsReported verdict text old new = GotText text old new

-- what comes of telling a verdict by this text
abbrev pub Comes : Verdict → List ℕ → Moment → Moment → End → Type 0
Comes verdict text old new (Judged told) = (told ≡ verdict) × IsReported verdict text old new
Comes verdict text old new (Failed failure) =
    (failure ≡ Unwritten) × ((calls : ℕ) × (verdict ≡ a_verdict.Possible calls))
    × GrowsByPart (old.held Report) (new.held Report) text × Rose (old.faults Write Report) (new.faults Write Report)

-- ---- the end

-- The verdict is that of all bytes of the file, and the report got its line and what stands behind it, and the line that is named is that
-- of the reason; or a failure is told, and no line is named. The bytes are those that the bay tells, where it tells them.
abbrev pub Ends : Moment → Moment → End → Option ℕ → Type 0
Ends old new (Judged verdict) named =
    (bytes text : List ℕ) × IsTold (old.left (Input 0)) bytes × IsVerdict bytes verdict × IsNamed bytes verdict named × HasTold bytes verdict text
    × IsReported verdict text old new
Ends old new (Failed Unwritten) named =
    (named ≡ None)
    × (bytes text : List ℕ) × (calls : ℕ) × IsTold (old.left (Input 0)) bytes × IsVerdict bytes (a_verdict.Possible calls)
    × HasTold bytes (a_verdict.Possible calls) text × GrowsByPart (old.held Report) (new.held Report) text
Ends old new (Failed failure) named = (named ≡ None) × GotText (line_of failure) old new

-- the failure that is told
abbrev pub IsFault : End → Kind → Stream → Type 0
IsFault (Judged verdict) kind stream = ⊥
IsFault (Failed failure) kind stream = IsFaultOf failure kind stream

pub record IsAnswer (file : Option Text) (old new : Moment) (end : End) (named : Option ℕ) : Type 0 where
  pub usage : end ≡ Failed Usage → file ≡ None
  pub unsaid : file ≡ None → end ≡ Failed Usage
  pub ends : Ends old new end named
  pub asked : (name : Text) → file ≡ Some name → IsTold (new.asked (Input 0)) name
  -- a failure has its cause, and no other call failed but a write of the report
  pub cause : (kind : Kind) (stream : Stream) → IsFault end kind stream → Rose (old.faults kind stream) (new.faults kind stream)
  pub others : (kind : Kind) (stream : Stream) → (IsFault end kind stream → ⊥) → ((kind ≡ Write) × (stream ≡ Report) → ⊥)
      → new.faults kind stream ≡ old.faults kind stream

-- ---- inside

-- the file was read and judged, and this is told of it
pub record HasJudged (file : Option Text) (old new : Moment) (verdict : Verdict) (text : List ℕ) (named : Option ℕ) : Type 0 where
  pub name : Text
  pub file_is : file ≡ Some name
  pub asked : IsTold (new.asked (Input 0)) name
  pub bytes : List ℕ
  pub told : IsTold (old.left (Input 0)) bytes
  pub verdict_is : IsVerdict bytes verdict
  pub has_told : HasTold bytes verdict text
  pub names : IsNamed bytes verdict named
  pub held : new.held Report ≡ old.held Report
  pub faults : (kind : Kind) → Same (old.faults kind) (new.faults kind)

-- or it wasn't
pub record HasFailed (file : Option Text) (old new : Moment) (failure : Failure) : Type 0 where
  pub usage : failure ≡ Usage → file ≡ None
  pub unsaid : file ≡ None → failure ≡ Usage
  pub asked : (name : Text) → file ≡ Some name → IsTold (new.asked (Input 0)) name
  pub held : new.held Report ≡ old.held Report
  pub cause : (kind : Kind) (stream : Stream) → IsFaultOf failure kind stream → Rose (old.faults kind stream) (new.faults kind stream)
  pub others : (kind : Kind) (stream : Stream) → (IsFaultOf failure kind stream → ⊥) → new.faults kind stream ≡ old.faults kind stream
  pub not_report : failure ≢ Unwritten

-- the file was read to its end, or as far as its verdict needs, and nothing failed
pub record HasBytes (old new : Moment) (checked : Checked) (found : Option Finding) : Type 0 where
  pub bytes : List ℕ
  pub told : IsTold (old.left (Input 0)) bytes
  pub settles : Settles checked bytes found
  pub held : new.held Report ≡ old.held Report
  pub faults : (kind : Kind) → Same (old.faults kind) (new.faults kind)

-- or it wasn't
pub record HasNone (old new : Moment) (failure : Failure) : Type 0 where
  pub held : new.held Report ≡ old.held Report
  pub fails : FailsReading old.faults new.faults failure

abbrev pub HasRead : Moment → Moment → Checked → Result (Option Finding) Failure → Type 0
HasRead old new checked (Ok found) = HasBytes old new checked found
HasRead old new checked (Err failure) = HasNone old new failure

abbrev pub HasReadOpen : Moment → Moment → Checked → Result (Option Finding) Failure → Type 0
HasReadOpen old new checked answer = HasRead old new checked answer × Same old.asked new.asked

-- a front of an open file was read
pub record HasBegun (old new : Moment) (checked : Checked) : Type 0 where
  pub bytes : List ℕ
  pub stands : StandsFor checked bytes
  pub left : old.left (Input 0) ≡ prepend_known bytes (new.left (Input 0))
  pub is_open : new.is_open (Input 0) ≡ true
  pub asked : Same old.asked new.asked
  pub held : Same old.held new.held
  pub faults : (kind : Kind) → Same (old.faults kind) (new.faults kind)
