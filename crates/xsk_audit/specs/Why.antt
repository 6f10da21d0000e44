-- Why a line can't follow those before it.
use Rattle.std.specs.Prelude.{◌≡◌, ◌≢◌, ℕ, ◌+◌, ◌^◌, ◌<◌, ◌≤◌, All, Option, None, Some, List, [], ◌∷◌, ◌++◌, codes, length, map, take}
use Rattle.std.specs.Fmt.{decimal}
use Rattle.xsk_umem.specs.Frame.{Frame}
use Rattle.xsk_umem.specs.declared.batch.XdpDesc.{XdpDesc}
use Rattle.xsk_model.specs.Config.{Config}
use Rattle.xsk_model.specs.Entry.{Entry, own}
use Rattle.xsk_model.specs.History.{IsHistory}
use Rattle.xsk_model.specs.Numbers.{times}
use Rattle.xsk_model.specs.Object.{submitted}
use Rattle.xsk_model.specs.Own.{had_of}
use Rattle.xsk_model.specs.declared.call.Call.{Call as ACall}
use Rattle.xsk_legal.specs.Why.{Fails}
use Rattle.xsk_legal.specs.declared.why.Illegal.{Illegal}
use Rattle.xsk_log.specs.Line.{line_of}
use Rattle.xsk_plain.specs.Engine.{Engine}
use Rattle.xsk_plain.specs.Histories.{HasRun}
use Rattle.xsk_audit.specs.Lines.{lines_of, journal_of, report_of}
use Rattle.xsk_audit.specs.Playing.{IsPlaying, IsMadeBy}
use Rattle.xsk_audit.specs.Reading.{Said, line_at, read_call}
use Rattle.xsk_audit.specs.Reasons.{reason_text}
use Rattle.xsk_audit.specs.Shelf.{Places, HasItsFrame, needed, descs_of}
use Rattle.xsk_audit.specs.Telling.{Timed, entries, journal_line, NeverFalls, last_of, AreLegal, IsVerdict}
use Rattle.xsk_audit.specs.declared.auditing.Verdicts.TheVariants.{NotLegal}
use Rattle.xsk_audit.specs.declared.reasons.Reason.{Reason}
use Rattle.xsk_audit.specs.declared.reasons.Reason.TheVariants.{Form, Call, Frames, Reply, Round}
use Rattle.xsk_audit.specs.declared.why.Misfit.{Misfit}
use Rattle.xsk_audit.specs.declared.why.Stopped.{Stopped}
use Rattle.xsk_audit.specs.declared.why.Next.{Next}
use Rattle.xsk_audit.specs.declared.why.Next.TheVariants.{Follows, Fails as Stops}

-- ---- a call that isn't legal after a history

-- it names a frame more often than any caller has it
pub record IsLacking (c : Config) (h : List Entry) (told : ACall) : Type 0 where
  pub frame : ℕ
  pub lacks : (who : ℕ) → times frame (had_of (own who h)) < times frame (needed c.geometry (descs_of (submitted told)))

-- it names none so, and with the frames of its addresses, whole, it is a call of which a condition fails
pub record IsRefused (c : Config) (h : List Entry) (who : ℕ) (told : ACall) (why : Illegal) : Type 0 where
  pub had : IsLacking c h told → ⊥
  pub call : ACall
  pub told_is : read_call call ≡ told
  pub whole : All (HasItsFrame c.geometry) (submitted call)
  pub fails : Fails why c (own who h) who call

abbrev pub IsUnmade : Config → List Entry → ℕ → ACall → Reason → Type 0
IsUnmade c h who told Form = ⊥
IsUnmade c h who told (Call why) = IsRefused c h who told why
IsUnmade c h who told Frames = IsLacking c h told
IsUnmade c h who told Reply = ⊥
IsUnmade c h who told Round = ⊥

-- the call was made, or isn't legal and wasn't
abbrev pub Tries : Engine → Engine → Places → List Frame → List Entry → ℕ → ACall → Option Reason → Type 0
Tries old engine shelf frames h who told None = IsMadeBy engine shelf frames h who told
Tries old engine shelf frames h who told (Some reason) = IsUnmade old.config h who told reason × HasRun engine frames h

-- ---- a line after a history

-- its call can be read, with these descriptors, and isn't legal
pub record IsBarred (c : Config) (h : List Entry) (line : List ℕ) (descs : List XdpDesc) (reason : Reason) : Type 0 where
  pub said : Said
  pub says : line_at (length c.pairs) line ≡ Some said
  pub descs_are : descs ≡ descs_of (submitted said.call)
  pub unmade : IsUnmade c h said.who said.call reason

-- its call is legal and was made, and with the object's reply it is another line, whatever its round
pub record IsOther (engine : Engine) (frames : List Frame) (h : List Entry) (line right : List ℕ) : Type 0 where
  pub said : Said
  pub says : line_at (length engine.config.pairs) line ≡ Some said
  pub entry : Entry
  pub caller : entry.who ≡ said.who
  pub told : read_call entry.call ≡ said.call
  pub run : HasRun engine frames (h ++ entry ∷ [])
  pub right_is : right ≡ line_of (length engine.config.pairs) entry
  pub other : (round : ℕ) → round < 2 ^ 64 → line ≢ decimal round ++ codes " " ++ right

-- it is the line of such an entry, and its round falls
pub record IsEarlier (engine : Engine) (frames : List Frame) (h : List Entry) (least : ℕ) (line : List ℕ) : Type 0 where
  pub timed : Timed
  pub run : HasRun engine frames (h ++ timed.entry ∷ [])
  pub line_is : line ≡ journal_line (length engine.config.pairs) timed
  pub falls : timed.round < least

-- why it can't follow, and the object there: it has made the calls of the history, and the line's own where that is legal
abbrev pub IsReason : Engine → List Frame → List Entry → ℕ → List ℕ → List XdpDesc → List ℕ → Reason → Type 0
IsReason engine frames h least line descs right Form = ◌≡◌ {A = Option Said} (line_at (length engine.config.pairs) line) None × HasRun engine frames h
IsReason engine frames h least line descs right (Call why) = IsBarred engine.config h line descs (Call why) × HasRun engine frames h
IsReason engine frames h least line descs right Frames = IsBarred engine.config h line descs Frames × HasRun engine frames h
IsReason engine frames h least line descs right Reply = IsOther engine frames h line right
IsReason engine frames h least line descs right Round = IsEarlier engine frames h least line

-- it is the next one
pub record IsNext (engine : Engine) (shelf : Places) (frames : List Frame) (h : List Entry) (least : ℕ) (line : List ℕ) (round : ℕ) : Type 0 where
  pub entry : Entry
  pub playing : IsPlaying engine shelf frames (h ++ entry ∷ [])
  pub calls : engine.calls ≡ length h + 1
  pub line_is : line ≡ journal_line (length engine.config.pairs) (record { round = round; entry = entry })
  pub least_is : least ≤ round
  pub fits : round < 2 ^ 64

abbrev pub GoesOn : Engine → Places → List Frame → List Entry → ℕ → List ℕ → List XdpDesc → List ℕ → Next → Type 0
GoesOn engine shelf frames h least line descs right (Follows round) = IsNext engine shelf frames h least line round
GoesOn engine shelf frames h least line descs right (Stops reason) = IsReason engine frames h least line descs right reason

-- a line beside that of an entry
abbrev pub IsBeside : ℕ → List ℕ → List ℕ → Next → Type 0
IsBeside least line right (Follows round) = (line ≡ decimal round ++ codes " " ++ right) × (least ≤ round) × (round < 2 ^ 64)
IsBeside least line right (Stops Form) = ⊥
IsBeside least line right (Stops (Call why)) = ⊥
IsBeside least line right (Stops Frames) = ⊥
IsBeside least line right (Stops Reply) = (round : ℕ) → round < 2 ^ 64 → line ≢ decimal round ++ codes " " ++ right
IsBeside least line right (Stops Round) = (round : ℕ) × (line ≡ decimal round ++ codes " " ++ right) × (round < least)

-- ---- lines

-- the first of some lines, so many, are those of a legal history, and the next one can't follow them, for this reason
pub record StopsFor (engine : Engine) (lines : List (List ℕ)) (descs : List XdpDesc) (right : List ℕ) (n : ℕ) (reason : Reason) : Type 0 where
  pub frames : List Frame
  pub timed : List Timed
  pub legal : IsHistory engine.config frames (entries timed)
  pub rounds : NeverFalls 0 timed
  pub line : List ℕ
  pub later : List (List ℕ)
  pub lines_are : lines ≡ map (journal_line (length engine.config.pairs)) timed ++ line ∷ later
  pub count : n ≡ length timed
  pub is : IsReason engine frames (entries timed) (last_of 0 timed) line descs right reason

abbrev pub FollowsUpTo : Engine → List (List ℕ) → List XdpDesc → List ℕ → Option (ℕ × Reason) → Type 0
FollowsUpTo engine lines descs right None = AreLegal engine.config lines
FollowsUpTo engine lines descs right (Some stop) = StopsFor engine lines descs right stop.0 stop.1

-- the line of a text, counted from 1, that can't follow those before it, what is told of it, and the object there
pub record IsMisfit (engine : Engine) (text : List ℕ) (misfit : Misfit) (told : List ℕ) : Type 0 where
  pub n : ℕ
  pub line_is : misfit.line ≡ length (report_of (lines_of text)) + n + 1
  pub descs : List XdpDesc
  pub right : List ℕ
  pub stops : StopsFor engine (journal_of (lines_of text)) descs right n misfit.reason
  pub told_is : told ≡ reason_text engine.config.geometry (take (length (report_of (lines_of text)) + n) (lines_of text)) descs right misfit.reason

-- The journal of a text is that of a legal history, and nothing is told; or why a line can't follow is told behind what stood there.
abbrev pub TellsWhy : Config → List ℕ → List ℕ → List ℕ → Option Stopped → Type 0
TellsWhy c text before after None = AreLegal c (journal_of (lines_of text)) × (after ≡ before)
TellsWhy c text before after (Some stop) = (stop.object.config ≡ c) × ((told : List ℕ) × IsMisfit stop.object text stop.misfit told × (after ≡ before ++ told))

-- it is the line that the verdict tells
abbrev pub WhyIsOfVerdict : Type 0
WhyIsOfVerdict = (engine : Engine) (text : List ℕ) (misfit : Misfit) (told : List ℕ) → IsMisfit engine text misfit told → IsVerdict engine.config text (NotLegal misfit.line)
