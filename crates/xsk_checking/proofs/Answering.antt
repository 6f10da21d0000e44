-- What a check answers: what was read and judged, and then what is told.
use Rattle.std.proofs.Common.{◌≡◌, ℕ, Option, Some, None, List, [], ◌++◌, inl, inr, refl, sym, ap, ◌∙◌, subst, append-nil}
use Rattle.std.specs.Prelude.{Result, Ok, Err, IfOk, OnOk, OnErr}
use Rattle.xsk_args.specs.Words.{Text}
use Rattle.xsk_io.specs.Bay.{CountsOnly, Grows, GrowsByPart, Moment, Rose, Same}
use Rattle.xsk_io.specs.declared.bay.BayFailed.{BayFailed}
use Rattle.xsk_io.specs.declared.bay.Kind.{Kind}
use Rattle.xsk_io.specs.declared.bay.Kind.TheVariants.{Write}
use Rattle.xsk_io.specs.declared.bay.Stream.{Stream}
use Rattle.xsk_io.specs.declared.bay.Stream.TheVariants.{Input, Report}
use Rattle.xsk_recording.specs.Verdict.{IsAtEnd, IsVerdict}
use Rattle.xsk_recording.specs.declared.verdict.Verdict.{Verdict}
use Rattle.xsk_recording.specs.declared.verdict.Verdict.TheVariants as a_verdict
use Rattle.xsk_checking.specs.Ending.{verdict_text, line_of, IsTold, IsFaultOf, IsBehind, HasTold, MayFollow, GotText, IsReported, Comes, Ends, IsAnswer, Settles, HasBytes, HasJudged, HasFailed}
use Rattle.xsk_check.specs.Checking.{AreHints, Checked, StandsFor, IsFound, IsBlamed}
use Rattle.xsk_check.specs.Naming.{IsNamed, named_of}
use Rattle.xsk_check.specs.declared.finding.Blame.{Blame}
use Rattle.xsk_check.specs.declared.finding.Finding.{Finding}
use Rattle.xsk_checking.specs.declared.checking.Report.{Report as Told}
use Rattle.xsk_checking.specs.declared.end.End.{End}
use Rattle.xsk_checking.specs.declared.end.End.TheVariants.{Judged, Failed}
use Rattle.xsk_checking.specs.declared.end.Failure.{Failure}
use Rattle.xsk_checking.specs.declared.end.Failure.TheVariants.{Usage, Unopened, Unread, Unwritten, OutOfMemory}
use Rattle.xsk_checking.proofs.Faults.{but-its-own}

-- ---- the report

pub got-by : (answer : Result Unit BayFailed) (text : List ℕ) (old new : Moment) → OnOk answer (Grows (old.held Report) (new.held Report) text)
    → OnErr answer (GrowsByPart (old.held Report) (new.held Report) text) → OnErr answer (Rose (old.faults Write Report) (new.faults Write Report)) → GotText text old new
got-by (Ok done) text old new whole part cause = inl whole
got-by (Err failed) text old new whole part cause = inr (part, cause)

-- where the report and its faults were as before
got-earlier : (text : List ℕ) (old mid new : Moment) → mid.held Report ≡ old.held Report → mid.faults Write Report ≡ old.faults Write Report → GotText text mid new → GotText text old new
got-earlier text old mid new held faults (inl whole) = inl (subst (λ h. Grows h (new.held Report) text) held whole)
got-earlier text old mid new held faults (inr part) =
    inr (subst (λ h. GrowsByPart h (new.held Report) text) held part.0, subst (λ n. Rose n (new.faults Write Report)) faults part.1)

reported-earlier : (verdict : Verdict) (text : List ℕ) (old mid new : Moment) → mid.held Report ≡ old.held Report → mid.faults Write Report ≡ old.faults Write Report
    → IsReported verdict text mid new → IsReported verdict text old new
reported-earlier a_verdict.Empty text old mid new held faults is = got-earlier text old mid new held faults is
reported-earlier a_verdict.NoCalls text old mid new held faults is = got-earlier text old mid new held faults is
reported-earlier (a_verdict.Possible calls) text old mid new held faults is = subst (λ h. Grows h (new.held Report) text) held is
reported-earlier (a_verdict.NotPossible line) text old mid new held faults is = got-earlier text old mid new held faults is
reported-earlier (a_verdict.NoRecording line) text old mid new held faults is = got-earlier text old mid new held faults is
reported-earlier (a_verdict.NoSetting line error) text old mid new held faults is = got-earlier text old mid new held faults is

-- ---- what stands behind the line

-- of what is found before the end
behind-blamed : (bytes : List ℕ) (verdict : Verdict) (blame : Option Blame) (behind : List ℕ) → IsBlamed bytes verdict blame → MayFollow verdict behind
    → IsBehind bytes verdict behind
behind-blamed bytes a_verdict.Empty blame behind is may = absurd is
behind-blamed bytes a_verdict.NoCalls blame behind is may = absurd is
behind-blamed bytes (a_verdict.Possible calls) blame behind is may = absurd is
behind-blamed bytes (a_verdict.NotPossible line) blame behind is may = may
behind-blamed bytes (a_verdict.NoRecording line) blame behind is may = may
behind-blamed bytes (a_verdict.NoSetting line error) blame behind is may = may

pub told-found : (bytes : List ℕ) (finding : Finding) (text : List ℕ) → IsFound bytes finding
    → (behind : List ℕ) × MayFollow finding.verdict behind × (text ≡ verdict_text finding.verdict ++ behind) → HasTold bytes finding.verdict text
told-found bytes finding text is told =
    record { behind = told.0; text_is = told.2; is = behind-blamed bytes finding.verdict finding.blame told.0 is.1 told.1 }

-- nothing stands behind another verdict's line
pub nothing-follows : (verdict : Verdict) → MayFollow verdict []
nothing-follows a_verdict.Empty = refl
nothing-follows a_verdict.NoCalls = refl
nothing-follows (a_verdict.Possible calls) = refl
nothing-follows (a_verdict.NotPossible line) = tt
nothing-follows (a_verdict.NoRecording line) = refl
nothing-follows (a_verdict.NoSetting line error) = refl

pub nothing-behind : (bytes : List ℕ) (verdict : Verdict) → ((calls : ℕ) → verdict ≡ a_verdict.Possible calls → ⊥) → IsBehind bytes verdict []
nothing-behind bytes a_verdict.Empty other = refl
nothing-behind bytes a_verdict.NoCalls other = refl
nothing-behind bytes (a_verdict.Possible calls) other = absurd (other calls refl)
nothing-behind bytes (a_verdict.NotPossible line) other = tt
nothing-behind bytes (a_verdict.NoRecording line) other = refl
nothing-behind bytes (a_verdict.NoSetting line error) other = refl

pub told-alone : (bytes : List ℕ) (verdict : Verdict) (text : List ℕ) → IsBehind bytes verdict [] → text ≡ verdict_text verdict → HasTold bytes verdict text
told-alone bytes verdict text is text_is = record { behind = []; text_is = text_is ∙ sym (append-nil (verdict_text verdict)); is = is }

-- the hints behind that of a possible recording
pub told-hints : (bytes : List ℕ) (verdict : Verdict) (calls : ℕ) (line text : List ℕ) → verdict ≡ a_verdict.Possible calls → line ≡ verdict_text verdict
    → IsVerdict bytes verdict → (IsVerdict bytes (a_verdict.Possible calls) → (hints : List ℕ) × AreHints bytes hints × (text ≡ line ++ hints)) → HasTold bytes verdict text
told-hints bytes verdict calls line text possible line_is is told =
    let put = told (subst (IsVerdict bytes) possible is) in
    record {
      behind = put.0;
      text_is = put.2 ∙ ap (λ (l : List ℕ). l ++ put.0) line_is;
      is = subst (λ v. IsBehind bytes v put.0) (sym possible) put.1;
    }

-- ---- the line that is named

-- of what is found before the end
named-blamed : (bytes : List ℕ) (verdict : Verdict) (blame : Option Blame) (named : Option ℕ) → IsBlamed bytes verdict blame → named ≡ named_of verdict blame
    → IsNamed bytes verdict named
named-blamed bytes a_verdict.Empty blame named is so = absurd is
named-blamed bytes a_verdict.NoCalls blame named is so = absurd is
named-blamed bytes (a_verdict.Possible calls) blame named is so = absurd is
named-blamed bytes (a_verdict.NotPossible line) None named is so = absurd is
named-blamed bytes (a_verdict.NotPossible line) (Some blame) named is so = (blame, is, so)
named-blamed bytes (a_verdict.NoRecording line) blame named is so = so
named-blamed bytes (a_verdict.NoSetting line error) blame named is so = so

-- and at it
named-late : (bytes : List ℕ) (verdict : Verdict) (named : Option ℕ) → IsAtEnd verdict → named ≡ None → IsNamed bytes verdict named
named-late bytes a_verdict.Empty named late none = none
named-late bytes a_verdict.NoCalls named late none = none
named-late bytes (a_verdict.Possible calls) named late none = none
named-late bytes (a_verdict.NotPossible line) named late none = absurd late
named-late bytes (a_verdict.NoRecording line) named late none = none
named-late bytes (a_verdict.NoSetting line error) named late none = absurd late

pub named-on : (checked : Checked) (found : Option Finding) (finding : Finding) (answer : Result Told Failure) → found ≡ Some finding
    → IfOk answer (λ report. report.verdict ≡ finding.verdict) → IfOk answer (λ report. report.named ≡ named_of finding.verdict finding.blame)
    → IfOk answer (λ report. (bytes : List ℕ) → Settles checked bytes found → IsNamed bytes report.verdict report.named)
named-on checked found finding (Ok report) is verdict named = λ bytes settles.
    let here : IsFound bytes finding = subst (Settles checked bytes) is settles in
    subst (λ v. IsNamed bytes v report.named) (sym verdict) (named-blamed bytes finding.verdict finding.blame report.named here.1 named)
named-on checked found finding (Err failure) is verdict named = tt

pub named-at-end : (checked : Checked) (found : Option Finding) (verdict : Verdict) (answer : Result Told Failure) → IsAtEnd verdict
    → IfOk answer (λ report. report.verdict ≡ verdict) → IfOk answer (λ report. report.named ≡ None)
    → IfOk answer (λ report. (bytes : List ℕ) → Settles checked bytes found → IsNamed bytes report.verdict report.named)
named-at-end checked found verdict (Ok report) late same named = λ bytes settles.
    subst (λ v. IsNamed bytes v report.named) (sym same) (named-late bytes verdict report.named late named)
named-at-end checked found verdict (Err failure) late same named = tt

-- ---- what is told of a file

pub told-on : (checked : Checked) (found : Option Finding) (finding : Finding) (answer : Result Told Failure) → found ≡ Some finding
    → IfOk answer (λ report. report.verdict ≡ finding.verdict)
    → IfOk answer (λ report. (behind : List ℕ) × MayFollow finding.verdict behind × (report.text.items ≡ verdict_text finding.verdict ++ behind))
    → IfOk answer (λ report. (bytes : List ℕ) → Settles checked bytes found → HasTold bytes report.verdict report.text.items)
told-on checked found finding (Ok report) is verdict text = λ bytes settles.
    subst (λ v. HasTold bytes v report.text.items) (sym verdict) (told-found bytes finding report.text.items (subst (Settles checked bytes) is settles) text)
told-on checked found finding (Err failure) is verdict text = tt

pub told-at-end : (checked : Checked) (found : Option Finding) (verdict : Verdict) (answer : Result Told Failure) → found ≡ None
    → ((bytes : List ℕ) → StandsFor checked bytes → IsVerdict bytes verdict) → IfOk answer (λ report. report.verdict ≡ verdict)
    → IfOk answer (λ report. (bytes : List ℕ) → StandsFor checked bytes → IsVerdict bytes verdict → HasTold bytes verdict report.text.items)
    → IfOk answer (λ report. (bytes : List ℕ) → Settles checked bytes found → HasTold bytes report.verdict report.text.items)
told-at-end checked found verdict (Ok report) none is same text = λ bytes settles.
    let stands : StandsFor checked bytes = subst (Settles checked bytes) none settles in
    subst (λ v. HasTold bytes v report.text.items) (sym same) (text bytes stands (is bytes stands))
told-at-end checked found verdict (Err failure) none is same text = tt

-- ---- a verdict

pub judged-of : (file : Option Text) (old new : Moment) (name : Text) (checked : Checked) (found : Option Finding) (answer : Result Told Failure) → file ≡ Some name
    → IsTold (new.asked (Input 0)) name → HasBytes old new checked found
    → IfOk answer (λ report. (bytes : List ℕ) → Settles checked bytes found → IsVerdict bytes report.verdict)
    → IfOk answer (λ report. (bytes : List ℕ) → Settles checked bytes found → HasTold bytes report.verdict report.text.items)
    → IfOk answer (λ report. (bytes : List ℕ) → Settles checked bytes found → IsNamed bytes report.verdict report.named)
    → IfOk answer (λ report. HasJudged file old new report.verdict report.text.items report.named)
judged-of file old new name checked found (Ok report) is asked read verdict text named = record {
  name = name;
  file_is = is;
  asked = asked;
  bytes = read.bytes;
  told = read.told;
  verdict_is = verdict read.bytes read.settles;
  has_told = text read.bytes read.settles;
  names = named read.bytes read.settles;
  held = read.held;
  faults = read.faults;
}
judged-of file old new name checked found (Err failure) is asked read verdict text named = tt

same-name : (file : Option Text) (name other : Text) → file ≡ Some name → file ≡ Some other → name ≡ other
same-name file name other one two = let both : ◌≡◌ {A = Option Text} (Some name) (Some other) = sym one ∙ two in cc both

pub judged-answer : (file : Option Text) (old mid new : Moment) (verdict : Verdict) (text : List ℕ) (named : Option ℕ) (end : End)
    → HasJudged file old mid verdict text named → Comes verdict text mid new end → Same mid.asked new.asked → CountsOnly Write Report mid.faults new.faults
    → IsAnswer file old new end named
judged-answer file old mid new verdict text named (Judged told) judged comes asked counts = record {
  usage = λ e. cc e;
  unsaid = λ none. cc (sym judged.file_is ∙ none);
  ends =
      subst (λ v. Ends old new (Judged v) named) (sym comes.0) (
        judged.bytes,
        text,
        judged.told,
        judged.verdict_is,
        judged.names,
        judged.has_told,
        reported-earlier verdict text old mid new judged.held (judged.faults Write Report) comes.1,
      );
  asked = λ name is.
      subst (IsTold (new.asked (Input 0))) (same-name file judged.name name judged.file_is is) (subst (λ a. IsTold a judged.name) (sym (asked (Input 0))) judged.asked);
  cause = λ kind stream is. absurd is;
  others = λ kind stream fault report. but-its-own Write Report mid.faults new.faults counts kind stream report ∙ judged.faults kind stream;
}
judged-answer file old mid new verdict text named (Failed Usage) judged comes asked counts = cc comes.0
judged-answer file old mid new verdict text named (Failed Unopened) judged comes asked counts = cc comes.0
judged-answer file old mid new verdict text named (Failed Unread) judged comes asked counts = cc comes.0
judged-answer file old mid new verdict text named (Failed OutOfMemory) judged comes asked counts = cc comes.0
judged-answer file old mid new verdict text named (Failed Unwritten) judged comes asked counts =
    let calls = comes.1.0 in
    let is : verdict ≡ a_verdict.Possible calls = comes.1.1 in
    record {
      usage = λ e. cc e;
      unsaid = λ none. cc (sym judged.file_is ∙ none);
      ends = (
        subst (λ v. IsNamed judged.bytes v named) is judged.names,
        judged.bytes,
        text,
        calls,
        judged.told,
        subst (IsVerdict judged.bytes) is judged.verdict_is,
        subst (λ v. HasTold judged.bytes v text) is judged.has_told,
        subst (λ h. GrowsByPart h (new.held Report) text) judged.held comes.2,
      );
      asked = λ name is.
          subst (IsTold (new.asked (Input 0))) (same-name file judged.name name judged.file_is is) (subst (λ a. IsTold a judged.name) (sym (asked (Input 0))) judged.asked);
      cause = λ kind stream at.
          subst (λ k. Rose (old.faults k stream) (new.faults k stream)) (sym at.0)
          (subst (λ s. Rose (old.faults Write s) (new.faults Write s)) (sym at.1)
          (subst (λ n. Rose n (new.faults Write Report)) (judged.faults Write Report) comes.3));
      others = λ kind stream fault report. but-its-own Write Report mid.faults new.faults counts kind stream report ∙ judged.faults kind stream;
    }

-- ---- a failure

-- one that isn't of the report
failed-so : (file : Option Text) (old mid new : Moment) (failure : Failure) → HasFailed file old mid failure
    → ((kind : Kind) (stream : Stream) → IsFaultOf failure kind stream → (kind ≡ Write → ⊥)) → (GotText (line_of failure) old new → Ends old new (Failed failure) None)
    → GotText (line_of failure) mid new → Same mid.asked new.asked → CountsOnly Write Report mid.faults new.faults → IsAnswer file old new (Failed failure) None
failed-so file old mid new failure failed kinds ends got asked counts = record {
  usage = λ e. failed.usage (let is : failure ≡ Usage = cc e in is);
  unsaid = λ none. ap Failed (failed.unsaid none);
  ends = ends (got-earlier (line_of failure) old mid new failed.held (failed.others Write Report (λ is. kinds Write Report is refl)) got);
  asked = λ name is. subst (λ a. IsTold a name) (sym (asked (Input 0))) (failed.asked name is);
  cause = λ kind stream is.
      subst (λ n. Rose (old.faults kind stream) n) (sym (but-its-own Write Report mid.faults new.faults counts kind stream (λ at. kinds kind stream is at.0)))
      (failed.cause kind stream is);
  others = λ kind stream fault report. but-its-own Write Report mid.faults new.faults counts kind stream report ∙ failed.others kind stream fault;
}

pub failed-answer : (file : Option Text) (old mid new : Moment) (failure : Failure) → HasFailed file old mid failure → GotText (line_of failure) mid new
    → Same mid.asked new.asked → CountsOnly Write Report mid.faults new.faults → IsAnswer file old new (Failed failure) None
failed-answer file old mid new Usage failed got asked counts = failed-so file old mid new Usage failed (λ kind stream is e. is) (λ got. (refl, got)) got asked counts
failed-answer file old mid new Unopened failed got asked counts =
    failed-so file old mid new Unopened failed (λ kind stream is e. cc (sym is.0 ∙ e)) (λ got. (refl, got)) got asked counts
failed-answer file old mid new Unread failed got asked counts =
    failed-so file old mid new Unread failed (λ kind stream is e. cc (sym is.0 ∙ e)) (λ got. (refl, got)) got asked counts
failed-answer file old mid new Unwritten failed got asked counts = absurd (failed.not_report refl)
failed-answer file old mid new OutOfMemory failed got asked counts = failed-so file old mid new OutOfMemory failed (λ kind stream is e. is) (λ got. (refl, got)) got asked counts
