-- How a command ends once its inputs were read.
use Rattle.std.proofs.Common.{◌≡◌, ℕ, ◌+◌, Bool, cond, ltb, true, false, Option, Some, None, List, [], ◌++◌, length, get_or, refl, sym, ap, ◌∙◌, subst, arith, append-nil}
use Rattle.std.specs.Prelude.{◌≢◌}
use Rattle.std.specs.Io.KnownBytes.{IsAtEnd}
use Rattle.xsk_io.specs.Bay.{Adds, AddsNoneBut, Grows, GrowsByPart, IsOffered, Same, SameBut, Moment}
use Rattle.xsk_io.specs.declared.bay.Stream.{Stream}
use Rattle.xsk_io.specs.declared.bay.Stream.TheVariants.{Input, Output, Report}
use Rattle.xsk_io.proofs.Steps.{Adds-then, IsOffered-later}
use Rattle.xsk_cli.specs.Ends.{ComesOf, EndsBy, TellsBy, behind}
use Rattle.xsk_cli.specs.Line.{line_of}
use Rattle.xsk_cli.specs.Judged.{AreShort, packets_in, bytes_in, excess_of}
use Rattle.xsk_cli.specs.declared.status.Excess.{Excess}
use Rattle.xsk_cli.specs.Outcome.{Written, made, IsOutcome, AreTextsBy, capture_of, sent_from}
use Rattle.xsk_cli.specs.Streams.{IsTold, IsFront, at_output, at_input, Reaches, AreRead, AreWritten, HasLine, IsReported, IsSilent, name_of, refusal_status, refusal_text}
use Rattle.xsk_cli.specs.Steps.{AreFor, FailsWriting, HasTexts, HaveRead, MakesNo, MakesNone, no_texts, read_by, run_refusal, told_alone, write_status, written_by}
use Rattle.xsk_cli.specs.declared.words.Work.{Work}
use Rattle.xsk_cli.specs.declared.words.Work.TheVariants.{Simulate, Generate, Audit}
use Rattle.std.proofs.lemmas.List.{length-map}
use Rattle.xsk_cli.specs.Words.{Plan, most_of, ports_in}
use Rattle.xsk_cli.specs.declared.failure.RunFailure.{RunFailure}
use Rattle.xsk_cli.specs.declared.failure.RunFailure.TheVariants.{BadCapture as Bad, TooMuch as Excessive, Stalled as Stalls, Explained, OutOfMemory as NoMemory, NotLegal as Breaks, Reasoned, BadPcapng as BadFile}
use Rattle.xsk_cli.specs.declared.failure.WriteFailure.{WriteFailure}
use Rattle.xsk_cli.specs.declared.failure.WriteFailure.TheVariants.{Unopened, Unwritten}
use Rattle.xsk_cli.specs.declared.status.Excess.TheVariants.{Input as LongInput, Packets, Bytes}
use Rattle.xsk_cli.specs.declared.status.Status.{Status}
use Rattle.xsk_cli.specs.declared.status.Status.TheVariants.{Done, Usage, BadCapture, ReadFault, WriteFault, OpenFault, Refused, Stalled, TooMuch, OutOfMemory, NotLegal, BadPcapng}
use Rattle.xsk_cli.proofs.Filing.{count_texts}
use Rattle.xsk_cli.proofs.Reading.{none_written}

-- the outputs are as they were
pub still_written : (names texts : List (List ℕ)) (opened whole : ℕ) (old mid new : Moment) → AreWritten names texts opened whole old mid → Same mid.is_open new.is_open → Same mid.asked new.asked
    → ((port : ℕ) → new.held (Output port) ≡ mid.held (Output port)) → ((port : ℕ) → Adds (mid.offers (Output port)) (new.offers (Output port)) []) → AreWritten names texts opened whole old new
still_written names texts opened whole old mid new are opened_same asked held none = record {
  open_now = λ port. opened_same (Output port) ∙ are.open_now port;
  asked = λ port h. subst (λ a. IsTold a (get_or names port [])) (sym (asked (Output port))) (are.asked port h);
  wholes = λ port h. subst (λ a. IsTold a (get_or texts port [])) (sym (held port)) (are.wholes port h);
  fronts = λ port h l. subst (λ a. IsFront a (get_or texts port [])) (sym (held port)) (are.fronts port h l);
  later = λ port h. held port ∙ are.later port h;
  offered = λ port h. IsOffered-later _ _ _ _ (are.offered port h) (none port);
  unoffered = λ port h. Adds-then _ _ _ [] [] (are.unoffered port h) (none port);
}

-- ---- the whole command

-- inputs that were read for a plan that is ready are as its work wants them
pub inputs_for : (plan : Plan) (bytes : List (List ℕ)) (number : ℕ) (old mid : Moment) → HaveRead (most_of plan.work) plan.inputs bytes (length plan.inputs) old mid
    → length bytes ≡ number → length plan.inputs ≡ read_by plan.work → AreFor plan.work bytes number
inputs_for plan bytes number old mid have is ready = record {
  count = sym is ∙ have.count_is ∙ ready;
  short = subst (AreShort (most_of plan.work) bytes) (sym have.count_is ∙ is) have.short;
}

-- the inputs' part of a moment
pub record SameInputs (old new : Moment) : Type 0 where
  pub opened : (port : ℕ) → new.is_open (Input port) ≡ old.is_open (Input port)
  pub asked : (port : ℕ) → new.asked (Input port) ≡ old.asked (Input port)
  pub left : (port : ℕ) → new.left (Input port) ≡ old.left (Input port)

pub read_still : (names bytes : List (List ℕ)) (opened ended : ℕ) (old mid new : Moment) → AreRead names bytes opened ended old mid → SameInputs mid new → AreRead names bytes opened ended old new
read_still names bytes opened ended old mid new are same = record {
  open_now = λ port. same.opened port ∙ are.open_now port;
  asked = λ port h. subst (λ a. IsTold a (get_or names port [])) (sym (same.asked port)) (are.asked port h);
  at_end = λ port h. subst IsAtEnd (sym (same.left port)) (are.at_end port h);
  all = are.all;
  later = λ port h. same.left port ∙ are.later port h;
}

written_since : (names texts : List (List ℕ)) (opened whole : ℕ) (old mid new : Moment) → AreWritten names texts opened whole mid new → ((port : ℕ) → mid.held (Output port) ≡ old.held (Output port))
    → Same old.offers mid.offers → AreWritten names texts opened whole old new
written_since names texts opened whole old mid new are same none = record {
  open_now = are.open_now;
  asked = are.asked;
  wholes = are.wholes;
  fronts = are.fronts;
  later = λ port h. are.later port h ∙ same port;
  offered = λ port h. subst (λ o. IsOffered o (new.offers (Output port)) (length (get_or texts port []))) (none (Output port)) (are.offered port h);
  unoffered = λ port h. subst (λ o. Adds o (new.offers (Output port)) []) (none (Output port)) (are.unoffered port h);
}

-- no limit of all inputs is that of one input
no_long_in : (a b : Bool) (n m port : ℕ) → ◌≡◌ {A = Option Excess} (cond a (Some (Packets n)) (cond b (Some (Bytes m)) None)) (Some (LongInput port)) → ⊥
no_long_in true b n m port e = cc
no_long_in false true n m port e = cc
no_long_in false false n m port e = cc

no_long : (lists : List (List (List ℕ))) (port : ℕ) → excess_of lists ≡ Some (LongInput port) → ⊥
no_long lists port h = no_long_in (ltb 65536 (packets_in lists)) (ltb 33554432 (bytes_in lists)) (packets_in lists) (bytes_in lists) port h

module _ (plan : Plan) (bytes : List (List ℕ)) (old mid new : Moment) (have : HaveRead (most_of plan.work) plan.inputs bytes (length plan.inputs) old mid) where
  -- no texts were made, whatever it comes of, and this is told behind its line
  refused_with : (told : List ℕ) (Comes : List (List ℕ) → Written → Moment → Status → Type 0) (status : Status) → Reaches (length plan.inputs) (length plan.outputs) status (at_input (length plan.inputs) (length plan.inputs)) → IsReported told status old mid
      → ((stream : Stream) → status ≡ OpenFault stream → ⊥) → Comes bytes (told_alone told) old status → line_of status ++ told ≡ line_of status ++ behind status (told_alone told) → TellsBy Comes plan old mid status (line_of status ++ told)
  refused_with told Comes status reaches reported other comes same = (
    record {
      inputs = bytes;
      texts = told_alone told;
      reach = at_input (length plan.inputs) (length plan.inputs);
      reaches = reaches;
      count = have.count_is;
      short = have.short;
      reads = have.reads;
      writes = none_written plan.outputs [] old mid have.outputs have.held have.offers;
      reported = reported;
      asked = λ stream e. absurd (other stream e);
      comes = comes;
    },
    same,
  )

  -- and nothing is
  refused_by : (Comes : List (List ℕ) → Written → Moment → Status → Type 0) (status : Status) → Reaches (length plan.inputs) (length plan.outputs) status (at_input (length plan.inputs) (length plan.inputs)) → IsReported [] status old mid
      → ((stream : Stream) → status ≡ OpenFault stream → ⊥) → Comes bytes no_texts old status → behind status no_texts ≡ [] → TellsBy Comes plan old mid status (line_of status)
  refused_by Comes status reaches reported other comes none =
      subst (TellsBy Comes plan old mid status) (append-nil (line_of status))
      (refused_with [] Comes status reaches reported other comes (ap (λ told. line_of status ++ told) (sym none)))

  pub ran_out_by : (Comes : List (List ℕ) → Written → Moment → Status → Type 0) → Comes bytes no_texts old OutOfMemory → TellsBy Comes plan old mid OutOfMemory (line_of OutOfMemory)
  ran_out_by Comes comes = refused_by Comes OutOfMemory (record { known = omega arith; ends = omega arith; last = omega arith; outputs = refl; wholes = refl }) tt (λ stream e. cc) comes refl

  pub unmade_by : (Comes : List (List ℕ) → Written → Moment → Status → Type 0) (failure : RunFailure) → MakesNo (Comes bytes) failure
      → TellsBy Comes plan old mid (refusal_status (run_refusal failure)) (refusal_text (run_refusal failure))
  unmade_by Comes (Bad port cause) h = refused_by Comes (BadCapture port cause) refl tt (λ stream e. cc) (h old) refl
  unmade_by Comes (Excessive (LongInput port)) h = absurd h
  unmade_by Comes (Excessive (Packets n)) h = refused_by Comes (TooMuch (Packets n)) refl tt (λ stream e. cc) (h old) refl
  unmade_by Comes (Excessive (Bytes n)) h = refused_by Comes (TooMuch (Bytes n)) refl tt (λ stream e. cc) (h old) refl
  unmade_by Comes (Stalls round) h = refused_by Comes (Stalled round) refl tt (λ stream e. cc) (h old) refl
  unmade_by Comes (Explained round text) h =
      subst (TellsBy Comes plan old mid (Stalled round)) (sym h.1) (refused_with h.0 Comes (Stalled round) refl tt (λ stream e. cc) (h.2 old) refl)
  unmade_by Comes (Breaks line) h = refused_by Comes (NotLegal line) refl tt (λ stream e. cc) (h old) refl
  unmade_by Comes (Reasoned line text) h =
      subst (TellsBy Comes plan old mid (NotLegal line)) (sym h.1) (refused_with h.0 Comes (NotLegal line) refl tt (λ stream e. cc) (h.2 old) refl)
  unmade_by Comes NoMemory h = ran_out_by Comes (h old)
  unmade_by Comes (BadFile cause) h = refused_by Comes (BadPcapng cause) refl tt (λ stream e. cc) (h old) refl

  -- whatever it comes of
  module _ (Comes : List (List ℕ) → Written → Moment → Status → Type 0) (texts : Written) (same : SameInputs mid new) where
    wrote : (status : Status) (opened whole : ℕ) → Reaches (length plan.inputs) (length plan.outputs) status (at_output (length plan.inputs) opened whole)
        → AreWritten plan.outputs texts.outputs opened whole mid new → IsReported texts.report status old new
        → ((stream : Stream) → status ≡ OpenFault stream → IsTold (new.asked stream) (name_of plan stream)) → Comes bytes texts old status → EndsBy Comes plan old new status
    wrote status opened whole reaches writes reported asked comes = record {
      inputs = bytes;
      texts = texts;
      reach = at_output (length plan.inputs) opened whole;
      reaches = reaches;
      count = have.count_is;
      short = have.short;
      reads = read_still plan.inputs bytes (length plan.inputs) (length plan.inputs) old mid new have.reads same;
      writes = written_since plan.outputs texts.outputs opened whole old mid new writes have.held have.offers;
      reported = reported;
      asked = asked;
      comes = comes;
    }

    since_offered : IsOffered (mid.offers Report) (new.offers Report) (length texts.report) → IsOffered (old.offers Report) (new.offers Report) (length texts.report)
    since_offered offered = subst (λ o. IsOffered o (new.offers Report) (length texts.report)) (have.offers Report) offered

    pub done_by : Comes bytes texts old Done → AreWritten plan.outputs texts.outputs (length plan.outputs) (length plan.outputs) mid new → Grows (mid.held Report) (new.held Report) texts.report
        → IsOffered (mid.offers Report) (new.offers Report) (length texts.report) → EndsBy Comes plan old new Done
    done_by is writes grown offered =
        wrote Done (length plan.outputs) (length plan.outputs) refl writes (subst (λ m. Grows m (new.held Report) texts.report) have.report grown, since_offered offered) (λ stream e. absurd (cc)) is

    pub unwritten_by : ((stream : Stream) → Comes bytes texts old (WriteFault stream)) → ((port : ℕ) → Comes bytes texts old (OpenFault (Output port))) → (failure : WriteFailure) → FailsWriting plan.outputs texts mid new failure
        → EndsBy Comes plan old new (write_status failure)
    unwritten_by written opened (Unopened port) h =
        wrote (OpenFault (Output port)) port port (h.0.0, refl) h.0.1 tt
        (λ stream e. subst (λ s. IsTold (new.asked s) (name_of plan s)) (let i : Output port ≡ stream = cc in i) h.0.2) (opened port)
    unwritten_by written opened (Unwritten (Input port)) h = absurd h.0
    unwritten_by written opened (Unwritten (Output port)) h =
        wrote (WriteFault (Output port)) (port + 1) port (h.0.0, refl) h.0.1 (h.1.0 ∙ have.report, subst (λ o. Adds o (new.offers Report) []) (have.offers Report) h.1.1) (λ stream e. absurd (cc)) (written (Output port))
    unwritten_by written opened (Unwritten Report) h =
        wrote (WriteFault Report) (length plan.outputs) (length plan.outputs) refl h.0 (subst (λ m. GrowsByPart m (new.held Report) texts.report) have.report h.1, since_offered h.2) (λ stream e. absurd (cc)) (written Report)

-- ---- what a work comes to

-- texts that are those of inputs
pub texts_come : (work : Work) (inputs : List (List ℕ)) (texts : Written) → IsOutcome work inputs (made texts) → (old : Moment) (status : Status) → HasTexts status → ComesOf work inputs texts old status
texts_come work inputs texts is old Done has = is
texts_come work inputs texts is old (WriteFault stream) has = is
texts_come work inputs texts is old (OpenFault (Output port)) has = is
texts_come work inputs texts is old (OpenFault (Input port)) has = absurd has
texts_come work inputs texts is old (OpenFault Report) has = absurd has
texts_come work inputs texts is old Usage has = absurd has
texts_come work inputs texts is old (BadCapture port cause) has = absurd has
texts_come work inputs texts is old (ReadFault port) has = absurd has
texts_come work inputs texts is old (Refused unlawful) has = absurd has
texts_come work inputs texts is old (Stalled round) has = absurd has
texts_come work inputs texts is old (TooMuch excess) has = absurd has
texts_come work inputs texts is old OutOfMemory has = absurd has
texts_come work inputs texts is old (NotLegal line) has = absurd has
texts_come work inputs texts is old (BadPcapng cause) has = absurd has

-- why they have none
pub none_come : (work : Work) (inputs : List (List ℕ)) (failure : RunFailure) → MakesNone work inputs failure → MakesNo (ComesOf work inputs) failure
none_come work inputs (Bad port cause) h = λ old. h
none_come work inputs (Excessive (LongInput port)) h = no_long h.1.0 port h.1.2
none_come work inputs (Excessive (Packets n)) h = λ old. h
none_come work inputs (Excessive (Bytes n)) h = λ old. h
none_come work inputs (Stalls round) h = λ old. h
none_come work inputs (Explained round text) h = (h.0, h.2, λ old. h.1)
none_come work inputs NoMemory h = λ old. tt
none_come work inputs (Breaks line) h = λ old. h
none_come work inputs (Reasoned line text) h = (h.0, h.2, λ old. h.1)
none_come work inputs (BadFile cause) h = λ old. h

-- ---- and then the line of a refusal, which changes the report alone

pub silent_then : (old mid new : Moment) → IsSilent old mid → IsSilent mid new → IsSilent old new
silent_then old mid new first second = (second.0 ∙ first.0, Adds-then _ _ _ [] [] first.1 second.1)

reported_still : (text : List ℕ) (old mid new : Moment) (status : Status) → IsReported text status old mid → ((HasLine status → ⊥) → IsSilent mid new) → IsReported text status old new
reported_still text old mid new Done is silent =
    (subst (λ h. Grows (old.held Report) h text) (sym (silent (λ no. no)).0) is.0, IsOffered-later _ _ _ _ is.1 (silent (λ no. no)).1)
reported_still text old mid new (WriteFault Report) is silent =
    (subst (λ h. GrowsByPart (old.held Report) h text) (sym (silent (λ no. no)).0) is.0, IsOffered-later _ _ _ _ is.1 (silent (λ no. no)).1)
reported_still text old mid new (WriteFault (Input port)) is silent = silent_then old mid new is (silent (λ no. no))
reported_still text old mid new (WriteFault (Output port)) is silent = silent_then old mid new is (silent (λ no. no))
reported_still text old mid new Usage is silent = tt
reported_still text old mid new (BadCapture port cause) is silent = tt
reported_still text old mid new (ReadFault port) is silent = tt
reported_still text old mid new (OpenFault stream) is silent = tt
reported_still text old mid new (Refused unlawful) is silent = tt
reported_still text old mid new (Stalled round) is silent = tt
reported_still text old mid new (NotLegal line) is silent = tt
reported_still text old mid new (TooMuch excess) is silent = tt
reported_still text old mid new OutOfMemory is silent = tt
reported_still text old mid new (BadPcapng cause) is silent = tt

output_is_no_report : (port : ℕ) → Output port ≢ Report
output_is_no_report port e = cc

pub told_by : (Comes : List (List ℕ) → Written → Moment → Status → Type 0) (plan : Plan) (old mid new : Moment) (status : Status) → EndsBy Comes plan old mid status → Same mid.is_open new.is_open → Same mid.asked new.asked → Same mid.left new.left → SameBut Report mid.held new.held
    → AddsNoneBut Report mid.offers new.offers → ((HasLine status → ⊥) → IsSilent mid new) → EndsBy Comes plan old new status
told_by Comes plan old mid new status ends opened asked left held offers silent = record {
  inputs = ends.inputs;
  texts = ends.texts;
  reach = ends.reach;
  reaches = ends.reaches;
  count = ends.count;
  short = ends.short;
  reads = read_still plan.inputs ends.inputs ends.reach.inputs ends.reach.ends old mid new ends.reads
      (record { opened = λ port. opened (Input port); asked = λ port. asked (Input port); left = λ port. left (Input port) });
  writes = still_written plan.outputs ends.texts.outputs ends.reach.outputs ends.reach.wholes old mid new ends.writes opened asked
      (λ port. held (Output port) (output_is_no_report port)) (λ port. offers (Output port) (output_is_no_report port));
  reported = reported_still ends.texts.report old mid new status ends.reported silent;
  asked = λ stream e. subst (λ a. IsTold a (name_of plan stream)) (sym (asked stream)) (ends.asked stream e);
  comes = ends.comes;
}

-- with the same text
pub told_with : (Comes : List (List ℕ) → Written → Moment → Status → Type 0) (plan : Plan) (old mid new : Moment) (status : Status) (text : List ℕ) → TellsBy Comes plan old mid status text → Same mid.is_open new.is_open → Same mid.asked new.asked
    → Same mid.left new.left → SameBut Report mid.held new.held → AddsNoneBut Report mid.offers new.offers → ((HasLine status → ⊥) → IsSilent mid new) → TellsBy Comes plan old new status text
unfolding told_by
told_with Comes plan old mid new status text tells opened asked left held offers silent = (told_by Comes plan old mid new status tells.0 opened asked left held offers silent, tells.1)

-- what ends so ends as what it comes to as well
pub ends_as : (Comes Others : List (List ℕ) → Written → Moment → Status → Type 0) (plan : Plan) (old new : Moment) (status : Status) → ((inputs : List (List ℕ)) (texts : Written) → Comes inputs texts old status → Others inputs texts old status)
    → EndsBy Comes plan old new status → EndsBy Others plan old new status
ends_as Comes Others plan old new status says ends = record {
  inputs = ends.inputs;
  texts = ends.texts;
  reach = ends.reach;
  reaches = ends.reaches;
  count = ends.count;
  short = ends.short;
  reads = ends.reads;
  writes = ends.writes;
  reported = ends.reported;
  asked = ends.asked;
  comes = says ends.inputs ends.texts ends.comes;
}

pub tells_as : (Comes Others : List (List ℕ) → Written → Moment → Status → Type 0) (plan : Plan) (old new : Moment) (status : Status) (text : List ℕ) → ((inputs : List (List ℕ)) (texts : Written) → Comes inputs texts old status → Others inputs texts old status)
    → TellsBy Comes plan old new status text → TellsBy Others plan old new status text
unfolding ends_as
tells_as Comes Others plan old new status text says tells = (ends_as Comes Others plan old new status says tells.0, tells.1)

-- there is a text for each port
pub texts_count : (work : Work) (lists : List (List (List ℕ))) (texts : Written) → AreTextsBy work lists texts → length lists ≡ ports_in work → length texts.outputs ≡ written_by work
texts_count (Simulate layout programs wire manner order number telling format) lists texts are count = ap length are.are.sent ∙ count_texts format (sent_from layout programs lists are.ended.history) layout.ports
texts_count (Generate number) lists texts are count = ap length are.0 ∙ length-map lists capture_of ∙ count
texts_count (Audit layout why) lists texts are count = absurd are
