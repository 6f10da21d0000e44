-- How `forward` ends, and what it answers.
use Rattle.std.proofs.Common.{◌≡◌, ◌≤◌, ℕ, List, length, Option, Some, None, refl, sym, ap, ◌∙◌, subst, arith}
use Rattle.std.specs.Prelude.{Result, Err, unwrap_or}
use Rattle.xsk_io.specs.declared.bay.Kind.TheVariants.{Open, Write}
use Rattle.xsk_io.specs.declared.bay.Stream.TheVariants.{Input, Output, Report}
use Rattle.xsk_pcap.specs.declared.reading.BadCapture.TheVariants.{OutOfMemory as NoCause}
use Rattle.xsk_pcapng.specs.declared.reading.BadPcapng.TheVariants.{OutOfMemory as NoFileCause}
use Rattle.xsk_args.specs.declared.error.ArgsError.{ArgsError}
use Rattle.xsk_args.specs.declared.error.ArgsError.TheVariants.{Usage as IsUsage, OutOfMemory as ArgsMemory}
use Rattle.xsk_socket.specs.declared.layout.Unlawful.{Unlawful}
use Rattle.xsk_workers.specs.Forwarded.{OutcomeShown}
use Rattle.xsk_cli.specs.Cause.{IsCaused}
use Rattle.xsk_cli.specs.Ends.{Answers, AreTaken, AreTold, ComesOf, Ends, IsComplete, NoneRose}
use Rattle.xsk_cli.specs.Forward.{AreTextsFrom, ComesShown, EndsShown, IsAfterRun, IsRefusedAs, IsShown, IsWritten, ended_in}
use Rattle.xsk_cli.specs.Judged.{excess_of}
use Rattle.xsk_cli.specs.Outcome.{IsOutcome, Outcome, Written, sent_from, bad, long, made, passed, stalled, illegal, bad_file}
use Rattle.xsk_cli.specs.Steps.{Comes, ComesTo, HasTexts, IsBeforeRun, MakesNo, MakesNone, args_status, read_status, written_by}
use Rattle.xsk_cli.specs.declared.status.Excess.TheVariants.{Input as LongInput, Packets, Bytes}
use Rattle.xsk_io.specs.Bay.{Moment}
use Rattle.xsk_cli.specs.Streams.{Reach}
use Rattle.xsk_cli.specs.Words.{Plan, fault_in, most_of, no_plan}
use Rattle.xsk_cli.specs.declared.format.Format.TheVariants.{Pcap, Pcapng}
use Rattle.xsk_cli.specs.declared.failure.ReadFailure.{ReadFailure}
use Rattle.xsk_cli.specs.declared.failure.ReadFailure.TheVariants.{Unopened as NoInput, Unread, TooLong, OutOfMemory as NoRoom}
use Rattle.xsk_cli.specs.declared.failure.RunFailure.{RunFailure}
use Rattle.xsk_cli.specs.declared.failure.RunFailure.TheVariants.{BadCapture as Bad, TooMuch as Excessive, Stalled as Stalls, Explained, OutOfMemory as NoMemory, NotLegal as Breaks, Reasoned, BadPcapng as BadFile}
use Rattle.xsk_cli.specs.Line.{line_of}
use Rattle.xsk_cli.specs.declared.failure.Refusal.TheVariants.{Bare}
use Rattle.xsk_cli.specs.declared.threads.Ended.{Ended}
use Rattle.xsk_cli.specs.declared.words.Work.{Work}
use Rattle.xsk_cli.specs.declared.words.Work.TheVariants.{Simulate, Generate, Audit}
use Rattle.xsk_cli.specs.declared.status.Status.{Status}
use Rattle.xsk_cli.specs.declared.status.Status.TheVariants.{Done, Usage, BadCapture, ReadFault, WriteFault, OpenFault, Refused, Stalled, TooMuch, OutOfMemory, NotLegal, BadPcapng}
use Rattle.xsk_cli.proofs.Answering.{answered, completes, same_inputs_by}
use Rattle.xsk_cli.proofs.Making.{few_ports}
use Rattle.xsk_cli.proofs.Filing.{count_texts, no_check, no_file_check}
use Rattle.xsk_cli.proofs.Writing.{ends_as, none_come, tells_as}
use Rattle.xsk_cli.proofs.Unique.{bad_file_not_packets, bad_not_packets, long_not_short, none_some, same_packets}

-- ---- before any run

-- a command that ends before any run ends so by either
plain_of : (plan : Plan) (old new : Moment) (status : Status) → EndsShown None old new status plan → Ends plan old new status
plain_of plan old new status ends = ends_as (ComesShown plan.work None) (ComesOf plan.work) plan old new status (λ inputs texts is. is.1) ends

pub comes_before : (planned : Option Plan) (old new : Moment) (status : Status) → Comes planned old new (Err (Bare status)) → (IsAfterRun status → ⊥) → ComesTo (λ (work : Work). ComesShown work None) planned old new status (line_of status)
comes_before planned old new status comes before = record {
  usage = comes.usage;
  unplanned = comes.unplanned;
  refused = comes.refused;
  ends = tells_as (ComesOf (unwrap_or planned no_plan).work) (ComesShown (unwrap_or planned no_plan).work None) (unwrap_or planned no_plan) old new status (line_of status) (λ inputs texts is. (before, is)) comes.ends;
  silent = comes.silent;
  cause = comes.cause;
  falls = comes.falls;
  others = comes.others;
  uncounted = comes.uncounted;
}

pub args_before : (error : ArgsError) → IsAfterRun (args_status error) → ⊥
args_before IsUsage wrong = wrong
args_before ArgsMemory wrong = wrong

pub read_before : (failure : ReadFailure) → IsAfterRun (read_status failure) → ⊥
read_before (NoInput port) wrong = wrong
read_before (Unread port) wrong = wrong
read_before (TooLong port) wrong = wrong
read_before NoRoom wrong = wrong

-- an answer with such a status alone
pub comes_shown : (answer : Result Ended Status) (status : Status) (planned : Option Plan) (old new : Moment) → answer ≡ Err status → Comes planned old new (Err (Bare status)) → (IsAfterRun status → ⊥)
    → ComesTo (λ (work : Work). ComesShown work (ended_in answer).outcome) planned old new (ended_in answer).status (line_of (ended_in answer).status)
comes_shown answer status planned old new is comes before =
    subst (λ r. ComesTo (λ (work : Work). ComesShown work (ended_in r).outcome) planned old new (ended_in r).status (line_of (ended_in r).status)) (sym is) (comes_before planned old new status comes before)

-- ---- what is answered

refused_outcome : (work : Work) (inputs : List (List ℕ)) (outcome : Outcome) → IsRefusedAs work inputs outcome → IsOutcome work inputs outcome
refused_outcome work inputs (long port) h = h
refused_outcome work inputs (bad port cause) h = h
refused_outcome work inputs (bad_file cause) h = h
refused_outcome work inputs (passed excess) h = h
refused_outcome work inputs (stalled round told) h = absurd h
refused_outcome work inputs (made texts) h = absurd h
refused_outcome work inputs (illegal line) h = absurd h

-- inputs whose packets were run aren't refused
shown_not_refused : (work : Work) (inputs : List (List ℕ)) (o : OutcomeShown) (outcome : Outcome) → IsShown work inputs o → IsRefusedAs work inputs outcome → ⊥
shown_not_refused work inputs o (long port) is h = long_not_short (most_of work) inputs port h is.short
shown_not_refused work inputs o (bad port cause) is h = bad_not_packets work inputs port cause is.lists h.1 is.are
shown_not_refused work inputs o (bad_file cause) is h = bad_file_not_packets work inputs cause is.lists h.1 is.are
shown_not_refused work inputs o (passed excess) is h = none_some (excess_of h.1.0) excess h.1.2 (ap excess_of (same_packets work inputs h.1.0 is.lists h.1.1 is.are) ∙ is.within)
shown_not_refused work inputs o (stalled round told) is h = h
shown_not_refused work inputs o (made texts) is h = h
shown_not_refused work inputs o (illegal line) is h = h

module _ (plan : Plan) (old new : Moment) (inputs : List (List ℕ)) (told : AreTold plan inputs old) (o : OutcomeShown) (outcome : Outcome) (refused : IsRefusedAs plan.work inputs outcome) where
  none_refused : {X : Type 0} (status : Status) → (ends : EndsShown (Some o) old new status plan) → ends.reach.ends ≡ length plan.inputs → IsShown plan.work ends.inputs o → X
  none_refused status ends all is =
      absurd (shown_not_refused plan.work inputs o outcome (subst (λ i. IsShown plan.work i o) (same_inputs_by plan old new inputs told (ComesShown plan.work (Some o)) status ends all) is) refused)

  reached : (status : Status) (r : Reach) → (ends : EndsShown (Some o) old new status plan) → ends.reach ≡ r → ends.reach.ends ≡ r.ends
  reached status r ends is = ap (λ (x : Reach). x.ends) is

  answered_some : (status : Status) → EndsShown (Some o) old new status plan → Answers plan.work outcome status
  answered_some Done ends = none_refused Done ends (reached Done _ ends ends.reaches) ends.comes.is
  answered_some Usage ends = absurd ends.comes
  answered_some (BadCapture port cause) ends = absurd ends.comes
  answered_some (ReadFault port) ends = tt
  answered_some (WriteFault (Input port)) ends = absurd ends.reaches
  answered_some (WriteFault (Output port)) ends = none_refused (WriteFault (Output port)) ends (reached (WriteFault (Output port)) _ ends ends.reaches.1) ends.comes.is
  answered_some (WriteFault Report) ends = none_refused (WriteFault Report) ends (reached (WriteFault Report) _ ends ends.reaches) ends.comes.is
  answered_some (OpenFault (Input port)) ends = tt
  answered_some (OpenFault (Output port)) ends = none_refused (OpenFault (Output port)) ends (reached (OpenFault (Output port)) _ ends ends.reaches.1) ends.comes.is
  answered_some (OpenFault Report) ends = absurd ends.reaches
  answered_some (Refused unlawful) ends = absurd ends.comes
  answered_some (Stalled round) ends = absurd ends.comes
  answered_some (TooMuch excess) ends = absurd ends.comes
  answered_some OutOfMemory ends = tt
  answered_some (NotLegal line) ends = absurd ends.comes
  answered_some (BadPcapng cause) ends = absurd ends.comes

pub answered_shown : (plan : Plan) (old new : Moment) (inputs : List (List ℕ)) → AreTold plan inputs old → (shown : Option OutcomeShown) (status : Status) (outcome : Outcome) → EndsShown shown old new status plan → (status ≡ Usage → ⊥)
    → IsRefusedAs plan.work inputs outcome → Answers plan.work outcome status
answered_shown plan old new inputs told None status outcome ends words h = answered plan old new inputs told status outcome (plain_of plan old new status ends) words (refused_outcome plan.work inputs outcome h)
answered_shown plan old new inputs told (Some o) status outcome ends words h = answered_some plan old new inputs told o outcome h status ends

-- ---- completeness

completes_some : (plan : Plan) (old new : Moment) (o : OutcomeShown) (status : Status) → EndsShown (Some o) old new status plan → NoneRose old.faults new.faults → IsCaused old.faults new.faults status → IsComplete status
completes_some plan old new o Done ends none caused = tt
completes_some plan old new o Usage ends none caused = absurd ends.comes
completes_some plan old new o (BadCapture port cause) ends none caused = absurd ends.comes
completes_some plan old new o (ReadFault port) ends none caused = absurd ends.comes
completes_some plan old new o (WriteFault stream) ends none caused = none Write stream caused
completes_some plan old new o (OpenFault stream) ends none caused = none Open stream caused
completes_some plan old new o (Refused unlawful) ends none caused = absurd ends.comes
completes_some plan old new o (Stalled round) ends none caused = absurd ends.comes
completes_some plan old new o (TooMuch excess) ends none caused = absurd ends.comes
completes_some plan old new o OutOfMemory ends none caused = tt
completes_some plan old new o (NotLegal line) ends none caused = absurd ends.comes
completes_some plan old new o (BadPcapng cause) ends none caused = absurd ends.comes

pub completes_shown : (plan : Plan) (old new : Moment) (inputs : List (List ℕ)) → AreTold plan inputs old → (shown : Option OutcomeShown) (status : Status) → EndsShown shown old new status plan → (status ≡ Usage → ⊥) → fault_in plan.work ≡ None
    → AreTaken plan.work inputs → NoneRose old.faults new.faults → IsCaused old.faults new.faults status → IsComplete status
completes_shown plan old new inputs told None status ends words accepted taken none caused = completes plan old new inputs told status (plain_of plan old new status ends) words accepted taken none caused
completes_shown plan old new inputs told (Some o) status ends words accepted taken none caused = completes_some plan old new o status ends none caused

-- ---- refusals

pub refusal_shown : (plan : Plan) (old new : Moment) (shown : Option OutcomeShown) (unlawful : Unlawful) → EndsShown shown old new (Refused unlawful) plan → fault_in plan.work ≡ Some unlawful
refusal_shown plan old new None unlawful ends = ends.comes.1
refusal_shown plan old new (Some o) unlawful ends = absurd ends.comes

pub check_shown : (plan : Plan) (old new : Moment) (shown : Option OutcomeShown) (port : ℕ) → EndsShown shown old new (BadCapture port NoCause) plan → ⊥
check_shown plan old new None port ends = no_check plan.work ends.inputs port ends.comes.1.1
check_shown plan old new (Some o) port ends = ends.comes

pub check_file_shown : (plan : Plan) (old new : Moment) (shown : Option OutcomeShown) → EndsShown shown old new (BadPcapng NoFileCause) plan → ⊥
check_file_shown plan old new None ends = no_file_check plan.work ends.inputs ends.comes.1.1
check_file_shown plan old new (Some o) ends = ends.comes

-- ---- texts

-- texts that a run on threads shows come to a status that tells of texts
pub written_comes : (work : Work) (inputs : List (List ℕ)) (o : OutcomeShown) (texts : Written) → IsWritten work inputs o texts → (old : Moment) (status : Status) → HasTexts status → ComesShown work (Some o) inputs texts old status
written_comes work inputs o texts is old Done has = is
written_comes work inputs o texts is old (WriteFault stream) has = is
written_comes work inputs o texts is old (OpenFault (Output port)) has = is
written_comes work inputs o texts is old (OpenFault (Input port)) has = absurd has
written_comes work inputs o texts is old (OpenFault Report) has = absurd has
written_comes work inputs o texts is old Usage has = absurd has
written_comes work inputs o texts is old (BadCapture port cause) has = absurd has
written_comes work inputs o texts is old (ReadFault port) has = absurd has
written_comes work inputs o texts is old (Refused unlawful) has = absurd has
written_comes work inputs o texts is old (Stalled round) has = absurd has
written_comes work inputs o texts is old (TooMuch excess) has = absurd has
written_comes work inputs o texts is old OutOfMemory has = absurd has
written_comes work inputs o texts is old (NotLegal line) has = absurd has
written_comes work inputs o texts is old (BadPcapng cause) has = absurd has

-- there is a text for each port
pub shown_count : (work : Work) (lists : List (List (List ℕ))) (o : OutcomeShown) (texts : Written) → AreTextsFrom work lists o texts → length texts.outputs ≡ written_by work
shown_count (Simulate layout programs wire manner order number telling format) lists o texts are = ap length are.sent ∙ count_texts format (sent_from layout programs lists o.history) layout.ports
shown_count (Generate number) lists o texts are = absurd are
shown_count (Audit layout why) lists o texts are = absurd are

-- for few ports
pub few_written : (work : Work) → fault_in work ≡ None → written_by work ≤ 4
few_written (Simulate layout programs wire manner order number telling Pcap) accepted = few_ports layout accepted
few_written (Simulate layout programs wire manner order number telling Pcapng) accepted = omega arith
few_written (Generate number) accepted = omega arith
few_written (Audit layout why) accepted = omega arith

-- ---- what a run on threads comes to

-- why there was no run
pub none_come_shown : (work : Work) (inputs : List (List ℕ)) (failure : RunFailure) → MakesNone work inputs failure → IsBeforeRun failure → MakesNo (ComesShown work None inputs) failure
none_come_shown work inputs (Bad port cause) h before = λ old. ((λ no. no), h)
none_come_shown work inputs (Excessive (LongInput port)) h before = none_come work inputs (Excessive (LongInput port)) h
none_come_shown work inputs (Excessive (Packets n)) h before = λ old. ((λ no. no), h)
none_come_shown work inputs (Excessive (Bytes n)) h before = λ old. ((λ no. no), h)
none_come_shown work inputs (Stalls round) h before = absurd before
none_come_shown work inputs (Explained round text) h before = absurd before
none_come_shown work inputs NoMemory h before = λ old. ((λ no. no), tt)
none_come_shown work inputs (Breaks line) h before = λ old. ((λ no. no), h)
none_come_shown work inputs (Reasoned line text) h before = (h.0, h.2, λ old. ((λ no. no), h.1))
none_come_shown work inputs (BadFile cause) h before = λ old. ((λ no. no), h)

-- no memory for the run, or for its texts
pub ran_out_shown : (work : Work) (inputs : List (List ℕ)) (shown : Option OutcomeShown) → ((o : OutcomeShown) → shown ≡ Some o → IsShown work inputs o) → MakesNo (ComesShown work shown inputs) NoMemory
ran_out_shown work inputs None each = λ old. ((λ no. no), tt)
ran_out_shown work inputs (Some o) each = λ old. each o refl
