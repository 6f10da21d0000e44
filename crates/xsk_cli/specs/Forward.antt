-- The command `forward`: the run of `simulate` by workers in threads of their own, and not in rounds. What is read, judged,
-- refused and written is as for `simulate`; the texts are those of the history that the run on threads shows.
use Rattle.std.specs.Prelude.{◌≡◌, ℕ, ◌⊎◌, codes, Bool, false, List, [], ◌∷◌, ◌++◌, length, Option, Some, None, option_and_then, unwrap_or, Result, Ok, Err}
use Rattle.std.specs.Str.{bytes_eq}
use Rattle.xsk_args.specs.Words.{Text}
use Rattle.xsk_args.specs.Meaning.{meaning}
use Rattle.xsk_io.specs.Bay.{CountsOnly, Moment}
use Rattle.xsk_io.specs.declared.bay.Kind.{Kind}
use Rattle.xsk_io.specs.declared.bay.Kind.TheVariants.{Write}
use Rattle.xsk_io.specs.declared.bay.Stream.{Stream}
use Rattle.xsk_io.specs.declared.bay.Stream.TheVariants.{Output, Report}
use Rattle.xsk_pcap.specs.declared.reading.BadCapture.TheVariants.{OutOfMemory as NoCause}
use Rattle.xsk_pcapng.specs.declared.reading.BadPcapng.TheVariants.{OutOfMemory as NoFileCause}
use Rattle.xsk_socket.specs.declared.layout.Unlawful.{Unlawful}
use Rattle.xsk_turns.specs.declared.manner.Manner.{Manner}
use Rattle.xsk_workers.specs.Forwarded.{OutcomeShown, HasForwarded}
use Rattle.xsk_cli.specs.Cause.{IsCaused, IsFault}
use Rattle.xsk_cli.specs.Ends.{Answers, AreTaken, AreTold, ComesOf, EndsBy, IsComplete, NoneRose, behind}
use Rattle.xsk_cli.specs.Judged.{AreShort, excess_of}
use Rattle.xsk_cli.specs.Line.{line_of}
use Rattle.xsk_cli.specs.Options.{of_forward}
use Rattle.xsk_cli.specs.Outcome.{AreListsOf, AreTextsIn, IsOutcome, Outcome, Written, bad, frames_of, long, made, passed, report_of, setting_of, stalled, illegal, bad_file}
use Rattle.xsk_cli.specs.Streams.{GotLine, HasLine, IsAtOnce, IsOfLine}
use Rattle.xsk_cli.specs.Words.{Plan, fault_in, most_of, no_plan, planned_by, ports_in}
use Rattle.xsk_cli.specs.declared.threads.Ended.{Ended}
use Rattle.xsk_cli.specs.declared.words.Work.{Work}
use Rattle.xsk_cli.specs.declared.words.Work.TheVariants.{Simulate, Generate, Audit}
use Rattle.xsk_cli.specs.declared.status.Status.{Status}
use Rattle.xsk_cli.specs.declared.status.Status.TheVariants.{BadCapture, BadPcapng, Done, OpenFault, OutOfMemory, Refused, Stalled, Usage, WriteFault}

-- ---- the words

abbrev pub forward_plan : List Text → Option Plan
forward_plan words = option_and_then planned_by (meaning (codes "forward") of_forward words)

abbrev pub is_forward : List Text → Bool
is_forward [] = false
is_forward (first ∷ rest) = bytes_eq first (codes "forward")

-- ---- the run

-- the manner of its applications, which change no item
abbrev pub unmangled : Manner → Manner
unmangled manner = record manner { mangle = None }

-- work that is a run
abbrev pub IsRun : Work → Type 0
IsRun (Simulate layout programs wire manner order number telling format) = Unit {0}
IsRun (Generate number) = ⊥
IsRun (Audit layout why) = ⊥

-- a run on threads of the work's packets shows this
abbrev pub HasShown : Work → List (List (List ℕ)) → OutcomeShown → Type 0
HasShown (Simulate layout programs wire manner order number telling format) lists o = HasForwarded layout.hands (setting_of layout programs wire (unmangled manner) lists) (frames_of layout) o
HasShown (Generate number) lists o = ⊥
HasShown (Audit layout why) lists o = ⊥

-- these are the texts of its history
abbrev pub AreTextsFrom : Work → List (List (List ℕ)) → OutcomeShown → Written → Type 0
AreTextsFrom (Simulate layout programs wire manner order number telling format) lists o texts = AreTextsIn format layout programs wire (unmangled manner) lists o.history (report_of layout programs wire (unmangled manner) lists o.history) texts
AreTextsFrom (Generate number) lists o texts = ⊥
AreTextsFrom (Audit layout why) lists o texts = ⊥

-- inputs are taken, and a run on threads of the packets of all ports shows this
pub record IsShown (work : Work) (inputs : List (List ℕ)) (o : OutcomeShown) : Type 0 where
  pub short : AreShort (most_of work) inputs (length inputs)
  pub lists : List (List (List ℕ))
  pub are : AreListsOf work inputs lists
  pub ports : length lists ≡ ports_in work
  pub within : excess_of lists ≡ None
  pub shown : HasShown work lists o

-- and these are its texts
pub record IsWritten (work : Work) (inputs : List (List ℕ)) (o : OutcomeShown) (texts : Written) : Type 0 where
  pub is : IsShown work inputs o
  pub texts_are : AreTextsFrom work is.lists o texts

-- ---- the end

-- a status to which only a run comes that has ended, or stalled
abbrev pub IsAfterRun : Status → Type 0
IsAfterRun Done = Unit {0}
IsAfterRun (WriteFault stream) = Unit {0}
IsAfterRun (OpenFault (Output port)) = Unit {0}
IsAfterRun (Stalled round) = Unit {0}
IsAfterRun status = ⊥

-- The status comes of this work, these inputs and the run on threads that was made of them, if one has ended: its texts are
-- these, or there was no memory for them. Without one the status is told before any run, as by `simulate`.
abbrev pub ComesShown : Work → Option OutcomeShown → List (List ℕ) → Written → Moment → Status → Type 0
ComesShown work (Some o) inputs texts old Done = IsWritten work inputs o texts
ComesShown work (Some o) inputs texts old (WriteFault stream) = IsWritten work inputs o texts
ComesShown work (Some o) inputs texts old (OpenFault (Output port)) = IsWritten work inputs o texts
ComesShown work (Some o) inputs texts old OutOfMemory = IsShown work inputs o
ComesShown work (Some o) inputs texts old status = ⊥
ComesShown work None inputs texts old status = (IsAfterRun status → ⊥) × ComesOf work inputs texts old status

-- how `forward` ends with this plan
abbrev pub EndsShown : Option OutcomeShown → Moment → Moment → Status → Plan → Type 0
EndsShown shown old new status plan = EndsBy (ComesShown plan.work shown) plan old new status

-- what inputs come to before any run
abbrev pub IsRefusedAs : Work → List (List ℕ) → Outcome → Type 0
IsRefusedAs work inputs (long port) = IsOutcome work inputs (long port)
IsRefusedAs work inputs (bad port cause) = IsOutcome work inputs (bad port cause)
IsRefusedAs work inputs (bad_file cause) = IsOutcome work inputs (bad_file cause)
IsRefusedAs work inputs (passed excess) = IsOutcome work inputs (passed excess)
IsRefusedAs work inputs (stalled round told) = ⊥
IsRefusedAs work inputs (made texts) = ⊥
IsRefusedAs work inputs (illegal line) = ⊥

-- how a command ended that gave this: where it gives a status alone no run on threads has ended
abbrev pub ended_in : Result Ended Status → Ended
ended_in (Ok ended) = ended
ended_in (Err status) = record { status = status; outcome = None }

-- ---- the answer

-- What a command answers, where this is the plan that its words ask for, its work comes to a status so, and inputs come to an outcome
-- so.
pub record IsAnswer (Coming : Work → List (List ℕ) → Written → Moment → Status → Type 0) (ComesTo : Work → List (List ℕ) → Outcome → Type 0) (planned : Option Plan) (old new : Moment) (status : Status) : Type 0 where
  pub usage : status ≡ Usage → planned ≡ None
  pub unplanned : planned ≡ None → (status ≡ Usage) ⊎ (status ≡ OutOfMemory)
  -- the layout is refused for its fault alone, and exactly where it has one
  pub refusal : (unlawful : Unlawful) → status ≡ Refused unlawful → fault_in (unwrap_or planned no_plan).work ≡ Some unlawful
  pub refused : (plan : Plan) (unlawful : Unlawful) → planned ≡ Some plan → fault_in plan.work ≡ Some unlawful → (status ≡ Refused unlawful) ⊎ (status ≡ OutOfMemory)
  pub cause : IsCaused old.faults new.faults status
  -- no call failed but the one that is told, and a write of the line
  pub others : (kind : Kind) (stream : Stream) → (IsFault status kind stream → ⊥) → (IsOfLine status kind stream → ⊥) → new.faults kind stream ≡ old.faults kind stream
  pub uncounted : IsAtOnce status → CountsOnly Write Report old.faults new.faults
  -- what the streams are, and why; where the words are no command it has no streams
  pub ends : EndsBy (Coming (unwrap_or planned no_plan).work) (unwrap_or planned no_plan) old new status
  pub line : HasLine status → GotLine (line_of status ++ behind status ends.texts) old new
  pub check : (port : ℕ) → status ≡ BadCapture port NoCause → ⊥
  pub check_file : status ≡ BadPcapng NoFileCause → ⊥
  -- inputs whose bytes the bay tells are answered with their outcome, of which there is one
  pub answers : (plan : Plan) (inputs : List (List ℕ)) (outcome : Outcome) → planned ≡ Some plan → AreTold plan inputs old → ComesTo plan.work inputs outcome → Answers plan.work outcome status
  -- files within the limits, and packets that are made, come to texts or stall, and a journal to its verdict, where the layout is
  -- accepted, no count of faults has risen and memory can be had
  pub complete : (plan : Plan) (inputs : List (List ℕ)) → planned ≡ Some plan → fault_in plan.work ≡ None → AreTold plan inputs old → AreTaken plan.work inputs → NoneRose old.faults new.faults → IsComplete status

-- that of `run_plain`
abbrev pub IsPlainAnswer : Option Plan → Moment → Moment → Status → Type 0
IsPlainAnswer planned old new status = IsAnswer ComesOf IsOutcome planned old new status

-- that of `forward`, where this was shown
abbrev pub IsShownAnswer : Option OutcomeShown → Option Plan → Moment → Moment → Status → Type 0
IsShownAnswer shown planned old new status = IsAnswer (λ work. ComesShown work shown) IsRefusedAs planned old new status
