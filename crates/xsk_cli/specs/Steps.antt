-- What the steps of a command answer, and what they leave.
use Rattle.std.specs.Prelude.{◌≡◌, ◌≢◌, ℕ, ◌+◌, ◌<◌, ◌⊎◌, Bool, true, false, All, length, List, [], ◌∷◌, ◌++◌, map, IfSome, Option, Some, None, Result, unwrap_or}
use Rattle.std.specs.List.{slice_index_or}
use Rattle.xsk_umem.specs.PacketList.{PacketList}
use Rattle.xsk_io.specs.Bay.{Adds, GrowsByPart, IsOffered, Rose, Same, Moment}
use Rattle.xsk_io.specs.declared.bay.Kind.{Kind}
use Rattle.xsk_io.specs.declared.bay.Kind.TheVariants.{Open, Read, Write}
use Rattle.xsk_io.specs.declared.bay.Stream.TheVariants.{Input, Output, Report}
use Rattle.xsk_io.specs.declared.whole.ReadError.{ReadError}
use Rattle.xsk_io.specs.declared.whole.ReadError.TheVariants.{TooLong as IsTooLong, Fault as IsFault, OutOfMemory as IsOutOfMemory}
use Rattle.xsk_pcap.specs.Capture.{IsRefused}
use Rattle.xsk_pcap.specs.Written.{IsWritable}
use Rattle.xsk_pcap.specs.declared.reading.BadCapture.TheVariants.{OutOfMemory as NoCause}
use Rattle.xsk_pcapng.specs.Pcapng.{IsRefused as IsRefusedFile}
use Rattle.xsk_pcapng.specs.declared.reading.BadPcapng.TheVariants.{OutOfMemory as NoFileCause}
use Rattle.xsk_plain.specs.Engine.{Engine}
use Rattle.xsk_sim.specs.declared.simulation.SimError.{SimError}
use Rattle.xsk_sim.specs.declared.simulation.SimError.TheVariants.{Stalled as HasNoEnd, OutOfMemory as RunMemory}
use Rattle.xsk_turns.specs.declared.disposal.DriverCounters.{DriverCounters}
use Rattle.xsk_turns.specs.declared.manner.Manner.{Manner}
use Rattle.xsk_cli.specs.Judged.{AreShort, AreCaptures, IsBadCapture, excess_of}
use Rattle.xsk_cli.specs.Outcome.{Written, capture_of, bad, passed, stalled, illegal, IsOutcome, IsAudited, IsStalledBy, setting_of, frames_of, bad_file}
use Rattle.xsk_cli.specs.Format.{IsBadFile, IsFile, files_of, most_input}
use Rattle.xsk_cli.specs.declared.format.Format.TheVariants.{Pcap, Pcapng}
use Rattle.xsk_args.specs.declared.program.Program.{Program}
use Rattle.xsk_turns.specs.declared.wire.Wire.{Wire}
use Rattle.xsk_args.specs.declared.error.ArgsError.{ArgsError}
use Rattle.xsk_args.specs.declared.error.ArgsError.TheVariants.{Usage as IsUsage, OutOfMemory as ArgsMemory}
use Rattle.xsk_cli.specs.declared.texts.Outputs.{Outputs}
use Rattle.xsk_cli.specs.declared.texts.Outputs.TheVariants.{Copied, Laid}
use Rattle.xsk_cli.specs.declared.texts.Texts.{Texts}
use Rattle.xsk_cli.specs.declared.words.Plan.{Plan as CodePlan}
use Rattle.xsk_cli.specs.Words.{Plan, fault_in, most_of, suits_in, no_plan}
use Rattle.xsk_cli.specs.Cause.{IsCaused, NeverFalls, NoOthers}
use Rattle.xsk_cli.specs.Ends.{ComesOf, TellsBy}
use Rattle.xsk_cli.specs.Line.{line_of}
use Rattle.xsk_cli.specs.Misfit.{IsReasoned, IsToldOf, TellsMisfit}
use Rattle.xsk_cli.specs.Stalls.{IsStall, told_on}
use Rattle.xsk_cli.specs.declared.words.Telling.{Telling}
use Rattle.xsk_cli.specs.declared.words.Work.{Work}
use Rattle.xsk_cli.specs.declared.words.Work.TheVariants.{Simulate, Generate, Audit}
use Rattle.xsk_socket.specs.declared.layout.Layout.{Layout}
use Rattle.xsk_socket.specs.declared.layout.Unlawful.{Unlawful}
use Rattle.xsk_cli.specs.Streams.{HasLine, IsAtOnce, IsTold, IsFront, IsSilent, AreRead, AreWritten, status_in, text_in}
use Rattle.xsk_cli.specs.declared.failure.ReadFailure.{ReadFailure}
use Rattle.xsk_cli.specs.declared.failure.ReadFailure.TheVariants.{Unopened as NoInput, Unread, TooLong, OutOfMemory as NoRoom}
use Rattle.xsk_cli.specs.declared.failure.RunFailure.{RunFailure}
use Rattle.xsk_cli.specs.declared.failure.RunFailure.TheVariants.{BadCapture as Bad, TooMuch as Excessive, Stalled as Stalls, Explained, OutOfMemory as NoMemory, NotLegal as Breaks, Reasoned, BadPcapng as BadFile}
use Rattle.xsk_cli.specs.declared.failure.Refusal.{Refusal}
use Rattle.xsk_cli.specs.declared.failure.Refusal.TheVariants.{Bare, Stall, Misfit}
use Rattle.xsk_cli.specs.declared.failure.WriteFailure.{WriteFailure}
use Rattle.xsk_cli.specs.declared.failure.WriteFailure.TheVariants.{Unopened, Unwritten}
use Rattle.xsk_cli.specs.declared.status.Excess.TheVariants.{Input as LongInput}
use Rattle.xsk_cli.specs.declared.status.Status.{Status}
use Rattle.xsk_cli.specs.declared.status.Status.TheVariants.{Done, Usage, BadCapture, ReadFault, WriteFault, OpenFault, Refused, Stalled, TooMuch, OutOfMemory, NotLegal, BadPcapng}

-- the plan that the code has
abbrev pub plan_in : CodePlan → Plan
plan_in plan = record { inputs = map (λ name. name.now) plan.inputs.now; outputs = map (λ name. name.now) plan.outputs.now; work = plan.work }

-- how many files are read, captures or one journal, and how many are written
abbrev pub read_by : Work → ℕ
read_by (Simulate layout programs wire manner order None telling format) = files_of format layout.ports
read_by (Simulate layout programs wire manner order (Some number) telling format) = 0
read_by (Generate number) = 0
read_by (Audit layout why) = 1

abbrev pub written_by : Work → ℕ
written_by (Simulate layout programs wire manner order number telling format) = files_of format layout.ports
written_by (Generate number) = 1
written_by (Audit layout why) = 0

-- a plan whose work is accepted, in which an application of several threads closes no socket, with as many files as it wants
pub record IsReady (plan : Plan) : Type 0 where
  pub accepted : fault_in plan.work ≡ None
  pub suits : suits_in plan.work ≡ true
  pub inputs : length plan.inputs ≡ read_by plan.work
  pub outputs : length plan.outputs ≡ written_by plan.work

-- inputs as this work wants them, so many of them: as many as it reads, none of more bytes than the most
pub record AreFor (work : Work) (inputs : List (List ℕ)) (number : ℕ) : Type 0 where
  pub count : number ≡ read_by work
  pub short : AreShort (most_of work) inputs number

-- ---- the statuses of failures

abbrev pub args_status : ArgsError → Status
args_status IsUsage = Usage
args_status ArgsMemory = OutOfMemory

abbrev pub read_status : ReadFailure → Status
read_status (NoInput port) = OpenFault (Input port)
read_status (Unread port) = ReadFault port
read_status (TooLong port) = TooMuch (LongInput port)
read_status NoRoom = OutOfMemory

abbrev pub run_status : RunFailure → Status
run_status (Bad port cause) = BadCapture port cause
run_status (Excessive excess) = TooMuch excess
run_status (Stalls round) = Stalled round
run_status (Explained round text) = Stalled round
run_status NoMemory = OutOfMemory
run_status (Breaks line) = NotLegal line
run_status (Reasoned line text) = NotLegal line
run_status (BadFile cause) = BadPcapng cause

-- and how each is told
abbrev pub run_refusal : RunFailure → Refusal
run_refusal (Explained round text) = Stall round text
run_refusal (Reasoned line text) = Misfit line text
run_refusal failure = Bare (run_status failure)

abbrev pub write_status : WriteFailure → Status
write_status (Unopened port) = OpenFault (Output port)
write_status (Unwritten stream) = WriteFault stream

-- what words come to before a refusal is told by this text, where this is their plan and work comes to a status so
pub record ComesTo (Coming : Work → List (List ℕ) → Written → Moment → Status → Type 0) (planned : Option Plan) (old new : Moment) (status : Status) (text : List ℕ) : Type 0 where
  pub usage : status ≡ Usage → planned ≡ None
  pub unplanned : planned ≡ None → (status ≡ Usage) ⊎ (status ≡ OutOfMemory)
  pub refused : (plan : Plan) (unlawful : Unlawful) → planned ≡ Some plan → fault_in plan.work ≡ Some unlawful → (status ≡ Refused unlawful) ⊎ (status ≡ OutOfMemory)
  pub ends : TellsBy (Coming (unwrap_or planned no_plan).work) (unwrap_or planned no_plan) old new status text
  pub silent : HasLine status → IsSilent old new
  pub cause : IsCaused old.faults new.faults status
  pub falls : NeverFalls old.faults new.faults
  pub others : NoOthers old.faults new.faults status
  pub uncounted : IsAtOnce status → (kind : Kind) → Same (old.faults kind) (new.faults kind)

abbrev pub Comes : Option Plan → Moment → Moment → Result Unit Refusal → Type 0
Comes planned old new result = ComesTo ComesOf planned old new (status_in result) (text_in result)

-- ---- reading

-- how reading the input of a port fails, where it may have so many bytes
abbrev pub FailsReading : ℕ → ℕ → Moment → Moment → ReadFailure → Type 0
FailsReading most port old new (NoInput at) = (at ≡ port) × (new.is_open (Input port) ≡ false) × (new.left (Input port) ≡ old.left (Input port))
    × Rose (old.faults Open (Input port)) (new.faults Open (Input port))
FailsReading most port old new (Unread at) = (at ≡ port) × (new.is_open (Input port) ≡ true) × Rose (old.faults Read (Input port)) (new.faults Read (Input port))
FailsReading most port old new (TooLong at) = (at ≡ port) × (new.is_open (Input port) ≡ true) × IfSome (old.left (Input port)) (λ bytes. most < length bytes)
FailsReading most port old new NoRoom = new.is_open (Input port) ≡ true

-- why an open input wasn't read to its end
abbrev pub unread_by : ℕ → ReadError → ReadFailure
unread_by port IsTooLong = TooLong port
unread_by port IsFault = Unread port
unread_by port IsOutOfMemory = NoRoom

-- the first inputs were read to their ends, none of more bytes than the most, and nothing else was opened or written
pub record HaveRead (most : ℕ) (names bytes : List (List ℕ)) (count : ℕ) (old new : Moment) : Type 0 where
  pub count_is : length bytes ≡ count
  pub short : AreShort most bytes count
  pub reads : AreRead names bytes count count old new
  pub outputs : (port : ℕ) → new.is_open (Output port) ≡ false
  pub held : (port : ℕ) → new.held (Output port) ≡ old.held (Output port)
  pub report : new.held Report ≡ old.held Report
  pub offers : Same old.offers new.offers

-- ---- the run

-- the packets of lists
abbrev pub lists_in : List PacketList → List (List (List ℕ))
lists_in = map (λ (list : PacketList). list.packets)

-- why the captures of inputs aren't taken
abbrev pub AreUntaken : List (List ℕ) → RunFailure → Type 0
AreUntaken inputs (Bad port cause) = AreShort (most_input Pcap) inputs (length inputs) × IsBadCapture inputs port cause
AreUntaken inputs (Excessive excess) =
    AreShort (most_input Pcap) inputs (length inputs) × ((lists : List (List (List ℕ))) × AreCaptures inputs lists × (excess_of lists ≡ Some excess))
AreUntaken inputs (Stalls round) = ⊥
AreUntaken inputs (Explained round text) = ⊥
AreUntaken inputs NoMemory = Unit {0}
AreUntaken inputs (Breaks line) = ⊥
AreUntaken inputs (Reasoned line text) = ⊥
AreUntaken inputs (BadFile cause) = ⊥

-- why the one file of so many ports isn't taken
abbrev pub IsUntaken : ℕ → List (List ℕ) → RunFailure → Type 0
IsUntaken ports inputs (BadFile cause) = AreShort (most_input Pcapng) inputs (length inputs) × IsBadFile ports inputs cause
IsUntaken ports inputs (Excessive excess) =
    AreShort (most_input Pcapng) inputs (length inputs) × ((lists : List (List (List ℕ))) × IsFile ports inputs lists × (excess_of lists ≡ Some excess))
IsUntaken ports inputs NoMemory = Unit {0}
IsUntaken ports inputs failure = ⊥

-- why its bytes give no packets
abbrev pub IsFileRefusal : ℕ → List ℕ → RunFailure → Type 0
IsFileRefusal ports bytes (BadFile cause) = IsRefusedFile ports bytes cause × (cause ≢ NoFileCause)
IsFileRefusal ports bytes NoMemory = Unit {0}
IsFileRefusal ports bytes failure = ⊥

-- why the bytes of a port's input give no packets
abbrev pub IsRefusal : ℕ → List ℕ → RunFailure → Type 0
IsRefusal port bytes (Bad at cause) = (at ≡ port) × IsRefused bytes cause × (cause ≢ NoCause)
IsRefusal port bytes NoMemory = Unit {0}
IsRefusal port bytes failure = ⊥

-- why no run was made of packets
abbrev pub sim_failure : SimError → RunFailure
sim_failure (HasNoEnd round) = Stalls round
sim_failure RunMemory = NoMemory

-- a text is the line of a stall in a round with what is told behind it
abbrev pub IsStallText : ℕ → List ℕ → List ℕ → Type 0
IsStallText round told text = text ≡ line_of (Stalled round) ++ told

-- why nothing is made of the object on which a run stalled in a round, and of its drivers' counters
abbrev pub IsExplained : Telling → ℕ → Engine → List DriverCounters → RunFailure → Type 0
IsExplained telling round engine counters (Stalls at) = (at ≡ round) × (told_on telling engine.config engine.rings engine.log counters ≡ [])
IsExplained telling round engine counters (Explained at text) = (at ≡ round) × IsStallText round (told_on telling engine.config engine.rings engine.log counters) text.items
IsExplained telling round engine counters NoMemory = Unit {0}
IsExplained telling round engine counters failure = ⊥

-- why a run of packets gives nothing
abbrev pub FailsRunning : Layout → List Program → Wire → Manner → ℕ → Telling → List (List (List ℕ)) → RunFailure → Type 0
FailsRunning layout programs wire manner order telling lists (Stalls round) = IsStall (setting_of layout programs wire manner lists) (frames_of layout) order round telling []
FailsRunning layout programs wire manner order telling lists (Explained round text) =
    (told : List ℕ) × IsStall (setting_of layout programs wire manner lists) (frames_of layout) order round telling told × IsStallText round told text.items
FailsRunning layout programs wire manner order telling lists NoMemory = Unit {0}
FailsRunning layout programs wire manner order telling lists failure = ⊥

-- a text is the line that a journal isn't legal from a line on with what is told behind it
abbrev pub IsMisfitText : ℕ → List ℕ → List ℕ → Type 0
IsMisfitText line told text = text ≡ line_of (NotLegal line) ++ told

-- so with why it isn't
abbrev pub IsReasonText : Layout → List ℕ → ℕ → List ℕ → Type 0
IsReasonText layout journal line text = (told : List ℕ) × IsReasoned layout journal line told × IsMisfitText line told text

-- why an audit of a text gives nothing to write, where it is asked why a line isn't legal or not
abbrev pub FailsAudit : Bool → Layout → List ℕ → RunFailure → Type 0
FailsAudit why layout text (Breaks line) = IsAudited layout text (illegal line) × TellsMisfit why layout text line []
FailsAudit why layout text (Reasoned line telling) =
    (told : List ℕ) × (IsAudited layout text (illegal line) × TellsMisfit why layout text line told) × IsMisfitText line told telling.items
FailsAudit why layout text NoMemory = Unit {0}
FailsAudit why layout text failure = ⊥

-- no run was made
abbrev pub IsBeforeRun : RunFailure → Type 0
IsBeforeRun (Stalls round) = ⊥
IsBeforeRun (Explained round text) = ⊥
IsBeforeRun failure = Unit {0}

-- why work makes nothing of packets
abbrev pub FailsMaking : Work → List (List (List ℕ)) → RunFailure → Type 0
FailsMaking work lists (Stalls round) = IsStalledBy work lists round []
FailsMaking work lists (Explained round text) = (told : List ℕ) × IsStalledBy work lists round told × IsStallText round told text.items
FailsMaking work lists NoMemory = Unit {0}
FailsMaking work lists failure = ⊥

-- why there are no texts of inputs
abbrev pub MakesNone : Work → List (List ℕ) → RunFailure → Type 0
MakesNone work inputs (Bad port cause) = IsOutcome work inputs (bad port cause)
MakesNone work inputs (Excessive excess) = IsOutcome work inputs (passed excess)
MakesNone work inputs (Stalls round) = IsOutcome work inputs (stalled round [])
MakesNone work inputs (Explained round text) = (told : List ℕ) × IsOutcome work inputs (stalled round told) × IsStallText round told text.items
MakesNone work inputs NoMemory = Unit {0}
MakesNone work inputs (Breaks line) = IsOutcome work inputs (illegal line) × IsToldOf work inputs line []
MakesNone work inputs (Reasoned line text) = (told : List ℕ) × (IsOutcome work inputs (illegal line) × IsToldOf work inputs line told) × IsMisfitText line told text.items
MakesNone work inputs (BadFile cause) = IsOutcome work inputs (bad_file cause)

-- the outputs, where the drivers sent this: the captures of it, where it stands, or texts
abbrev pub outputs_in : List (List (List ℕ)) → Outputs → List (List ℕ)
outputs_in sent Laid = map capture_of sent
outputs_in sent (Copied texts) = map (λ text. text.items) texts.items

abbrev pub written_in : List (List (List ℕ)) → Texts → Written
written_in sent texts = record { outputs = outputs_in sent texts.outputs; report = texts.report.items }

-- captures that are written where the packets stand are within the limits of a capture
abbrev pub CanBeLaid : List (List (List ℕ)) → Outputs → Type 0
CanBeLaid sent Laid = All (λ (list : List (List ℕ)). IsWritable (list ∷ [])) sent
CanBeLaid sent (Copied texts) = Unit {0}

-- a status that tells of texts
abbrev pub HasTexts : Status → Type 0
HasTexts Done = Unit {0}
HasTexts (WriteFault stream) = Unit {0}
HasTexts (OpenFault (Output port)) = Unit {0}
HasTexts status = ⊥

-- texts of this work, where the drivers sent this and a status comes so of texts: one for each output, which can be written
pub record AreMade (Comes : Written → Moment → Status → Type 0) (work : Work) (sent : List (List (List ℕ))) (texts : Texts) : Type 0 where
  pub comes : (old : Moment) (status : Status) → HasTexts status → Comes (written_in sent texts) old status
  pub count : length (outputs_in sent texts.outputs) ≡ written_by work
  pub laid : CanBeLaid sent texts.outputs

-- no outputs, and what is told behind the line of a status, where anything is
abbrev pub told_alone : List ℕ → Written
told_alone told = record { outputs = []; report = told }

abbrev pub no_texts : Written
no_texts = told_alone []

-- why there are no texts of inputs that were read, where a status comes so of them
abbrev pub MakesNo : (Written → Moment → Status → Type 0) → RunFailure → Type 0
MakesNo Comes (Excessive (LongInput port)) = ⊥
MakesNo Comes (Explained round text) = (told : List ℕ) × IsStallText round told text.items × ((old : Moment) → Comes (told_alone told) old (Stalled round))
MakesNo Comes (Reasoned line text) = (told : List ℕ) × IsMisfitText line told text.items × ((old : Moment) → Comes (told_alone told) old (NotLegal line))
MakesNo Comes failure = (old : Moment) → Comes no_texts old (run_status failure)

-- ---- writing

-- how writing the outputs fails
abbrev pub FailsOutputs : List (List ℕ) → List (List ℕ) → Moment → Moment → WriteFailure → Type 0
FailsOutputs names texts old new (Unopened port) =
    (port < length names) × AreWritten names texts port port old new × IsTold (new.asked (Output port)) (slice_index_or names port [])
FailsOutputs names texts old new (Unwritten (Output port)) = (port < length names) × AreWritten names texts (port + 1) port old new
FailsOutputs names texts old new (Unwritten stream) = ⊥

-- how writing the outputs and then the report fails
abbrev pub FailsWriting : List (List ℕ) → Written → Moment → Moment → WriteFailure → Type 0
FailsWriting names texts old new (Unwritten Report) =
    AreWritten names texts.outputs (length names) (length names) old new × GrowsByPart (old.held Report) (new.held Report) texts.report
    × IsOffered (old.offers Report) (new.offers Report) (length texts.report)
FailsWriting names texts old new failure = FailsOutputs names texts.outputs old new failure × IsSilent old new

-- how writing the output of a port fails
abbrev pub FailsOutput : ℕ → List ℕ → Moment → Moment → WriteFailure → Type 0
FailsOutput port text old new (Unopened at) = (at ≡ port) × (new.is_open (Output port) ≡ false) × (new.held (Output port) ≡ old.held (Output port))
    × Rose (old.faults Open (Output port)) (new.faults Open (Output port)) × Adds (old.offers (Output port)) (new.offers (Output port)) []
FailsOutput port text old new (Unwritten stream) = (stream ≡ Output port) × (new.is_open (Output port) ≡ true) × IsFront (new.held (Output port)) text
    × Rose (old.faults Write (Output port)) (new.faults Write (Output port)) × IsOffered (old.offers (Output port)) (new.offers (Output port)) (length text)
