-- How a command ends: what it did to its streams, and why. What it makes of its inputs is a function of their bytes.
use Rattle.std.specs.Prelude.{◌≡◌, ℕ, ◌<◌, ◌++◌, length, List, [], Some, None, IfSome, Result}
use Rattle.xsk_io.specs.Bay.{Rose, Moment}
use Rattle.xsk_io.specs.declared.bay.Kind.{Kind}
use Rattle.xsk_io.specs.declared.bay.Stream.{Stream}
use Rattle.xsk_io.specs.declared.bay.Stream.TheVariants.{Input, Output}
use Rattle.xsk_cli.specs.Words.{Plan, fault_in, most_of}
use Rattle.xsk_cli.specs.declared.words.Work.{Work}
use Rattle.xsk_cli.specs.declared.words.Work.TheVariants.{Simulate, Audit}
use Rattle.xsk_cli.specs.Judged.{bytes_of, AreShort, excess_of}
use Rattle.xsk_cli.specs.Outcome.{Written, Outcome, long, bad, passed, stalled, made, illegal, IsOutcome, bad_file}
use Rattle.xsk_cli.specs.Line.{line_of}
use Rattle.xsk_cli.specs.Misfit.{IsToldOf}
use Rattle.xsk_cli.specs.Streams.{IsTold, Reach, Reaches, AreRead, AreWritten, IsReported, name_of, status_in, text_in}
use Rattle.xsk_cli.specs.declared.failure.Refusal.{Refusal}
use Rattle.xsk_cli.specs.declared.status.Excess.TheVariants.{Input as TooLong}
use Rattle.xsk_cli.specs.declared.status.Status.{Status}
use Rattle.xsk_cli.specs.declared.status.Status.TheVariants.{Done, Usage, BadCapture, WriteFault, OpenFault, Refused, Stalled, TooMuch, OutOfMemory, NotLegal, BadPcapng}
use Rattle.xsk_cli.specs.Format.{AreFiles, most_input}

-- the status comes of this work and these inputs: its layout is refused, they were too long or refused, their run stalled, of which
-- the report's text is told, their journal isn't legal, of which it is told too, or these are its texts
abbrev pub ComesOf : Work → List (List ℕ) → Written → Moment → Status → Type 0
ComesOf work inputs texts old Done = IsOutcome work inputs (made texts)
ComesOf work inputs texts old (BadCapture port cause) = IsOutcome work inputs (bad port cause)
ComesOf work inputs texts old (WriteFault stream) = IsOutcome work inputs (made texts)
ComesOf work inputs texts old (OpenFault (Output port)) = IsOutcome work inputs (made texts)
ComesOf work inputs texts old (Stalled round) = IsOutcome work inputs (stalled round texts.report)
ComesOf work inputs texts old (TooMuch (TooLong port)) = IfSome (old.left (Input port)) (λ bytes. most_of work < length bytes)
ComesOf work inputs texts old (TooMuch excess) = IsOutcome work inputs (passed excess)
ComesOf work inputs texts old (Refused unlawful) = fault_in work ≡ Some unlawful
ComesOf work inputs texts old (NotLegal line) = IsOutcome work inputs (illegal line) × IsToldOf work inputs line texts.report
ComesOf work inputs texts old (BadPcapng cause) = IsOutcome work inputs (bad_file cause)
ComesOf work inputs texts old status = Unit {0}

-- how a command with this plan ends, where its status comes so of the bytes of its inputs and of its texts
pub record EndsBy (Comes : List (List ℕ) → Written → Moment → Status → Type 0) (plan : Plan) (old new : Moment) (status : Status) : Type 0 where
  -- the bytes of the inputs that were read to their ends, and the texts
  pub inputs : List (List ℕ)
  pub texts : Written
  pub reach : Reach
  pub reaches : Reaches (length plan.inputs) (length plan.outputs) status reach
  pub count : length inputs ≡ reach.ends
  pub short : AreShort (most_of plan.work) inputs reach.ends
  pub reads : AreRead plan.inputs inputs reach.inputs reach.ends old new
  pub writes : AreWritten plan.outputs texts.outputs reach.outputs reach.wholes old new
  pub reported : IsReported texts.report status old new
  pub asked : (stream : Stream) → status ≡ OpenFault stream → IsTold (new.asked stream) (name_of plan stream)
  pub comes : Comes inputs texts old status

-- what is told behind the line of a status: of a stall, and of a journal that isn't legal
abbrev pub behind : Status → Written → List ℕ
behind (Stalled round) texts = texts.report
behind (NotLegal line) texts = texts.report
behind status texts = []

-- it ends so, and this is its line with all that is told behind it
abbrev pub TellsBy : (List (List ℕ) → Written → Moment → Status → Type 0) → Plan → Moment → Moment → Status → List ℕ → Type 0
TellsBy Comes plan old new status text = (ends : EndsBy Comes plan old new status) × (text ≡ line_of status ++ behind status ends.texts)

-- with what its work makes of them
abbrev pub Ends : Plan → Moment → Moment → Status → Type 0
Ends plan old new status = EndsBy (ComesOf plan.work) plan old new status

abbrev pub Tells : Plan → Moment → Moment → Result Unit Refusal → Type 0
Tells plan old new result = TellsBy (ComesOf plan.work) plan old new (status_in result) (text_in result)

-- ---- inputs whose bytes the bay tells

pub record AreTold (plan : Plan) (inputs : List (List ℕ)) (old : Moment) : Type 0 where
  pub count : length inputs ≡ length plan.inputs
  pub each : (port : ℕ) → port < length inputs → old.left (Input port) ≡ Some (bytes_of inputs port)

-- the status is that of the outcome, unless a fault or want of memory came before
abbrev pub Answers : Work → Outcome → Status → Type 0
Answers work outcome Done = (texts : Written) × (outcome ≡ made texts)
Answers work outcome Usage = ⊥
Answers work outcome (BadCapture port cause) = outcome ≡ bad port cause
Answers work outcome (WriteFault stream) = (texts : Written) × (outcome ≡ made texts)
Answers work outcome (OpenFault (Output port)) = (texts : Written) × (outcome ≡ made texts)
Answers work outcome (Stalled round) = (told : List ℕ) × (outcome ≡ stalled round told)
Answers work outcome (TooMuch (TooLong port)) = outcome ≡ long port
Answers work outcome (TooMuch excess) = outcome ≡ passed excess
Answers work outcome (Refused unlawful) = fault_in work ≡ Some unlawful
Answers work outcome (NotLegal line) = outcome ≡ illegal line
Answers work outcome (BadPcapng cause) = outcome ≡ bad_file cause
Answers work outcome status = Unit {0}

-- ---- completeness

-- files within the limits, where files are read, and so a journal, where one is
abbrev pub AreTaken : Work → List (List ℕ) → Type 0
AreTaken (Simulate layout programs wire manner order None telling format) inputs = AreShort (most_input format) inputs (length inputs) × ((lists : List (List (List ℕ))) × AreFiles format layout.ports inputs lists × (excess_of lists ≡ None))
AreTaken (Audit layout why) inputs = AreShort (most_of (Audit layout why)) inputs (length inputs)
AreTaken work inputs = inputs ≡ []

abbrev pub NoneRose : (Kind → Stream → ℕ) → (Kind → Stream → ℕ) → Type 0
NoneRose old new = (kind : Kind) (stream : Stream) → Rose (old kind stream) (new kind stream) → ⊥

-- what is answered where nothing was refused and nothing failed
abbrev pub IsComplete : Status → Type 0
IsComplete Done = Unit {0}
IsComplete (Stalled round) = Unit {0}
IsComplete (NotLegal line) = Unit {0}
IsComplete OutOfMemory = Unit {0}
IsComplete status = ⊥
