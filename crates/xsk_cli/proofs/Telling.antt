-- What is told of a refusal: its line, and of a stall what stands behind it.
use Rattle.std.proofs.Common.{◌≡◌, ℕ, List, [], ◌++◌, refl, sym, ap, ◌∙◌, subst, append-nil, Option, Some, None}
use Rattle.xsk_io.specs.Bay.{Moment}
use Rattle.xsk_workers.specs.Forwarded.{OutcomeShown}
use Rattle.xsk_cli.specs.Ends.{EndsBy, TellsBy, behind}
use Rattle.xsk_cli.specs.Forward.{ComesShown, IsRun}
use Rattle.xsk_cli.specs.Line.{line_of}
use Rattle.xsk_cli.specs.Outcome.{Written, IsIllegalIn}
use Rattle.xsk_cli.specs.Steps.{read_status, write_status}
use Rattle.xsk_cli.specs.Words.{Plan}
use Rattle.xsk_cli.specs.declared.failure.ReadFailure.{ReadFailure}
use Rattle.xsk_cli.specs.declared.failure.ReadFailure.TheVariants.{Unopened as NoInput, Unread, TooLong, OutOfMemory as NoRoom}
use Rattle.xsk_cli.specs.declared.failure.WriteFailure.{WriteFailure}
use Rattle.xsk_cli.specs.declared.failure.WriteFailure.TheVariants.{Unopened, Unwritten}
use Rattle.xsk_cli.specs.declared.words.Work.{Work}
use Rattle.xsk_cli.specs.declared.words.Work.TheVariants.{Simulate, Generate, Audit}
use Rattle.xsk_cli.specs.declared.status.Status.{Status}
use Rattle.xsk_cli.specs.declared.status.Status.TheVariants.{Done, Usage, BadCapture, ReadFault, WriteFault, OpenFault, Refused, Stalled, TooMuch, OutOfMemory, NotLegal, BadPcapng}

-- where nothing stands behind it, the line is told alone
pub bare : (Comes : List (List ℕ) → Written → Moment → Status → Type 0) (plan : Plan) (old new : Moment) (status : Status) → (ends : EndsBy Comes plan old new status) → behind status ends.texts ≡ [] → TellsBy Comes plan old new status (line_of status)
bare Comes plan old new status ends none = (ends, sym (ap (λ told. line_of status ++ told) none ∙ append-nil (line_of status)))

pub read_bare : (failure : ReadFailure) (texts : Written) → behind (read_status failure) texts ≡ []
read_bare (NoInput port) texts = refl
read_bare (Unread port) texts = refl
read_bare (TooLong port) texts = refl
read_bare NoRoom texts = refl

pub write_bare : (failure : WriteFailure) (texts : Written) → behind (write_status failure) texts ≡ []
write_bare (Unopened port) texts = refl
write_bare (Unwritten stream) texts = refl

-- no run on threads stalls, and none is an audit
no_journal : (work : Work) (inputs : List (List ℕ)) (line : ℕ) → IsIllegalIn work inputs line → IsRun work → ⊥
no_journal (Simulate layout programs wire manner order number telling format) inputs line is run = is
no_journal (Generate number) inputs line is run = is
no_journal (Audit layout why) inputs line is run = run

pub shown_bare : (plan : Plan) (old new : Moment) (shown : Option OutcomeShown) (status : Status) → IsRun plan.work → (ends : EndsBy (ComesShown plan.work shown) plan old new status) → behind status ends.texts ≡ []
shown_bare plan old new (Some o) (Stalled round) run ends = absurd ends.comes
shown_bare plan old new None (Stalled round) run ends = absurd (ends.comes.0 tt)
shown_bare plan old new shown Done run ends = refl
shown_bare plan old new shown Usage run ends = refl
shown_bare plan old new shown (BadCapture port cause) run ends = refl
shown_bare plan old new shown (ReadFault port) run ends = refl
shown_bare plan old new shown (WriteFault stream) run ends = refl
shown_bare plan old new shown (OpenFault stream) run ends = refl
shown_bare plan old new shown (Refused unlawful) run ends = refl
shown_bare plan old new shown (TooMuch excess) run ends = refl
shown_bare plan old new shown OutOfMemory run ends = refl
shown_bare plan old new (Some o) (NotLegal line) run ends = absurd ends.comes
shown_bare plan old new None (NotLegal line) run ends = absurd (no_journal plan.work ends.inputs line ends.comes.1.0.1 run)
shown_bare plan old new shown (BadPcapng cause) run ends = refl

-- so of one the line is told alone
pub told_shown : (plan : Plan) (old new : Moment) (shown : Option OutcomeShown) (status : Status) (text : List ℕ) → IsRun plan.work → TellsBy (ComesShown plan.work shown) plan old new status text → TellsBy (ComesShown plan.work shown) plan old new status (line_of status)
told_shown plan old new shown status text run tells = bare (ComesShown plan.work shown) plan old new status tells.0 (shown_bare plan old new shown status run tells.0)
