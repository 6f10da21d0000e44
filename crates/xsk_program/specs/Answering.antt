-- How the program ends by its words, over a bay.
use Rattle.std.specs.Prelude.{◌≡◌, ℕ, true, false, List, None}
use Rattle.xsk_args.specs.Words.{Text}
use Rattle.xsk_cli.specs.Ample.{Finishes, GoesOn}
use Rattle.xsk_cli.specs.Forward.{IsPlainAnswer, IsShownAnswer, forward_plan, is_forward}
use Rattle.xsk_checking.specs.Ending.{file_in, is_check, IsAnswer as IsCheckAnswer, exit_status_of as end_status}
use Rattle.xsk_cli.specs.ExitStatus.{exit_status_of}
use Rattle.xsk_cli.specs.Line.{line_of}
use Rattle.xsk_io.specs.Bay.{Moment}
use Rattle.xsk_cli.specs.Streams.{GotLine, HasLine}
use Rattle.xsk_cli.specs.Words.{plan_of}
use Rattle.xsk_cli.specs.declared.status.Status.{Status}
use Rattle.xsk_cli.specs.declared.threads.Ended.{Ended}
use Rattle.xsk_program.specs.declared.answered.Answered.{Answered}
use Rattle.xsk_program.specs.declared.answered.Answered.TheVariants.{Ran, Checked}

-- as the commands answer these words: `forward` with what its run on threads shows, where one has ended, and every other on one
-- thread, which doesn't stall with ample room
pub record IsAnswered (words : List Text) (old new : Moment) (ended : Ended) : Type 0 where
  pub plain : is_forward words ≡ false → IsPlainAnswer (plan_of words) old new ended.status
  pub goes_on : is_forward words ≡ false → GoesOn (plan_of words) ended.status
  pub finishes : is_forward words ≡ false → Finishes (plan_of words) old new ended.status
  pub no_threads : is_forward words ≡ false → ended.outcome ≡ None
  pub threads : is_forward words ≡ true → IsShownAnswer ended.outcome (forward_plan words) old new ended.status

-- `check` as it answers, and every other command as those
abbrev pub IsAnsweredSo : List Text → Moment → Moment → Answered → Type 0
IsAnsweredSo words old new (Ran ended) = (is_check words ≡ false) × IsAnswered words old new ended
IsAnsweredSo words old new (Checked checkup) = (is_check words ≡ true) × IsCheckAnswer (file_in words) old new checkup.end checkup.named

-- where there are no words: the status says why, and is told in its line
pub record IsToldBy (why : Status) (old new : Moment) (ended : Ended) : Type 0 where
  pub status : ended.status ≡ why
  pub no_threads : ended.outcome ≡ None
  pub line : HasLine why → GotLine (line_of why) old new

abbrev pub IsTold : Status → Moment → Moment → Answered → Type 0
IsTold why old new (Ran ended) = IsToldBy why old new ended
IsTold why old new (Checked checkup) = ⊥

-- ---- statuses

abbrev pub answer_status : Answered → ℕ
answer_status (Ran ended) = exit_status_of ended.status
answer_status (Checked checkup) = end_status checkup.end
