-- The earlier line of a recording that a reason names: since when what it speaks of is as it is. The form is this project's own.
use Rattle.std.specs.Prelude.{◌≡◌, ℕ, ◌==◌, ◌||◌, if◌then◌else◌, Option, Some, None, List}
use Rattle.xsk_judge.specs.declared.why.Why.{Why}
use Rattle.xsk_judge.specs.declared.why.Why.TheVariants.{Rule as Broken, Kernel as Denied, TooMany}
use Rattle.xsk_judge.specs.declared.why.Rule.{Rule}
use Rattle.xsk_judge.specs.declared.why.Rule.TheVariants as a_rule
use Rattle.xsk_judge.specs.declared.why.Denial.{Denial}
use Rattle.xsk_judge.specs.declared.why.Denial.TheVariants as a_denial
use Rattle.xsk_recording.specs.declared.verdict.Verdict.{Verdict}
use Rattle.xsk_recording.specs.declared.verdict.Verdict.TheVariants as a_verdict
use Rattle.xsk_check.specs.Checking.{IsReason}
use Rattle.xsk_check.specs.declared.finding.Blame.{Blame}

-- ---- since when; 0 is the start, and stands where the reason speaks of no such thing

abbrev pub rule_since : Rule → ℕ
rule_since (a_rule.Frame i known) = known.since
rule_since (a_rule.PassedOn entry known) = known.since
rule_since rule = 0

abbrev pub denial_since : Denial → ℕ
denial_since (a_denial.Refused places since) = since
denial_since (a_denial.FewerFree places since) = since
denial_since (a_denial.Empty standing since) = since
denial_since (a_denial.Other i stood since) = since
denial_since (a_denial.NotFilled i known) = known.since
denial_since (a_denial.NotSent i known) = known.since
denial_since (a_denial.OtherPair i known) = known.since
denial_since denial = 0

abbrev pub why_since : Why → ℕ
why_since (Broken rule) = rule_since rule
why_since (Denied denial) = denial_since denial
why_since TooMany = 0

-- ---- the line

-- none where that is the start, or the line of the call itself
abbrev pub named_in : ℕ → Why → Option ℕ
named_in line why = if why_since why == 0 || why_since why == line then None else Some (why_since why)

-- of a verdict and the call that is blamed for it
abbrev pub named_of : Verdict → Option Blame → Option ℕ
named_of (a_verdict.NotPossible line) (Some blame) = named_in line blame.why
named_of verdict blame = None

-- of a text with this verdict
abbrev pub IsNamed : List ℕ → Verdict → Option ℕ → Type 0
IsNamed text (a_verdict.NotPossible line) named = (blame : Blame) × IsReason text line blame × (named ≡ named_in line blame.why)
IsNamed text verdict named = named ≡ None
