use Rattle.std.proofs.Common.{[], append-nil, subst, Option}
use Rattle.xsk_recording.specs.Verdict.{IsVerdict}
use Rattle.xsk_check.specs.Checking.{Goes}
use Rattle.xsk_check.specs.declared.finding.Finding.{Finding}
use Rattle.xsk_check.proofs.check.verdict_of.Goals as goal

pub returns-in-Some : goal.returns-in-Some
returns-in-Some c =
    let found = subst (λ (f : Option Finding). Goes c.read.new.self [] c.args.text.now f) c.in-Some.is (c.in_ok-finding.ensures [] c.new-check.ensures) in
    subst (λ t. IsVerdict t c.in-Some.finding.verdict) (append-nil c.args.text.now) (found []).0

pub returns : goal.returns
returns c =
    c.verdict.ensures.is c.args.text.now
    (subst (λ (f : Option Finding). Goes c.read.new.self [] c.args.text.now f) c.in-None.is (c.in_ok-finding.ensures [] c.new-check.ensures))
