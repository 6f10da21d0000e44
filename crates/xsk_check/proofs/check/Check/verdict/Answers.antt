use Rattle.std.proofs.Common.{subst, sym}
use Rattle.xsk_check.specs.Checking.{Checked, StandsFor}
use Rattle.xsk_check.proofs.Hearing.{heard-sound}
use Rattle.xsk_check.proofs.check.Check.verdict.Goals as goal

pub returns-clause-is : goal.returns-clause-is
returns-clause-is c = λ text stands.
    let here = subst (λ (k : Checked). StandsFor k text) (sym c.self.view_is) stands in
    c.verdict.ensures.is text here.read here.reads here.heard.calls (heard-sound here.read.header.next here.read c.self.inside.court here.heard.court)
