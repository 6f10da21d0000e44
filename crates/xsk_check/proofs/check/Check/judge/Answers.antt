use Rattle.std.proofs.Common.{◌≡◌, ◌+◌, ◌∙◌, ap, refl, subst, sym, None}
use Rattle.xsk_check.specs.Checking.{Checked, Judges, IsFoundAt}
use Rattle.xsk_check.proofs.Hearing.{called, found-call, told-judges}
use Rattle.xsk_check.proofs.check.Check.judge.Goals as goal

pub returns-in-Err-clause-heard : goal.returns-in-Err-clause-heard
returns-in-Err-clause-heard c = λ r xs heard counted number told.
    subst (IsFoundAt r xs) (sym c.blamed.ensures)
    (found-call c.args.self.now c.in-Some.court r xs c.args.line c.args.call c.in-Err.why (ap (λ (k : Checked). k.court) (sym c.self.view_is) ∙ c.in-Some.is)
    c.in-Err.ensures.why number heard counted told)

pub unreachable-requires : goal.unreachable-requires
unreachable-requires c =
    let none : c.args.self.now.court ≡ None = ap (λ (k : Checked). k.court) (sym c.self.view_is) ∙ c.in-None.is in
    subst (Judges c.requires.0) none (told-judges c.args.self.now c.requires.0 c.requires.1 c.args.call c.requires.2 c.requires.5)

pub returns-clause-heard : goal.returns-clause-heard
returns-clause-heard c = λ r xs heard counted number told next after.
    called c.args.self.now _ c.in-Some.court c.step.new.court r next xs c.args.line c.args.call (ap (λ (k : Checked). k.court) (sym c.self.view_is) ∙ c.in-Some.is) refl
    (ap (λ (k : Checked). k.calls + 1) c.self.view_is) c.step.ensures.setting c.step.ensures.metadata c.in-Ok.ensures.opens c.in-Ok.ensures.follows number heard told after
