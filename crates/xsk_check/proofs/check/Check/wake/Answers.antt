use Rattle.std.proofs.Common.{◌≡◌, ◌∙◌, ap, refl, subst, sym, None}
use Rattle.xsk_check.specs.Checking.{Checked, Judges}
use Rattle.xsk_check.proofs.Hearing.{aside-judges, woken}
use Rattle.xsk_check.proofs.check.Check.wake.Goals as goal

pub unreachable-requires : goal.unreachable-requires
unreachable-requires c =
    let none : c.args.self.now.court ≡ None = ap (λ (k : Checked). k.court) (sym c.self.view_is) ∙ c.in-None.is in
    subst (Judges c.requires.0) none (aside-judges c.args.self.now c.requires.0 c.requires.1 c.args.wakeup c.requires.2 c.requires.5)

pub returns-clause-heard : goal.returns-clause-heard
returns-clause-heard c = λ r xs heard counted number told next after.
    woken c.args.self.now _ c.in-Some.court c.wake.new.court r next xs c.args.line c.args.wakeup (ap (λ (k : Checked). k.court) (sym c.self.view_is) ∙ c.in-Some.is) refl
    (ap (λ (k : Checked). k.calls) c.self.view_is) c.wake.ensures.setting c.wake.ensures.metadata c.wake.ensures.opens c.wake.ensures.follows number heard told after
