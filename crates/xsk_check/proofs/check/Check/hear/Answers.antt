use Rattle.std.proofs.Common.{ap, refl, subst, sym, Bool, None, Some}
use Rattle.xsk_side.specs.Setting.{Setting}
use Rattle.xsk_recording.specs.declared.reading.Event.{Event}
use Rattle.xsk_recording.specs.declared.reading.Event.TheVariants as an_event
use Rattle.xsk_check.specs.Checking.{Checked, HasTold, Hears, IsFoundAt}
use Rattle.xsk_check.specs.declared.check.Court.{Court}
use Rattle.xsk_check.proofs.Hearing.{found-fault, found-setting, passed, told-setting}
use Rattle.xsk_check.proofs.check.Check.hear.Goals as goal

pub returns-in-Begun-clause-heard : goal.returns-in-Begun-clause-heard
returns-in-Begun-clause-heard c = λ r xs heard counted number told. subst (λ (e : Event). Hears c.args.self.now r xs e None) (sym c.in-Begun.is) heard

pub returns-in-Passed-clause-heard : goal.returns-in-Passed-clause-heard
returns-in-Passed-clause-heard c = λ r xs heard counted number told.
    subst (λ (e : Event). Hears c.args.self.now r xs e None) (sym c.in-Passed.is)
    (λ next after. passed c.args.self.now c.args.self.now r next xs refl refl heard (subst (HasTold r xs) c.in-Passed.is told) after)

pub returns-in_ok-court-in-Setting-clause-heard : goal.returns-in_ok-court-in-Setting-clause-heard
returns-in_ok-court-in-Setting-clause-heard c = λ r xs heard counted number told.
    let court : Court = c.in_ok-court-in-Setting.court in
    let ensures = c.in_ok-court-in-Setting.ensures in
    let new : Checked = record { reading = c.self.inside.reading; court = Some court; calls = c.self.inside.calls } in
    subst (λ (e : Event). Hears new r xs e None) (sym c.in-Setting.is)
    (λ next after.
    told-setting c.args.self.now new court r next xs refl (ap (λ (k : Checked). k.calls) c.self.view_is) ensures.opens ensures.follows heard
    (subst (λ (m : Bool). HasTold r xs (an_event.Setting court.setting m)) (sym ensures.metadata)
    (subst (λ (s : Setting). HasTold r xs (an_event.Setting s c.in-Setting.metadata)) (sym ensures.setting) (subst (HasTold r xs) c.in-Setting.is told))) after)

pub returns-in-NoSetting-clause-heard : goal.returns-in-NoSetting-clause-heard
returns-in-NoSetting-clause-heard c = λ r xs heard counted number told.
    subst (λ (e : Event). Hears c.args.self.now r xs e (Some c.settled.result)) (sym c.in-NoSetting.is)
    (subst (IsFoundAt r xs) (sym c.settled.ensures) (found-setting r xs c.args.line c.in-NoSetting.error number (subst (HasTold r xs) c.in-NoSetting.is told)))

pub returns-in-Aside-clause-heard : goal.returns-in-Aside-clause-heard
returns-in-Aside-clause-heard c = λ r xs heard counted number told.
    subst (λ (e : Event). Hears c.wake.new.self r xs e None) (sym c.in-Aside.is)
    (c.wake.ensures.heard r xs heard counted number (subst (HasTold r xs) c.in-Aside.is told))

pub returns-in-Fault-clause-heard : goal.returns-in-Fault-clause-heard
returns-in-Fault-clause-heard c = λ r xs heard counted number told.
    subst (λ (e : Event). Hears c.args.self.now r xs e (Some c.settled-in-Fault.result)) (sym c.in-Fault.is)
    (subst (IsFoundAt r xs) (sym c.settled-in-Fault.ensures) (found-fault r xs c.args.line number (subst (HasTold r xs) c.in-Fault.is told)))
