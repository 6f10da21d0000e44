use Rattle.std.proofs.Common.{◌≡◌, ◌∙◌, ap, subst, sym}
use Rattle.xsk_shared_ends.specs.Last.{LastShown}
use Rattle.xsk_workers.specs.Hands.{TeamShown, IsTeam, AreSides}
use Rattle.xsk_workers.specs.Terms.{setting_over}
use Rattle.xsk_workers.proofs.Sitting.{team_with, opened_goes}
use Rattle.xsk_workers.proofs.team.Team.open.Goals as goal

pub returns-in-Ok-clause-ends : goal.returns-in-Ok-clause-ends
returns-in-Ok-clause-ends g c = c.in-Ok.ensures.ends ∙ ap (λ (t : TeamShown). t.last) c.self.view_is

pub returns-in-Ok-clause-setting : goal.returns-in-Ok-clause-setting
returns-in-Ok-clause-setting g c = ap (λ (t : TeamShown). t.setting) c.self.view_is

pub returns-in-Ok-clause-goes : goal.returns-in-Ok-clause-goes
returns-in-Ok-clause-goes g c =
    opened_goes (setting_over c.self.inside.rest.source.terms g.V.Verdicts.verdicts) c.self.inside.rest.who c.self.inside.rest.plan.pairs c.in-Ok.ends c.self.inside.last c.in-Ok.ensures.ends c.self.invariant.0 c.self.invariant.1 c.self.invariant.2

pub invariant_of-result : goal.invariant_of-result
invariant_of-result g c =
    let s = setting_over c.self.inside.rest.source.terms g.V.Verdicts.verdicts in
    subst (λ (l : LastShown). IsTeam (team_with s l) × (c.self.inside.rest.who ≡ l.pass.who) × AreSides s.config c.self.inside.rest.who c.self.inside.rest.plan.pairs) (sym c.in-Err.ensures.back) c.self.invariant

pub returns-in-Err-clause-back : goal.returns-in-Err-clause-back
returns-in-Err-clause-back g c = ap (team_with (setting_over c.self.inside.rest.source.terms g.V.Verdicts.verdicts)) c.in-Err.ensures.back ∙ c.self.view_is
