use Rattle.std.proofs.Common.{◌∙◌, ap, subst, sym}
use Rattle.xsk_shared_ends.specs.Last.{LastShown}
use Rattle.xsk_workers.specs.Hands.{IsTeam}
use Rattle.xsk_workers.specs.Terms.{setting_over}
use Rattle.xsk_workers.proofs.Sitting.{team_with, ends_are_team}
use Rattle.xsk_workers.proofs.team.Team.new.Goals as goal

pub invariant_of-result : goal.invariant_of-result
invariant_of-result g c =
    let s = setting_over c.args.rest.source.terms g.V.Verdicts.verdicts in (
      subst (λ (l : LastShown). IsTeam (team_with s l)) (sym c.new.ensures) (ends_are_team s c.args.ends c.keeps.ensures.ends c.requires.1),
      c.requires.0 ∙ sym (ap (λ (l : LastShown). l.pass.who) c.new.ensures),
      c.requires.2,
    )

pub returns : goal.returns
returns g c = ap (team_with (setting_over c.args.rest.source.terms g.V.Verdicts.verdicts)) c.new.ensures
