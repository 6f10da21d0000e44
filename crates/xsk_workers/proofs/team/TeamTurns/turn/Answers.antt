use Rattle.std.proofs.Common.{◌∙◌, ap, subst, sym}
use Rattle.xsk_workers.specs.Crew.{IsSeatOn}
use Rattle.xsk_workers.specs.Hands.{TeamShown, team_seat}
use Rattle.xsk_workers.specs.Terms.{setting_over}
use Rattle.xsk_workers.proofs.Sitting.{team_with, seat_belongs, seat_stays, team_stays, team_has_run}
use Rattle.xsk_workers.proofs.team.TeamTurns.turn.Goals as goal

pub turn-turned-requires : goal.turn-turned-requires
turn-turned-requires g c =
    let b = c.args.shared.now in
    let s = setting_over c.self.inside.rest.source.terms g.V.Verdicts.verdicts in
    record { belongs = seat_belongs b (team_with s c.self.inside.last) (subst (λ (t : TeamShown). IsSeatOn b (team_seat t)) (sym c.self.view_is) c.requires.on) }

pub invariant_of-self : goal.invariant_of-self
invariant_of-self g c =
    let s = setting_over c.self.inside.rest.source.terms g.V.Verdicts.verdicts in
    (team_stays s c.self.inside.last c.turn-turned.new.self c.turn-turned.ensures.same c.self.invariant.0, c.self.invariant.1 ∙ sym c.turn-turned.ensures.same.who, c.self.invariant.2)

pub returns-clause-seat : goal.returns-clause-seat
returns-clause-seat g c =
    seat_stays (setting_over c.self.inside.rest.source.terms g.V.Verdicts.verdicts) c.self.inside.last c.turn-turned.new.self c.turn-turned.ensures.same ∙ ap team_seat c.self.view_is

pub returns-clause-whole : goal.returns-clause-whole
returns-clause-whole g c ended =
    team_has_run (setting_over c.self.inside.rest.source.terms g.V.Verdicts.verdicts) c.self.inside.last c.turn-turned.new.self c.turn-turned.ensures.same c.self.invariant.0 (c.turn-turned.ensures.whole (c.of_last.ensures.ended.0 ended))
