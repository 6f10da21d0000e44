use Rattle.std.proofs.Common.{◌∙◌, ap, subst, sym}
use Rattle.xsk_workers.specs.Crew.{IsSeatOn}
use Rattle.xsk_workers.specs.Hands.{team_seat}
use Rattle.xsk_workers.specs.Members.{either_seat}
use Rattle.xsk_workers.specs.Terms.{setting_over}
use Rattle.xsk_workers.proofs.Sitting.{opened_seat, opened_on}
use Rattle.xsk_workers.proofs.member.MemberTeamOpens.open.Goals as goal

pub returns-in-One-clause-back : goal.returns-in-One-clause-back
returns-in-One-clause-back g c = sym (ap (either_seat g.A.Turns.seat team_seat) c.in-One.is)

pub returns-in-Ok-clause-seat : goal.returns-in-Ok-clause-seat
returns-in-Ok-clause-seat g c =
    opened_seat (setting_over c.in-Ok.parts.1.source.terms g.V.Verdicts.verdicts) c.in-Ok.parts.0 c.in-Several.team c.in-Ok.ensures.ends c.in-Ok.ensures.setting
    ∙ sym (ap (either_seat g.A.Turns.seat team_seat) c.in-Several.is)

pub returns-in-Ok-clause-on : goal.returns-in-Ok-clause-on
returns-in-Ok-clause-on g c b on =
    opened_on b c.in-Ok.parts.0 c.in-Several.team c.in-Ok.ensures.ends
    (subst (λ m. IsSeatOn b (either_seat g.A.Turns.seat team_seat m)) c.in-Several.is on)

pub returns-in-Err-clause-back : goal.returns-in-Err-clause-back
returns-in-Err-clause-back g c = ap team_seat c.in-Err.ensures.back ∙ sym (ap (either_seat g.A.Turns.seat team_seat) c.in-Several.is)
