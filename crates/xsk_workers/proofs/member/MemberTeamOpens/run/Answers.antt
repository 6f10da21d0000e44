use Rattle.std.proofs.Common.{◌∙◌, ap, subst, sym}
use Rattle.xsk_workers.specs.Crew.{IsSeatOn}
use Rattle.xsk_workers.specs.Hands.{team_seat}
use Rattle.xsk_workers.specs.Members.{either_seat}
use Rattle.xsk_workers.proofs.member.MemberTeamOpens.run.Goals as goal

pub run_alone-requires : goal.run_alone-requires
run_alone-requires g c = subst (λ m. IsSeatOn c.args.shared.now (either_seat g.A.Turns.seat team_seat m)) c.in-One.is c.requires

pub returns-in-One : goal.returns-in-One
returns-in-One g c = c.run_alone.ensures ∙ sym (ap (either_seat g.A.Turns.seat team_seat) c.in-One.is)

pub run_alone-requires-in-Several : goal.run_alone-requires-in-Several
run_alone-requires-in-Several g c = subst (λ m. IsSeatOn c.args.shared.now (either_seat g.A.Turns.seat team_seat m)) c.in-Several.is c.requires

pub returns-in-Several : goal.returns-in-Several
returns-in-Several g c = c.run_alone-in-Several.ensures ∙ sym (ap (either_seat g.A.Turns.seat team_seat) c.in-Several.is)
