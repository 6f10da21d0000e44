use Rattle.std.proofs.Common.{◌∙◌, ap, subst, sym}
use Rattle.xsk_workers.specs.Crew.{IsSeatOn}
use Rattle.xsk_workers.specs.Members.{either_seat}
use Rattle.xsk_workers.proofs.member.MemberTurns.turn.Goals as goal

pub turn-requires-clause-on : goal.turn-requires-clause-on
turn-requires-clause-on g c = subst (λ m. IsSeatOn c.args.shared.now (either_seat g.A.Turns.seat g.B.Turns.seat m)) c.in-One.is c.requires.on

pub turn-requires-clause-passed : goal.turn-requires-clause-passed
turn-requires-clause-passed g c = c.requires.passed ∙ ap (λ m. (either_seat g.A.Turns.seat g.B.Turns.seat m).who) c.in-One.is

pub returns-in-One-clause-seat : goal.returns-in-One-clause-seat
returns-in-One-clause-seat g c = c.turn.ensures.seat ∙ sym (ap (either_seat g.A.Turns.seat g.B.Turns.seat) c.in-One.is)

pub turn-requires-in-Several-clause-on : goal.turn-requires-in-Several-clause-on
turn-requires-in-Several-clause-on g c = subst (λ m. IsSeatOn c.args.shared.now (either_seat g.A.Turns.seat g.B.Turns.seat m)) c.in-Several.is c.requires.on

pub turn-requires-in-Several-clause-passed : goal.turn-requires-in-Several-clause-passed
turn-requires-in-Several-clause-passed g c = c.requires.passed ∙ ap (λ m. (either_seat g.A.Turns.seat g.B.Turns.seat m).who) c.in-Several.is

pub returns-in-Several-clause-seat : goal.returns-in-Several-clause-seat
returns-in-Several-clause-seat g c = c.turn-in-Several.ensures.seat ∙ sym (ap (either_seat g.A.Turns.seat g.B.Turns.seat) c.in-Several.is)
