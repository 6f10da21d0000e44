use Rattle.std.proofs.Common.{◌∙◌, ap, sym}
use Rattle.xsk_workers.specs.Members.{either_seat}
use Rattle.xsk_workers.proofs.member.MemberTurns.caller.Goals as goal

pub returns-in-One : goal.returns-in-One
returns-in-One g c = c.caller.ensures ∙ sym (ap (λ m. (either_seat g.A.Turns.seat g.B.Turns.seat m).who) c.in-One.is)

pub returns-in-Several : goal.returns-in-Several
returns-in-Several g c = c.caller-in-Several.ensures ∙ sym (ap (λ m. (either_seat g.A.Turns.seat g.B.Turns.seat m).who) c.in-Several.is)
