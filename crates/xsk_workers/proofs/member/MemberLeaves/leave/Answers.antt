use Rattle.std.proofs.Common.{◌≡◌, ◌∙◌, ap, subst, sym}
use Rattle.xsk_table.specs.View.{idle}
use Rattle.xsk_workers.specs.Shown.{AreCounted}
use Rattle.xsk_workers.specs.Members.{either_pass, EitherLeaves}
use Rattle.xsk_workers.proofs.member.MemberLeaves.leave.Goals as goal

pub leave-requires : goal.leave-requires
leave-requires g c = record { room = λ left is. c.requires.room left (subst (λ m. EitherLeaves g.A.Leaves.leaves g.B.Leaves.leaves m left) (sym c.in-One.is) is) }

pub returns-in-One-clause-kept : goal.returns-in-One-clause-kept
returns-in-One-clause-kept g c =
    let kept = c.leave.ensures.kept in
    (kept.0, subst (λ m. EitherLeaves g.A.Leaves.leaves g.B.Leaves.leaves m kept.0) (sym c.in-One.is) kept.1, kept.2)

pub returns-in-One-clause-pass : goal.returns-in-One-clause-pass
returns-in-One-clause-pass g c = c.leave.ensures.pass ∙ sym (ap (either_pass g.A.Leaves.pass g.B.Leaves.pass) c.in-One.is)

pub returns-in-One-clause-rests : goal.returns-in-One-clause-rests
returns-in-One-clause-rests g c = subst (λ m. (either_pass g.A.Leaves.pass g.B.Leaves.pass m).view.flight ≡ idle) (sym c.in-One.is) c.leave.ensures.rests

pub returns-in-One-clause-calls : goal.returns-in-One-clause-calls
returns-in-One-clause-calls g c = subst (λ m. AreCounted c.leave.result.1 (either_pass g.A.Leaves.pass g.B.Leaves.pass m)) (sym c.in-One.is) c.leave.ensures.calls

pub leave-requires-in-Several : goal.leave-requires-in-Several
leave-requires-in-Several g c = record { room = λ left is. c.requires.room left (subst (λ m. EitherLeaves g.A.Leaves.leaves g.B.Leaves.leaves m left) (sym c.in-Several.is) is) }

pub returns-in-Several-clause-kept : goal.returns-in-Several-clause-kept
returns-in-Several-clause-kept g c =
    let kept = c.leave-in-Several.ensures.kept in
    (kept.0, subst (λ m. EitherLeaves g.A.Leaves.leaves g.B.Leaves.leaves m kept.0) (sym c.in-Several.is) kept.1, kept.2)

pub returns-in-Several-clause-pass : goal.returns-in-Several-clause-pass
returns-in-Several-clause-pass g c = c.leave-in-Several.ensures.pass ∙ sym (ap (either_pass g.A.Leaves.pass g.B.Leaves.pass) c.in-Several.is)

pub returns-in-Several-clause-rests : goal.returns-in-Several-clause-rests
returns-in-Several-clause-rests g c = subst (λ m. (either_pass g.A.Leaves.pass g.B.Leaves.pass m).view.flight ≡ idle) (sym c.in-Several.is) c.leave-in-Several.ensures.rests

pub returns-in-Several-clause-calls : goal.returns-in-Several-clause-calls
returns-in-Several-clause-calls g c = subst (λ m. AreCounted c.leave-in-Several.result.1 (either_pass g.A.Leaves.pass g.B.Leaves.pass m)) (sym c.in-Several.is) c.leave-in-Several.ensures.calls
