use Rattle.std.proofs.Common.{refl}
use Rattle.xsk_shared_ends.specs.declared.visiting.Step.TheVariants.{Moved}
use Rattle.xsk_shared_ends.proofs.Standing.{looks_now, looked_now, looked_before}
use Rattle.xsk_shared_ends.proofs.serving.look.Goals as goal

pub returns-then-seen-clause-goes_on : goal.returns-then-seen-clause-goes_on
returns-then-seen-clause-goes_on c o k done later l = looked_before o _ c.args.mark _ _ k done later c.if-seen.true refl l

pub returns-clause-goes_on : goal.returns-clause-goes_on
returns-clause-goes_on c o k done later l =
    looked_now o _ _ _ c.look_at.result done later c.if-seen.false refl
    (c.look_at.ensures.goes_on o k later Moved (looks_now o _ c.args.mark _ k done later c.if-seen.false l))
