use Rattle.xsk_plain.proofs.object.Object.new.Goals as goal

pub invariant_of-result-clause-sizes : goal.invariant_of-result-clause-sizes
invariant_of-result-clause-sizes c = rw c.in-Ok-Ok.is-0 at c.open_rings-rings.ensures.sizes

pub invariant_of-result-clause-places : goal.invariant_of-result-clause-places
invariant_of-result-clause-places c = rw c.in-Ok-Ok.is-1 at c.open_marks-marks.ensures.len
