use Rattle.xsk_plain.proofs.Openings.{zero_step}
use Rattle.xsk_plain.proofs.opening.add_zeros.Goals as goal

pub loop-preserved : goal.loop-preserved
loop-preserved c = zero_step c.args.marks.now.items c.loop.marks.items c.push.new.self.items c.loop.counter c.in_ok-push.ensures.items c.loop.invariant
