use Rattle.xsk_table.proofs.FirstEnds.{rests_some}
use Rattle.xsk_table.proofs.passes.Passes.give.Goals as goal

pub invariant_of-self : goal.invariant_of-self
invariant_of-self c = rests_some c.self.inside.passes.items c.caller-caller.result c.args.pass c.caller-caller.ensures.caller c.requires.rests c.self.invariant
