use Rattle.std.proofs.Common.{sym, subst, Option}
use Rattle.xsk_table.specs.Held.{Holder}
use Rattle.xsk_table.specs.Opening.{AtRest}
use Rattle.std.proofs.Common.{set}
use Rattle.xsk_table.proofs.FirstEnds.{rests_none}
use Rattle.xsk_table.proofs.passes.Passes.take.Goals as goal

pub invariant_of-self : goal.invariant_of-self
invariant_of-self c = subst (λ (p : Option Holder). AtRest (set c.self.inside.passes.items c.args.caller p)) (sym c.take.ensures.after) (rests_none c.self.inside.passes.items c.args.caller c.self.invariant)
