use Rattle.std.proofs.Common.{refl}
use Rattle.xsk_rings.specs.Rounds.{mine_of}
use Rattle.xsk_shared_ends.proofs.Emptying.{begins}
use Rattle.xsk_shared_ends.proofs.leaving.Leaving.new.Goals as goal

pub invariant_of-result : goal.invariant_of-result
invariant_of-result c =
    let e = c.args.ends in
    let step = c.step.ensures in
    begins e c.step.new.self c.leave-app.result.0 c.step.new.asked c.step.new.items c.leave-app.result.1 c.leave-app.ensures.ends c.requires.drained c.leave-app.ensures.app step.same.0 step.same.1 step.expected step.given_back
    c.leave-app.ensures.pass (step.resumes e.config e.app e.kept (mine_of e.pass) c.leave-app.ensures.app refl)
