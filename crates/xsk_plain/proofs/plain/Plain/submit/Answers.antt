use Rattle.std.proofs.Common.{refl, subst}
use Rattle.xsk_model.specs.declared.call.Call.TheVariants.{Submit}
use Rattle.xsk_model.specs.declared.call.Reply.TheVariants.{Submitted}
use Rattle.xsk_plain.specs.Engine.{Engine}
use Rattle.xsk_plain.specs.Sound.{engine_of}
use Rattle.xsk_plain.specs.Steps.{FollowsObject}
use Rattle.xsk_plain.proofs.Follows.{follows}
use Rattle.xsk_plain.proofs.plain.Plain.submit.Goals as goal

pub invariant_of-self : goal.invariant_of-self
invariant_of-self c = record {
  noted = c.enter.ensures.noted;
  kept = rw (c.submit.ensures.changes.config, c.enter.ensures.notes) c.submit.ensures.kept;
  home = c.self.invariant.home;
  limit = rw c.submit.ensures.changes.config c.self.invariant.limit;
}

pub returns-clause-follows : goal.returns-clause-follows
returns-clause-follows c =
    subst (λ (old : Engine). FollowsObject old (engine_of (record { object = c.submit.new.self; log = c.enter.new.self; home = c.self.inside.home })) c.args.who (Submit c.args.ring c.args.items.now) Submitted) c.self.view_is
    (follows (engine_of c.self.inside) _ c.args.who (Submit c.args.ring c.args.items.now) Submitted c.submit.ensures.changes.rings c.submit.ensures.changes.marks refl)
