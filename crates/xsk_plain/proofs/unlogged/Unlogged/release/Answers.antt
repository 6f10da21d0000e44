use Rattle.std.proofs.Common.{refl, subst}
use Rattle.xsk_model.specs.declared.call.Call.TheVariants.{Release}
use Rattle.xsk_model.specs.declared.call.Reply.TheVariants.{Released}
use Rattle.xsk_plain.specs.Engine.{Engine}
use Rattle.xsk_plain.specs.Steps.{FollowsObject}
use Rattle.xsk_plain.specs.Unlogged.{unlogged_engine}
use Rattle.xsk_plain.proofs.Follows.{follows}
use Rattle.xsk_plain.proofs.unlogged.Unlogged.release.Goals as goal

pub invariant_of-self : goal.invariant_of-self
invariant_of-self c = record {
  home = c.self.invariant.home;
  limit = rw c.release.ensures.changes.config c.self.invariant.limit;
}

pub returns-clause-follows : goal.returns-clause-follows
returns-clause-follows c = λ who.
    subst (λ (old : Engine). FollowsObject old (unlogged_engine (record { object = c.release.new.self; calls = c.self.inside.calls; home = c.self.inside.home })) who (Release c.args.ring c.args.count) Released) c.self.view_is
    (follows (unlogged_engine c.self.inside) _ who (Release c.args.ring c.args.count) Released c.release.ensures.changes.rings c.release.ensures.changes.marks refl)
