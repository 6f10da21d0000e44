use Rattle.std.proofs.Common.{refl, subst}
use Rattle.xsk_model.specs.declared.call.Call.TheVariants.{Release}
use Rattle.xsk_model.specs.declared.call.Reply.TheVariants.{Released}
use Rattle.xsk_plain.specs.Engine.{Engine}
use Rattle.xsk_plain.specs.Sound.{engine_of}
use Rattle.xsk_log.specs.Log.{notes_of}
use Rattle.xsk_plain.specs.Steps.{FollowsObject}
use Rattle.xsk_plain.proofs.Follows.{follows}
use Rattle.xsk_plain.proofs.plain.Plain.release.Goals as goal

pub invariant_of-self : goal.invariant_of-self
invariant_of-self c = record {
  noted = c.enter.ensures.noted;
  kept = rw (c.release.ensures.changes.config, c.enter.ensures.notes) (c.release.ensures.kept (notes_of c.self.inside.log) c.self.invariant.kept);
  home = c.self.invariant.home;
  limit = rw c.release.ensures.changes.config c.self.invariant.limit;
}

pub returns-clause-follows : goal.returns-clause-follows
returns-clause-follows c =
    subst (λ (old : Engine). FollowsObject old (engine_of (record { object = c.release.new.self; log = c.enter.new.self; home = c.self.inside.home })) c.args.who (Release c.args.ring c.args.count) Released) c.self.view_is
    (follows (engine_of c.self.inside) _ c.args.who (Release c.args.ring c.args.count) Released c.release.ensures.changes.rings c.release.ensures.changes.marks refl)
