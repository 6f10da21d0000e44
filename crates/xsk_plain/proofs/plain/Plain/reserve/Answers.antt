use Rattle.std.proofs.Common.{refl, subst}
use Rattle.xsk_model.specs.Config.{size_of}
use Rattle.xsk_model.specs.declared.call.Call.TheVariants.{Reserve}
use Rattle.xsk_model.specs.declared.call.Reply.TheVariants.{Granted, Full}
use Rattle.xsk_plain.specs.Engine.{Engine, part_in}
use Rattle.xsk_plain.specs.Sound.{engine_of}
use Rattle.xsk_log.specs.Log.{notes_of}
use Rattle.xsk_plain.specs.Steps.{FollowsObject, free_in}
use Rattle.xsk_plain.specs.Stores.{parts_of}
use Rattle.xsk_plain.proofs.Follows.{follows, reply_granted, reply_full}
use Rattle.xsk_plain.proofs.plain.Plain.reserve.Goals as goal

pub invariant_of-self : goal.invariant_of-self
invariant_of-self c = record {
  noted = c.enter.ensures.noted;
  kept = rw (c.reserve.ensures.changes.config, c.enter.ensures.notes) (c.reserve.ensures.kept (notes_of c.self.inside.log) c.self.invariant.kept);
  home = c.self.invariant.home;
  limit = rw c.reserve.ensures.changes.config c.self.invariant.limit;
}

pub invariant_of-self-in-Err : goal.invariant_of-self-in-Err
invariant_of-self-in-Err c = record {
  noted = c.enter-in-Err.ensures.noted;
  kept = rw (c.reserve.ensures.changes.config, c.enter-in-Err.ensures.notes) (c.reserve.ensures.kept (notes_of c.self.inside.log) c.self.invariant.kept);
  home = c.self.invariant.home;
  limit = rw c.reserve.ensures.changes.config c.self.invariant.limit;
}

pub returns-in-Ok-clause-follows : goal.returns-in-Ok-clause-follows
returns-in-Ok-clause-follows c =
    subst (λ (old : Engine). FollowsObject old (engine_of (record { object = c.reserve.new.self; log = c.enter.new.self; home = c.self.inside.home })) c.args.who (Reserve c.args.ring c.args.count) Granted) c.self.view_is
    (follows (engine_of c.self.inside) _ c.args.who (Reserve c.args.ring c.args.count) Granted c.reserve.ensures.changes.rings c.reserve.ensures.changes.marks
    (reply_granted c.args.count (free_in (size_of c.self.inside.object.config c.args.ring) (part_in c.self.inside.object.config (parts_of c.self.inside.object.rings.items) c.args.ring))
    (c.in-Ok.ensures.granted.0 refl)))

pub returns-in-Err-clause-follows : goal.returns-in-Err-clause-follows
returns-in-Err-clause-follows c =
    subst (λ (old : Engine). FollowsObject old (engine_of (record { object = c.reserve.new.self; log = c.enter-in-Err.new.self; home = c.self.inside.home })) c.args.who (Reserve c.args.ring c.args.count) (Full c.in-Err.free)) c.self.view_is
    (follows (engine_of c.self.inside) _ c.args.who (Reserve c.args.ring c.args.count) (Full c.in-Err.free) c.reserve.ensures.changes.rings c.reserve.ensures.changes.marks
    (reply_full c.args.count (free_in (size_of c.self.inside.object.config c.args.ring) (part_in c.self.inside.object.config (parts_of c.self.inside.object.rings.items) c.args.ring)) c.in-Err.free
    (λ h. let no = c.in-Err.ensures.granted.1 h in cc) c.in-Err.ensures.full))
