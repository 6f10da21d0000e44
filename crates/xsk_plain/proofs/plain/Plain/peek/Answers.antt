use Rattle.std.proofs.Common.{subst}
use Rattle.xsk_model.specs.declared.call.Call.TheVariants.{Peek}
use Rattle.xsk_model.specs.declared.call.Reply.TheVariants.{Items, Empty}
use Rattle.xsk_plain.specs.Engine.{Engine, part_in}
use Rattle.xsk_plain.specs.Sound.{engine_of}
use Rattle.xsk_plain.specs.Steps.{FollowsObject}
use Rattle.xsk_plain.specs.Stores.{parts_of}
use Rattle.xsk_plain.proofs.Follows.{follows, reply_empty, reply_items}
use Rattle.xsk_plain.proofs.plain.Plain.peek.Goals as goal

pub invariant_of-self : goal.invariant_of-self
invariant_of-self c = record {
  noted = c.enter.ensures.noted;
  kept = rw (c.peek.ensures.changes.config, c.enter.ensures.notes) c.peek.ensures.kept;
  home = c.self.invariant.home;
  limit = rw c.peek.ensures.changes.config c.self.invariant.limit;
}

pub invariant_of-self-else-is_empty : goal.invariant_of-self-else-is_empty
invariant_of-self-else-is_empty c = record {
  noted = c.enter-else-is_empty.ensures.noted;
  kept = rw (c.peek.ensures.changes.config, c.enter-else-is_empty.ensures.notes) c.peek.ensures.kept;
  home = c.self.invariant.home;
  limit = rw c.peek.ensures.changes.config c.self.invariant.limit;
}

pub returns-then-is_empty-clause-follows : goal.returns-then-is_empty-clause-follows
returns-then-is_empty-clause-follows c =
    subst (λ (old : Engine). FollowsObject old (engine_of (record { object = c.peek.new.self; log = c.enter.new.self; home = c.self.inside.home })) c.args.who (Peek c.args.ring c.args.count) Empty) c.self.view_is
    (follows (engine_of c.self.inside) _ c.args.who (Peek c.args.ring c.args.count) Empty c.peek.ensures.changes.rings c.peek.ensures.changes.marks
    (reply_empty c.args.count (part_in c.self.inside.object.config (parts_of c.self.inside.object.rings.items) c.args.ring).out c.peek.new.items c.requires.can.1 c.peek.ensures.items (c.is_empty.ensures.0 c.if-is_empty.true)))

pub returns-else-is_empty-clause-follows : goal.returns-else-is_empty-clause-follows
returns-else-is_empty-clause-follows c =
    let e = c.if-is_empty.false in
    subst (λ (old : Engine). FollowsObject old (engine_of (record { object = c.peek.new.self; log = c.enter-else-is_empty.new.self; home = c.self.inside.home })) c.args.who (Peek c.args.ring c.args.count) (Items c.peek.new.items)) c.self.view_is
    (follows (engine_of c.self.inside) _ c.args.who (Peek c.args.ring c.args.count) (Items c.peek.new.items) c.peek.ensures.changes.rings c.peek.ensures.changes.marks
    (reply_items c.args.count (part_in c.self.inside.object.config (parts_of c.self.inside.object.rings.items) c.args.ring).out c.peek.new.items c.peek.ensures.items
    (λ none. let empty = c.is_empty.ensures.1 none in cc)))
