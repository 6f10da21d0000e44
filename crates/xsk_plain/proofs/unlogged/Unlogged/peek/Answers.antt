use Rattle.std.proofs.Common.{◌≡◌, ap, subst, ◌∙◌}
use Rattle.xsk_model.specs.Asks.{joined_reply}
use Rattle.xsk_model.specs.declared.call.Call.TheVariants.{Peek}
use Rattle.xsk_model.specs.declared.ask.Answer.{Answer}
use Rattle.xsk_model.specs.Object.{peek_reply}
use Rattle.xsk_plain.specs.Engine.{Engine, part_in}
use Rattle.xsk_plain.specs.Steps.{FollowsObject}
use Rattle.xsk_plain.specs.Stores.{parts_of}
use Rattle.xsk_plain.specs.Unlogged.{unlogged_engine}
use Rattle.xsk_plain.proofs.Follows.{follows, reply_empty, reply_items}
use Rattle.xsk_plain.proofs.unlogged.Unlogged.peek.Goals as goal
use Rattle.xsk_plain.proofs.unlogged.Unlogged.peek.Goals.{then-is_empty, else-is_empty}

pub invariant_of-self : goal.invariant_of-self
invariant_of-self c = record {
  home = c.self.invariant.home;
  limit = rw c.peek_unnoted.ensures.changes.config c.self.invariant.limit;
}

pub returns-clause-follows : goal.returns-clause-follows
returns-clause-follows c =
    let old = c.self.inside.object in
    let out = (part_in old.config (parts_of old.rings.items) c.args.ring).out in
    let items = c.peek_unnoted.new.items in
    let reply : joined_reply c.if-is_empty.result items ≡ peek_reply c.args.count out = elim c.if-is_empty.branch [
      | then-is_empty w ↦ ap (λ (answer : Answer). joined_reply answer items) w.result-is
          ∙ reply_empty c.args.count out items c.requires.can.1 c.peek_unnoted.ensures.items (c.is_empty.ensures.0 w.if-is_empty.true)
      | else-is_empty w ↦ ap (λ (answer : Answer). joined_reply answer items) w.result-is
          ∙ reply_items c.args.count out items c.peek_unnoted.ensures.items (λ none. let some = w.if-is_empty.false in let empty = c.is_empty.ensures.1 none in cc)
    ] in
    λ who. subst (λ (before : Engine). FollowsObject before (unlogged_engine (record { object = c.peek_unnoted.new.self; calls = c.self.inside.calls; home = c.self.inside.home })) who (Peek c.args.ring c.args.count) (joined_reply c.if-is_empty.result items)) c.self.view_is
    (follows (unlogged_engine c.self.inside) _ who (Peek c.args.ring c.args.count) (joined_reply c.if-is_empty.result items) c.peek_unnoted.ensures.changes.rings c.peek_unnoted.ensures.changes.marks reply)
