use Rattle.std.proofs.Common.{◌≡◌, [], refl, ap, subst, ◌∙◌}
use Rattle.xsk_model.specs.Asks.{joined_reply}
use Rattle.xsk_model.specs.Config.{size_of}
use Rattle.xsk_model.specs.declared.call.Call.TheVariants.{Reserve}
use Rattle.xsk_model.specs.declared.ask.Answer.{Answer}
use Rattle.xsk_model.specs.Object.{reserve_reply}
use Rattle.xsk_plain.specs.Engine.{Engine, part_in}
use Rattle.xsk_plain.specs.Steps.{FollowsObject, free_in}
use Rattle.xsk_plain.specs.Stores.{parts_of}
use Rattle.xsk_plain.specs.Unlogged.{unlogged_engine}
use Rattle.xsk_plain.proofs.Follows.{follows, reply_granted, reply_full}
use Rattle.xsk_plain.proofs.unlogged.Unlogged.reserve.Goals as goal
use Rattle.xsk_plain.proofs.unlogged.Unlogged.reserve.Goals.{in-Ok, in-Err}

pub invariant_of-self : goal.invariant_of-self
invariant_of-self c = record {
  home = c.self.invariant.home;
  limit = rw c.reserve.ensures.changes.config c.self.invariant.limit;
}

pub returns-clause-follows : goal.returns-clause-follows
returns-clause-follows c =
    let old = c.self.inside.object in
    let free = free_in (size_of old.config c.args.ring) (part_in old.config (parts_of old.rings.items) c.args.ring) in
    let reply : joined_reply c.match-reserve.result [] ≡ reserve_reply c.args.count free = elim c.match-reserve.branch [
      | in-Ok w ↦ ap (λ (answer : Answer). joined_reply answer []) w.result-is ∙ reply_granted c.args.count free (w.in-Ok.ensures.granted.0 refl)
      | in-Err w ↦ ap (λ (answer : Answer). joined_reply answer []) w.result-is
          ∙ reply_full c.args.count free w.in-Err.free (λ few. let no = w.in-Err.ensures.granted.1 few in cc) w.in-Err.ensures.full
    ] in
    λ who. subst (λ (before : Engine). FollowsObject before (unlogged_engine (record { object = c.reserve.new.self; calls = c.self.inside.calls; home = c.self.inside.home })) who (Reserve c.args.ring c.args.count) (joined_reply c.match-reserve.result [])) c.self.view_is
    (follows (unlogged_engine c.self.inside) _ who (Reserve c.args.ring c.args.count) (joined_reply c.match-reserve.result []) c.reserve.ensures.changes.rings c.reserve.ensures.changes.marks reply)
