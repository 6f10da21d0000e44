use Rattle.std.proofs.Common.{subst, ◌∙◌}
use Rattle.xsk_model.specs.Asks.{joined_reply, HasAnswered}
use Rattle.xsk_model.specs.declared.ask.Answer.{Answer}
use Rattle.xsk_model.specs.declared.call.Call.TheVariants.{Reserve}
use Rattle.xsk_rings.specs.Serving.{Served}
use Rattle.xsk_rings.proofs.Rounds.{served_rests}
use Rattle.bench_rings.proofs.Legality.{room_granted, room_waits}
use Rattle.bench_rings.proofs.moving.gets_room.Goals as goal

pub returns-in-Granted-clause-room : goal.returns-in-Granted-clause-room
returns-in-Granted-clause-room c t = room_granted c.tries.pass c.serve.new.self c.args.sink c.args.count c.args.most
    (subst (λ (a : Answer). Served c.tries.pass c.serve.new.self (Reserve c.args.sink c.args.count) (joined_reply a c.serve.new.items)) c.in-Granted.is c.serve.ensures.told.served) c.tries.invariant.2

pub tries-preserved : goal.tries-preserved
tries-preserved c = (
  served_rests c.args.shared.now c.tries.pass c.serve.new.self _ _ c.tries.invariant.0 c.serve.ensures.told.served,
  c.serve.ensures.told.served.who ∙ c.tries.invariant.1,
  room_waits c.tries.pass c.serve.new.self c.args.sink c.args.count c.args.most c.in-Full.field-0
      (subst (λ (a : Answer). Served c.tries.pass c.serve.new.self (Reserve c.args.sink c.args.count) (joined_reply a c.serve.new.items)) c.in-Full.is c.serve.ensures.told.served) c.tries.invariant.2,
  subst (λ (a : Answer). HasAnswered a c.serve.new.items) c.in-Full.is c.serve.ensures.items,
)
