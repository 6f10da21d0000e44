use Rattle.std.proofs.Common.{rules, subst}
use Rattle.xsk_model.specs.Asks.{joined_reply}
use Rattle.xsk_model.specs.declared.ask.Answer.{Answer}
use Rattle.xsk_model.specs.declared.call.Call.TheVariants.{Peek}
use Rattle.xsk_rings.specs.Serving.{Served}
use Rattle.xsk_rings.proofs.Rounds.{served_rests}
use Rattle.bench_rings.proofs.Legality.{room_taken, took}
use Rattle.bench_rings.proofs.moving.takes.Goals as goal

pub returns-in-Items-clause-room : goal.returns-in-Items-clause-room
returns-in-Items-clause-room c = room_taken c.args.pass.now c.serve.new.self c.args.source c.args.sink c.args.most c.args.most _ c.requires.apart c.serve.ensures.told.served c.requires.room

pub returns-in-Items-clause-took : goal.returns-in-Items-clause-took
returns-in-Items-clause-took c t = took c.args.pass.now c.serve.new.self c.args.source c.args.most c.serve.new.items
    (subst (λ (a : Answer). Served c.args.pass.now c.serve.new.self (Peek c.args.source c.args.most) (joined_reply a c.serve.new.items)) c.in-Items.is c.serve.ensures.told.served)

pub returns-in-Empty : goal.returns-in-Empty
returns-in-Empty c = record {
  rests = served_rests c.args.shared.now c.args.pass.now c.serve.new.self _ _ c.requires.rests c.serve.ensures.told.served;
  caller = c.serve.ensures.told.served.who;
  room = room_taken c.args.pass.now c.serve.new.self c.args.source c.args.sink c.args.most c.args.most _ c.requires.apart c.serve.ensures.told.served c.requires.room;
  took = λ t. absurd (cc);
  none = λ f. search rules;
}
