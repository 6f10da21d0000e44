use Rattle.std.proofs.Common.{◌≡◌, ◌↔◌, ℕ, IsTrue, false, Option, ap, subst, refl, rules}
use Rattle.xsk_turns.specs.Stepping.{joined_ask}
use Rattle.xsk_model.specs.Asks.{joined_call, joined_reply}
use Rattle.xsk_model.specs.Entry.{own}
use Rattle.xsk_model.specs.OtherWords.{changes}
use Rattle.xsk_model.specs.declared.ask.Ask.{Ask}
use Rattle.xsk_model.specs.declared.call.Act.{Act}
use Rattle.xsk_model.specs.declared.call.Act.TheVariants.{Call as Calls}
use Rattle.xsk_machine.specs.Acts.{IsActAfter}
use Rattle.xsk_sim.proofs.RunSteps.{turn_made, turn_past}
use Rattle.xsk_sim.proofs.seat.Seat.step.Goals as goal

pub returns-clause-turn : goal.returns-clause-turn
returns-clause-turn g c s frames h run stands after =
    let call = joined_call c.in-Some.ask c.args.self.now.items in
    let reply = joined_reply c.serve-answer.result c.serve-answer.new.items in
    let act = joined_ask c.step.new.next c.step.new.items in
    let is : joined_ask c.args.self.now.ask c.args.self.now.items ≡ Calls call = ap (λ (a : Option Ask). joined_ask a c.args.self.now.items) c.in-Some.is in
    turn_made s frames h (g.S.Server.seen c.args.server.now) (g.S.Server.seen c.serve-answer.new.self) c.args.who call reply (joined_ask c.args.self.now.ask c.args.self.now.items) act c.args.self.now.settled (g.M.Machine.has_settled c.args.self.now.machine) c.settled-settled.result c.is_quiet-still.result
    (g.M.Machine.stands s c.args.who c.step.new.self act) run
    (subst (λ (a : Act). IsActAfter s c.args.who a (own c.args.who h)) is after) c.serve-answer.ensures.serves
    (λ may. c.step.ensures.goes_on s c.args.who (own c.args.who h) call reply
    (subst (λ (a : Act). g.M.Machine.stands s c.args.who c.args.self.now.machine a (own c.args.who h)) is stands) refl may)
    is c.settled-settled.ensures
    (subst (λ (n : ℕ). IsTrue c.is_quiet-still.result ↔ ((changes call reply ≡ false) × (n ≡ c.args.self.now.settled))) c.settled-settled.ensures
    (c.is_quiet-still.ensures c.args.self.now.items c.serve-answer.new.items))

pub serve-answer-requires-clause-can : goal.serve-answer-requires-clause-can
serve-answer-requires-clause-can g c =
    let call = joined_call c.in-Some.ask c.args.self.now.items in
    let is : joined_ask c.args.self.now.ask c.args.self.now.items ≡ Calls call = ap (λ (a : Option Ask). joined_ask a c.args.self.now.items) c.in-Some.is in
    c.requires.can call is

pub returns-in_default-clause-turn : goal.returns-in_default-clause-turn
returns-in_default-clause-turn g c s frames h run stands after =
    turn_past s frames h (g.S.Server.seen c.args.server.now) c.args.who c.args.self.now.ask c.args.self.now.items c.args.self.now.settled (g.M.Machine.has_settled c.args.self.now.machine) (g.M.Machine.stands s c.args.who c.args.self.now.machine)
    (search rules) run stands after
