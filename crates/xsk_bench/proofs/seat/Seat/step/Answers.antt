use Rattle.std.proofs.Common.{◌≡◌, Option, length, ap, refl, subst, rules, arith}
use Rattle.xsk_turns.specs.Stepping.{joined_ask, IsGivenBack}
use Rattle.xsk_turns.specs.Workers.{input_of}
use Rattle.xsk_model.specs.Asks.{joined_call, joined_reply}
use Rattle.xsk_model.specs.Entry.{own, with_told}
use Rattle.xsk_model.specs.declared.ask.Ask.{Ask}
use Rattle.xsk_model.specs.declared.call.Act.{Act}
use Rattle.xsk_model.specs.declared.call.Act.TheVariants.{Call as Calls}
use Rattle.xsk_turns.proofs.Fitting.{gift_suits}
use Rattle.xsk_sim.specs.Server.{Serves, logged_seen}
use Rattle.xsk_sim.proofs.RunSteps.{turn_made, turn_past}
use Rattle.xsk_sim.proofs.Rooms.{payload_within}
use Rattle.xsk_bench.specs.Drives.{Drives}
use Rattle.xsk_bench.proofs.Seats.{act_after}
use Rattle.xsk_bench.proofs.seat.Seat.step.Goals as goal

pub returns-clause-turn : goal.returns-clause-turn
returns-clause-turn c s frames h run known drives =
    let who = c.args.who in
    let call = joined_call c.in-Some.ask c.args.self.now.items in
    let reply = joined_reply c.serve-answer.result c.serve-answer.new.items in
    let new = c.step.new.self in
    let act = joined_ask c.step.new.next c.step.new.items in
    let is : joined_ask c.args.self.now.ask c.args.self.now.items ≡ Calls call = ap (λ (a : Option Ask). joined_ask a c.args.self.now.items) c.in-Some.is in
    let gave : Drives s who c.args.self.now.driver (Calls call) (own who h) = subst (λ (a : Act). Drives s who c.args.self.now.driver a (own who h)) is drives in
    let serves : Serves (logged_seen c.args.checked.now) (logged_seen c.serve-answer.new.self) who call reply = record {
      reply = c.serve-answer.ensures.reply;
      state = c.serve-answer.ensures.state;
      config = c.serve-answer.ensures.config;
      calls = c.serve-answer.ensures.calls;
      keeps = refl;
      log = λ kept. c.serve-answer.ensures.log;
      entries = omega (arith, c.serve-answer.ensures.entries);
      bytes = omega (arith, payload_within c.args.checked.now.config c.in-Some.ask c.args.self.now.items c.requires.geometry c.len-count.ensures.few, c.serve-answer.ensures.bytes);
    } in
    turn_made s frames h (logged_seen c.args.checked.now) (logged_seen c.serve-answer.new.self) who call reply (joined_ask c.args.self.now.ask c.args.self.now.items) act c.args.self.now.settled (length c.args.self.now.driver.kept.disposals) _ c.is_quiet-still.result
    (Drives s who new act) run (act_after s who c.args.self.now.driver (Calls call) (own who h) known gave) serves
    (λ may.
    let next : Drives s who new act (with_told (own who h) call reply) =
    c.step.ensures.goes_on s.wire s.config who (input_of s who) (own who h) call reply gave refl (gift_suits s.config (own who h) who call reply may) in
    (next, act_after s who new act (with_told (own who h) call reply) known next))
    is (search rules)
    (search (rules, c.is_quiet-still.ensures c.args.self.now.items c.serve-answer.new.items))

pub serve-answer-requires-clause-legal : goal.serve-answer-requires-clause-legal
serve-answer-requires-clause-legal c =
    c.requires.legal (joined_call c.in-Some.ask c.args.self.now.items) (ap (λ (a : Option Ask). joined_ask a c.args.self.now.items) c.in-Some.is)

pub serve-answer-requires-clause-items : goal.serve-answer-requires-clause-items
serve-answer-requires-clause-items c = subst (λ (a : Option Ask). IsGivenBack a c.args.self.now.items) c.in-Some.is c.requires.given

pub serve-answer-requires-clause-bytes : goal.serve-answer-requires-clause-bytes
serve-answer-requires-clause-bytes c =
    omega (arith, payload_within c.args.checked.now.config c.in-Some.ask c.args.self.now.items c.requires.geometry c.len-count.ensures.few, c.requires.bytes)

pub returns-clause-bytes : goal.returns-clause-bytes
returns-clause-bytes c =
    omega (arith, payload_within c.args.checked.now.config c.in-Some.ask c.args.self.now.items c.requires.geometry c.len-count.ensures.few, c.serve-answer.ensures.bytes)

pub returns-in_default-clause-turn : goal.returns-in_default-clause-turn
returns-in_default-clause-turn c s frames h run known drives =
    turn_past s frames h (logged_seen c.args.checked.now) c.args.who c.args.self.now.ask c.args.self.now.items c.args.self.now.settled (length c.args.self.now.driver.kept.disposals) (Drives s c.args.who c.args.self.now.driver)
    (search rules) run drives (act_after s c.args.who c.args.self.now.driver (joined_ask c.args.self.now.ask c.args.self.now.items) (own c.args.who h) known drives)
