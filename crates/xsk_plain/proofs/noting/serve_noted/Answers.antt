use Rattle.std.proofs.Common.{subst, ◌∙◌}
use Rattle.xsk_model.specs.Asks.{joined_call, joined_reply}
use Rattle.xsk_model.specs.Config.{Config}
use Rattle.xsk_model.specs.Entry.{own, with_told}
use Rattle.xsk_legal.specs.Standing.{StandsFor}
use Rattle.xsk_legal.specs.Given.{StandsGiven}
use Rattle.xsk_plain.specs.Rooms.{Enters, payload_bytes}
use Rattle.xsk_plain.specs.Steps.{FollowsObject}
use Rattle.xsk_plain.proofs.Legality.{legal_can_perform}
use Rattle.xsk_plain.proofs.Running.{run_next, may_give, given_on, gift_on, notes_next}
use Rattle.xsk_plain.proofs.noting.serve_noted.Goals as goal

pub serve-answer-requires-clause-can : goal.serve-answer-requires-clause-can
serve-answer-requires-clause-can c =
    let r = c.requires.run in
    legal_can_perform r.0 r.1 c.args.plain.now c.args.who (joined_call c.args.ask c.args.items.now) r.2.legal r.2.shows r.4

pub got-requires : goal.got-requires
got-requires c =
    let r = c.requires.run in
    let old = c.args.plain.now in
    let new = c.serve-answer.new.self in
    let call = joined_call c.args.ask c.args.items.now in
    let reply = joined_reply c.serve-answer.result c.serve-answer.new.items in
    let later = c.config-2.ensures ∙ c.serve-answer.ensures.config in
    let enters : Enters old new c.args.who call reply (payload_bytes old.config call) = record {
      config = c.serve-answer.ensures.config;
      log = c.serve-answer.ensures.log;
      calls = c.serve-answer.ensures.calls;
      spare_entries = c.serve-answer.ensures.entries;
      spare_bytes = c.serve-answer.ensures.bytes;
    } in
    let follows : FollowsObject old new c.args.who call reply = record { reply = c.serve-answer.ensures.reply; state = c.serve-answer.ensures.state } in
    let caller = c.gives.ensures.caller ∙ r.3.caller in
    record {
      may = (
        own c.args.who r.1,
        c.args.items.now,
        given_on old.config c.config.result.now c.config-2.result.now c.args.standing.now c.gives.new.self (own c.args.who r.1) c.args.who call c.config.ensures later
            r.3.stands r.3.caller r.4 c.gives.ensures.given,
        gift_on old.config c.config-2.result.now (own c.args.who r.1) c.args.who c.gives.new.self.who call reply later caller
            (may_give old new r.0 r.1 c.args.who call reply (payload_bytes old.config call) r.2 r.4 enters follows),
      );
    }

pub returns-clause-run : goal.returns-clause-run
returns-clause-run c = λ frames h run notes legal.
    let old = c.args.plain.now in
    let new = c.serve-answer.new.self in
    let call = joined_call c.args.ask c.args.items.now in
    let reply = joined_reply c.serve-answer.result c.serve-answer.new.items in
    let later = c.config-2.ensures ∙ c.serve-answer.ensures.config in
    let enters : Enters old new c.args.who call reply (payload_bytes old.config call) = record {
      config = c.serve-answer.ensures.config;
      log = c.serve-answer.ensures.log;
      calls = c.serve-answer.ensures.calls;
      spare_entries = c.serve-answer.ensures.entries;
      spare_bytes = c.serve-answer.ensures.bytes;
    } in
    let follows : FollowsObject old new c.args.who call reply = record { reply = c.serve-answer.ensures.reply; state = c.serve-answer.ensures.state } in
    let caller = c.gives.ensures.caller ∙ notes.caller in
    let given : StandsGiven c.config-2.result.now c.gives.new.self (own c.args.who h) call =
    given_on old.config c.config.result.now c.config-2.result.now c.args.standing.now c.gives.new.self (own c.args.who h) c.args.who call c.config.ensures later
    notes.stands notes.caller legal c.gives.ensures.given in
    let may = gift_on old.config c.config-2.result.now (own c.args.who h) c.args.who c.gives.new.self.who call reply later caller
    (may_give old new frames h c.args.who call reply (payload_bytes old.config call) run legal enters follows) in
    let stands : StandsFor c.config-2.result.now c.got.new.self (with_told (own c.args.who h) call reply) = c.got.ensures.stands (own c.args.who h) c.args.items.now given may in (
      run_next old new frames h c.args.who call reply (payload_bytes old.config call) run legal enters follows,
      notes_next new.config h c.args.who call reply c.got.new.self (c.got.ensures.caller ∙ caller)
          (subst (λ (k : Config). StandsFor k c.got.new.self (with_told (own c.args.who h) call reply)) c.config-2.ensures stands),
    )
