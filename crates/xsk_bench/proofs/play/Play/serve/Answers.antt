use Rattle.std.proofs.Common.{rules, length, ◌+◌, ◌≤◌, ◌≡◌, ℕ, refl, ap, subst, ◌∙◌, arith}
use Rattle.xsk_umem.specs.Geometry.{IsGeometry}
use Rattle.xsk_model.specs.Asks.{joined_call, joined_reply}
use Rattle.xsk_model.specs.Config.{Config}
use Rattle.xsk_model.specs.Legal.{IsLegal}
use Rattle.xsk_model.specs.Entry.{own}
use Rattle.xsk_model.specs.Rings.{caller_of}
use Rattle.xsk_sim.specs.Server.{Serves, logged_seen}
use Rattle.xsk_sim.proofs.Rooms.{payload_within}
use Rattle.xsk_bench.specs.Played.{HasPlayed}
use Rattle.xsk_bench.proofs.Rounds.{played_same}
use Rattle.xsk_bench.proofs.Serving.{played_on}
use Rattle.xsk_bench.proofs.play.Play.serve.Goals as goal

pub returns-clause-served : goal.returns-clause-served
returns-clause-served c s frames h played =
    let p = c.args.self.now in
    let who = caller_of s.config c.args.app in
    let call = joined_call c.args.ask c.args.items.now in
    let reply = joined_reply c.serve.result c.serve.new.items in
    let engine = c.reserve_log.new.self in
    let before : HasPlayed s frames h (record p { checked = engine }) = played_same s frames h p _ played refl c.reserve_log.ensures.same in
    let by : ℕ = length c.pairs.result.now + c.args.app in
    let same : by ≡ who = ap (λ (n : ℕ). n + c.args.app) (ap length (c.pairs.ensures.value ∙ ap (λ (k : Config). k.pairs) (c.config-config.ensures ∙ played.run.config))) in
    let legal : IsLegal engine.config (own by engine.log) by call = search rules in
    let geometry : IsGeometry engine.config.geometry = search (rules, c.geometry-geometry.ensures.lawful) in
    let few : length c.args.items.now ≤ 32 = search (rules, c.len-count.ensures.few) in
    let serves : Serves (logged_seen engine) (logged_seen c.serve.new.self) by call reply = record {
      reply = c.serve.ensures.reply;
      state = c.serve.ensures.state;
      config = c.serve.ensures.config;
      calls = c.serve.ensures.calls;
      keeps = refl;
      log = λ kept. c.serve.ensures.log;
      entries = omega (arith, c.serve.ensures.entries);
      bytes = omega (arith, c.serve.ensures.bytes, payload_within engine.config c.args.ask c.args.items.now geometry few);
    } in
    played_on s frames h c.args.app call reply (record p { checked = engine }) _ before
    (subst (λ (w : ℕ). IsLegal engine.config (own w engine.log) w call) same legal)
    (subst (λ (w : ℕ). Serves (logged_seen engine) (logged_seen c.serve.new.self) w call reply) same serves) refl
