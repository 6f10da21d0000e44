use Rattle.std.proofs.Common.{◌≡◌, ◌+◌, ◌<◌, ◌≤◌, IsTrue, refl, arith, subst, ◌∙◌, ⊎_elim}
use Rattle.xsk_sim.specs.Seats.{HaveEnded}
use Rattle.xsk_sim.proofs.Standing.{decided, gone_none, gone_more, never_more, never_ended, Stops, stops}
use Rattle.xsk_sim.proofs.Lasting.{never_so_many}
use Rattle.xsk_sim.proofs.simulation.make_rounds.Goals as goal

pub loop-round-init : goal.loop-round-init
loop-round-init g c = record {
  config = refl;
  few = omega arith;
  rounds = λ s frames seated. (gone_none s frames c.args.order c.args.workers.now (g.S.Server.seen c.args.server.now) seated, c.new-current.ensures, λ round below still. omega (arith, below));
  going = λ some ended. omega (arith, some);
}

pub returns-then-have_ended-clause-ended : goal.returns-then-have_ended-clause-ended
returns-then-have_ended-clause-ended g c s frames seated =
    let l = c.loop-round in
    let had = l.invariant.rounds s frames seated in
    let more = gone_more s frames c.args.order l.round l.still c.still_after-still.result l.current.number c.round.new.order.number c.in_ok-quiet.quiet l.workers c.round.new.self (g.S.Server.seen l.server) (g.S.Server.seen c.round.new.server) had.0 had.1
    (c.in_ok-quiet.ensures.round s frames had.0.had.history had.0.had.seated) c.still_after-still.ensures.more c.still_after-still.ensures.none in
    let few = c.loop-round-test.true in
    let ended = c.have_ended.ensures.0 c.if-have_ended.true in
    (l.round + 1, omega arith, more.0.had, ended, never_ended s frames c.args.order l.round c.still_after-still.result c.round.new.self (g.S.Server.seen c.round.new.server) had.2 more.0 ended)

pub round-requires-clause-going : goal.round-requires-clause-going
round-requires-clause-going g c =
    let r = c.requires.ready in
    let had = c.loop-round.invariant.rounds r.setting r.frames r.seated in
    record { setting = r.setting; frames = r.frames; history = had.0.had.history; seated = had.0.had.seated }

pub loop-round-preserved : goal.loop-round-preserved
loop-round-preserved g c =
    let l = c.loop-round in
    let few : c.still_after-still.result < 64 = ⊎_elim
    (λ (yes : IsTrue c.in_ok-quiet.quiet). omega (arith, c.still_after-still.ensures.more yes, l.invariant.few, c.if-still-eq-STILL_ROUNDS.false))
    (λ (no : IsTrue c.in_ok-quiet.quiet → ⊥). omega (arith, c.still_after-still.ensures.none no))
    (decided c.in_ok-quiet.quiet) in
    record {
      config = c.round.ensures.config ∙ l.invariant.config;
      few = few;
      rounds = λ s frames seated.
          let had = l.invariant.rounds s frames seated in
          let more = gone_more s frames c.args.order l.round l.still c.still_after-still.result l.current.number c.round.new.order.number c.in_ok-quiet.quiet l.workers c.round.new.self (g.S.Server.seen l.server) (g.S.Server.seen c.round.new.server) had.0 had.1
          (c.in_ok-quiet.ensures.round s frames had.0.had.history had.0.had.seated) c.still_after-still.ensures.more c.still_after-still.ensures.none in
          (more.0, more.1, never_more s frames c.args.order l.round c.still_after-still.result c.round.new.self (g.S.Server.seen c.round.new.server) had.2 more.0 few);
      going = λ some ended. let yes = c.have_ended.ensures.1 ended in let no = c.if-have_ended.false in cc;
    }

pub returns-then-still-eq-STILL_ROUNDS-clause-stalled : goal.returns-then-still-eq-STILL_ROUNDS-clause-stalled
returns-then-still-eq-STILL_ROUNDS-clause-stalled g c s frames round seated is =
    let l = c.loop-round in
    let had = l.invariant.rounds s frames seated in
    let more = gone_more s frames c.args.order l.round l.still c.still_after-still.result l.current.number c.round.new.order.number c.in_ok-quiet.quiet l.workers c.round.new.self (g.S.Server.seen l.server) (g.S.Server.seen c.round.new.server) had.0 had.1
    (c.in_ok-quiet.ensures.round s frames had.0.had.history had.0.had.seated) c.still_after-still.ensures.more c.still_after-still.ensures.none in
    let here : l.round ≡ round = cc in
    let few : l.round ≤ 18446744073709551615 = omega (arith, c.loop-round-test.true) in
    let going : HaveEnded c.round.new.self → ⊥ = λ ended. let yes = c.have_ended.ensures.1 ended in let no = c.if-have_ended.false in cc in
    subst (Stops s frames c.args.order c.round.new.self (g.S.Server.seen c.round.new.server)) here
    (stops s frames c.args.order l.round c.still_after-still.result c.round.new.self (g.S.Server.seen c.round.new.server) more.0 going few c.if-still-eq-STILL_ROUNDS.true had.2)

-- runs have fewer rounds
pub unreachable-requires : goal.unreachable-requires
unreachable-requires g c =
    let l = c.loop-round in
    let r = c.requires.ready in
    let had = l.invariant.rounds r.setting r.frames r.seated in
    let many : 18446744073709551615 ≤ l.round = omega (arith, c.loop-round-test.false) in
    omega (
      arith,
      many,
      never_so_many r.setting r.frames c.args.order l.round l.still c.args.workers.now l.workers (g.S.Server.seen c.args.server.now) (g.S.Server.seen l.server) r.seated had.0 had.2 (l.invariant.going (omega (arith, many))),
    )
