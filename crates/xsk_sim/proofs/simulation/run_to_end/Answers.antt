use Rattle.std.proofs.Common.{◌≡◌, ℕ, List, length, ◌+◌, ◌≤◌, Err, ap, ◌∙◌, rules, arith}
use Rattle.std.specs.Prelude.{is_some}
use Rattle.xsk_turns.specs.declared.manner.Manner.{Manner}
use Rattle.xsk_machine.specs.Sent.{SentShown}
use Rattle.xsk_machine.specs.declared.figures.DriverFigures.{DriverFigures}
use Rattle.xsk_sim.specs.Runs.{NeverStill}
use Rattle.xsk_sim.specs.Seats.{HadRounds, HaveEnded}
use Rattle.xsk_sim.specs.Stalls.{StandStill}
use Rattle.xsk_sim.proofs.Ending.{ended_run, figures_number, lists_kept, stalled_on, whole_of}
use Rattle.xsk_sim.proofs.SoFar.{seated_counters}
use Rattle.xsk_sim.proofs.simulation.run_to_end.Goals as goal

pub returns-in-Err-clause-stalled : goal.returns-in-Err-clause-stalled
returns-in-Err-clause-stalled g c s frames round counters seated sockets is =
    let w = c.make_rounds.new.workers in
    let object = g.S.Server.seen c.make_rounds.new.server in
    let told = c.why_stopped.ensures round counters (cc) in
    let stalled : (had : HadRounds s frames c.args.terms.order (round + 1) w object) × (HaveEnded w → ⊥) × (round ≤ 18446744073709551615)
    × StandStill s frames c.args.terms.order 64 (round + 1) had.history × NeverStill s frames c.args.terms.order round =
    c.in-Err.ensures.stalled s frames round seated (ap Err told.0) in
    stalled_on s frames c.args.terms.order round w object counters.items stalled.0 stalled.1 stalled.2 stalled.3 stalled.4
    (seated_counters s frames stalled.0.history w object c.args.classes counters.items stalled.0.seated sockets told.1)

pub returns-clause-ended : goal.returns-clause-ended
returns-clause-ended g c s frames regular seated classes wire manner =
    let w = c.make_rounds.new.workers in
    let object = g.S.Server.seen c.make_rounds.new.server in
    let ended : (count : ℕ) × (count ≤ 18446744073709551616) × HadRounds s frames c.args.terms.order count w object × HaveEnded w × NeverStill s frames c.args.terms.order count =
    c.in_default.ensures.ended s frames seated in
    let had : HadRounds s frames c.args.terms.order ended.0 w object = ended.2 in
    let figures = ap (λ (x : SentShown). x.figures) c.into_sent.ensures ∙ ap (λ (ds : List DriverFigures). whole_of c.calls-calls.result c.args.terms.wire ds c.is_some.result) c.in-Ok.ensures.figures in
    ended_run s frames c.args.terms.order ended.0 w object c.into_sent.result c.args.classes c.calls-calls.result c.args.terms.wire c.is_some.result regular had ended.1 ended.4 ended.3
    (ap (λ (x : SentShown). x.lists) c.into_sent.ensures ∙ c.in-Ok.ensures.sent) classes c.calls-calls.ensures (search rules) figures wire (c.is_some.ensures ∙ ap (λ (m : Manner). is_some m.mangle) manner)

pub returns-clause-lists : goal.returns-clause-lists
returns-clause-lists g c s frames seated =
    let w = c.make_rounds.new.workers in
    let object = g.S.Server.seen c.make_rounds.new.server in
    let ended : (count : ℕ) × (count ≤ 18446744073709551616) × HadRounds s frames c.args.terms.order count w object × HaveEnded w × NeverStill s frames c.args.terms.order count =
    c.in_default.ensures.ended s frames seated in
    let had : HadRounds s frames c.args.terms.order ended.0 w object = ended.2 in (
      ap (length {A = List (List ℕ)}) (ap (λ (x : SentShown). x.lists) c.into_sent.ensures ∙ c.in-Ok.ensures.sent) ∙ lists_kept s frames had.history w object had.seated,
      had.seated.run.config,
    )

pub into_sent-requires : goal.into_sent-requires
into_sent-requires g c =
    let r = c.requires.ready in
    let s = r.setting in
    let w = c.make_rounds.new.workers in
    let object = g.S.Server.seen c.make_rounds.new.server in
    let ended : (count : ℕ) × (count ≤ 18446744073709551616) × HadRounds s r.frames c.args.terms.order count w object × HaveEnded w × NeverStill s r.frames c.args.terms.order count =
    c.in_default.ensures.ended s r.frames r.seated in
    let had : HadRounds s r.frames c.args.terms.order ended.0 w object = ended.2 in
    let all : length c.in-Ok.kept.figures.items ≡ length s.config.pairs = ap (length {A = DriverFigures}) c.in-Ok.ensures.figures ∙ figures_number s r.frames had.history w object had.seated c.args.classes in
    omega (arith, all, c.in-Ok.kept.figures.ok.0, had.seated.run.legal.opened.config.pairs_few)
