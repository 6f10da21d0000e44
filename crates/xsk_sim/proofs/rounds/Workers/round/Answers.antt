use Rattle.std.proofs.Common.{◌≡◌, ℕ, ◌&&◌, ◌+◌, ◌<◌, [], ◌∷◌, ◌++◌, take, refl, sym, ap, subst, ◌∙◌, arith}
use Rattle.xsk_model.specs.Config.{callers_of}
use Rattle.xsk_plain.specs.Engine.{Engine}
use Rattle.xsk_sim.specs.Order.{rotated, start_of}
use Rattle.xsk_sim.specs.Seats.{HadTurns}
use Rattle.xsk_sim.proofs.Turning.{InTurn, going_on, going_few, had_both, had_none, seated_same, rotated_more, rotated_all, turn_first, turn_next, turn_round}
use Rattle.xsk_sim.proofs.Stalling.{both_true}
use Rattle.xsk_sim.proofs.rounds.Workers.round.Goals as goal
use Rattle.xsk_sim.proofs.rounds.Workers.round.Goals.{then-who-callers, else-who-callers}

pub loop-turn-init : goal.loop-turn-init
loop-turn-init g c =
    let below : c.start-start.result < c.count-callers.result = omega (arith, c.start-start.ensures.start, c.count-callers.ensures, (going_few c.requires.going).1) in
    record {
      config = ap (λ (e : Engine). e.config) c.make_room.ensures.same.engine;
      seats = refl;
      count = sym c.count-callers.ensures;
      who = turn_first c.count-callers.result c.start-start.result below;
      entries = omega (arith, c.in_ok-make_room.ensures.entries);
      bytes = omega (arith, c.in_ok-make_room.ensures.bytes);
      round = λ s frames h seated.
          had_none s frames h c.args.self.now (g.S.Server.seen c.make_room.new.self)
          (seated_same s frames h c.args.self.now (g.S.Server.seen c.args.server.now) (g.S.Server.seen c.make_room.new.self) seated c.make_room.ensures.same);
    }

pub loop-turn-preserved : goal.loop-turn-preserved
loop-turn-preserved g c =
    let l = c.loop-turn in
    let step = c.step-still.new in
    let callers = c.count-callers.result in
    let start = c.start-start.result in
    let below : start < callers = omega (arith, c.start-start.ensures.start, c.count-callers.ensures, (going_few c.requires.going).1) in
    record {
      config = c.step-still.ensures.config ∙ l.invariant.config;
      seats = c.step-still.ensures.seats ∙ l.invariant.seats;
      count = omega (arith, c.step-still.ensures.seats, l.invariant.count);
      who = elim c.if-who-callers.branch [
        | then-who-callers w ↦ subst (InTurn callers start (l._turn + 1)) (sym w.who-is)
            (turn_round callers start l._turn l.who below c.loop-turn-test.true l.invariant.who w.if-who-callers.true)
        | else-who-callers w ↦ subst (InTurn callers start (l._turn + 1)) (sym w.who-is)
            (turn_next callers start l._turn l.who l.invariant.who w.if-who-callers.false)
      ];
      entries = omega (arith, c.step-still.ensures.entries, l.invariant.entries);
      bytes = omega (arith, c.step-still.ensures.bytes, l.invariant.bytes);
      round = λ s frames h seated.
          let had = l.invariant.round s frames h seated in
          let next : HadTurns s frames (h ++ had.entries) (l.who ∷ []) step.self (g.S.Server.seen step.server) c.step-still.result = c.step-still.ensures.turn s frames (h ++ had.entries) had.seated in
          subst (λ ws. HadTurns s frames h ws step.self (g.S.Server.seen step.server) (l.still && c.step-still.result)) (rotated_more callers start l._turn l.who below c.loop-turn-test.true l.invariant.who)
          (had_both s frames h (take l._turn (rotated callers start)) (l.who ∷ []) l.self step.self (g.S.Server.seen l.server) (g.S.Server.seen step.server) l.still _ _ (both_true _ _) had next);
    }

pub step-still-requires-clause-going : goal.step-still-requires-clause-going
step-still-requires-clause-going g c =
    let r = c.requires.going in
    going_on r (c.loop-turn.invariant.round r.setting r.frames r.history r.seated)

pub returns-clause-round : goal.returns-clause-round
returns-clause-round g c s frames h seated =
    let l = c.loop-turn in
    let callers = c.count-callers.result in
    let start = c.start-start.result in
    let number = c.args.order.now.number in
    let below : start < callers = omega (arith, c.start-start.ensures.start, c.count-callers.ensures, (going_few c.requires.going).1) in
    let all : l._turn ≡ callers = omega (arith, c.loop-turn-test.false, l.auto._turn-end) in
    let known : callers ≡ callers_of s.config = omega (arith, c.count-callers.ensures, seated.count) in
    let turned : take l._turn (rotated callers start) ≡ rotated (callers_of s.config) (start_of (callers_of s.config) number) =
    ap (λ (n : ℕ). take n (rotated callers start)) all ∙ rotated_all callers start below ∙ ap (rotated callers) c.start-start.ensures.start
    ∙ ap (λ (n : ℕ). rotated n (start_of n number)) known in
    record {
      turns = subst (λ ws. HadTurns s frames h ws l.self (g.S.Server.seen l.server) l.still) turned (l.invariant.round s frames h seated);
      number = c.start-start.ensures.next;
    }

pub count-callers-requires : goal.count-callers-requires
count-callers-requires g c = record { few = omega (arith, (going_few c.requires.going).0) }

pub start-start-requires : goal.start-start-requires
start-start-requires g c = subst (λ (n : ℕ). 0 < n) (sym c.count-callers.ensures) (going_few c.requires.going).1
