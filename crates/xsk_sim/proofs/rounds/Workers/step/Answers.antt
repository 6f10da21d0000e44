use Rattle.std.proofs.Common.{arith, ◌++◌}
use Rattle.xsk_turns.specs.Stepping.{joined_ask}
use Rattle.xsk_turns.specs.Workers.{IsWholeRun}
use Rattle.xsk_sim.specs.Seats.{Sits, IsNoted, own_in}
use Rattle.xsk_sim.proofs.Seating.{each_at, each_set}
use Rattle.xsk_sim.proofs.RunSteps.{can_make}
use Rattle.xsk_sim.proofs.Turning.{own_turn, one_turn, sits_on, noted_on}
use Rattle.xsk_sim.proofs.Stalling.{worker_notes}
use Rattle.xsk_sim.proofs.rounds.Workers.step.Goals as goal

pub returns-clause-turn : goal.returns-clause-turn
returns-clause-turn g c s frames h seated =
    let who = c.args.who in
    let w = c.args.self.now in
    let v = c.step.new.self in
    let seat = c.index_mut.result.now in
    let here : Sits s (own_in h) who seat.machine (joined_ask seat.ask seat.items) = each_at w.seats.items 0 who who _ seat seated.seats (omega arith) (omega arith) c.index_mut.ensures.value in
    let noted : IsNoted s h who seat.settled = each_at w.seats.items 0 who who _ seat seated.noted (omega arith) (omega arith) c.index_mut.ensures.value in
    let took = c.step.ensures.turn s frames h seated.run here.0 here.1 in
    let t = took.0 in
    let tells = worker_notes s frames (IsWholeRun s) h who t.entries seat.machine (joined_ask seat.ask seat.items) seat.settled v.settled c.step.result t.turn t.run.legal here.0 noted took.1 in
    record {
      entries = t.entries;
      turns = one_turn (IsWholeRun s) h who t.entries t.turn;
      seated = record {
        run = t.run;
        seats = each_set w.seats.items 0 who who (λ k x. Sits s (own_in h) k x.machine (joined_ask x.ask x.items)) (λ k x. Sits s (own_in (h ++ t.entries)) k x.machine (joined_ask x.ask x.items)) v seated.seats (omega arith)
            (λ k x other sits. sits_on s h (h ++ t.entries) k x.machine (joined_ask x.ask x.items) (own_turn (IsWholeRun s) h who k t.entries t.turn other) sits) (t.stands, t.after);
        noted = each_set w.seats.items 0 who who (λ k x. IsNoted s h k x.settled) (λ k x. IsNoted s (h ++ t.entries) k x.settled) v seated.noted (omega arith)
            (λ k x other is. noted_on s h (h ++ t.entries) k x.settled (own_turn (IsWholeRun s) h who k t.entries t.turn other) is) tells.1;
        count = seated.count;
      };
      quiet = tells.0;
    }

pub step-requires-clause-can : goal.step-requires-clause-can
step-requires-clause-can k c call is =
    let g = c.requires.going in
    let who = c.args.who in
    let seat = c.index_mut.result.now in
    let here : Sits g.setting (own_in g.history) who seat.machine (joined_ask seat.ask seat.items) =
    each_at c.args.self.now.seats.items 0 who who _ seat g.seated.seats (omega arith) (omega arith) c.index_mut.ensures.value in
    can_make g.setting g.frames g.history (k.S.Server.seen c.args.server.now) who (joined_ask seat.ask seat.items) call g.seated.run here.1 is
