use Rattle.std.proofs.Common.{◌<◌, ◌++◌, ◌∙◌, length, subst, arith}
use Rattle.xsk_model.specs.Entry.{own}
use Rattle.xsk_model.specs.declared.call.Act.{Act}
use Rattle.xsk_turns.specs.Workers.{IsWholeRun}
use Rattle.xsk_machine.specs.Acts.{IsActAfter}
use Rattle.xsk_sim.proofs.Seating.{each_at, each_set}
use Rattle.xsk_sim.proofs.Turning.{own_turn, one_turn}
use Rattle.xsk_bench.specs.Played.{IsSeated, act_of}
use Rattle.xsk_bench.proofs.Rounds.{seated_on}
use Rattle.xsk_bench.proofs.Seats.{act_after, turn_quiet}
use Rattle.xsk_bench.proofs.Serving.{legal_in}
use Rattle.xsk_bench.proofs.play.Play.step.Goals as goal

pub returns-clause-turn : goal.returns-clause-turn
returns-clause-turn c s frames h played =
    let who = c.args.who in
    let p = c.args.self.now in
    let v = c.step.new.self in
    let seat = c.index_mut.result.now in
    let known : who < length s.config.pairs = omega (arith, c.requires.who, played.count) in
    let here : IsSeated s p.room h who seat = each_at p.seats.items 0 who who _ seat played.seats (omega arith) (omega arith) c.index_mut.ensures.value in
    let took = c.step.ensures.turn s frames h played.run known here.drives in
    let t = took.0 in
    let tells = turn_quiet s frames (IsWholeRun s) h who t.entries seat.driver (act_of seat) seat.settled v.settled c.step.result t.turn t.run.legal known here.drives here.noted took.1 in
    record {
      entries = t.entries;
      turns = one_turn (IsWholeRun s) h who t.entries t.turn;
      played = record {
        run = t.run;
        count = played.count;
        seats = each_set p.seats.items 0 who who _ _ v played.seats (omega arith)
            (λ k x other is. seated_on s p.room h (h ++ t.entries) k x (own_turn (IsWholeRun s) h who k t.entries t.turn other) is)
            (record { drives = t.stands; noted = tells.1; given = c.step.ensures.given; packets = c.step.ensures.room.0 ∙ here.packets; bytes = c.step.ensures.room.1 ∙ here.bytes });
      };
      quiet = tells.0;
    }

pub step-requires-clause-legal : goal.step-requires-clause-legal
step-requires-clause-legal c call is =
    let g = c.requires.going in
    let who = c.args.who in
    let seat = c.index_mut.result.now in
    let known : who < length g.setting.config.pairs = omega (arith, c.requires.who, g.played.count) in
    let here : IsSeated g.setting c.args.self.now.room g.history who seat =
    each_at c.args.self.now.seats.items 0 who who _ seat g.played.seats (omega arith) (omega arith) c.index_mut.ensures.value in
    let after : IsActAfter g.setting who (act_of seat) (own who g.history) = act_after g.setting who seat.driver (act_of seat) (own who g.history) known here.drives in
    (legal_in g.setting g.frames g.history c.args.self.now.checked who call g.played.run).1 (subst (λ (a : Act). IsActAfter g.setting who a (own who g.history)) is after).0

pub step-requires-clause-given : goal.step-requires-clause-given
step-requires-clause-given c =
    let g = c.requires.going in
    let who = c.args.who in
    let seat = c.index_mut.result.now in
    let here : IsSeated g.setting c.args.self.now.room g.history who seat =
    each_at c.args.self.now.seats.items 0 who who _ seat g.played.seats (omega arith) (omega arith) c.index_mut.ensures.value in
    here.given
