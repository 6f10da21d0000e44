use Rattle.std.proofs.Common.{rules, ◌≡◌, None, [], length, subst, ap, arith}
use Rattle.std.specs.Vec.Iter.{into_iter_items, into_iter_len, into_iter_steps}
use Rattle.std.proofs.lemmas.List.{nil_from_length}
use Rattle.xsk_model.specs.Config.{callers_of}
use Rattle.xsk_machine.specs.Workers.{IsFresh}
use Rattle.xsk_machine.proofs.Making.{next_new, past_all, later_new, fewer_left}
use Rattle.xsk_sim.proofs.Seating.{each_none, each_push}
use Rattle.xsk_sim.proofs.simulation.take_seats.Goals as goal

pub loop-who-init : goal.loop-who-init
loop-who-init c = record {
  count = omega (arith, ap length c.requires.none, c.args.seats.now.ok.0);
  room = c.requires.room;
  left = omega (arith, c.requires.count);
  settled = rw c.requires.none (each_none 0 _);
  seated = λ s is manner new. (new, rw c.requires.none (each_none 0 _));
}

-- where no driver is next, none is left
none_left : (c : goal.After-next) → c.next.result ≡ None → into_iter_items c.next.new.self ≡ []
none_left c none =
    nil_from_length (into_iter_items c.next.new.self) (let zero : into_iter_len c.next.new.self ≡ 0 = (subst (λ next. into_iter_steps c.loop-who.drivers next c.next.new.self) none c.next.ensures.cases).1 in search (rules, zero))

pub worker_of-requires-clause-app : goal.worker_of-requires-clause-app
worker_of-requires-clause-app c =
    past_all c.args.config.now c.loop-who.who (into_iter_items c.loop-who.drivers) (into_iter_items c.next.new.self) c.next.result c.next.ensures.items (none_left c) c.loop-who.invariant.left

pub new-requires : goal.new-requires
new-requires c =
    let n = c.requires.new in
    let new = c.loop-who.invariant.seated n.0 n.1 n.2 n.3 in
    (c.in_ok-worker.ensures n.0 n.1 n.2 (next_new n.0 c.loop-who.who (into_iter_items c.loop-who.drivers) (into_iter_items c.next.new.self) c.next.result c.next.ensures.items new.0)).expected

pub loop-who-preserved : goal.loop-who-preserved
loop-who-preserved c =
    let who = c.loop-who.who in
    let was = c.loop-who.invariant in
    let items = c.loop-who.seats.ok.0 in
    let left : c.next.result ≡ None → into_iter_items c.next.new.self ≡ [] = λ none.
    nil_from_length (into_iter_items c.next.new.self) (let zero : into_iter_len c.next.new.self ≡ 0 = (subst (λ next. into_iter_steps c.loop-who.drivers next c.next.new.self) none c.next.ensures.cases).1 in search (rules, zero)) in
    record {
      count = omega (arith, c.push_reserved.ensures.len, was.count);
      room = omega (arith, c.push_reserved.ensures.capacity, was.room);
      left = fewer_left c.args.config.now who (into_iter_items c.loop-who.drivers) (into_iter_items c.next.new.self) c.next.result c.next.ensures.items left was.left;
      settled = rw c.push_reserved.ensures.items (each_push c.loop-who.seats.items 0 who _ c.new.result was.settled (omega (arith, was.count, items)) c.new.ensures.settled);
      seated = λ s is manner all.
          let before = was.seated s is manner all in
          let fresh : IsFresh s who c.in_ok-worker.worker =
          c.in_ok-worker.ensures s is manner (next_new s who (into_iter_items c.loop-who.drivers) (into_iter_items c.next.new.self) c.next.result c.next.ensures.items before.0) in (
            later_new s who (into_iter_items c.loop-who.drivers) (into_iter_items c.next.new.self) c.next.result c.next.ensures.items left before.0,
            rw c.push_reserved.ensures.items (each_push c.loop-who.seats.items 0 who _ c.new.result before.1 (omega (arith, was.count, items)) (c.new.ensures.stands s who fresh.is)),
          );
    }

pub returns : goal.returns
returns c s is manner new =
    let l = c.loop-who in
    record {
      seats = (l.invariant.seated s is manner new).1;
      settled = l.invariant.settled;
      count = omega (arith, l.invariant.count, c.loop-who-test.false, l.auto.who-end, c.callers-who-end.ensures, ap callers_of is);
    }
