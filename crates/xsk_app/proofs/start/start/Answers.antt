use Rattle.std.proofs.Common.{arith, ◌≤◌}
use Rattle.xsk_turns.specs.AppTurns.{pair_of}
use Rattle.xsk_turns.proofs.Places.{batch_few, batch_some}
use Rattle.xsk_app.proofs.Fresh.{both_pairs}
use Rattle.xsk_app.proofs.start.start.Goals as goal

pub invariant_of-machine : goal.invariant_of-machine
invariant_of-machine c =
    let k = c.args.config.now in
    let app = c.args.app in
    let d0 = c.side_pair.result in
    let d1 = c.side_pair-2.result in
    let some : 1 ≤ c.batch.result = omega (arith, c.batch.ensures, batch_some k c.queues-queues.ensures.lawful) in
    let few : c.batch.result ≤ 32 = omega (arith, c.batch.ensures, batch_few k) in
    record {
      pooled = c.requires.regular.lawful.some;
      classed = omega (arith, c.requires.regular.classes);
      known = c.requires.app;
      some = some;
      few = few;
      batch_is = c.batch.ensures;
      ways_are = c.fill_ways.ensures;
      pairs_are = both_pairs d0 d1 (pair_of k app 0) (pair_of k app 1) c.side_pair.ensures.pair c.side_pair-2.ensures.pair;
      lanes = c.requires.lanes;
      sides = c.requires.sides;
      numbered = omega arith;
      classes_are = c.classes.ensures;
      shut_is = c.requires.shut;
      ready = tt;
    }
