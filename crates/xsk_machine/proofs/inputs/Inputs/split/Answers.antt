use Rattle.std.proofs.Common.{◌<◌, ◌≡◌, length, take, arith, sym, ap, subst, List, map, refl}
use Rattle.std.specs.Vec.{vec_items}
use Rattle.std.proofs.Math.Seq.{take-length}
use Rattle.xsk_turns.proofs.Object.{pair_at, PairInfo}
use Rattle.xsk_turns.specs.Inputs.{numbers_of, inputs_of}
use Rattle.xsk_machine.proofs.Splitting.{map-taken, numbers_found}
use Rattle.xsk_turns.proofs.Places.{port_within}
use Rattle.xsk_machine.proofs.inputs.Inputs.split.Goals as goal

pub bounds-packets-pair : goal.bounds-packets-pair
bounds-packets-pair c = rw c.requires.lists (subst (λ pairs. (pair_at pairs c.loop-pair.pair-index).port < c.args.config.now.ports) (sym c.pairs-pair-items.ensures.value)
    (port_within c.args.config.now c.loop-pair.pair-index c.pairs.ensures.lawful c.requires.regular (subst (λ pairs. c.loop-pair.pair-index < length pairs) c.pairs-pair-items.ensures.value c.loop-pair-test.true)))

pub loop-pair-preserved : goal.loop-pair-preserved
loop-pair-preserved c =
    let config = c.args.config.now in
    let within : c.loop-pair.pair-index < length config.pairs = subst (λ (pairs : List PairInfo). c.loop-pair.pair-index < length pairs) c.pairs-pair-items.ensures.value c.loop-pair-test.true in
    let port : (pair_at config.pairs c.loop-pair.pair-index).port < length c.args.packets.now = rw c.requires.lists (port_within config c.loop-pair.pair-index c.pairs.ensures.lawful c.requires.regular within) in
    rw (c.in_ok-push.ensures.items)
    (map-taken vec_items (numbers_of config c.args.packets.now) c.loop-pair.numbers.items config.pairs c.loop-pair.pair-index c.in_ok-numbers_of_queue.field-0 (record { port = 0; queue = 0; fill = 0; comp = 0 }) within c.loop-pair.invariant
    (numbers_found config c.args.packets.now c.pairs-pair-items.result.now c.loop-pair.pair-index c.queues.result c.index-packets-pair.result c.in_ok-numbers_of_queue.field-0.items
    c.pairs-pair-items.ensures.value c.queues.ensures.value c.index-packets-pair.is port c.in_ok-numbers_of_queue.ensures))

pub returns : goal.returns
returns c =
    let config = c.args.config.now in
    let all : length config.pairs ≡ c.loop-pair.pair-index =
    let same : length c.pairs-pair-items.result.now ≡ length config.pairs = ap (λ (pairs : List PairInfo). length pairs) c.pairs-pair-items.ensures.value in omega arith in
    rw c.loop-pair.invariant (subst (λ n. map (numbers_of config c.args.packets.now) (take n config.pairs) ≡ inputs_of config c.args.packets.now) all (rw take-length refl))
