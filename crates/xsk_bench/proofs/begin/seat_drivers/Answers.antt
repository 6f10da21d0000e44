use Rattle.std.proofs.Common.{rules, ◌≡◌, ◌<◌, ◌+◌, ℕ, [], ◌∷◌, ◌++◌, length, length-append, sym, ap, subst, ◌∙◌}
use Rattle.xsk_model.specs.Config.{pair_at}
use Rattle.xsk_turns.specs.Workers.{packets_to}
use Rattle.xsk_driver.specs.Asking.{IsAnswer, verdicts_in}
use Rattle.xsk_driver.proofs.Asking.{all_given_before, same_all}
use Rattle.xsk_machine.specs.Workers.{questions_to}
use Rattle.xsk_machine.proofs.Making.{gave_none, gave_next, gave_all}
use Rattle.xsk_bench.proofs.Beginning.{Begun, begun_none, begun_more, all_begun}
use Rattle.xsk_bench.proofs.begin.seat_drivers.Goals as goal

pub loop-pair-init : goal.loop-pair-init
loop-pair-init g c =
    let By = IsAnswer g.F.Fn c.args.chain.now in (
      ap length c.in_ok-seats.ensures.items,
      subst (Begun By c.args.config.now c.args.wire c.args.packets.now c.args.room 0) (sym c.in_ok-seats.ensures.items)
          (begun_none By c.args.config.now c.args.wire c.args.packets.now c.args.room),
      ([], gave_none g.F.Fn c.args.config.now c.args.packets.now c.args.chain.now c.requires.obeys),
    )

pub loop-pair-preserved : goal.loop-pair-preserved
loop-pair-preserved g c =
    let By = IsAnswer g.F.Fn c.args.chain.now in
    let driver = c.in_ok-driver.driver in
    let at = pair_at c.args.config.now.pairs c.loop-pair.pair in
    let below : c.loop-pair.pair < length c.args.config.now.pairs = search rules in
    let asked = all_given_before g.F.Fn at.queue (packets_to c.args.config.now c.args.packets.now at) (verdicts_in driver.kept) c.args.chain.now c.loop-pair.chain c.loop-pair.invariant.2.1.same
    c.in_ok-driver.ensures.asked in
    let made = begun_more By c.args.config.now c.args.wire c.args.packets.now c.args.room c.loop-pair.pair c.loop-pair.seats.items c.new.result (verdicts_in driver.kept) c.loop-pair.invariant.1 c.loop-pair.invariant.0
    asked (c.new.ensures.stands c.args.wire c.args.config.now c.loop-pair.pair _ c.in_ok-driver.ensures.new) c.new.ensures.settled
    (c.new.ensures.room.0 ∙ c.in_ok-driver.ensures.room.0, c.new.ensures.room.1 ∙ c.in_ok-driver.ensures.room.1) c.new.ensures.given in (
      ap length c.in_ok-push.ensures.items ∙ length-append c.loop-pair.seats.items (c.new.result ∷ []) ∙ ap (λ (n : ℕ). n + 1) c.loop-pair.invariant.0,
      subst (Begun By c.args.config.now c.args.wire c.args.packets.now c.args.room (c.loop-pair.pair + 1)) (sym c.in_ok-push.ensures.items) made,
      (
        c.loop-pair.invariant.2.0 ++ verdicts_in driver.kept ∷ [],
        gave_next g.F.Fn c.args.config.now c.args.packets.now c.args.chain.now c.loop-pair.pair c.loop-pair.invariant.2.0 c.loop-pair.chain c.driver_of.new.chain (verdicts_in driver.kept) below c.loop-pair.invariant.2.1
            c.in_ok-driver.ensures.once c.driver_of.ensures.obeys,
      ),
    )

pub returns-in_err-push-clause-same : goal.returns-in_err-push-clause-same
returns-in_err-push-clause-same g c =
    same_all g.F.Fn (questions_to c.args.config.now c.args.packets.now (pair_at c.args.config.now.pairs c.loop-pair.pair)) (verdicts_in c.in_ok-driver.driver.kept) c.loop-pair.chain c.driver_of.new.chain
    c.in_ok-driver.ensures.once ∙ c.loop-pair.invariant.2.1.same

pub returns-clause-seated : goal.returns-clause-seated
returns-clause-seated g c =
    let By = IsAnswer g.F.Fn c.args.chain.now in
    let all : c.loop-pair.pair ≡ length c.args.config.now.pairs = search rules in
    all_begun By c.args.config.now c.args.wire c.args.packets.now c.args.room c.loop-pair.seats.items
    (subst (λ (n : ℕ). Begun By c.args.config.now c.args.wire c.args.packets.now c.args.room n c.loop-pair.seats.items) all c.loop-pair.invariant.1)

pub returns-clause-once : goal.returns-clause-once
returns-clause-once g c =
    let all : c.loop-pair.pair ≡ length c.args.config.now.pairs = search rules in
    (c.loop-pair.invariant.2.0, gave_all g.F.Fn c.args.config.now c.args.packets.now c.args.chain.now c.loop-pair.pair c.loop-pair.invariant.2.0 c.loop-pair.chain all c.loop-pair.invariant.2.1)
