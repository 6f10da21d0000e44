use Rattle.std.proofs.Common.{rules, ◌≡◌, ◌<◌, ◌+◌, List, [], ◌∷◌, length, length-append, sym, ap, subst, ◌∙◌}
use Rattle.std.proofs.lemmas.List.{map-append}
use Rattle.xsk_model.specs.Config.{pair_at}
use Rattle.xsk_turns.specs.Workers.{packets_to}
use Rattle.xsk_driver.specs.Asking.{IsAnswer, verdicts_in}
use Rattle.xsk_driver.proofs.Asking.{all_given_before, same_all}
use Rattle.xsk_driver.specs.Shown.{Shown as DriverShown}
use Rattle.xsk_prog.specs.declared.rule.Verdict.{Verdict}
use Rattle.xsk_machine.specs.Workers.{kept_in, questions_to}
use Rattle.xsk_machine.proofs.Making.{AreMade, GaveFirst, made_more, all_new, all_asked, gave_none, gave_next, gave_all}
use Rattle.xsk_machine.proofs.begin.drivers_for.Goals as goal

pub loop-pair-init : goal.loop-pair-init
loop-pair-init g c =
    let asked_of : List DriverShown → Type 0 = λ drivers. GaveFirst g.F.Fn c.args.config.now c.args.packets.now c.args.chain.now 0 (kept_in drivers) c.args.chain.now in (
      search rules,
      search rules,
      subst asked_of (sym c.in_ok-drivers.ensures.items) (gave_none g.F.Fn c.args.config.now c.args.packets.now c.args.chain.now c.requires.obeys),
    )

pub loop-pair-preserved : goal.loop-pair-preserved
loop-pair-preserved g c =
    let By = IsAnswer g.F.Fn c.args.chain.now in
    let driver = c.in_ok-driver_for.field-0 in
    let at = pair_at c.args.config.now.pairs c.loop-pair.pair in
    let asked_of : List (List Verdict) → Type 0 = λ kept. GaveFirst g.F.Fn c.args.config.now c.args.packets.now c.args.chain.now (c.loop-pair.pair + 1) kept c.driver_for.new.chain in
    let below : c.loop-pair.pair < length c.args.config.now.pairs = search rules in
    let asked = all_given_before g.F.Fn at.queue (packets_to c.args.config.now c.args.packets.now at) (verdicts_in driver.kept) c.args.chain.now c.loop-pair.chain c.loop-pair.invariant.2.same
    c.in_ok-driver_for.ensures.asked in
    let made = made_more By c.args.config.now c.args.wire c.args.packets.now c.loop-pair.drivers.items c.loop-pair.pair driver c.loop-pair.invariant.1 c.loop-pair.invariant.0
    (record { new = c.in_ok-driver_for.ensures.new; asked = asked; expected = c.in_ok-driver_for.ensures.expected }) in (
      subst (AreMade By c.args.config.now c.args.wire c.args.packets.now) (sym c.in_ok-push.ensures.items) made,
      ap length c.in_ok-push.ensures.items ∙ length-append c.loop-pair.drivers.items (driver ∷ []) ∙ ap (λ n. n + 1) c.loop-pair.invariant.1,
      subst asked_of (sym (ap kept_in c.in_ok-push.ensures.items ∙ map-append (λ (d : DriverShown). verdicts_in d.kept) c.loop-pair.drivers.items (driver ∷ [])))
          (gave_next g.F.Fn c.args.config.now c.args.packets.now c.args.chain.now c.loop-pair.pair (kept_in c.loop-pair.drivers.items) c.loop-pair.chain c.driver_for.new.chain (verdicts_in driver.kept) below c.loop-pair.invariant.2
          c.in_ok-driver_for.ensures.once c.driver_for.ensures.obeys),
    )

pub returns-in_err-push-clause-same : goal.returns-in_err-push-clause-same
returns-in_err-push-clause-same g c =
    same_all g.F.Fn (questions_to c.args.config.now c.args.packets.now (pair_at c.args.config.now.pairs c.loop-pair.pair)) (verdicts_in c.in_ok-driver_for.field-0.kept) c.loop-pair.chain c.driver_for.new.chain
    c.in_ok-driver_for.ensures.once ∙ c.loop-pair.invariant.2.same

pub returns-clause-new : goal.returns-clause-new
returns-clause-new g c =
    all_new (IsAnswer g.F.Fn c.args.chain.now) c.args.config.now c.args.wire c.args.packets.now c.loop-pair.drivers.items c.loop-pair.invariant.0

pub returns-clause-asked : goal.returns-clause-asked
returns-clause-asked g c =
    let count : length c.loop-pair.drivers.items ≡ length c.args.config.now.pairs = search rules in
    λ manner. all_asked (IsAnswer g.F.Fn c.args.chain.now) c.args.config.now c.args.wire c.args.packets.now c.loop-pair.drivers.items c.loop-pair.invariant.0 manner count

pub returns-clause-once : goal.returns-clause-once
returns-clause-once g c =
    let all : c.loop-pair.pair ≡ length c.args.config.now.pairs = search rules in
    gave_all g.F.Fn c.args.config.now c.args.packets.now c.args.chain.now c.loop-pair.pair (kept_in c.loop-pair.drivers.items) c.loop-pair.chain all c.loop-pair.invariant.2
