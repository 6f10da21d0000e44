use Rattle.std.proofs.Common.{rules, ◌+◌, [], length, ◌≡◌, arith, take, refl, sym, ap, ◌∙◌, subst}
use Rattle.std.proofs.Math.Seq.{take-length}
use Rattle.xsk_turns.specs.Verdicts.{EachHas, IsGiven}
use Rattle.xsk_driver.specs.Asking.{AreAsked, IsAnswer, Question, packets_by, questions_on}
use Rattle.xsk_driver.proofs.Asking.{each-taken, asked-taken, given_before, same_asked}
use Rattle.xsk_driver.proofs.verdicts.ask_all.Goals as goal

pub loop-number-init : goal.loop-number-init
loop-number-init g c = (
  search rules,
  search rules,
  search rules,
  subst (λ vs. AreAsked g.F.Fn [] vs c.args.chain.now c.args.chain.now) (sym c.in_ok-verdicts.ensures.items) refl,
  c.requires.obeys,
  refl,
)

pub push_reserved-requires : goal.push_reserved-requires
push_reserved-requires g c = omega (arith, c.loop-number.invariant.0, c.loop-number.invariant.1, c.loop-number-test.true, c.loop-number.verdicts.ok)

pub loop-number-preserved : goal.loop-number-preserved
loop-number-preserved g c =
    let question : Question = record { queue = c.args.queue; packet = c.get.result.now } in (
      search rules,
      search rules,
      subst (EachHas (IsGiven (IsAnswer g.F.Fn c.args.chain.now c.args.queue)) (packets_by c.args.packets.now (take (c.loop-number.number-index + 1) c.args.numbers.now)))
          (sym c.push_reserved.ensures.items)
          (each-taken (IsGiven (IsAnswer g.F.Fn c.args.chain.now c.args.queue)) c.args.packets.now c.args.numbers.now c.loop-number.verdicts.items c.loop-number.number-index
          c.get.result.now c.ask_once.result c.loop-number-test.true c.get.ensures c.loop-number.invariant.2
          (given_before g.F.Fn c.args.queue c.get.result.now c.ask_once.result c.args.chain.now c.loop-number.chain c.loop-number.invariant.5 c.ask_once.ensures.given)),
      subst (λ vs. AreAsked g.F.Fn (questions_on c.args.queue (packets_by c.args.packets.now (take (c.loop-number.number-index + 1) c.args.numbers.now))) vs c.args.chain.now c.ask_once.new.chain)
          (sym c.push_reserved.ensures.items)
          (asked-taken g.F.Fn c.args.queue c.args.packets.now c.args.numbers.now c.loop-number.verdicts.items c.loop-number.number-index c.get.result.now c.ask_once.result
          c.args.chain.now c.loop-number.chain c.ask_once.new.chain c.loop-number-test.true c.get.ensures c.loop-number.invariant.3 c.ask_once.ensures.asked),
      c.ask_once.ensures.obeys,
      same_asked g.F.Fn question c.ask_once.result c.loop-number.chain c.ask_once.new.chain c.ask_once.ensures.asked ∙ c.loop-number.invariant.5,
    )

pub returns-clause-given : goal.returns-clause-given
returns-clause-given g c =
    let all : c.loop-number.number-index ≡ length c.args.numbers.now = search rules in
    subst (λ ns. EachHas (IsGiven (IsAnswer g.F.Fn c.args.chain.now c.args.queue)) (packets_by c.args.packets.now ns) c.loop-number.verdicts.items)
    (ap (λ n. take n c.args.numbers.now) all ∙ take-length c.args.numbers.now) c.loop-number.invariant.2

pub returns-clause-asked : goal.returns-clause-asked
returns-clause-asked g c =
    let all : c.loop-number.number-index ≡ length c.args.numbers.now = search rules in
    subst (λ ns. AreAsked g.F.Fn (questions_on c.args.queue (packets_by c.args.packets.now ns)) c.loop-number.verdicts.items c.args.chain.now c.loop-number.chain)
    (ap (λ n. take n c.args.numbers.now) all ∙ take-length c.args.numbers.now) c.loop-number.invariant.3
