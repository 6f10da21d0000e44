use Rattle.std.proofs.Common.{◌≡◌, ℕ, ◌<◌, List, length, ap, subst, ◌∙◌, arith}
use Rattle.xsk_model.specs.Config.{pair_at}
use Rattle.xsk_model.specs.declared.config.PairInfo.{PairInfo}
use Rattle.xsk_turns.specs.Inputs.{packets_of_port, packets_of_queue}
use Rattle.xsk_turns.specs.Verdicts.{judged, EachHas, IsGiven}
use Rattle.xsk_driver.specs.Asking.{AreAsked, IsAnswer, questions_on, verdicts_in}
use Rattle.xsk_driver.specs.Runs.{IsNew}
use Rattle.xsk_machine.proofs.Beginning.{input_numbers, list_at, ports_known}
use Rattle.xsk_bench.proofs.begin.driver_of.Goals as goal

pub returns-clause-new : goal.returns-clause-new
returns-clause-new g c =
    let config = c.args.config.now in
    let lists = c.args.packets.now in
    let pair = c.args.pair in
    let below : pair < length c.pairs.result.now = omega (arith, c.requires.pair, ap (length {A = PairInfo}) c.pairs.ensures.value) in
    let ports = ports_known config c.pairs.result.now (length lists) pair c.requires.steady.regular c.pairs.ensures.lawful c.pairs.ensures.value c.requires.lists below in
    let list = c.index-packets-info.result in
    let found : list.packets ≡ packets_of_port lists (pair_at config.pairs pair).port =
    list_at lists (pair_at c.pairs.result.now pair).port list c.index-packets-info.is ports.0
    ∙ ap (λ (ps : List PairInfo). packets_of_port lists (pair_at ps pair).port) c.pairs.ensures.value in
    subst (λ (l : List (List ℕ)). IsNew c.args.wire config pair (judged (packets_of_queue config.queues (pair_at config.pairs pair).queue l) (verdicts_in c.in_ok-driver.driver.kept)) c.in_ok-driver.driver) found
    (c.in_ok-driver.ensures.is_new (c.of_pair-numbers.ensures ∙ input_numbers config c.args.packets.now c.args.inputs.now pair list.packets c.requires.inputs c.requires.pair found))

pub returns-clause-asked : goal.returns-clause-asked
returns-clause-asked g c =
    let config = c.args.config.now in
    let lists = c.args.packets.now in
    let pair = c.args.pair in
    let below : pair < length c.pairs.result.now = omega (arith, c.requires.pair, ap (length {A = PairInfo}) c.pairs.ensures.value) in
    let ports = ports_known config c.pairs.result.now (length lists) pair c.requires.steady.regular c.pairs.ensures.lawful c.pairs.ensures.value c.requires.lists below in
    let list = c.index-packets-info.result in
    let found : list.packets ≡ packets_of_port lists (pair_at config.pairs pair).port =
    list_at lists (pair_at c.pairs.result.now pair).port list c.index-packets-info.is ports.0
    ∙ ap (λ (ps : List PairInfo). packets_of_port lists (pair_at ps pair).port) c.pairs.ensures.value in
    subst (λ (l : List (List ℕ)). EachHas (IsGiven (IsAnswer g.F.Fn c.args.chain.now (pair_at config.pairs pair).queue)) (packets_of_queue config.queues (pair_at config.pairs pair).queue l)
    (verdicts_in c.in_ok-driver.driver.kept)) found
    (c.in_ok-driver.ensures.asked (c.of_pair-numbers.ensures ∙ input_numbers config c.args.packets.now c.args.inputs.now pair list.packets c.requires.inputs c.requires.pair found))

pub returns-clause-once : goal.returns-clause-once
returns-clause-once g c =
    let config = c.args.config.now in
    let lists = c.args.packets.now in
    let pair = c.args.pair in
    let below : pair < length c.pairs.result.now = omega (arith, c.requires.pair, ap (length {A = PairInfo}) c.pairs.ensures.value) in
    let ports = ports_known config c.pairs.result.now (length lists) pair c.requires.steady.regular c.pairs.ensures.lawful c.pairs.ensures.value c.requires.lists below in
    let list = c.index-packets-info.result in
    let found : list.packets ≡ packets_of_port lists (pair_at config.pairs pair).port =
    list_at lists (pair_at c.pairs.result.now pair).port list c.index-packets-info.is ports.0
    ∙ ap (λ (ps : List PairInfo). packets_of_port lists (pair_at ps pair).port) c.pairs.ensures.value in
    let queue : ℕ = (pair_at config.pairs pair).queue in
    subst (λ (l : List (List ℕ)). AreAsked g.F.Fn (questions_on queue (packets_of_queue config.queues queue l)) (verdicts_in c.in_ok-driver.driver.kept) c.args.chain.now c.new.new.chain) found
    (c.in_ok-driver.ensures.once (c.of_pair-numbers.ensures ∙ input_numbers config c.args.packets.now c.args.inputs.now pair list.packets c.requires.inputs c.requires.pair found))
