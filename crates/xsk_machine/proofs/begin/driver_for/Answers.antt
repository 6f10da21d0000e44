use Rattle.std.proofs.Common.{◌≡◌, ℕ, ◌+◌, ◌≤◌, List, [], ◌++◌, length, sym, ap, subst, ◌∙◌, arith}
use Rattle.std.specs.List.{concat, slice_index_or}
use Rattle.xsk_prog.specs.declared.rule.Verdict.{Verdict}
use Rattle.xsk_model.specs.Config.{pair_at}
use Rattle.xsk_turns.specs.Inputs.{packets_of_port, packets_of_queue}
use Rattle.xsk_turns.specs.SentWith.{bouncing}
use Rattle.xsk_turns.specs.Turns.{Kept}
use Rattle.xsk_turns.specs.Verdicts.{judged, EachHas, IsGiven}
use Rattle.xsk_turns.specs.Workers.{Setting}
use Rattle.xsk_driver.specs.Asking.{AreAsked, IsAnswer, questions_on, verdicts_in}
use Rattle.xsk_driver.specs.Runs.{IsNew}
use Rattle.std.specs.Prelude.{if◌then◌else◌}
use Rattle.xsk_prog.specs.Chain.{rules_of}
use Rattle.xsk_laws.specs.Expected.{received, none_bounces}
use Rattle.xsk_laws.proofs.Bounced.{none_to_bounce}
use Rattle.xsk_driver.proofs.Asking.{all_meet}
use Rattle.xsk_machine.specs.declared.inputs.Amount.{Amount}
use Rattle.xsk_machine.specs.Acts.{received_there}
use Rattle.xsk_machine.specs.Amounts.{IsAmountOf}
use Rattle.xsk_machine.proofs.Beginning.{bounces_within, input_numbers, list_found, new_driver, new_with_room, room_is_enough, room_to_send}
use Rattle.xsk_machine.proofs.begin.driver_for.Given as given
use Rattle.xsk_machine.proofs.begin.driver_for.Goals as goal

-- the packets of its port, which those of the numbers are of
at_port : (g : given.Over) (c : goal.After-driver-2-1 g) → c.index-packets-info.result.packets ≡ packets_of_port c.args.packets.now (pair_at c.args.config.now.pairs c.args.pair).port
at_port g c =
    list_found c.args.config.now c.args.packets.now c.pairs.result.now c.args.pair c.index-packets-info.result c.requires.regular c.pairs.ensures.lawful c.pairs.ensures.value c.requires.lists c.requires.pair
    c.index-packets-info.is

-- the driver is new, with the room that is taken
new_for_all : (g : given.Over) (c : goal.After-driver-2-1 g)
    → IsNew c.args.wire c.args.config.now c.args.pair
    (judged (packets_of_queue c.args.config.now.queues (pair_at c.args.config.now.pairs c.args.pair).queue c.index-packets-info.result.packets) (verdicts_in c.in_ok-driver.driver.kept)) c.in_ok-driver.driver
new_for_all g c =
    c.in_ok-driver.ensures.is_new
    (c.of_pair.ensures ∙ input_numbers c.args.config.now c.args.packets.now c.args.inputs.now c.args.pair c.index-packets-info.result.packets c.requires.inputs c.requires.pair (at_port g c))

-- each of its packets has its verdict
asked : (g : given.Over) (c : goal.After-driver-2-1 g)
    → EachHas (IsGiven (IsAnswer g.F.Fn c.args.chain.now (pair_at c.args.config.now.pairs c.args.pair).queue))
    (packets_of_queue c.args.config.now.queues (pair_at c.args.config.now.pairs c.args.pair).queue c.index-packets-info.result.packets) (verdicts_in c.in_ok-driver.driver.kept)
asked g c =
    c.in_ok-driver.ensures.asked
    (c.of_pair.ensures ∙ input_numbers c.args.config.now c.args.packets.now c.args.inputs.now c.args.pair c.index-packets-info.result.packets c.requires.inputs c.requires.pair (at_port g c))

-- the room that is wanted is within that which is taken
within : (g : given.Over) (c : goal.After-driver-2-1 g)
    → (c.in-Some.arrivals.there.packets + length (bouncing c.in_ok-driver.driver.kept.coming) ≤ c.room_before_asking-room.result.packets)
    × (c.in-Some.arrivals.there.bytes + length (concat (bouncing c.in_ok-driver.driver.kept.coming)) ≤ c.room_before_asking-room.result.bytes)
within g c =
    let config = c.args.config.now in
    let lists = c.args.packets.now in
    let at = pair_at config.pairs c.args.pair in
    let rules = rules_of c.args.chain.now in
    let there = c.in-Some.arrivals.there in
    let mine = packets_of_queue config.queues at.queue c.index-packets-info.result.packets in
    let verdicts = verdicts_in c.in_ok-driver.driver.kept in
    let same : received config lists at.port at.queue ≡ mine = ap (packets_of_queue config.queues at.queue) (sym (at_port g c)) in
    let bounced : List (List ℕ) = bouncing (judged mine verdicts) in
    let enough = room_is_enough (none_bounces rules) mine (received_there config lists c.args.pair) bounced c.in-Some.arrivals.by_both there
    (subst (λ (ps : List (List ℕ)). IsAmountOf (ps ++ received_there config lists c.args.pair) c.in-Some.arrivals.by_both) same c.in-Some.ensures.0) c.in-Some.ensures.1
    (bounces_within (IsGiven (IsAnswer g.F.Fn c.args.chain.now at.queue)) mine verdicts (asked g c))
    (λ none. none_to_bounce rules at.queue mine verdicts none (all_meet g.F.Fn c.args.chain.now at.queue mine verdicts (asked g c))) in
    subst (λ (a : Amount). (there.packets + length (bouncing c.in_ok-driver.driver.kept.coming) ≤ a.packets) × (there.bytes + length (concat (bouncing c.in_ok-driver.driver.kept.coming)) ≤ a.bytes))
    (sym c.room_before_asking-room.ensures)
    (subst (λ (ps : List (List ℕ)). (there.packets + length ps ≤ (if none_bounces rules then there else c.in-Some.arrivals.by_both).packets)
    × (there.bytes + length (concat ps) ≤ (if none_bounces rules then there else c.in-Some.arrivals.by_both).bytes))
    (sym (ap (λ (k : Kept). bouncing k.coming) (new_for_all g c).kept)) enough)

pub fit-requires-clause-unsent : goal.fit-requires-clause-unsent
fit-requires-clause-unsent g c = (new_for_all g c).sent

pub fit-requires-clause-packets : goal.fit-requires-clause-packets
fit-requires-clause-packets g c = omega (arith, (within g c).0, c.in_ok-driver.ensures.sent_room.0)

pub fit-requires-clause-bytes : goal.fit-requires-clause-bytes
fit-requires-clause-bytes g c = omega (arith, (within g c).1, c.in_ok-driver.ensures.sent_room.1)

pub returns-clause-new : goal.returns-clause-new
returns-clause-new g c manner verdicts given =
    let s : Setting = record { config = c.args.config.now; wire = c.args.wire; manner = manner; packets = c.args.packets.now; verdicts = verdicts } in
    let list = c.index-packets-info.result in
    let queue : ℕ = (pair_at s.config.pairs c.args.pair).queue in
    let before = c.in_ok-driver.driver in
    let driver = c.fit.new.self in
    let new = new_for_all g c.before in
    let kept_as : verdicts_in before.kept ≡ slice_index_or s.verdicts c.args.pair [] = ap verdicts_in (sym c.fit.ensures.kept) ∙ sym given in
    let room = room_to_send s c.args.pair list.packets (verdicts_in before.kept) before.kept.coming c.in-Some.arrivals.there driver (ap (λ (k : Kept). k.coming) new.kept) (at_port g c.before) kept_as
    c.in-Some.ensures.1 c.fit.ensures.packets c.fit.ensures.bytes in
    new_driver s c.args.pair list.packets (verdicts_in driver.kept) driver c.requires.pair room (at_port g c.before) (sym given)
    (new_with_room c.args.wire s.config c.args.pair (packets_of_queue s.config.queues queue list.packets) before driver new c.fit.ensures.seat c.fit.ensures.wait c.fit.ensures.kept c.fit.ensures.unsent)

pub returns-clause-asked : goal.returns-clause-asked
returns-clause-asked g c =
    let config = c.args.config.now in
    let queue : ℕ = (pair_at config.pairs c.args.pair).queue in
    let P : List ℕ → Verdict → Type 0 = IsGiven (IsAnswer g.F.Fn c.args.chain.now queue) in
    subst (λ (k : Kept). EachHas P (packets_of_queue config.queues queue (packets_of_port c.args.packets.now (pair_at config.pairs c.args.pair).port)) (verdicts_in k)) (sym c.fit.ensures.kept)
    (subst (λ (l : List (List ℕ)). EachHas P (packets_of_queue config.queues queue l) (verdicts_in c.in_ok-driver.driver.kept)) (at_port g c.before) (asked g c.before))

pub returns-clause-once : goal.returns-clause-once
returns-clause-once g c =
    let config = c.args.config.now in
    let queue : ℕ = (pair_at config.pairs c.args.pair).queue in
    let list = c.index-packets-info.result in
    subst (λ (k : Kept). AreAsked g.F.Fn (questions_on queue (packets_of_queue config.queues queue (packets_of_port c.args.packets.now (pair_at config.pairs c.args.pair).port))) (verdicts_in k) c.args.chain.now c.new.new.chain)
    (sym c.fit.ensures.kept)
    (subst (λ (l : List (List ℕ)). AreAsked g.F.Fn (questions_on queue (packets_of_queue config.queues queue l)) (verdicts_in c.in_ok-driver.driver.kept) c.args.chain.now c.new.new.chain) (at_port g c.before)
    (c.in_ok-driver.ensures.once (c.of_pair.ensures ∙ input_numbers config c.args.packets.now c.args.inputs.now c.args.pair list.packets c.requires.inputs c.requires.pair (at_port g c.before))))
