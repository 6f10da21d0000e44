use Rattle.std.proofs.Common.{rules, ◌≡◌, ◌≢◌, slice_set, sym, subst}
use Rattle.xsk_prog.specs.declared.rule.Verdict.TheVariants.{Pass}
use Rattle.xsk_prog.specs.Program.{Answers}
use Rattle.xsk_prog.specs.Rules.{Meets}
use Rattle.xsk_prog.proofs.Chains.{AskedTo, AskedAt, begins, obeys_here, goes_on, stops, ends}
use Rattle.xsk_prog.proofs.chain.Chain.verdict.Given as given
use Rattle.xsk_prog.proofs.chain.Chain.verdict.Goals as goal

pub loop-place-init : goal.loop-place-init
loop-place-init g c = subst (AskedTo g.F.Fn c.args.self.now c.args.packet.now c.args.queue 0) (sym c.self.view_is) (begins g.F.Fn c.args.self.now c.args.packet.now c.args.queue c.requires.obeys)

pub verdict-verdict-requires-clause-obeys : goal.verdict-verdict-requires-clause-obeys
verdict-verdict-requires-clause-obeys g c =
    obeys_here g.F.Fn c.args.self.now c.args.packet.now c.args.queue c.loop-place.place c.loop-place.self-inside.programs.items c.index_mut.result.now (search rules) c.loop-place.invariant c.index_mut.ensures.value

stopped : (g : given.Over) (c : goal.Then-ne g)
    → AskedAt g.F.Fn c.args.self.now c.args.packet.now c.args.queue c.verdict-verdict.result (slice_set c.loop-place.self-inside.programs.items c.loop-place.place c.verdict-verdict.new.self)
stopped g c =
    let other : c.verdict-verdict.result ≢ Pass = search rules in
    stops g.F.Fn c.args.self.now c.args.packet.now c.args.queue c.loop-place.place c.loop-place.self-inside.programs.items c.index_mut.result.now c.verdict-verdict.new.self c.verdict-verdict.result
    (search rules) c.index_mut.ensures.value c.verdict-verdict.ensures.counted other c.verdict-verdict.ensures.asked c.verdict-verdict.ensures.meets c.loop-place.invariant

pub returns-then-ne-clause-asked : goal.returns-then-ne-clause-asked
returns-then-ne-clause-asked g c = (stopped g c).asked

pub returns-then-ne-clause-meets : goal.returns-then-ne-clause-meets
returns-then-ne-clause-meets g c = (stopped g c).meets

pub returns-then-ne-clause-once : goal.returns-then-ne-clause-once
returns-then-ne-clause-once g c = (stopped g c).once

pub returns-then-ne-clause-obeys : goal.returns-then-ne-clause-obeys
returns-then-ne-clause-obeys g c = (stopped g c).obeys

pub loop-place-preserved : goal.loop-place-preserved
loop-place-preserved g c =
    let passes : c.verdict-verdict.result ≡ Pass = search rules in
    goes_on g.F.Fn c.args.self.now c.args.packet.now c.args.queue c.loop-place.place c.loop-place.self-inside.programs.items c.index_mut.result.now c.verdict-verdict.new.self
    (search rules) c.index_mut.ensures.value c.verdict-verdict.ensures.counted
    (subst (λ v. Answers g.F.Fn c.index_mut.result.now.decide c.args.packet.now c.args.queue v) passes c.verdict-verdict.ensures.asked)
    (subst (λ v. Meets c.index_mut.result.now.rule c.args.packet.now c.args.queue v) passes c.verdict-verdict.ensures.meets) c.loop-place.invariant

ended : (g : given.Over) (c : goal.After-loop-place g) → AskedAt g.F.Fn c.args.self.now c.args.packet.now c.args.queue Pass c.loop-place.self-inside.programs.items
ended g c = ends g.F.Fn c.args.self.now c.args.packet.now c.args.queue c.loop-place.place c.loop-place.self-inside.programs.items (search rules) c.loop-place.invariant

pub returns-clause-asked : goal.returns-clause-asked
returns-clause-asked g c = (ended g c).asked

pub returns-clause-meets : goal.returns-clause-meets
returns-clause-meets g c = (ended g c).meets

pub returns-clause-once : goal.returns-clause-once
returns-clause-once g c = (ended g c).once

pub returns-clause-obeys : goal.returns-clause-obeys
returns-clause-obeys g c = (ended g c).obeys
