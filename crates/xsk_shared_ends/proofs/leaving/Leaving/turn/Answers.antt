use Rattle.std.proofs.Common.{refl, sym, subst}
use Rattle.xsk_model.specs.Asks.{joined_call, joined_reply}
use Rattle.xsk_table.specs.Held.{Belongs}
use Rattle.xsk_rings.specs.Rounds.{mine_of}
use Rattle.xsk_turns.specs.AppSplit.{IsWholeSplitRun}
use Rattle.xsk_shared_ends.specs.Last.{LastShown}
use Rattle.xsk_shared_ends.proofs.Emptying.{has_ended, has_asked, may_ask, comes, goes_on, stays}
use Rattle.xsk_shared_ends.proofs.leaving.Leaving.turn.Goals as goal

pub serve-answer-requires-clause-may : goal.serve-answer-requires-clause-may
serve-answer-requires-clause-may c =
    let s = c.self.inside in
    may_ask s.app s.ask s.items s.pass c.self.invariant c.in-Some.ask c.in-Some.is c.args.shared.now
    (subst (λ (x : LastShown). Belongs c.args.shared.now x.pass) (sym c.self.view_is) c.requires.belongs)

pub serve-answer-requires-clause-items : goal.serve-answer-requires-clause-items
serve-answer-requires-clause-items c = let s = c.self.inside in has_asked s.app s.ask s.items s.pass c.self.invariant c.in-Some.ask c.in-Some.is

pub step-requires-clause-comes : goal.step-requires-clause-comes
step-requires-clause-comes c =
    let s = c.self.inside in
    comes s.app s.ask s.items s.pass c.self.invariant c.in-Some.ask c.in-Some.is c.serve-answer.new.self (joined_reply c.serve-answer.result c.serve-answer.new.items) c.serve-answer.ensures.served

pub invariant_of-self : goal.invariant_of-self
invariant_of-self c =
    let s = c.self.inside in
    let is = c.self.invariant in
    let ask = c.in-Some.ask in
    let call = joined_call ask s.items in
    let reply = joined_reply c.serve-answer.result c.serve-answer.new.items in
    let step = c.step.ensures in
    goes_on s.app s.ask s.items s.pass is ask c.in-Some.is c.serve-answer.new.self reply c.serve-answer.ensures.served
    c.step.new.self c.step.new.asked c.step.new.items step.same.0 step.same.1 step.expected step.given_back
    (λ stood fits. step.goes_on_from s.app.config s.app.app is.start is.past is.later call reply stood refl fits)

pub returns-clause-same : goal.returns-clause-same
returns-clause-same c =
    let s = c.self.inside in
    let step = c.step.ensures in
    stays s.app s.ask s.items s.pass c.self.invariant c.in-Some.ask c.in-Some.is c.serve-answer.new.self (joined_reply c.serve-answer.result c.serve-answer.new.items) c.serve-answer.ensures.served
    c.step.new.self _ c.self.view_is step.same.0 step.same.1

pub returns-in_default-clause-whole : goal.returns-in_default-clause-whole
returns-in_default-clause-whole c = λ ended.
    let s = c.self.inside in
    subst (λ (x : LastShown). IsWholeSplitRun x.config x.app (mine_of x.pass)) c.self.view_is (has_ended s.app s.ask s.items s.pass c.self.invariant c.in_default.is)
