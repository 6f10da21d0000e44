use Rattle.std.proofs.Common.{◌≡◌, ◌↔◌, ℕ, Some, refl, sym, subst, map}
use Rattle.xsk_model.specs.Asks.{joined_call, joined_reply}
use Rattle.xsk_model.specs.Entry.{own}
use Rattle.xsk_model.specs.declared.ask.Ask.TheVariants.{Look}
use Rattle.xsk_model.specs.declared.ask.Answer.TheVariants.{Old}
use Rattle.xsk_model.specs.declared.call.Mark.TheVariants.{Kick}
use Rattle.xsk_workers.specs.Crew.{IsSeatOn}
use Rattle.xsk_workers.specs.Shown.{WorkerShown, seat_of}
use Rattle.xsk_workers.specs.Parking.{IsParkerOf, token_of}
use Rattle.xsk_workers.specs.declared.pace.Pace.TheVariants.{Parked}
use Rattle.xsk_workers.specs.Terms.{setting_over}
use Rattle.xsk_workers.proofs.Sleeping.{sleeps, slept}
use Rattle.xsk_workers.proofs.Going.{may_ask, has_asked, stood, may_come, comes, goes_on, one_more}
use Rattle.xsk_workers.proofs.worker.WorkerTurns.turn.Goals as goal

pub serve-answer-requires-clause-may : goal.serve-answer-requires-clause-may
serve-answer-requires-clause-may g c =
    let b = c.args.shared.now in
    let on = subst (λ (w : WorkerShown). IsSeatOn b (seat_of w)) (sym c.self.view_is) c.requires.on in
    may_ask g.M.Machine.stands _ _ c.self.inside.machine c.self.inside.ask c.self.inside.items c.self.inside.pass c.self.invariant.0 c.in-Some.ask c.in-Some.is b (record { table = on.0; setup = on.1 })

pub serve-answer-requires-clause-items : goal.serve-answer-requires-clause-items
serve-answer-requires-clause-items g c =
    has_asked g.M.Machine.stands _ _ c.self.inside.machine c.self.inside.ask c.self.inside.items c.self.inside.pass c.self.invariant.0 c.in-Some.ask c.in-Some.is

pub step-requires-clause-comes : goal.step-requires-clause-comes
step-requires-clause-comes g c =
    comes g.M.Machine.stands _ _ c.self.inside.machine c.self.inside.ask c.self.inside.items c.self.inside.pass c.self.invariant.0 c.in-Some.ask c.in-Some.is c.serve-answer.new.self
    (joined_reply c.serve-answer.result c.serve-answer.new.items) c.serve-answer.ensures.told.served

pub invariant_of-self : goal.invariant_of-self
invariant_of-self g c =
    let s = setting_over c.self.inside.source.terms g.V.Verdicts.verdicts in
    let p = c.self.inside.pass in
    let ask = c.in-Some.ask in
    let call = joined_call ask c.self.inside.items in
    let reply = joined_reply c.serve-answer.result c.serve-answer.new.items in
    let served = c.serve-answer.ensures.told.served in
    let going = c.self.invariant.0 in (
      goes_on g.M.Machine.stands (g.M.Machine.expected c.self.inside.machine) s c.self.inside.machine c.self.inside.ask c.self.inside.items p going ask c.in-Some.is c.serve-answer.new.self reply served
          g.M.Machine.stands (g.M.Machine.expected c.step.new.self) c.step.new.self c.step.new.next c.step.new.items
          c.step.ensures.expected c.step.ensures.given_back
          (c.step.ensures.goes_on s p.who (own p.who p.view.seen) call reply
          (stood g.M.Machine.stands (g.M.Machine.expected c.self.inside.machine) s c.self.inside.machine c.self.inside.ask c.self.inside.items p going ask c.in-Some.is) refl
          (may_come g.M.Machine.stands (g.M.Machine.expected c.self.inside.machine) s c.self.inside.machine c.self.inside.ask c.self.inside.items p going ask c.in-Some.is c.serve-answer.new.self reply served)),
      one_more p call reply c.serve-answer.new.self c.self.inside.calls c.saturating_add-self-inside.result c.self.invariant.1 served c.saturating_add-self-inside.ensures,
      subst (λ (who : ℕ). IsParkerOf (map token_of c.self.inside.source.wakers.now) who c.self.inside.parker) (sym served.who) c.self.invariant.2,
    )

pub returns-clause-parked : goal.returns-clause-parked
returns-clause-parked g c =
    let p = c.self.inside.pass in
    let q = c.serve-answer.new.self in
    let ask = c.in-Some.ask in
    let answer = c.serve-answer.result in
    let next = c.step.new.next in
    let served = c.serve-answer.ensures.told.served in
    let told : (c.end_turn.result ≡ Parked) ↔ ((ask ≡ Look (Kick q.who)) × (answer ≡ Old 0) × (next ≡ Some (Look (Kick q.who)))) =
    subst (λ (who : ℕ). (c.end_turn.result ≡ Parked) ↔ ((ask ≡ Look (Kick who)) × (answer ≡ Old 0) × (next ≡ Some (Look (Kick who))))) c.caller.ensures.caller c.end_turn.ensures.parked in (
      λ parked.
          let is = told.0 parked in
          record { looked = sleeps p q ask answer c.self.inside.items c.serve-answer.new.items served is.0 is.1; looks = is.2 },
      λ asleep.
          let is = slept p q ask answer c.self.inside.items c.serve-answer.new.items served asleep.looked in
          told.1 (is.0, is.1, asleep.looks),
    )
