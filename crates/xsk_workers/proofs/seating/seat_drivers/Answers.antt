use Rattle.std.proofs.Common.{rules, ◌≡◌, ℕ, ◌+◌, ◌<◌, None, Option, IfSome, [], ◌∷◌, length, map, refl, sym, ap, subst, ◌∙◌, true, arith, length-append, Bool}
use Rattle.std.proofs.lemmas.List.{nil_from_length}
use Rattle.std.specs.Vec.Iter.{into_iter_items, into_iter_len, into_iter_steps}
use Rattle.xsk_model.specs.Config.{callers_of}
use Rattle.xsk_turns.specs.Workers.{Setting}
use Rattle.xsk_table.specs.Held.{Holder, new_pass}
use Rattle.xsk_machine.specs.Workers.{AreNew, IsNew, IsFreshDriver}
use Rattle.xsk_workers.specs.Terms.{setting_over}
use Rattle.xsk_machine.specs.declared.worker.AnyWorker.TheVariants.{Driver}
use Rattle.xsk_driver.specs.Shown.{Shown}
use Rattle.xsk_machine.proofs.Making.{next_new, later_new}
use Rattle.xsk_workers.specs.Shown.{seat_with, seat_at}
use Rattle.xsk_workers.specs.Members.{member_seat}
use Rattle.xsk_workers.specs.Gathering.{AreTaken}
use Rattle.xsk_workers.specs.Parking.{token_of, IsParkerOf}
use Rattle.xsk_workers.proofs.Gathering.{taken_none, taken_more, is_new_pass}
use Rattle.xsk_workers.specs.Hands.{team_seat}
use Rattle.xsk_workers.proofs.Seats.{is_driver, one_seated}
use Rattle.xsk_workers.proofs.Sleeping.{AreParkersFrom, all_parkers, first_parker, later_parkers}
use Rattle.xsk_workers.proofs.seating.seat_drivers.Given as given
use Rattle.xsk_workers.proofs.seating.seat_drivers.Goals as goal
use Rattle.xsk_workers.proofs.seating.seat_drivers.Goals.{After-next-in-loop-who}

pub loop-who-init : goal.loop-who-init
loop-who-init g c = (
  subst (AreTaken c.args.shared.now 0) (sym c.requires.passes) (taken_none c.args.shared.now),
  λ hands. ap (map member_seat) c.requires.none,
  subst (AreParkersFrom (map token_of c.args.source.wakers.now) 0) (sym c.into_iter-parkers.ensures.rest) (all_parkers (map token_of c.args.source.wakers.now) c.args.parkers.items c.requires.parkers),
  subst (AreNew (setting_over c.args.source.terms g.V.Verdicts.verdicts) 0) (sym c.into_iter-drivers.ensures.rest) c.requires.new,
  (let count : length (into_iter_items c.into_iter-drivers.result) ≡ length c.args.source.terms.config.now.pairs = ap length c.into_iter-drivers.ensures.rest ∙ c.requires.count in omega (arith, count)),
  ap length c.requires.none,
  refl,
)

-- where no parker is next, none is left
none_next : (g : given.Over) (c : After-next-in-loop-who g) → c.next-in-loop-who.result ≡ None → into_iter_items c.next-in-loop-who.new.self ≡ []
none_next g c none =
    nil_from_length (into_iter_items c.next-in-loop-who.new.self) (let zero : into_iter_len c.next-in-loop-who.new.self ≡ 0 = (subst (λ next. into_iter_steps c.loop-who.parkers next c.next-in-loop-who.new.self) none c.next-in-loop-who.ensures.cases).1 in search (rules, zero))

-- the pass is the caller's new one
new : (g : given.Over) (c : After-next-in-loop-who g) → c.in-Some.pass ≡ new_pass c.args.shared.now c.loop-who.who
new g c =
    let b = c.args.shared.now in
    let below : c.loop-who.who < callers_of b.setup.config = search rules in
    is_new_pass b c.loop-who.who c.loop-who.passes c.in-Some.pass below c.loop-who.invariant.0 (search rules)

pub seat_alone-member-requires-clause-pass : goal.seat_alone-member-requires-clause-pass
seat_alone-member-requires-clause-pass g c =
    let is : c.in-Some.pass ≡ new_pass c.args.shared.now c.loop-who.who = new g c in
    (ap (λ (p : Holder). p.view.flight) is, ap (λ (p : Holder). p.view.seen) is, ap (λ (p : Holder). p.view.setup.config) is ∙ c.requires.table)

pub seat_alone-member-requires-clause-parker : goal.seat_alone-member-requires-clause-parker
seat_alone-member-requires-clause-parker g c =
    let tokens = map token_of c.args.source.wakers.now in
    let who : c.loop-who.who ≡ c.in-Some.pass.who = sym (ap (λ (p : Holder). p.who) (new g c)) in
    subst (λ (k : ℕ). IsParkerOf tokens k c.next-in-loop-who.result) who
    (first_parker tokens c.loop-who.who (into_iter_items c.loop-who.parkers) (into_iter_items c.next-in-loop-who.new.self) c.next-in-loop-who.result c.next-in-loop-who.ensures.items (none_next g c) c.loop-who.invariant.2)

-- the driver is the caller's new one
pub seat_alone-member-requires-clause-expected : goal.seat_alone-member-requires-clause-expected
seat_alone-member-requires-clause-expected g c =
    let s : Setting = setting_over c.args.source.terms g.V.Verdicts.verdicts in
    let fresh : IfSome c.next.result (IsFreshDriver s c.loop-who.who) =
    next_new s c.loop-who.who (into_iter_items c.loop-who.drivers) (into_iter_items c.next.new.self) c.next.result c.next.ensures.items c.loop-who.invariant.3 in
    (subst (λ (d : Option Shown). IfSome d (IsFreshDriver s c.loop-who.who)) c.in-Some-next.is fresh).expected

pub seat_alone-member-requires-clause-machine : goal.seat_alone-member-requires-clause-machine
seat_alone-member-requires-clause-machine g c =
    let s : Setting = setting_over c.args.source.terms g.V.Verdicts.verdicts in
    let who : c.loop-who.who ≡ c.in-Some.pass.who = sym (ap (λ (p : Holder). p.who) (new g c)) in
    let fresh : IfSome c.next.result (IsFreshDriver s c.loop-who.who) =
    next_new s c.loop-who.who (into_iter_items c.loop-who.drivers) (into_iter_items c.next.new.self) c.next.result c.next.ensures.items c.loop-who.invariant.3 in
    subst (λ (k : ℕ). IsNew s k (Driver c.in-Some-next.driver)) who (subst (λ (d : Option Shown). IfSome d (IsFreshDriver s c.loop-who.who)) c.in-Some-next.is fresh).is

pub loop-who-preserved : goal.loop-who-preserved
loop-who-preserved g c =
    let b = c.args.shared.now in
    let s : Setting = setting_over c.args.source.terms g.V.Verdicts.verdicts in
    let tokens = map token_of c.args.source.wakers.now in
    let who = c.loop-who.who in
    let below : who < callers_of b.setup.config = search rules in
    let driver : who < length s.config.pairs = search rules in
    let is : c.in-Some.pass ≡ new_pass b who = is_new_pass b who c.loop-who.passes c.in-Some.pass below c.loop-who.invariant.0 (search rules) in
    let no_driver : c.next.result ≡ None → into_iter_items c.next.new.self ≡ [] = λ none.
    nil_from_length (into_iter_items c.next.new.self) (let zero : into_iter_len c.next.new.self ≡ 0 = (subst (λ next. into_iter_steps c.loop-who.drivers next c.next.new.self) none c.next.ensures.cases).1 in search (rules, zero)) in
    let no_parker : c.next-in-loop-who.result ≡ None → into_iter_items c.next-in-loop-who.new.self ≡ [] = λ none.
    nil_from_length (into_iter_items c.next-in-loop-who.new.self) (let zero : into_iter_len c.next-in-loop-who.new.self ≡ 0 = (subst (λ next. into_iter_steps c.loop-who.parkers next c.next-in-loop-who.new.self) none c.next-in-loop-who.ensures.cases).1 in search (rules, zero)) in
    let member = c.seat_alone-member.result in
    let seat : (hands : ℕ) → member_seat member ≡ seat_at hands s b who = λ hands.
    c.seat_alone-member.ensures team_seat ∙ ap (λ (p : Holder). seat_with s p true) is
    ∙ ap (λ (x : Bool). seat_with s (new_pass b who) x) (sym (is_driver hands s who driver)) in (
      subst (AreTaken b (who + 1)) (sym c.take.ensures.left) (taken_more b who c.loop-who.passes below c.loop-who.invariant.0),
      λ hands. one_seated hands s b who c.loop-who.members.items c.push_reserved.new.self.items member c.push_reserved.ensures.items (seat hands) (c.loop-who.invariant.1 hands),
      later_parkers tokens who (into_iter_items c.loop-who.parkers) (into_iter_items c.next-in-loop-who.new.self) c.next-in-loop-who.result c.next-in-loop-who.ensures.items no_parker c.loop-who.invariant.2,
      later_new s who (into_iter_items c.loop-who.drivers) (into_iter_items c.next.new.self) c.next.result c.next.ensures.items no_driver c.loop-who.invariant.3,
      search rules,
      ap length c.push_reserved.ensures.items ∙ length-append c.loop-who.members.items (member ∷ []) ∙ ap (λ n. n + 1) c.loop-who.invariant.5,
      search rules,
    )
