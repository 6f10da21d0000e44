use Rattle.std.proofs.Common.{rules, ◌≡◌, Some, sym, ap, subst, ◌∙◌, arith, false}
use Rattle.std.specs.List.{slice_get}
use Rattle.std.proofs.lemmas.Option.{slice_get_within, get_or_from_slice_get}
use Rattle.xsk_bench.specs.declared.play.Play.{Play}
use Rattle.xsk_bench.specs.declared.seat.Seat.{Seat}
use Rattle.xsk_bench.proofs.Seats.{sent_at}
use Rattle.xsk_bench.proofs.bench.Bench.sent.Goals as goal

pub returns-then-place-len-clause-sent : goal.returns-then-place-len-clause-sent
returns-then-place-len-clause-sent c s frames h seat played at =
    let at_inside : slice_get c.self.inside.play.seats.items c.args.pair ≡ Some seat = subst (λ (p : Play). slice_get p.seats.items c.args.pair ≡ Some seat) (sym c.self.view_is) at in
    absurd (omega (arith, slice_get_within c.self.inside.play.seats.items c.args.pair seat at_inside, c.len.ensures, c.if-place-len.true))

pub returns-then-overrun-clause-sent : goal.returns-then-overrun-clause-sent
returns-then-overrun-clause-sent c s frames h seat played at =
    let at_inside : slice_get c.self.inside.play.seats.items c.args.pair ≡ Some seat = subst (λ (p : Play). slice_get p.seats.items c.args.pair ≡ Some seat) (sym c.self.view_is) at in
    let same : seat ≡ c.index.result.now = sym (get_or_from_slice_get c.self.inside.play.seats.items c.args.pair seat c.index.result.now at_inside) ∙ sym c.index.ensures in
    (sent_at s frames h c.args.self.now c.args.pair seat played at).exceeds.0 (ap (λ (x : Seat). x.driver.sent.overrun) same ∙ sym c.overrun.ensures ∙ c.if-overrun.true)

pub returns-clause-sent : goal.returns-clause-sent
returns-clause-sent c s frames h seat played at =
    let at_inside : slice_get c.self.inside.play.seats.items c.args.pair ≡ Some seat = subst (λ (p : Play). slice_get p.seats.items c.args.pair ≡ Some seat) (sym c.self.view_is) at in
    let same : seat ≡ c.index.result.now = sym (get_or_from_slice_get c.self.inside.play.seats.items c.args.pair seat c.index.result.now at_inside) ∙ sym c.index.ensures in
    let none : seat.driver.sent.overrun ≡ false = ap (λ (x : Seat). x.driver.sent.overrun) same ∙ sym c.overrun.ensures ∙ search rules in
    c.sent.ensures.value ∙ ap (λ (x : Seat). x.driver.sent.packets) (sym same) ∙ (sent_at s frames h c.args.self.now c.args.pair seat played at).kept none
