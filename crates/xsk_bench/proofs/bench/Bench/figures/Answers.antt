use Rattle.std.proofs.Common.{◌≡◌, ◌/◌, ℕ, Some, List, length, sym, ap, subst, ◌∙◌, arith}
use Rattle.std.specs.List.{slice_get}
use Rattle.std.proofs.lemmas.Option.{slice_get_within, get_or_from_slice_get}
use Rattle.xsk_model.specs.Config.{classes_of}
use Rattle.xsk_model.specs.declared.config.PairInfo.{PairInfo}
use Rattle.xsk_model.specs.declared.config.SocketInfo.{SocketInfo}
use Rattle.xsk_machine.specs.Figures.{figures_in}
use Rattle.xsk_bench.specs.declared.play.Play.{Play}
use Rattle.xsk_bench.specs.declared.seat.Seat.{Seat}
use Rattle.xsk_bench.proofs.bench.Bench.figures.Goals as goal

pub returns-then-place-len-clause-figures : goal.returns-then-place-len-clause-figures
returns-then-place-len-clause-figures c seat at =
    let at_inside : slice_get c.self.inside.play.seats.items c.args.pair ≡ Some seat = subst (λ (p : Play). slice_get p.seats.items c.args.pair ≡ Some seat) (sym c.self.view_is) at in
    absurd (omega (arith, slice_get_within c.self.inside.play.seats.items c.args.pair seat at_inside, c.len.ensures, c.if-place-len.true))

pub returns-clause-figures : goal.returns-clause-figures
returns-clause-figures c seat at =
    let at_inside : slice_get c.self.inside.play.seats.items c.args.pair ≡ Some seat = subst (λ (p : Play). slice_get p.seats.items c.args.pair ≡ Some seat) (sym c.self.view_is) at in
    let same : seat ≡ c.index.result.now = sym (get_or_from_slice_get c.self.inside.play.seats.items c.args.pair seat c.index.result.now at_inside) ∙ sym c.index.ensures in
    let classes : length c.sockets.result.now / length c.pairs.result.now ≡ classes_of c.args.self.now.checked.config =
    ap (λ (ss : List SocketInfo). length ss / length c.pairs.result.now) c.sockets.ensures.value ∙ ap (λ (ps : List PairInfo). length c.config-config.result.now.sockets / length ps) c.pairs.ensures.value
    ∙ ap classes_of (c.config-config.ensures ∙ ap (λ (p : Play). p.checked.config) c.self.view_is) in
    ap (λ f. Some f) (c.of_driver-figures.ensures ∙ ap (λ (n : ℕ). figures_in n c.index.result.now.driver) classes
    ∙ ap (λ (x : Seat). figures_in (classes_of c.args.self.now.checked.config) x.driver) (sym same))
