use Rattle.std.proofs.Common.{◌≡◌, ◌<◌, false, true, length, get_or, sym, refl, arith, ◌∙◌, rules}
use Rattle.xsk_turns.specs.Stepping.{joined_ask}
use Rattle.xsk_model.specs.declared.call.Act.TheVariants.{Ended as IsEnd}
use Rattle.xsk_sim.proofs.Seating.{each_at, each_of}
use Rattle.xsk_sim.proofs.rounds.Workers.have_ended.Goals as goal

pub returns-then-not-has_ended : goal.returns-then-not-has_ended
returns-then-not-has_ended c = (
  λ f. let e : false ≡ true = f in cc,
  λ all.
      let w = c.args.self.now in
      let i = c.loop-seat.seat-index in
      let at : c.seat-item.result ≡ get_or w.seats.items i c.seat-item.result = search (rules, c.seat-item.is, c.deref-seat-items.ensures.value) in
      let below : i < length w.seats.items = omega (arith, c.loop-seat-test.true) in
      let ended : joined_ask c.seat-item.result.ask c.seat-item.result.items ≡ IsEnd = each_at w.seats.items 0 i i _ c.seat-item.result all below (omega arith) at in
      sym c.if-not-has_ended.true ∙ c.has_ended.ensures.1 ended,
)

pub returns : goal.returns
returns c =
    let w = c.args.self.now in (
      λ is. each_of w.seats.items 0 _ (λ i d below at. c.loop-seat.invariant i d (omega (arith, below, c.loop-seat-test.false)) at),
      λ all. refl,
    )
