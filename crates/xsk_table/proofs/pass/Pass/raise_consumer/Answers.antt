use Rattle.xsk_table.proofs.Lefts.{left_kept}
use Rattle.std.proofs.Common.{◌≡◌, refl, sym, ap, subst, ◌∙◌}
use Rattle.xsk_model.specs.Rings.{place}
use Rattle.xsk_model.specs.Entry.{own}
use Rattle.xsk_model.specs.Legal.{IsLegal}
use Rattle.xsk_model.specs.declared.call.Call.TheVariants.{Release}
use Rattle.xsk_model.specs.declared.call.Reply.TheVariants.{Released}
use Rattle.xsk_table.specs.View.{Basis}
use Rattle.xsk_table.specs.Plays.{Extends}
use Rattle.xsk_table.specs.Held.{Board, Holder}
use Rattle.xsk_table.proofs.Holding.{pass_released}
use Rattle.xsk_table.proofs.Knowledge.{pass_kept, known_stays}
use Rattle.xsk_table.proofs.pass.Pass.raise_consumer.Goals as goal

pub invariant_of-self : goal.invariant_of-self
invariant_of-self c =
    let is = sym c.self.view_is in
    let v = c.self.inside.seat.me.0 in
    let L : Holder → Type 0 = λ h. IsLegal h.view.setup.config (own h.who h.view.seen) h.who (Release c.args.ring c.args.n) in
    let legal = subst L is c.requires.legal in
    let setup : v.setup ≡ c.shared.inside.board.setup = ap (λ (h : Holder). h.view.setup) (sym is) ∙ c.requires.belongs.setup ∙ ap (λ (b : Board). b.setup) (sym c.shared.view_is) in
    let at = c.requires.at.0 ∙ ap (λ (b : Board). place b.setup.config c.args.ring) (sym c.shared.view_is) ∙ ap (λ (k : Basis). place k.config c.args.ring) (sym setup) in
    let E : Basis → Type 0 = λ k. Extends k c.self.inside.who (Release c.args.ring c.args.n) Released v c.raise_consumer.new.seat.me.0 in (
      pass_released v _ _ _ _ c.self.invariant.0 c.args.ring _ c.index_mut-end.result.now legal.known at c.index_mut-end.ensures.value _ _ c.args.n legal (subst E (sym setup) c.raise_consumer.ensures.history) c.raise_consumer.ensures.slots (ap (λ (h : Holder). h.view.flight) (sym is) ∙ c.requires.rests) c.raise_consumer.ensures.flight,
      pass_kept v c.raise_consumer.new.seat.me.0 c.self.inside.who c.self.inside.ends.items (Release c.args.ring c.args.n) Released (subst E (sym setup) c.raise_consumer.ensures.history) legal c.self.invariant.1 _ c.index_mut-end.result.now _ refl refl c.index_mut-end.ensures.value refl,
      left_kept v c.raise_consumer.new.seat.me.0 c.self.inside.who c.self.inside.ends.items (Release c.args.ring c.args.n) Released (subst E (sym setup) c.raise_consumer.ensures.history) c.self.invariant.2 _ c.index_mut-end.result.now _ refl refl c.index_mut-end.ensures.value refl,
    )

pub returns-clause-known : goal.returns-clause-known
returns-clause-known c = known_stays c.self.inside.ends.items _ c.index_mut-end.result.now _ c.index_mut-end.ensures.value refl ∙ ap (λ (h : Holder). h.known) c.self.view_is
