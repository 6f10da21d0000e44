use Rattle.xsk_table.proofs.Lefts.{left_looked, found_free}
use Rattle.xsk_model.proofs.Places.{is_ring-self}
use Rattle.std.proofs.Common.{◌≡◌, [], set, refl, sym, ap, subst, arith, ◌∙◌}
use Rattle.xsk_model.specs.Asks.{joined_reply}
use Rattle.xsk_model.specs.Rings.{place}
use Rattle.xsk_model.specs.Entry.{own}
use Rattle.xsk_model.specs.Legal.{IsLegal}
use Rattle.xsk_model.specs.declared.call.Call.TheVariants.{Reserve}
use Rattle.xsk_table.specs.View.{Basis}
use Rattle.xsk_table.specs.Known.{free_after}
use Rattle.xsk_table.specs.Plays.{Extends}
use Rattle.xsk_model.specs.declared.call.Reply.{Reply}
use Rattle.xsk_table.specs.Held.{Board, Holder, with_known, known_in}
use Rattle.xsk_table.proofs.Holding.{pass_reserved}
use Rattle.xsk_model.proofs.Roles.{two_owners}
use Rattle.xsk_table.proofs.Knowledge.{in_row, places_left, pass_looked, known_set}
use Rattle.xsk_table.proofs.pass.Pass.reserve_step.Goals as goal

pub invariant_of-self : goal.invariant_of-self
invariant_of-self g c =
    let is = sym c.self.view_is in
    let v = c.self.inside.seat.me.0 in
    let L : Holder → Type 0 = λ h. IsLegal h.view.setup.config (own h.who h.view.seen) h.who (Reserve c.args.ring c.args.n) in
    let legal = subst L is c.requires.legal in
    let setup : v.setup ≡ c.shared.inside.board.setup = ap (λ (h : Holder). h.view.setup) (sym is) ∙ c.requires.belongs.setup ∙ ap (λ (b : Board). b.setup) (sym c.shared.view_is) in
    let at = c.requires.at.0 ∙ ap (λ (b : Board). place b.setup.config c.args.ring) (sym c.shared.view_is) ∙ ap (λ (k : Basis). place k.config c.args.ring) (sym setup) in
    let E : Basis → Type 0 = λ k. Extends k c.self.inside.who (Reserve c.args.ring c.args.n) (joined_reply c.answer_by-answer.result []) v c.reserve_step-free.new.seat.me.0 in
    let rests = ap (λ (h : Holder). h.view.flight) (sym is) ∙ c.requires.rests in
    let ex = subst E (sym setup) (subst (λ (t : Reply). Extends c.shared.inside.board.setup c.self.inside.who (Reserve c.args.ring c.args.n) t v c.reserve_step-free.new.seat.me.0) (sym c.answer_by-answer.ensures) c.reserve_step-free.ensures.history) in
    let call = Reserve c.args.ring c.args.n in (
      pass_reserved v _ _ _ _ c.self.invariant.0 c.args.ring _ c.index_mut-end.result.now legal.known at c.index_mut-end.ensures.value _ _ c.args.n _ _ (joined_reply c.answer_by-answer.result []) legal ex c.reserve_step-free.ensures.slots (ap (λ (h : Holder). h.view.flight) (sym is) ∙ c.requires.rests) c.reserve_step-free.ensures.flight (c.granted_by-got.ensures c.args.ring),
      pass_looked v c.reserve_step-free.new.seat.me.0 c.self.inside.who c.self.inside.ends.items call (joined_reply c.answer_by-answer.result []) ex legal c.self.invariant.1 c.args.ring _ _ legal.known (λ r. refl) at (in_row v.setup c.self.inside.who _ c.self.inside.ends.items c.args.ring _ c.self.invariant.0.ends_hold legal.known at)
          (λ fills. let n = places_left c.shared.inside.board.setup v.setup c.reserve_step-free.new.seat.me.0.seen c.args.ring c.args.n _ _ (joined_reply c.answer_by-answer.result []) setup c.reserve_step-free.ensures.left c.answer_by-answer.ensures (c.granted_by-got.ensures c.args.ring) in omega arith) (λ empties. absurd ((two_owners v.setup.config c.args.ring c.self.invariant.0.history.opened.config legal.known).2 (sym legal.role ∙ empties))),
      left_looked v c.reserve_step-free.new.seat.me.0 c.self.inside.who c.self.inside.ends.items call (joined_reply c.answer_by-answer.result []) ex c.self.invariant.2 c.args.ring _ _ legal.known (λ r. refl) at (in_row v.setup c.self.inside.who _ c.self.inside.ends.items c.args.ring _ c.self.invariant.0.ends_hold legal.known at)
          (is_ring-self c.args.ring)
          (places_left c.shared.inside.board.setup v.setup c.reserve_step-free.new.seat.me.0.seen c.args.ring c.args.n _ _ (joined_reply c.answer_by-answer.result []) setup c.reserve_step-free.ensures.left c.answer_by-answer.ensures (c.granted_by-got.ensures c.args.ring)
          ∙ sym (found_free v.setup c.self.inside.who c.args.ring _ _ c.reserve_step-free.new.seat.me.0.seen ex.seen legal.role)),
    )

pub returns-clause-known : goal.returns-clause-known
returns-clause-known g c =
    let is = sym c.self.view_is in
    let v = c.self.inside.seat.me.0 in
    let setup : v.setup ≡ c.shared.inside.board.setup = ap (λ (h : Holder). h.view.setup) (sym is) ∙ c.requires.belongs.setup ∙ ap (λ (b : Board). b.setup) (sym c.shared.view_is) in
    let at = c.requires.at.0 ∙ ap (λ (b : Board). place b.setup.config c.args.ring) (sym c.shared.view_is) ∙ ap (λ (k : Basis). place k.config c.args.ring) (sym setup) in
    let left = places_left c.shared.inside.board.setup v.setup c.reserve_step-free.new.seat.me.0.seen c.args.ring c.args.n _ _ (joined_reply c.answer_by-answer.result []) setup c.reserve_step-free.ensures.left c.answer_by-answer.ensures (c.granted_by-got.ensures c.args.ring) in
    known_set c.self.inside.ends.items _ _ ∙ (λ i. set (known_in c.self.inside.ends.items) (at i) (left i)) ∙ ap (λ (h : Holder). with_known h c.args.ring (free_after h.view.setup c.reserve_step-free.new.seat.me.0.seen c.args.ring)) c.self.view_is
