use Rattle.xsk_table.proofs.Lefts.{left_looked, found_out}
use Rattle.xsk_model.proofs.Places.{is_ring-self}
use Rattle.std.proofs.Common.{◌≡◌, set, refl, sym, ap, subst, arith, ◌∙◌}
use Rattle.xsk_model.specs.Rings.{place}
use Rattle.xsk_model.specs.Entry.{own}
use Rattle.xsk_model.specs.Legal.{IsLegal}
use Rattle.xsk_model.specs.declared.call.Call.TheVariants.{Peek}
use Rattle.xsk_table.specs.View.{Basis}
use Rattle.xsk_table.specs.Known.{out_after}
use Rattle.xsk_table.specs.Plays.{Extends, items_reply}
use Rattle.xsk_table.specs.Held.{Board, Holder, with_known, known_in}
use Rattle.xsk_table.proofs.Holding.{pass_peeked}
use Rattle.xsk_model.proofs.Roles.{two_owners}
use Rattle.xsk_table.proofs.Knowledge.{in_row, items_left, pass_looked, known_set}
use Rattle.xsk_table.proofs.pass.Pass.peek_step.Goals as goal

pub invariant_of-self : goal.invariant_of-self
invariant_of-self g c =
    let is = sym c.self.view_is in
    let v = c.self.inside.seat.me.0 in
    let L : Holder → Type 0 = λ h. IsLegal h.view.setup.config (own h.who h.view.seen) h.who (Peek c.args.ring c.args.n) in
    let legal = subst L is c.requires.legal in
    let setup : v.setup ≡ c.shared.inside.board.setup = ap (λ (h : Holder). h.view.setup) (sym is) ∙ c.requires.belongs.setup ∙ ap (λ (b : Board). b.setup) (sym c.shared.view_is) in
    let at = c.requires.at.0 ∙ ap (λ (b : Board). place b.setup.config c.args.ring) (sym c.shared.view_is) ∙ ap (λ (k : Basis). place k.config c.args.ring) (sym setup) in
    let did = c.peek_step-out.ensures.history in
    let E : Basis → Type 0 = λ k. Extends k c.self.inside.who (Peek c.args.ring c.args.n) (items_reply did.0) v c.peek_step-out.new.seat.me.0 in
    let count = c.min-count.ensures in (
      pass_peeked v _ _ _ _ c.self.invariant.0 c.args.ring _ c.index_mut-end.result.now legal.known at c.index_mut-end.ensures.value _ _ c.args.n _ _ did.0 legal (subst E (sym setup) did.3) c.peek_step-out.ensures.slots did.2 (did.1 ∙ sym count),
      pass_looked v c.peek_step-out.new.seat.me.0 c.self.inside.who c.self.inside.ends.items (Peek c.args.ring c.args.n) (items_reply did.0) (subst E (sym setup) did.3) legal c.self.invariant.1 c.args.ring _ _ legal.known (λ r. refl) at (in_row v.setup c.self.inside.who _ c.self.inside.ends.items c.args.ring _ c.self.invariant.0.ends_hold legal.known at)
          (λ fills. absurd ((two_owners v.setup.config c.args.ring c.self.invariant.0.history.opened.config legal.known).2 (sym fills ∙ legal.role)))
          (λ empties. let n = items_left c.shared.inside.board.setup v.setup c.peek_step-out.new.seat.me.0.seen c.args.ring c.args.n _ _ setup c.peek_step-out.ensures.left count in omega arith),
      left_looked v c.peek_step-out.new.seat.me.0 c.self.inside.who c.self.inside.ends.items (Peek c.args.ring c.args.n) (items_reply did.0) (subst E (sym setup) did.3) c.self.invariant.2 c.args.ring _ _ legal.known (λ r. refl) at (in_row v.setup c.self.inside.who _ c.self.inside.ends.items c.args.ring _ c.self.invariant.0.ends_hold legal.known at)
          (is_ring-self c.args.ring)
          (items_left c.shared.inside.board.setup v.setup c.peek_step-out.new.seat.me.0.seen c.args.ring c.args.n _ _ setup c.peek_step-out.ensures.left count
          ∙ sym (found_out v.setup c.self.inside.who c.args.ring _ _ c.peek_step-out.new.seat.me.0.seen (subst E (sym setup) did.3).seen
          (λ fills. (two_owners v.setup.config c.args.ring c.self.invariant.0.history.opened.config legal.known).2 (sym fills ∙ legal.role)))),
    )

pub returns-clause-known : goal.returns-clause-known
returns-clause-known g c =
    let is = sym c.self.view_is in
    let v = c.self.inside.seat.me.0 in
    let setup : v.setup ≡ c.shared.inside.board.setup = ap (λ (h : Holder). h.view.setup) (sym is) ∙ c.requires.belongs.setup ∙ ap (λ (b : Board). b.setup) (sym c.shared.view_is) in
    let at = c.requires.at.0 ∙ ap (λ (b : Board). place b.setup.config c.args.ring) (sym c.shared.view_is) ∙ ap (λ (k : Basis). place k.config c.args.ring) (sym setup) in
    let count = c.min-count.ensures in
    let left = items_left c.shared.inside.board.setup v.setup c.peek_step-out.new.seat.me.0.seen c.args.ring c.args.n _ _ setup c.peek_step-out.ensures.left count in
    known_set c.self.inside.ends.items _ _ ∙ (λ i. set (known_in c.self.inside.ends.items) (at i) (left i)) ∙ ap (λ (h : Holder). with_known h c.args.ring (out_after h.view.setup c.peek_step-out.new.seat.me.0.seen c.args.ring)) c.self.view_is
