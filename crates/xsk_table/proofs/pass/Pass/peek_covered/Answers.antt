use Rattle.xsk_table.proofs.Lefts.{left_covered}
use Rattle.xsk_table.proofs.Knowledge.{items_are}
use Rattle.std.proofs.Common.{◌≡◌, ◌-◌, ◌≤◌, set, refl, sym, ap, subst, arith, ◌∙◌}
use Rattle.xsk_model.specs.Rings.{place}
use Rattle.xsk_model.specs.Entry.{own}
use Rattle.xsk_model.specs.Legal.{IsLegal}
use Rattle.xsk_model.specs.declared.call.Call.TheVariants.{Peek}
use Rattle.xsk_table.specs.View.{Basis}
use Rattle.xsk_table.specs.Plays.{Extends, items_reply}
use Rattle.xsk_table.specs.Held.{Board, Holder, known_on, with_known, known_in}
use Rattle.xsk_table.proofs.Holding.{pass_peeked}
use Rattle.xsk_table.proofs.Knowledge.{in_row, known_at, known_set, pass_covered, items_had}
use Rattle.xsk_table.proofs.pass.Pass.peek_covered.Goals as goal

pub invariant_of-self : goal.invariant_of-self
invariant_of-self c =
    let is = sym c.self.view_is in
    let v = c.self.inside.seat.me.0 in
    let L : Holder → Type 0 = λ h. IsLegal h.view.setup.config (own h.who h.view.seen) h.who (Peek c.args.ring c.args.n) in
    let legal = subst L is c.requires.legal in
    let setup : v.setup ≡ c.shared.inside.board.setup = ap (λ (h : Holder). h.view.setup) (sym is) ∙ c.requires.belongs.setup ∙ ap (λ (b : Board). b.setup) (sym c.shared.view_is) in
    let at = c.requires.at.0 ∙ ap (λ (b : Board). place b.setup.config c.args.ring) (sym c.shared.view_is) ∙ ap (λ (k : Basis). place k.config c.args.ring) (sym setup) in
    let known = known_at c.self.inside.ends.items _ _ c.index_mut-end.result.now c.index_mut-end.ensures.value (in_row v.setup c.self.inside.who _ c.self.inside.ends.items c.args.ring _ c.self.invariant.0.ends_hold legal.known at) at in
    let few : c.args.n ≤ c.index_mut-end.result.now.known = rw known (subst (λ (h : Holder). c.args.n ≤ known_on h c.args.ring) is c.requires.covered) in
    let did = c.give.ensures.history in
    let E : Basis → Type 0 = λ k. Extends k c.self.inside.who (Peek c.args.ring c.args.n) (items_reply did.0) v c.give.new.seat.me.0 in
    let ex = subst E (sym setup) did.3 in (
      pass_peeked v _ _ _ _ c.self.invariant.0 c.args.ring _ c.index_mut-end.result.now legal.known at c.index_mut-end.ensures.value _ _ c.args.n _ _ did.0 legal ex c.give.ensures.slots did.2 did.1,
      pass_covered v c.give.new.seat.me.0 c.self.inside.who c.self.inside.ends.items (Peek c.args.ring c.args.n) (items_reply did.0) ex legal c.self.invariant.1 c.args.ring _ _ legal.known (λ r. refl) at (in_row v.setup c.self.inside.who _ c.self.inside.ends.items c.args.ring _ c.self.invariant.0.ends_hold legal.known at)
          c.index_mut-end.result.now c.args.n c.index_mut-end.ensures.value (omega arith) (λ fills. omega arith) (λ empties. items_had did.0 c.args.n did.1),
      left_covered v c.give.new.seat.me.0 c.self.inside.who c.self.inside.ends.items (Peek c.args.ring c.args.n) (items_reply did.0) ex c.self.invariant.2 c.args.ring _ _ legal.known (λ r. refl) at (in_row v.setup c.self.inside.who _ c.self.inside.ends.items c.args.ring _ c.self.invariant.0.ends_hold legal.known at)
          c.index_mut-end.result.now c.args.n c.index_mut-end.ensures.value (omega arith) (let had = items_are did.0 c.args.n did.1 in omega arith),
    )

pub returns-clause-known : goal.returns-clause-known
returns-clause-known c =
    let is = sym c.self.view_is in
    let v = c.self.inside.seat.me.0 in
    let L : Holder → Type 0 = λ h. IsLegal h.view.setup.config (own h.who h.view.seen) h.who (Peek c.args.ring c.args.n) in
    let legal = subst L is c.requires.legal in
    let setup : v.setup ≡ c.shared.inside.board.setup = ap (λ (h : Holder). h.view.setup) (sym is) ∙ c.requires.belongs.setup ∙ ap (λ (b : Board). b.setup) (sym c.shared.view_is) in
    let at = c.requires.at.0 ∙ ap (λ (b : Board). place b.setup.config c.args.ring) (sym c.shared.view_is) ∙ ap (λ (k : Basis). place k.config c.args.ring) (sym setup) in
    let known = known_at c.self.inside.ends.items _ _ c.index_mut-end.result.now c.index_mut-end.ensures.value (in_row v.setup c.self.inside.who _ c.self.inside.ends.items c.args.ring _ c.self.invariant.0.ends_hold legal.known at) at in
    known_set c.self.inside.ends.items _ _ ∙ (λ i. set (known_in c.self.inside.ends.items) (at i) (known i - c.args.n)) ∙ ap (λ (h : Holder). with_known h c.args.ring (known_on h c.args.ring - c.args.n)) c.self.view_is
