use Rattle.xsk_table.specs.Known.{AllIsLeft}
use Rattle.std.proofs.Common.{◌≡◌, ◌++◌, sym, ap, subst, ◌∙◌}
use Rattle.xsk_model.specs.Config.{HasRing, IsRingSize, size_of}
use Rattle.xsk_model.specs.Rings.{place}
use Rattle.xsk_model.specs.Entry.{own}
use Rattle.xsk_model.specs.Legal.{IsLegal}
use Rattle.xsk_model.specs.declared.call.Call.TheVariants.{Submit}
use Rattle.xsk_table.specs.Layout.{ring_base}
use Rattle.xsk_table.specs.View.{Basis, View}
use Rattle.xsk_table.specs.Known.{AreSure}
use Rattle.xsk_table.specs.Rule.{lying}
use Rattle.xsk_table.specs.Plays.{CanPlace, ask_item}
use Rattle.xsk_table.specs.Held.{Board, Holder, known_in}
use Rattle.xsk_table.proofs.Holding.{end_holds}
use Rattle.xsk_table.proofs.Readying.{can_place, entries_within, pass_placed}
use Rattle.xsk_table.proofs.WordRows.{ring_size}
use Rattle.xsk_table.proofs.pass.Pass.place.Goals as goal

pub place-requires-clause-base : goal.place-requires-clause-base
place-requires-clause-base c =
    let is = sym c.self.view_is in
    let v = c.self.inside.seat.me.0 in
    let k = c.shared.inside.board.setup in
    let L : Holder → Type 0 = λ h. IsLegal h.view.setup.config (own h.who h.view.seen) h.who (Submit c.args.ring (lying h.view.flight ++ c.args.rest.now)) in
    let legal = subst L is c.requires.legal in
    let setup : v.setup ≡ k = ap (λ (h : Holder). h.view.setup) (sym is) ∙ c.requires.belongs.setup ∙ ap (λ (b : Board). b.setup) (sym c.shared.view_is) in
    let at = c.requires.at.0 ∙ ap (λ (b : Board). place b.setup.config c.args.ring) (sym c.shared.view_is) ∙ ap (λ (k : Basis). place k.config c.args.ring) (sym setup) in
    let end = end_holds v _ _ _ _ c.self.invariant.0 c.args.ring _ c.index-end.result.now legal.known at c.index-end.ensures in
    let has : HasRing k.config c.args.ring = subst (λ (s : Basis). HasRing s.config c.args.ring) setup legal.known in
    let base = end.base_is ∙ ap (λ (s : Basis). ring_base s.config c.args.ring) setup in
    let mask = end.mask_is ∙ ap (λ (s : Basis). size_of s.config c.args.ring) setup in
    (base, entries_within k c.self.inside.who c.args.ring c.index-end.result.now _ has base mask c.shared.invariant.words, end.base_few)

pub place-requires-clause-can : goal.place-requires-clause-can
place-requires-clause-can c =
    let is = sym c.self.view_is in
    let v = c.self.inside.seat.me.0 in
    let L : Holder → Type 0 = λ h. IsLegal h.view.setup.config (own h.who h.view.seen) h.who (Submit c.args.ring (lying h.view.flight ++ c.args.rest.now)) in
    let legal = subst L is c.requires.legal in
    let setup : v.setup ≡ c.shared.inside.board.setup = ap (λ (h : Holder). h.view.setup) (sym is) ∙ c.requires.belongs.setup ∙ ap (λ (b : Board). b.setup) (sym c.shared.view_is) in
    let P : Basis → Type 0 = λ k. CanPlace (ask_item k c.self.inside.who c.args.ring c.in-Some.item) v in
    subst P setup (can_place v c.self.inside.who c.args.ring c.in-Some.item _ _ c.self.invariant.0.one c.self.invariant.0.alone c.in-Some.ensures.some legal)

pub invariant_of-self : goal.invariant_of-self
invariant_of-self c =
    let is = sym c.self.view_is in
    let v = c.self.inside.seat.me.0 in
    let L : Holder → Type 0 = λ h. IsLegal h.view.setup.config (own h.who h.view.seen) h.who (Submit c.args.ring (lying h.view.flight ++ c.args.rest.now)) in
    let legal = subst L is c.requires.legal in
    let setup : v.setup ≡ c.shared.inside.board.setup = ap (λ (h : Holder). h.view.setup) (sym is) ∙ c.requires.belongs.setup ∙ ap (λ (b : Board). b.setup) (sym c.shared.view_is) in (
      pass_placed v _ _ _ _ _ _ c.args.ring c.in-Some.item c.self.invariant.0 c.place.ensures.told,
      subst (λ (u : View). AreSure u.setup c.self.inside.who u.seen (known_in c.self.inside.ends.items)) (sym c.place.ensures.told.view) c.self.invariant.1,
      subst (λ (u : View). AllIsLeft u.setup c.self.inside.who u.seen (known_in c.self.inside.ends.items)) (sym c.place.ensures.told.view) c.self.invariant.2,
    )

pub place-requires-clause-size : goal.place-requires-clause-size
place-requires-clause-size c =
    let is = sym c.self.view_is in
    let v = c.self.inside.seat.me.0 in
    let k = c.shared.inside.board.setup in
    let L : Holder → Type 0 = λ h. IsLegal h.view.setup.config (own h.who h.view.seen) h.who (Submit c.args.ring (lying h.view.flight ++ c.args.rest.now)) in
    let legal = subst L is c.requires.legal in
    let setup : v.setup ≡ k = ap (λ (h : Holder). h.view.setup) (sym is) ∙ c.requires.belongs.setup ∙ ap (λ (b : Board). b.setup) (sym c.shared.view_is) in
    let at = c.requires.at.0 ∙ ap (λ (b : Board). place b.setup.config c.args.ring) (sym c.shared.view_is) ∙ ap (λ (k : Basis). place k.config c.args.ring) (sym setup) in
    let end = end_holds v _ _ _ _ c.self.invariant.0 c.args.ring _ c.index-end.result.now legal.known at c.index-end.ensures in
    (end.mask_is ∙ ap (λ (s : Basis). size_of s.config c.args.ring) setup, subst IsRingSize (sym end.mask_is) (ring_size v.setup.config c.args.ring c.self.invariant.0.history.opened.config legal.known))
