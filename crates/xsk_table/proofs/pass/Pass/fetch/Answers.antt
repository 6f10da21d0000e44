use Rattle.xsk_table.specs.Known.{AllIsLeft}
use Rattle.std.proofs.Common.{◌≡◌, ◌+◌, ◌-◌, ◌%◌, ◌^◌, ◌<◌, ℕ, List, [], ◌∷◌, length, sym, ap, subst, ◌∙◌, arith}
use Rattle.xsk_umem.specs.declared.batch.Item.{Item as Thing}
use Rattle.xsk_model.specs.Config.{HasRing, size_of, callers_of}
use Rattle.xsk_model.specs.Rings.{place, consumer}
use Rattle.xsk_model.proofs.Roles.{two_owners}
use Rattle.xsk_table.specs.Layout.{ring_base}
use Rattle.xsk_table.specs.View.{Basis, taking, View}
use Rattle.xsk_table.specs.Known.{AreSure}
use Rattle.xsk_table.specs.Rule.{wrapped, lying}
use Rattle.xsk_table.specs.Plays.{still, emptied, ask_for}
use Rattle.xsk_table.specs.Held.{Board, Holder, known_in}
use Rattle.xsk_table.proofs.Holding.{end_holds}
use Rattle.xsk_table.proofs.Readying.{next_position, pass_fetched, entries_within}
use Rattle.xsk_table.proofs.pass.Pass.fetch.Goals as goal

pub fetch-item-requires-clause-caller : goal.fetch-item-requires-clause-caller
fetch-item-requires-clause-caller c =
    let is = sym c.self.view_is in
    let v = c.self.inside.seat.me.0 in
    let L : Holder → Type 0 = λ h. (x : Thing) × (left : List Thing) × (h.view.flight ≡ taking c.args.ring (x ∷ left)) in
    let f = subst L is c.requires.flight in
    let left = c.self.invariant.0.left c.args.ring (f.0 ∷ f.1) f.2 in
    let setup : v.setup ≡ c.shared.inside.board.setup = ap (λ (h : Holder). h.view.setup) (sym is) ∙ c.requires.belongs.setup ∙ ap (λ (b : Board). b.setup) (sym c.shared.view_is) in
    let below = (two_owners v.setup.config c.args.ring c.self.invariant.0.history.opened.config left.0).1 in
    let P : Basis → Type 0 = λ k. (v.callers ≡ c.self.inside.who ∷ []) × HasRing k.config c.args.ring × (c.self.inside.who ≡ consumer k.config c.args.ring) × (c.self.inside.who < callers_of k.config) in
    subst P setup (c.self.invariant.0.one, left.0, left.1, subst (λ (n : ℕ). n < callers_of v.setup.config) (sym left.1) below)

pub fetch-item-requires-clause-base : goal.fetch-item-requires-clause-base
fetch-item-requires-clause-base c =
    let is = sym c.self.view_is in
    let v = c.self.inside.seat.me.0 in
    let k = c.shared.inside.board.setup in
    let L : Holder → Type 0 = λ h. (x : Thing) × (left : List Thing) × (h.view.flight ≡ taking c.args.ring (x ∷ left)) in
    let f = subst L is c.requires.flight in
    let there = (c.self.invariant.0.left c.args.ring (f.0 ∷ f.1) f.2).0 in
    let setup : v.setup ≡ k = ap (λ (h : Holder). h.view.setup) (sym is) ∙ c.requires.belongs.setup ∙ ap (λ (b : Board). b.setup) (sym c.shared.view_is) in
    let at = c.requires.at.0 ∙ ap (λ (b : Board). place b.setup.config c.args.ring) (sym c.shared.view_is) ∙ ap (λ (k : Basis). place k.config c.args.ring) (sym setup) in
    let end = end_holds v _ _ _ _ c.self.invariant.0 c.args.ring _ c.index-end.result.now there at c.index-end.ensures in
    let has : HasRing k.config c.args.ring = subst (λ (s : Basis). HasRing s.config c.args.ring) setup there in
    let base = end.base_is ∙ ap (λ (s : Basis). ring_base s.config c.args.ring) setup in
    let mask = end.mask_is ∙ ap (λ (s : Basis). size_of s.config c.args.ring) setup in
    (base, entries_within k c.self.inside.who c.args.ring c.index-end.result.now _ has base mask c.shared.invariant.words, end.base_few)

pub fetch-item-requires-clause-position : goal.fetch-item-requires-clause-position
fetch-item-requires-clause-position c =
    let is = sym c.self.view_is in
    let v = c.self.inside.seat.me.0 in
    let L : Holder → Type 0 = λ h. (x : Thing) × (left : List Thing) × (h.view.flight ≡ taking c.args.ring (x ∷ left)) in
    let f = subst L is c.requires.flight in
    let there = (c.self.invariant.0.left c.args.ring (f.0 ∷ f.1) f.2).0 in
    let setup : v.setup ≡ c.shared.inside.board.setup = ap (λ (h : Holder). h.view.setup) (sym is) ∙ c.requires.belongs.setup ∙ ap (λ (b : Board). b.setup) (sym c.shared.view_is) in
    let at = c.requires.at.0 ∙ ap (λ (b : Board). place b.setup.config c.args.ring) (sym c.shared.view_is) ∙ ap (λ (k : Basis). place k.config c.args.ring) (sym setup) in
    let end = end_holds v _ _ _ _ c.self.invariant.0 c.args.ring _ c.index-end.result.now there at c.index-end.ensures in
    let next = next_position v _ _ _ _ c.args.ring f.0 f.1 c.index-end.result.now c.self.invariant.0 end f.2 (let z : c.self.inside.flying < 2 ^ 32 = omega arith in z) in
    let P : Basis → Type 0 = λ k. (count : ℕ) × (count + length (lying v.flight) ≡ emptied (ask_for k c.self.inside.who c.args.ring 0) v) × ((c.index-end.result.now.far + (2 ^ 32 - c.self.inside.flying)) % 2 ^ 32 ≡ wrapped k count) in
    subst P setup next

pub invariant_of-self : goal.invariant_of-self
invariant_of-self c =
    let is = sym c.self.view_is in
    let L : Holder → Type 0 = λ h. (x : Thing) × (left : List Thing) × (h.view.flight ≡ taking c.args.ring (x ∷ left)) in
    let f = subst L is c.requires.flight in
    let t = c.fetch-item.ensures.told f.0 f.1 f.2 in
    let v = c.self.inside.seat.me.0 in
    let setup : v.setup ≡ c.shared.inside.board.setup = ap (λ (h : Holder). h.view.setup) (sym is) ∙ c.requires.belongs.setup ∙ ap (λ (b : Board). b.setup) (sym c.shared.view_is) in (
      pass_fetched c.self.inside.seat.me.0 _ _ _ _ _ _ c.args.ring f.0 f.1 c.self.invariant.0 f.2 t.view t.slots,
      subst (λ (u : View). AreSure u.setup c.self.inside.who u.seen (known_in c.self.inside.ends.items)) (sym t.view) c.self.invariant.1,
      subst (λ (u : View). AllIsLeft u.setup c.self.inside.who u.seen (known_in c.self.inside.ends.items)) (sym t.view) c.self.invariant.2,
    )

pub returns-clause-taken : goal.returns-clause-taken
returns-clause-taken c x left flies =
    let is = sym c.self.view_is in
    let t = c.fetch-item.ensures.told x left (ap (λ (h : Holder). h.view.flight) (sym is) ∙ flies) in
    (t.item, t.view ∙ ap (λ (h : Holder). record h.view { flight = still c.args.ring left }) (sym is))
