-- The frames of items that are to be submitted: the caller has them exactly where a standing keeps sources of them, and
-- they came from FILL exactly where their sources are FILL rings.
use Rattle.std.proofs.Common.{◌≡◌, ℕ, ◌+◌, ◌<◌, ◌≤◌, Bool, true, cond, List, [], ◌∷◌, length, get_or, All, Option, Some, None, refl, sym, ap, subst, ◌∙◌, ⊎_elim, ne_eqb, arith}
use Rattle.std.specs.Prelude.{IsTrue}
use Rattle.std.proofs.lemmas.Bool.{cases_lt, cases_eq}
use Rattle.std.proofs.lemmas.List.{get_or_past}
use Rattle.std.proofs.lemmas.List.Elements.{All-nil, All-cons, All-head, All-tail}
use Rattle.xsk_umem.specs.Frame.{Frame}
use Rattle.xsk_umem.specs.Geometry.{Geometry}
use Rattle.xsk_umem.specs.declared.batch.Item.{Item}
use Rattle.xsk_model.specs.Config.{Config}
use Rattle.xsk_model.specs.Numbers.{times, number_of, numbers}
use Rattle.xsk_model.specs.Entry.{Told}
use Rattle.xsk_model.specs.Own.{had_of, is_from_fill}
use Rattle.xsk_model.specs.Legal.{IsItemOn}
use Rattle.xsk_model.specs.OtherWords.{NamesItsData}
use Rattle.xsk_model.specs.declared.call.Ring.{Ring}
use Rattle.xsk_model.specs.declared.call.Ring.TheVariants.{Fill, Comp, Rx, Tx}
use Rattle.xsk_model.proofs.Counting.{times-append, its_own}
use Rattle.xsk_legal.specs.Noted.{Noted}
use Rattle.xsk_legal.specs.Standing.{StandsFor, source_of}
use Rattle.xsk_legal.specs.Pieces.{has, IsFill, ArePieces, frame_source, item_source}
use Rattle.xsk_legal.proofs.Sources.{once, is_fill_ring, own_source}
use Rattle.xsk_legal.proofs.Waiting.{none_past}

-- ---- sources

fill_true : (source : Option Ring) → IsFill source → is_fill_ring source ≡ true
fill_true None h = absurd h
fill_true (Some (Fill d)) h = refl
fill_true (Some (Comp d)) h = absurd h
fill_true (Some (Rx s)) h = absurd h
fill_true (Some (Tx s)) h = absurd h

true_fill : (source : Option Ring) → is_fill_ring source ≡ true → IsFill source
true_fill None h = absurd (cc)
true_fill (Some (Fill d)) h = tt
true_fill (Some (Comp d)) h = absurd (cc)
true_fill (Some (Rx s)) h = absurd (cc)
true_fill (Some (Tx s)) h = absurd (cc)

fill_once : (source : Option Ring) → IsFill source → once source ≡ 1
fill_once None h = absurd h
fill_once (Some r) h = refl

not_past : (sources : List (Option Ring)) (n : ℕ) → IsFill (get_or sources n None) → n < length sources
not_past sources n h = ⊎_elim
    (λ (within : n < length sources). within)
    (λ (past : length sources ≤ n). absurd (subst IsFill (get_or_past sources n None past) h))
    (cases_lt n (length sources))

-- ---- the items' sources

found_frame : (sources : List (Option Ring)) (frame : Option Frame) (n : ℕ) → IsFill (frame_source sources frame) → 1 ≤ times n (number_of frame) → IsFill (get_or sources n None)
found_frame sources None n h some = absurd h
found_frame sources (Some f) n h some = ⊎_elim
    (λ (e : f.number ≡ n). subst (λ k. IsFill (get_or sources k None)) e h)
    (λ (e : f.number ≡ n → ⊥). absurd (omega (arith, some, none_here f.number n e)))
    (cases_eq f.number n)
  where
    none_here : (m k : ℕ) → (m ≡ k → ⊥) → times k (m ∷ []) ≡ 0
    none_here m k e = ap {B = ℕ} (λ b. cond b 1 0 + 0) (ne_eqb m k e)

abbrev pub IsFilled : List (Option Ring) → Item → Type 0
IsFilled sources item = IsFill (item_source sources item)

found : (sources : List (Option Ring)) (items : List Item) (n : ℕ) → All (IsFilled sources) items → 1 ≤ times n (numbers items) → IsFill (get_or sources n None)
found sources [] n h some = absurd (omega (arith, some))
found sources (item ∷ items) n h some = ⊎_elim
    (λ (here : 0 < times n (number_of item.frame)). found_frame sources item.frame n (All-head (IsFilled sources) item items h) here)
    (λ (none : times n (number_of item.frame) ≤ 0).
    found sources items n (All-tail (IsFilled sources) item items h) (omega (arith, some, none, times-append n (number_of item.frame) (numbers items))))
    (cases_lt 0 (times n (number_of item.frame)))

filled_frame : (sources : List (Option Ring)) (frame : Option Frame) (f : Frame) → frame ≡ Some f → IsFill (get_or sources f.number None) → IsFill (frame_source sources frame)
filled_frame sources frame f e h = subst (λ o. IsFill (frame_source sources o)) (sym e) h

its_number : (frame : Option Frame) (f : Frame) → frame ≡ Some f → 1 ≤ times f.number (number_of frame)
its_number frame f e = omega (arith, ap (λ o. times f.number (number_of o)) e, its_own f.number f.number refl)

filled : (g : Geometry) (sources : List (Option Ring)) (items : List Item) → All (NamesItsData g) items
    → ((n : ℕ) → n < g.frames → 1 ≤ times n (numbers items) → IsFill (get_or sources n None)) → All (IsFilled sources) items
filled g sources [] named h = All-nil (IsFilled sources)
filled g sources (item ∷ items) named h =
    let name : NamesItsData g item = All-head (NamesItsData g) item items named in
    All-cons (IsFilled sources) item items
    (filled_frame sources item.frame name.0 name.1
    (h name.0.number name.2 (omega (arith, its_number item.frame name.0 name.1, times-append name.0.number (number_of item.frame) (numbers items)))))
    (filled g sources items (All-tail (NamesItsData g) item items named) (λ n below some. h n below (omega (arith, some, times-append n (number_of item.frame) (numbers items)))))

pub all_named : (g : Geometry) (sg : Bool) (items : List Item) → ArePieces g sg items → All (NamesItsData g) items
all_named g sg [] h = All-nil (NamesItsData g)
all_named g sg (item ∷ []) h = All-cons (NamesItsData g) item [] h.0 (All-nil (NamesItsData g))
all_named g sg (item ∷ next ∷ items) h = All-cons (NamesItsData g) item (next ∷ items) h.0.0 (all_named g sg (next ∷ items) h.1)

-- ---- what a standing keeps

module _ (c : Config) (kept : Noted) (mine : List Told) (h : StandsFor c kept mine) where
  pub has_is : (n : ℕ) → n < c.geometry.frames → has kept.sources n ≡ times n (had_of mine)
  has_is n below = ap once (h.keeps.sources n below) ∙ sym (own_source c kept.who n mine h.own).had

  has_none : (n : ℕ) → c.geometry.frames ≤ n → has kept.sources n ≡ 0
  has_none n past = ap once (get_or_past kept.sources n None (omega (arith, past, h.keeps.frames)))

  pub has_to_had : (items : List Item) → ((n : ℕ) → times n (numbers items) ≤ has kept.sources n) → (n : ℕ) → times n (numbers items) ≤ times n (had_of mine)
  has_to_had items few n = ⊎_elim
      (λ (below : n < c.geometry.frames). omega (arith, few n, has_is n below))
      (λ (past : c.geometry.frames ≤ n). omega (arith, few n, has_none n past))
      (cases_lt n c.geometry.frames)

  pub had_to_has : (r : Ring) (items : List Item) → All (IsItemOn c.geometry r) items → ((n : ℕ) → times n (numbers items) ≤ times n (had_of mine))
      → (n : ℕ) → times n (numbers items) ≤ has kept.sources n
  had_to_has r items lawful few n = ⊎_elim
      (λ (below : n < c.geometry.frames). omega (arith, few n, has_is n below))
      (λ (past : c.geometry.frames ≤ n). omega (arith, none_past c.geometry r items n lawful past))
      (cases_lt n c.geometry.frames)

  pub filled_from : (items : List Item) → All (IsFilled kept.sources) items → (n : ℕ) → 1 ≤ times n (numbers items) → IsTrue (is_from_fill n mine)
  filled_from items all n some =
      let fill : IsFill (get_or kept.sources n None) = found kept.sources items n all some in
      let below : n < c.geometry.frames = omega (arith, not_past kept.sources n fill, h.keeps.frames) in
      let is : IsFill (source_of n mine) = subst IsFill (h.keeps.sources n below) fill in
      let known = own_source c kept.who n mine h.own in
      known.fill (omega (arith, known.had, fill_once (source_of n mine) is)) ∙ fill_true (source_of n mine) is

  pub from_filled : (items : List Item) → All (NamesItsData c.geometry) items → ((n : ℕ) → times n (numbers items) ≤ times n (had_of mine))
      → ((n : ℕ) → 1 ≤ times n (numbers items) → IsTrue (is_from_fill n mine)) → All (IsFilled kept.sources) items
  from_filled items named few from =
      filled c.geometry kept.sources items named (λ n below some.
      let known = own_source c kept.who n mine h.own in
      subst IsFill (sym (h.keeps.sources n below)) (true_fill (source_of n mine) (sym (known.fill (omega (arith, some, few n))) ∙ from n some)))
