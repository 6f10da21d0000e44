-- What passes keep before their first call.
use Rattle.std.proofs.Common.{◌≡◌, ◌≢◌, ℕ, ◌+◌, ◌-◌, ◌*◌, ◌%◌, ◌^◌, ◌<◌, ◌≤◌, List, [], ◌∷◌, ◌++◌, length, get_or, set, take, replicate, refl, ap, sym, ◌∙◌, arith, subst, ⊎_elim, Option, Some, None, length-append}
use Rattle.std.specs.List.{sum}
use mathlib.Core.Option.{some}
use lib.ListN.{get_elem?}
use Rattle.std.proofs.lemmas.Bool.{cases_eq}
use Rattle.std.proofs.lemmas.List.{get_or_append_left, replicate_more, map-append}
use Rattle.std.proofs.lemmas.List.Sums.{sum_by_more}
use Rattle.std.proofs.Math.Seq.{get_or-append_seam}
use Rattle.atomic_table.proofs.Lists.{at_set}
use Rattle.xsk_umem.specs.Frame.{Frame}
use Rattle.xsk_model.specs.Config.{Config, IsConfig, HasRing, size_of, pool_of}
use Rattle.xsk_model.specs.Rings.{place, places_of}
use Rattle.xsk_model.specs.Rings as rings
use Rattle.xsk_model.specs.Object.{RingState}
use Rattle.xsk_model.specs.Opening.{IsOpened}
use Rattle.xsk_model.specs.declared.call.Ring.{Ring}
use Rattle.xsk_model.specs.declared.call.Ring.TheVariants.{Fill, Comp, Rx, Tx}
use Rattle.xsk_model.proofs.Places.{place_below}
use Rattle.xsk_model.proofs.FirstState.{opening_ring_is}
use Rattle.xsk_table.specs.Layout.{widths_of, ring_base, most_ring_words}
use Rattle.xsk_table.proofs.Rows.{length-widths_of, few_words}
use Rattle.xsk_table.specs.View.{Basis, idle}
use Rattle.xsk_table.specs.Rule.{wrapped, opened}
use Rattle.xsk_table.specs.Opening.{first_count, Begins, AreFirst, FirstEnds, AtRest}
use Rattle.xsk_table.specs.Held.{Holder, EndHolds, known_in, no_end}
use Rattle.xsk_table.specs.declared.end.End.{End}
use Rattle.xsk_table.proofs.WordRows.{ring_size}
use Rattle.xsk_table.proofs.NewTable.{opened_is_first}

-- ---- one ring

pub only_ring : (c : Config) (p : ℕ) (r : Ring) (d : ℕ) → HasRing c r → place c r ≡ p → p < length c.pairs → d ≡ p → r ≡ Fill d
only_ring c p (Fill e) d h at lt is = ap Fill (omega arith)
only_ring c p (Comp e) d h at lt is = absurd (omega arith)
only_ring c p (Rx e) d h at lt is = absurd (omega arith)
only_ring c p (Tx e) d h at lt is = absurd (omega arith)

pub only_comp : (c : Config) (p : ℕ) (r : Ring) (d : ℕ) → HasRing c r → place c r ≡ p → length c.pairs ≤ p → p < 2 * length c.pairs → d ≡ p - length c.pairs → r ≡ Comp d
only_comp c p (Fill e) d h at le lt is = absurd (omega arith)
only_comp c p (Comp e) d h at le lt is = ap Comp (omega arith)
only_comp c p (Rx e) d h at le lt is = absurd (omega arith)
only_comp c p (Tx e) d h at le lt is = absurd (omega arith)

pub only_rx : (c : Config) (p : ℕ) (r : Ring) (d : ℕ) → HasRing c r → place c r ≡ p → 2 * length c.pairs ≤ p → p < 2 * length c.pairs + length c.sockets → d ≡ p - 2 * length c.pairs → r ≡ Rx d
only_rx c p (Fill e) d h at le lt is = absurd (omega arith)
only_rx c p (Comp e) d h at le lt is = absurd (omega arith)
only_rx c p (Rx e) d h at le lt is = ap Rx (omega arith)
only_rx c p (Tx e) d h at le lt is = absurd (omega arith)

pub only_tx : (c : Config) (p : ℕ) (r : Ring) (d : ℕ) → HasRing c r → place c r ≡ p → 2 * length c.pairs + length c.sockets ≤ p → d ≡ p - 2 * length c.pairs - length c.sockets → r ≡ Tx d
only_tx c p (Fill e) d h at le is = absurd (omega arith)
only_tx c p (Comp e) d h at le is = absurd (omega arith)
only_tx c p (Rx e) d h at le is = absurd (let lt = h.0 in omega arith)
only_tx c p (Tx e) d h at le is = ap Tx (omega arith)

opened_count : (k : Basis) (r : Ring) → IsOpened k.config k.frames → HasRing k.config r → opened k r ≡ first_count k.config r
opened_count k r opened_is h = ap (λ (q : RingState). length q.out) (opening_ring_is k.config k.frames r h) ∙ opened_is_first k.config k.frames r opened_is h

begins_plain : (k : Basis) (who : ℕ) (r : Ring) → IsOpened k.config k.frames → HasRing k.config r → k.first < 2 ^ 32 → (who ≡ rings.producer k.config r → first_count k.config r ≡ 0) → Begins k who r k.first
begins_plain k who r opened_is h small none = (
  λ is. let count = opened_count k r opened_is h in let z = none is in omega (arith, small, count, z),
  λ is. omega (arith, small),
)

pub begins_else : (k : Basis) (who : ℕ) (r : Ring) → IsOpened k.config k.frames → HasRing k.config r → k.first < 2 ^ 32 → length k.config.pairs ≤ place k.config r → Begins k who r k.first
begins_else k who (Fill d) opened_is h small le = absurd (omega arith)
begins_else k who (Comp d) opened_is h small le = begins_plain k who (Comp d) opened_is h small (λ is. refl)
begins_else k who (Rx s) opened_is h small le = begins_plain k who (Rx s) opened_is h small (λ is. refl)
begins_else k who (Tx s) opened_is h small le = begins_plain k who (Tx s) opened_is h small (λ is. refl)

pub begins_driver : (k : Basis) (who : ℕ) (r : Ring) → IsOpened k.config k.frames → HasRing k.config r → k.first < 2 ^ 32 → place k.config r < length k.config.pairs → who < length k.config.pairs → Begins k who r k.first
begins_driver k who (Fill d) opened_is h small lt driver = begins_plain k who (Fill d) opened_is h small (λ is. absurd (omega arith))
begins_driver k who (Comp d) opened_is h small lt driver = absurd (omega arith)
begins_driver k who (Rx s) opened_is h small lt driver = absurd (omega arith)
begins_driver k who (Tx s) opened_is h small lt driver = absurd (omega arith)

pub begins_app : (k : Basis) (who : ℕ) (r : Ring) (n pool : ℕ) → IsOpened k.config k.frames → HasRing k.config r → place k.config r < length k.config.pairs → length k.config.pairs ≤ who → pool ≡ pool_of k.config → n ≡ (k.first + pool) % 2 ^ 32 → Begins k who r n
begins_app k who (Fill d) n pool opened_is h lt app pool_is is = (
  λ fills. is ∙ ap (λ m. (k.first + m) % 2 ^ 32) (pool_is ∙ sym (opened_count k (Fill d) opened_is h)),
  λ empties. absurd (omega arith),
)
begins_app k who (Comp d) n pool opened_is h lt app pool_is is = absurd (omega arith)
begins_app k who (Rx s) n pool opened_is h lt app pool_is is = absurd (omega arith)
begins_app k who (Tx s) n pool opened_is h lt app pool_is is = absurd (omega arith)

-- ---- all rings

wide_at : (k : Basis) (who : ℕ) (r : Ring) (count base mask : ℕ) → base ≡ ring_base k.config r → base ≤ most_ring_words → mask + 1 ≡ size_of k.config r → Begins k who r count
    → EndHolds k who [] r (record { near = count; far = count; base = base; mask = mask; known = 0 })
wide_at k who r count base mask at few size begins = record {
  base_is = at;
  base_few = few;
  mask_is = size;
  fills = λ is. (begins.0 is ∙ ap (wrapped k) (let z : opened k r ≡ opened k r + 0 = omega arith in z), begins.0 is ∙ ap (wrapped k) (let z : opened k r ≡ opened k r + 0 + 0 = omega arith in z));
  empties = λ is. (begins.1 is, begins.1 is);
}

pub first_none : (k : Basis) (who : ℕ) → AreFirst k who 0 []
first_none k who = record { wide = refl; each = λ r h lt. absurd (omega arith); known = refl }

-- no look was made
pub known_more : (ends : List End) (e : End) (p : ℕ) → e.known ≡ 0 → known_in ends ≡ replicate p 0 → known_in (ends ++ e ∷ []) ≡ replicate (p + 1) 0
known_more ends e p none are = map-append (λ (x : End). x.known) ends (e ∷ []) ∙ (λ i. are i ++ none i ∷ []) ∙ replicate_more p 0

pub first_more : (k : Basis) (who p base mask count : ℕ) (ends : List End) → base ≡ sum (take p (widths_of k.config)) → base ≤ most_ring_words
    → ((r : Ring) → HasRing k.config r → place k.config r ≡ p → mask + 1 ≡ size_of k.config r) → ((r : Ring) → HasRing k.config r → place k.config r ≡ p → Begins k who r count)
    → AreFirst k who p ends → AreFirst k who (p + 1) (ends ++ (record { near = count; far = count; base = base; mask = mask; known = 0 }) ∷ [])
first_more k who p base mask count ends at few masks begins ok =
    let e : End = record { near = count; far = count; base = base; mask = mask; known = 0 } in
    let wide = ok.wide in
    record {
      wide = omega (arith, length-append ends (e ∷ []));
      each = λ r h lt. ⊎_elim
          (λ (is : place k.config r ≡ p).
          let there : get_or (ends ++ e ∷ []) (place k.config r) no_end ≡ e = ap (λ n. get_or (ends ++ e ∷ []) n no_end) (is ∙ sym ok.wide) ∙ get_or-append_seam ends e [] no_end in
          subst (EndHolds k who [] r) (sym there) (wide_at k who r count base mask (at ∙ ap (λ n. sum (take n (widths_of k.config))) (sym is)) few (masks r h is) (begins r h is)))
          (λ (off : place k.config r ≢ p).
          let lower : place k.config r < p = omega arith in
          subst (EndHolds k who [] r) (sym (get_or_append_left ends (e ∷ []) no_end (place k.config r) (omega arith))) (ok.each r h lower))
          (cases_eq (place k.config r) p);
      known = known_more ends e p refl ok.known;
    }

pub width_more : (c : Config) (p base width : ℕ) → p < places_of c → base ≡ sum (take p (widths_of c)) → width ≡ get_or (widths_of c) p 0 → base + width ≡ sum (take (p + 1) (widths_of c))
width_more c p base width lt at is =
    let step = sum_by_more (λ (x : ℕ). x) (widths_of c) p 0 (omega (arith, length-widths_of c)) in
    let a : ℕ = sum (take p (widths_of c)) in
    let b : ℕ = get_or (widths_of c) p 0 in
    let d : ℕ = sum (take (p + 1) (widths_of c)) in
    let step' : d ≡ a + b = step in
    omega arith

pub first_all : (c : Config) (first who p : ℕ) (ends : List End) → p ≡ places_of c → ((frames : List Frame) → IsOpened c frames → AreFirst (record { config = c; first = first; frames = frames }) who p ends) → FirstEnds c first who ends
first_all c first who p ends all each frames opened_is =
    let k : Basis = record { config = c; first = first; frames = frames } in
    let ok = each frames opened_is in
    (record { wide = ok.wide ∙ all; each = λ r h. ok.each r h (subst (λ n. place c r < n) (sym all) (place_below c r h)) }, ok.known ∙ ap (λ n. replicate n 0) all)

pub base_small : (c : Config) (base p : ℕ) → IsConfig c → p < places_of c → base ≤ 4128 * p → base ≤ most_ring_words
base_small c base p config lt le = let few = (few_words c config).0 in omega arith

pub mask_is : (c : Config) (r s : Ring) (size : ℕ) → IsConfig c → HasRing c r → r ≡ s → size ≡ size_of c s → size - 1 + 1 ≡ size_of c r
mask_is c r s size config h is size_is =
    let n : ℕ = size_of c r in
    let same : size ≡ n = size_is ∙ ap (size_of c) (sym is) in
    let power = ring_size c r config h in
    let least : 2 ≤ n = power.least in
    omega arith

pub no_ring : (c : Config) (r s : Ring) → HasRing c r → r ≡ s → (HasRing c s → ⊥) → ⊥
no_ring c r s h is none = none (subst (HasRing c) is h)

-- ---- passes at rest

pub rests_set : (passes : List (Option Holder)) (i : ℕ) (p : Option Holder) → ((h : Holder) → p ≡ Some h → (h.who ≡ i) × (h.view.flight ≡ idle)) → AtRest passes → AtRest (set passes i p)
rests_set passes i p ok rests w h e = ⊎_elim
    (λ (t : (w ≡ i) × (p ≡ Some h)). let g = ok h t.1 in (g.0 ∙ sym t.0, g.1))
    (λ (t : (w ≢ i) × (get_elem? passes w ≡ some (Some h))). rests w h t.1)
    (at_set passes i w p (Some h) e)

pub rests_none : (passes : List (Option Holder)) (i : ℕ) → AtRest passes → AtRest (set passes i None)
rests_none passes i rests = rests_set passes i None (λ h e. absurd (cc)) rests

pub rests_some : (passes : List (Option Holder)) (i : ℕ) (p : Holder) → i ≡ p.who → p.view.flight ≡ idle → AtRest passes → AtRest (set passes i (Some p))
rests_some passes i p at flight rests = rests_set passes i (Some p) (λ h e. let is : p ≡ h = cc in (ap (λ (x : Holder). x.who) (sym is) ∙ sym at, ap (λ (x : Holder). x.view.flight) (sym is) ∙ flight)) rests
