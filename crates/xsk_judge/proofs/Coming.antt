-- Entries that come: each in a frame of its own, from where it was given.
use Rattle.std.proofs.Common.{◌≡◌, ℕ, zero, suc, ◌+◌, ◌-◌, ◌<◌, ◌≤◌, Bool, true, false, ◌&&◌, ◌||◌, not, cond, eqb, Option, Some, None, List, [], ◌∷◌, ◌++◌, length, take, drop, get_or, refl, sym, ap, ◌∙◌, subst, arith, ⊎_elim, length-append, length-drop}
use Rattle.std.specs.Prelude.{IsTrue, slice_get}
use Rattle.std.proofs.lemmas.Bool.{cases_eq}
use Rattle.std.proofs.lemmas.Bool.Decides.{nat_tests}
use Rattle.std.proofs.lemmas.List.{take_more, length-take-le, get_or_at, get_or-drop}
use Rattle.std.proofs.lemmas.List.Elements.{All-append, All-cons, All-nil, All-take}
use Rattle.xsk_umem.specs.declared.batch.XdpDesc.{XdpDesc}
use Rattle.xsk_model.specs.declared.call.Ring.{Ring}
use Rattle.xsk_model.specs.declared.call.Ring.TheVariants.{Fill, Comp, Rx, Tx}
use Rattle.xsk_model.specs.Descriptor.{is_inside, has_bytes, fits_chunk, has_known_options}
use Rattle.xsk_side.specs.Setting.{Setting}
use Rattle.xsk_side.specs.Entries.{frame, names, times, strays_in, is_received, is_laid}
use Rattle.xsk_side.specs.Object.{is_made}
use Rattle.xsk_side.proofs.Lists.{number, times-append, times-split, strays-append, strays-split}
use Rattle.xsk_side.proofs.Given.{some_or_none}
use Rattle.xsk_judge.specs.declared.known.Known.{Known}
use Rattle.xsk_judge.specs.Kept.{Queue, given_by, known_in, numbered}
use Rattle.xsk_judge.specs.Judging.{AreNew, AreLatest, is_latest, IsNew, given_in, marked, peeked, set_known}
use Rattle.xsk_judge.proofs.Marking.{marked-none, marked-push, known-here, length-set_known, number_cases, its_frame, inside_below, nothing}

-- ---- what is kept of a frame behind entries that are shown

pub named_below : (s : Setting) (f : ℕ) (es : List XdpDesc) → 1 ≤ times s f es → f < s.geometry.frames
named_below s f [] some = absurd (omega (arith, some))
named_below s f (e ∷ es) some = ⊎_elim
    (λ (none : ◌≡◌ {A = ℕ} (number (names s f e)) 0). named_below s f es (omega (arith, some, none)))
    (λ (one : ◌≡◌ {A = ℕ} (number (names s f e)) 1). let is = its_frame s e f one in subst (λ x. x < s.geometry.frames) is.1 (inside_below s e is.0))
    (number_cases (names s f e))

pub marked-one : (s : Setting) (known : ℕ → Known) (i : ℕ) (es : List XdpDesc) (frames : List Known) (f : ℕ) → f < length frames → 1 ≤ times s f es
    → (j : ℕ) × (known_in (marked s known i es frames) f ≡ known j) × (i ≤ j) × (j < i + length es)
marked-one s known i [] frames f low some = absurd (omega (arith, some))
marked-one s known i (e ∷ es) frames f low some = ⊎_elim
    (λ (later : 1 ≤ times s f es).
    let found = marked-one s known (i + 1) es (set_known s frames e (known i)) f (omega (arith, low, length-set_known s frames e (known i))) later in
    (found.0, found.1, omega (arith, found.2), omega (arith, found.3)))
    (λ (none : times s f es ≡ 0). ⊎_elim
    (λ (off : ◌≡◌ {A = ℕ} (number (names s f e)) 0). absurd (omega (arith, some, none, off)))
    (λ (one : ◌≡◌ {A = ℕ} (number (names s f e)) 1).
    (i, marked-none s known (i + 1) es (set_known s frames e (known i)) f none ∙ known-here s frames e (known i) f low one, omega arith, omega arith))
    (number_cases (names s f e)))
    (some_or_none (times s f es))

-- the one entry that names the frame
pub marked-exact : (s : Setting) (known : ℕ → Known) (i : ℕ) (es : List XdpDesc) (frames : List Known) (k : ℕ) (d : XdpDesc) → length frames ≡ s.geometry.frames → k < length es
    → is_inside s.geometry (get_or es k d) ≡ true → times s (frame s (get_or es k d)) es ≤ 1 → known_in (marked s known i es frames) (frame s (get_or es k d)) ≡ known (i + k)
marked-exact s known i [] frames k d size low inside once = absurd (omega (arith, low))
marked-exact s known i (e ∷ es) frames zero d size low inside once =
    let one : ◌≡◌ {A = ℕ} (number (names s (frame s e) e)) 1 = its_own (is_inside s.geometry e) (frame s e) inside in
    marked-none s known (i + 1) es (set_known s frames e (known i)) (frame s e) (omega (arith, once, one))
    ∙ known-here s frames e (known i) (frame s e) (omega (arith, size, inside_below s e inside)) one
    ∙ ap known (same i)
  where
    its_own : (a : Bool) (x : ℕ) → a ≡ true → ◌≡◌ {A = ℕ} (number (a && eqb x x)) 1
    its_own a x h = grind (arith, nat_tests, h)

    same : (i : ℕ) → i ≡ i + 0
    same i = omega arith
marked-exact s known i (e ∷ es) frames (suc k) d size low inside once =
    marked-exact s known (i + 1) es (set_known s frames e (known i)) k d (length-set_known s frames e (known i) ∙ size) (omega (arith, low)) inside (omega (arith, once))
    ∙ ap known (next i k)
  where
    next : (i k : ℕ) → i + 1 + k ≡ i + suc k
    next i k = omega arith

-- what is given still wasn't shown
pub still_given : (s : Setting) (r : Ring) (first line i : ℕ) (es : List XdpDesc) (frames : List Known) (f : ℕ) (q : Ring) → length frames ≡ s.geometry.frames
    → given_in (marked s (peeked r first line) i es frames) f ≡ Some q → (times s f es ≡ 0) × (given_in frames f ≡ Some q)
still_given s r first line i es frames f q size is = ⊎_elim
    (λ (some : 1 ≤ times s f es).
    let shown = marked-one s (peeked r first line) i es frames f (omega (arith, size, named_below s f es some)) some in
    absurd (differ q (sym (ap (λ (k : Known). given_by k.place) shown.1) ∙ is)))
    (λ (none : times s f es ≡ 0). (none, sym (ap (λ (k : Known). given_by k.place) (marked-none s (peeked r first line) i es frames f none)) ∙ is))
    (some_or_none (times s f es))
  where
    differ : (q : Ring) → ◌≡◌ {A = Option Ring} None (Some q) → ⊥
    differ q h = cc

-- ---- one entry that comes

pub received_inside : (s : Setting) (e : XdpDesc) → IsTrue (is_received s e) → IsTrue (is_inside s.geometry e)
received_inside s e h =
    is_in (is_inside s.geometry e) (has_bytes e) (fits_chunk s.geometry e) (has_known_options s.rules.sg e) (not s.rules.at_data || is_laid s e) h
  where
    is_in : (inside bytes fits options more : Bool) → IsTrue (inside && bytes && fits && options && more) → IsTrue inside
    is_in inside bytes fits options more h = grind (arith, h)

new_as : (s : Setting) (from from' : ℕ → Option Ring) (r : Ring) (e : XdpDesc)
    → (IsTrue (is_inside s.geometry e) → (q : Ring) → from (frame s e) ≡ Some q → from' (frame s e) ≡ Some q) → IsNew s from r e → IsNew s from' r e
new_as s from from' (Fill d) e same h = tt
new_as s from from' (Comp d) e same h = record {
  len = h.len;
  options = h.options;
  sent = λ inside. let sent = h.sent inside in (sent.0, same inside (Tx sent.0) sent.1, sent.2);
}
new_as s from from' (Rx k) e same h = record {
  lawful = h.lawful;
  pair = h.pair;
  filled = same (received_inside s e h.lawful) (Fill h.pair) h.filled;
  feeds = h.feeds;
}
new_as s from from' (Tx k) e same h = tt

new_source : (s : Setting) (from : ℕ → Option Ring) (r : Ring) (e : XdpDesc) → is_made r ≡ false → IsNew s from r e → IsTrue (is_inside s.geometry e)
    → (q : Ring) × (from (frame s e) ≡ Some q)
new_source s from (Fill d) e made h inside = absurd (cc)
new_source s from (Comp d) e made h inside = let sent = h.sent inside in (Tx sent.0, sent.1)
new_source s from (Rx k) e made h inside = (Fill h.pair, h.filled)
new_source s from (Tx k) e made h inside = absurd (cc)

new_more : (s : Setting) (r : Ring) (first line at : ℕ) (before : List Known) (es : List XdpDesc) (e : XdpDesc) → is_made r ≡ false → length before ≡ s.geometry.frames
    → AreNew s before r es → IsNew s (given_in (marked s (peeked r first line) at es before)) r e → AreNew s before r (es ++ e ∷ [])
new_more s r first line at before es e made size h new = (
  λ f. ⊎_elim
      (λ (none : ◌≡◌ {A = ℕ} (number (names s f e)) 0). omega (arith, times-append s f es (e ∷ []), none, h.0 f))
      (λ (one : ◌≡◌ {A = ℕ} (number (names s f e)) 1).
      let is = its_frame s e f one in
      let source = new_source s (given_in (marked s (peeked r first line) at es before)) r e made new is.0 in
      let none = still_given s r first line at es before (frame s e) source.0 size source.1 in
      omega (arith, times-append s f es (e ∷ []), one, none.0, ap (λ x. times s x es) is.1))
      (number_cases (names s f e)),
  All-append (IsNew s (given_in before) r) es (e ∷ []) h.1
      (All-cons (IsNew s (given_in before) r) e []
      (new_as s (given_in (marked s (peeked r first line) at es before)) (given_in before) r e
      (λ inside q from. (still_given s r first line at es before (frame s e) q size from).1) new)
      (All-nil (IsNew s (given_in before) r))),
)

new_not : (s : Setting) (r : Ring) (first line at : ℕ) (before : List Known) (es : List XdpDesc) (e : XdpDesc) → (IsNew s (given_in (marked s (peeked r first line) at es before)) r e → ⊥)
    → AreNew s before r (es ++ e ∷ []) → ⊥
new_not s r first line at before es e not all =
    let last : IsNew s (given_in before) r (get_or (es ++ e ∷ []) (length es) e) = all.1 (length es) e (omega (arith, length-append es (e ∷ []))) in
    let here : IsNew s (given_in before) r e = subst (IsNew s (given_in before) r) (get_or_at es e [] e (length es) refl) last in
    not (new_as s (given_in before) (given_in (marked s (peeked r first line) at es before)) r e
    (λ inside q from.
    let none : times s (frame s e) es ≡ 0 = omega (arith, all.0 (frame s e), times-append s (frame s e) es (e ∷ []), its_own (is_inside s.geometry e) (frame s e) inside) in
    ap (λ (k : Known). given_by k.place) (marked-none s (peeked r first line) at es before (frame s e) none) ∙ from)
    here)
  where
    its_own : (a : Bool) (x : ℕ) → a ≡ true → ◌≡◌ {A = ℕ} (number (a && eqb x x)) 1
    its_own a x h = grind (arith, nat_tests, h)

new_fewer : (s : Setting) (frames : List Known) (r : Ring) (n : ℕ) (es : List XdpDesc) → AreNew s frames r es → AreNew s frames r (take n es)
new_fewer s frames r n es h = (λ f. omega (arith, h.0 f, times-split s f n es), All-take (IsNew s (given_in frames) r) n es h.1)

-- ---- the loops

pub push_step : (s : Setting) (known : ℕ → Known) (at : ℕ) (before now next : List Known) (es : List XdpDesc) (i : ℕ) → i < length es
    → now ≡ marked s known at (take i es) before → next ≡ set_known s now (get_or es i nothing) (known (at + i))
    → next ≡ marked s known at (take (i + 1) es) before
push_step s known at before now next es i low is set =
    let e = get_or es i nothing in
    set
    ∙ ap (λ x. set_known s x e (known (at + i))) is
    ∙ ap (λ k. set_known s (marked s known at (take i es) before) e (known (at + k))) (sym (length-take-le i es (omega (arith, low))))
    ∙ sym (marked-push s known at (take i es) e before)
    ∙ ap (λ xs. marked s known at xs before) (sym (take_more es i nothing low))

pub come_step : (s : Setting) (r : Ring) (first line at : ℕ) (before now next : List Known) (es : List XdpDesc) (i : ℕ) → is_made r ≡ false → i < length es
    → length before ≡ s.geometry.frames → now ≡ marked s (peeked r first line) at (take i es) before → AreNew s before r (take i es)
    → next ≡ set_known s now (get_or es i nothing) (peeked r first line (at + i)) → IsNew s (given_in now) r (get_or es i nothing)
    → (next ≡ marked s (peeked r first line) at (take (i + 1) es) before) × AreNew s before r (take (i + 1) es)
come_step s r first line at before now next es i made low size is new set here = (
  push_step s (peeked r first line) at before now next es i low is set,
  subst (AreNew s before r) (sym (take_more es i nothing low))
      (new_more s r first line at before (take i es) (get_or es i nothing) made size new (subst (λ x. IsNew s (given_in x) r (get_or es i nothing)) is here)),
)

pub come_stop : (s : Setting) (r : Ring) (first line at : ℕ) (before now : List Known) (es : List XdpDesc) (i : ℕ) → i < length es
    → now ≡ marked s (peeked r first line) at (take i es) before → (IsNew s (given_in now) r (get_or es i nothing) → ⊥) → AreNew s before r es → ⊥
come_stop s r first line at before now es i low is not all =
    new_not s r first line at before (take i es) (get_or es i nothing)
    (subst (λ x. IsNew s (given_in x) r (get_or es i nothing) → ⊥) is not)
    (subst (AreNew s before r) (take_more es i nothing low) (new_fewer s before r (i + 1) es all))

pub still_sent : (s : Setting) (r : Ring) (first line at : ℕ) (before now : List Known) (es : List XdpDesc) (f : ℕ) (q : Ring) → length before ≡ s.geometry.frames
    → now ≡ marked s (peeked r first line) at es before → given_in now f ≡ Some q → given_in before f ≡ Some q
still_sent s r first line at before now es f q size is h =
    (still_given s r first line at es before f q size (subst (λ x. given_in x f ≡ Some q) is h)).1

pub strays_more : (s : Setting) (es : List XdpDesc) (i : ℕ) → i < length es
    → strays_in s (take (i + 1) es) ≡ strays_in s (take i es) + cond (is_inside s.geometry (get_or es i nothing)) 0 1
strays_more s es i low = omega (arith, ap (strays_in s) (take_more es i nothing low), strays-append s (take i es) (get_or es i nothing ∷ []))

pub strays_fewer : (s : Setting) (n : ℕ) (es : List XdpDesc) → strays_in s (take n es) ≤ strays_in s es
strays_fewer s n es = omega (arith, strays-split s n es)

pub strays_step : (s : Setting) (es : List XdpDesc) (i strays stray : ℕ) → i < length es → stray ≡ cond (is_inside s.geometry (get_or es i nothing)) 0 1
    → strays ≡ strays_in s (take i es) → strays ≤ i → (strays + stray ≡ strays_in s (take (i + 1) es)) × (strays + stray ≤ i + 1)
strays_step s es i strays stray low one is few =
    (omega (arith, strays_more s es i low, one, is), omega (arith, few, one_at_most (is_inside s.geometry (get_or es i nothing)), one))
  where
    one_at_most : (b : Bool) → ◌≤◌ (cond b 0 1) 1
    one_at_most true = omega arith
    one_at_most false = omega arith

pub left_step : (s : Setting) (es : List XdpDesc) (i left stray strays : ℕ) → i < length es → stray ≡ cond (is_inside s.geometry (get_or es i nothing)) 0 1
    → left + strays_in s (take i es) ≡ strays → stray ≤ left → left - stray + strays_in s (take (i + 1) es) ≡ strays
left_step s es i left stray strays low one is few = omega (arith, strays_more s es i low, one, is, few)

pub left_stop : (s : Setting) (es : List XdpDesc) (i left stray strays : ℕ) → i < length es → stray ≡ cond (is_inside s.geometry (get_or es i nothing)) 0 1
    → left + strays_in s (take i es) ≡ strays → left < stray → strays_in s es ≤ strays → ⊥
left_stop s es i left stray strays low one is less few = absurd (omega (arith, strays_more s es i low, strays_fewer s (i + 1) es, one, is, less, few))

pub got_below : (es : List XdpDesc) (i : ℕ) (e : XdpDesc) → slice_get es i ≡ Some e → i < length es
got_below [] i e h = absurd (cc)
got_below (x ∷ es) zero e h = omega arith
got_below (x ∷ es) (suc i) e h = omega (arith, got_below es i e h)

pub got_is : (es : List XdpDesc) (i : ℕ) (e d : XdpDesc) → slice_get es i ≡ Some e → get_or es i d ≡ e
got_is [] i e d h = absurd (cc)
got_is (x ∷ es) zero e d h = cc
got_is (x ∷ es) (suc i) e d h = got_is es i e d h

-- the loop of a Cancel, from a place in the queue on
pub back_step : (s : Setting) (known : ℕ → Known) (before now next : List Known) (es : List XdpDesc) (start i : ℕ) (e : XdpDesc)
    → slice_get es (start + i) ≡ Some e → now ≡ marked s known 0 (take i (drop start es)) before → ((j k : ℕ) → known j ≡ known k)
    → next ≡ set_known s now e (known 0) → next ≡ marked s known 0 (take (i + 1) (drop start es)) before
back_step s known before now next es start i e at is same set =
    let low = got_below es (start + i) e at in
    let rest = drop start es in
    let low_i : i < length rest = omega (arith, low, length-drop start es) in
    push_step s known 0 before now next rest i low_i is
    (set ∙ ap (λ k. set_known s now e k) (same 0 (0 + i))
    ∙ ap (λ x. set_known s now x (known (0 + i))) (sym (get_or-drop start es i nothing ∙ got_is es (start + i) e nothing at)))

-- the loop of a Cancel, which looks at each
pub latest_step : (s : Setting) (frames : List Known) (r : Ring) (first start k : ℕ) (es : List XdpDesc) (e : XdpDesc) → slice_get es (start + k) ≡ Some e
    → is_latest s frames r (numbered first (start + k)) e ≡ true
    → ((i : ℕ) (d : XdpDesc) → start ≤ i → i < start + k → IsTrue (is_latest s frames r (numbered first i) (get_or es i d)))
    → (i : ℕ) (d : XdpDesc) → start ≤ i → i < start + (k + 1) → IsTrue (is_latest s frames r (numbered first i) (get_or es i d))
latest_step s frames r first start k es e at here before i d low high = ⊎_elim
    (λ (is : i ≡ start + k). subst (λ j. IsTrue (is_latest s frames r (numbered first j) (get_or es j d))) (sym is)
    (ap (is_latest s frames r (numbered first (start + k))) (got_is es (start + k) e d at) ∙ here))
    (λ (other : i ≡ start + k → ⊥). before i d low (omega (arith, high, other)))
    (cases_eq i (start + k))

pub latest_stop : (s : Setting) (frames : List Known) (r : Ring) (queue : Queue) (n k : ℕ) (e : XdpDesc) → slice_get queue.entries (queue.held - n + k) ≡ Some e → k < n → n ≤ queue.held
    → is_latest s frames r (numbered queue.first (queue.held - n + k)) e ≡ false → AreLatest s frames r queue n → ⊥
latest_stop s frames r queue n k e at low few here all =
    let i = queue.held - n + k in
    both (is_latest s frames r (numbered queue.first i) e)
    (ap (is_latest s frames r (numbered queue.first i)) (sym (got_is queue.entries i e e at)) ∙ all i e (omega (arith, few)) (omega (arith, low, few))) here
  where
    both : (b : Bool) → b ≡ true → b ≡ false → ⊥
    both true h k = cc
    both false h k = cc
