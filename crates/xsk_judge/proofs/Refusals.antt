-- The first entry of a call that doesn't do, and what is told of it.
use Rattle.std.proofs.Common.{◌≡◌, ℕ, ◌+◌, ◌-◌, ◌<◌, ◌≤◌, Bool, true, false, cond, Option, Some, List, [], ◌∷◌, length, take, drop, get_or, refl, sym, ap, ◌∙◌, subst, arith, min, inr, length-drop}
use Rattle.std.specs.Prelude.{nat_lt, IsTrue, slice_get}
use Rattle.std.proofs.lemmas.Bool.Decides.{nat_tests}
use Rattle.std.proofs.lemmas.List.{take_more, get_or-drop, length-take-le}
use Rattle.xsk_umem.specs.declared.batch.XdpDesc.{XdpDesc}
use Rattle.xsk_model.specs.declared.call.Ring.{Ring}
use Rattle.xsk_model.specs.declared.call.Ring.TheVariants.{Comp}
use Rattle.xsk_model.specs.Descriptor.{is_inside}
use Rattle.xsk_side.specs.Setting.{Setting, HasRing, pair_of}
use Rattle.xsk_side.specs.Entries.{frame, names, times, stands, strays_in}
use Rattle.xsk_side.specs.Object.{is_made}
use Rattle.xsk_side.specs.Legal.{IsCompleted}
use Rattle.xsk_side.specs.declared.call.Call.TheVariants.{Peek, Cancel}
use Rattle.xsk_side.proofs.Lists.{number, times-append, times-split}
use Rattle.xsk_judge.specs.declared.known.Known.{Known}
use Rattle.xsk_judge.specs.declared.why.Why.TheVariants.{Rule as Broken, Kernel as Denied}
use Rattle.xsk_judge.specs.declared.why.Rule.{Rule}
use Rattle.xsk_judge.specs.declared.why.Rule.TheVariants as a_rule
use Rattle.xsk_judge.specs.declared.why.Rule.TheVariants.{Twice, Frame, PassedOn}
use Rattle.xsk_judge.specs.declared.why.Denial.{Denial}
use Rattle.xsk_judge.specs.declared.why.Denial.TheVariants.{NeverSent}
use Rattle.xsk_judge.specs.Kept.{Queue, Kept, is_mine, known_in, numbered, queue_at, standing, strays_at}
use Rattle.xsk_judge.specs.Judging.{Agrees, AreLatest, AreMine, CanCome, IsMineAt, given, given_in, is_latest, marked, peeked}
use Rattle.xsk_judge.specs.Reasons.{AllCome, ComesNot, GivesNot}
use Rattle.xsk_judge.specs.Refusing.{IsIn, IsReason, PassesOn, PutsNotBack, Stops, mine_in}
use Rattle.xsk_judge.proofs.Agreeing.{got_some}
use Rattle.xsk_judge.proofs.Coming.{got_is}
use Rattle.xsk_judge.proofs.Marking.{marked-none, nothing}
use Rattle.xsk_judge.proofs.Showing.{answer_comes, drop_again}

-- ---- a frame among entries

among_more : (s : Setting) (f : ℕ) (es : List XdpDesc) (i : ℕ) → i < length es → times s f (take (i + 1) es) ≡ times s f (take i es) + number (names s f (get_or es i nothing))
among_more s f es i low = omega (arith, ap (times s f) (take_more es i nothing low), times-append s f (take i es) (get_or es i nothing ∷ []))

pub among_step : (s : Setting) (f : ℕ) (es : List XdpDesc) (i : ℕ) → i < length es → times s f (take i es) ≡ 0 → names s f (get_or es i nothing) ≡ false
    → times s f (take (i + 1) es) ≡ 0
among_step s f es i low none off = omega (arith, among_more s f es i low, none, ap number off)

pub among_found : (s : Setting) (f : ℕ) (es : List XdpDesc) (i : ℕ) → i < length es → names s f (get_or es i nothing) ≡ true → true ≡ stands s f es
among_found s f es i low on = a_test (times s f es) (omega (arith, among_more s f es i low, ap number on, times-split s f (i + 1) es))
  where
    a_test : (t : ℕ) → 1 ≤ t → true ≡ nat_lt 0 t
    a_test t h = grind (arith, nat_tests, h)

none_among : (s : Setting) (f : ℕ) (es : List XdpDesc) → stands s f es ≡ false → times s f es ≡ 0
none_among s f es h = no_test (times s f es) h
  where
    no_test : (t : ℕ) → nat_lt 0 t ≡ false → t ≡ 0
    no_test t h = grind (arith, nat_tests, h)

-- ---- a Submit

pub gives_twice : (s : Setting) (frames : List Known) (es : List XdpDesc) (i f : ℕ) → i < length es → AreMine s frames (take i es) → IsTrue (is_inside s.geometry (get_or es i nothing))
    → f ≡ frame s (get_or es i nothing) → stands s f (take i es) ≡ true → GivesNot s (mine_in frames) (IsIn frames) es (Twice i)
gives_twice s frames es i f low mine inside is st =
    (record { low = low; before = mine; names = inside }, subst (λ x. IsTrue (stands s x (take i es))) is st)

pub gives_frame : (s : Setting) (r : Ring) (line : ℕ) (before now : List Known) (es : List XdpDesc) (i f : ℕ) (there : Known) → i < length es
    → now ≡ marked s (given r line) 0 (take i es) before → AreMine s before (take i es) → IsTrue (is_inside s.geometry (get_or es i nothing))
    → f ≡ frame s (get_or es i nothing) → IsIn now f there → (IsMineAt s now (get_or es i nothing) → ⊥) → stands s f (take i es) ≡ false
    → GivesNot s (mine_in before) (IsIn before) es (Frame i there)
gives_frame s r line before now es i f there low is mine inside named known not st =
    let same : known_in now f ≡ known_in before f =
    ap (λ xs. known_in xs f) is ∙ marked-none s (given r line) 0 (take i es) before f (none_among s f (take i es) st) in (
      record { low = low; before = mine; names = inside },
      subst (λ x. mine_in before x ≡ false) named
          (subst (λ (k : Known). is_mine k.place ≡ false) same
          (not_so (is_mine (known_in now f).place) (λ h. not (λ _. subst (λ x. is_mine (known_in now x).place ≡ true) named h)))),
      subst (λ x. IsIn before x there) named (known ∙ same),
    )
  where
    not_so : (b : Bool) → (b ≡ true → ⊥) → b ≡ false
    not_so true h = absurd (h refl)
    not_so false h = refl

-- ---- a Cancel

pub passes_on : (s : Setting) (frames : List Known) (r : Ring) (queue : Queue) (n k : ℕ) (e : XdpDesc) (there : Known) → slice_get queue.entries (queue.held - n + k) ≡ Some e → k < n → n ≤ queue.held
    → is_latest s frames r (numbered queue.first (queue.held - n + k)) e ≡ false
    → ((i : ℕ) (d : XdpDesc) → queue.held - n ≤ i → i < queue.held - n + k → IsTrue (is_latest s frames r (numbered queue.first i) (get_or queue.entries i d)))
    → there ≡ known_in frames (frame s e) → PassesOn s frames r queue n (PassedOn e there)
passes_on s frames r queue n k e there at low few here before is = (
  queue.held - n + k,
  omega (arith, few),
  omega (arith, few, low),
  λ j d high less. before j d (omega (arith, high)) less,
  sym (got_is queue.entries (queue.held - n + k) e nothing at),
  here,
  is,
)

pub cancels_not : (s : Setting) (line : ℕ) (kept : Kept) (r : Ring) (n : ℕ) (rule : Rule) (frames : List Known) (queue : Queue) → frames ≡ kept.frames → queue ≡ queue_at s kept r
    → HasRing s r → is_made r ≡ false → n ≤ queue.held → (AreLatest s frames r queue n → ⊥) × PassesOn s frames r queue n rule → IsReason s line kept (Cancel r n) (Broken rule)
cancels_not s line kept r n rule frames queue f q has unmade few h =
    let here = subst (λ xs. (AreLatest s xs r (queue_at s kept r) n → ⊥) × PassesOn s xs r (queue_at s kept r) n rule) f
    (subst (λ x. (AreLatest s frames r x n → ⊥) × PassesOn s frames r x n rule) q h) in
    (λ may. here.0 (may.1.latest unmade), inr (inr (has, unmade, by rule here.1)))
  where
    few_here : n ≤ (queue_at s kept r).held
    few_here = omega (arith, few, ap (λ (x : Queue). x.held) q)

    by : (rule : Rule) → PassesOn s kept.frames r (queue_at s kept r) n rule → PutsNotBack s kept.frames r (queue_at s kept r) n rule
    by a_rule.Ring p = absurd p
    by a_rule.Side p = absurd p
    by (a_rule.Places k) p = absurd p
    by (a_rule.Twice i) p = absurd p
    by (a_rule.Frame i known) p = absurd p
    by (a_rule.Release k) p = absurd p
    by (a_rule.Cancel k) p = absurd p
    by (a_rule.PassedOn entry known) p = (few_here, p)

-- ---- entries that stand again

pub stood_is : (queue : Queue) (i : ℕ) (e : XdpDesc) → slice_get queue.entries (queue.held + i) ≡ Some e → e ≡ get_or (standing queue) i nothing
stood_is queue i e at = sym (get_or-drop queue.held queue.entries i nothing ∙ got_is queue.entries (queue.held + i) e nothing at)

pub differ_at : (queue : Queue) (es : List XdpDesc) (i : ℕ) → queue.held + i < length queue.entries → (slice_get queue.entries (queue.held + i) ≡ Some (get_or es i nothing) → ⊥)
    → get_or es i nothing ≡ get_or (standing queue) i nothing → ⊥
differ_at queue es i low not same =
    not (got_some queue.entries (queue.held + i) nothing low ∙ ap Some (sym (get_or-drop queue.held queue.entries i nothing) ∙ sym same))

-- ---- entries that come

pub stops_at : (s : Setting) (r : Ring) (first line at skipped strays : ℕ) (before now : List Known) (es : List XdpDesc) (i : ℕ) (denial : Denial) → i < length es
    → now ≡ marked s (peeked r first line) at (take i es) before → AllCome s (given_in before) strays r (take i es)
    → ((left : ℕ) → ComesNot s r (IsIn now (frame s (get_or es i nothing))) left (skipped + i) (get_or es i nothing) denial)
    → Stops s before r first line at skipped strays es denial
stops_at s r first line at skipped strays before now es i denial low is all wrong = (
  i,
  low,
  all,
  subst (λ xs. ComesNot s r (IsIn xs (frame s (get_or es i nothing))) (strays - strays_in s (take i es)) (skipped + i) (get_or es i nothing) denial) is
      (wrong (strays - strays_in s (take i es))),
)

pub never_sent : (s : Setting) (d first line at skipped strays left stray : ℕ) (from : ℕ → Option Ring) (before : List Known) (es : List XdpDesc) (i : ℕ) → i < length es
    → AllCome s (given_in before) strays (Comp d) (take i es) → IsCompleted s from d (get_or es i nothing)
    → left + strays_in s (take i es) ≡ strays → stray ≡ cond (is_inside s.geometry (get_or es i nothing)) 0 1 → left < stray
    → Stops s before (Comp d) first line at skipped strays es (NeverSent (skipped + i))
never_sent s d first line at skipped strays left stray from before es i low all alone sum one less = (
  i,
  low,
  all,
  (refl, (alone.len, alone.options), outside (is_inside s.geometry (get_or es i nothing)) one, omega (arith, sum, less, few (is_inside s.geometry (get_or es i nothing)), one)),
)
  where
    outside : (b : Bool) → stray ≡ cond b 0 1 → b ≡ false
    outside true h = absurd (omega (arith, h, less))
    outside false h = refl

    few : (b : Bool) → ◌≤◌ (cond b 0 1) 1
    few true = omega arith
    few false = omega arith

pub peek_denied : (s : Setting) (line : ℕ) (kept : Kept) (r : Ring) (n again first at skipped : ℕ) (es known new : List XdpDesc) (denial : Denial) → HasRing s r → is_made r ≡ false
    → again ≡ min (length (standing (queue_at s kept r))) (length es) → Agrees (queue_at s kept r) n es → first ≡ (queue_at s kept r).first
    → known ≡ take again es → new ≡ drop again es → skipped ≡ length known
    → (CanCome s kept r new → ⊥) × Stops s kept.frames r first line at skipped (strays_at kept (pair_of s r)) new denial → IsReason s line kept (Peek r n es) (Denied denial)
peek_denied s line kept r n again first at skipped es known new denial has unmade is agrees f k w c h =
    let back = standing (queue_at s kept r) in
    let later : new ≡ drop (length back) es = w ∙ drop_again back es again is in
    let some : again < length es = omega (arith, h.1.1, ap length w, length-drop again es) in
    let all : skipped ≡ length back = omega (arith, c, ap length k, length-take-le again es (omega (arith, some)), is, some) in (
      (has, unmade),
      λ may. h.0 (subst (CanCome s kept r) (sym later) (answer_comes s kept r n es unmade may)),
      inr (
        agrees,
        at,
        subst (λ x. Stops s kept.frames r x line at (length back) (strays_at kept (pair_of s r)) (drop (length back) es) denial) f
            (subst (λ x. Stops s kept.frames r first line at x (strays_at kept (pair_of s r)) (drop (length back) es) denial) all
            (subst (λ xs. Stops s kept.frames r first line at skipped (strays_at kept (pair_of s r)) xs denial) later h.1)),
      ),
    )
