-- The seats after a step of one of them, and a seat cut in two.
use Rattle.std.proofs.Common.{◌≡◌, ◌≢◌, ℕ, ◌+◌, ◌<◌, ◌≤◌, suc, zero, List, [], ◌∷◌, ◌++◌, take, drop, set, flat_map, refl, ap, sym, ◌∙◌, arith, subst, ⊎_elim, append_assoc, get_or-set_other}
use mathlib.Core.Option.{some, some-injective, some-ne-none}
use lib.ListN.{get_elem?}
use Rattle.std.proofs.lemmas.Bool.Decides.{nat_tests}
use Rattle.std.specs.Prelude.{Option}
use Rattle.atomic_table.specs.Table.{State, Splits}
use Rattle.atomic_table.proofs.Lists.{at_set, at_snoc}
use Rattle.xsk_umem.specs.Frame.{Frame}
use Rattle.xsk_model.specs.Numbers.{times}
use Rattle.xsk_model.specs.Entry.{Entry, own}
use Rattle.xsk_model.proofs.Counting.{times-append}
use Rattle.xsk_table.specs.View.{Basis, Flight, idle, View, first_caller, other_callers}
use Rattle.xsk_table.specs.Rule.{StartsWith, Knows, callers_in, Rule}

abbrev pub seated : List View → List ℕ
seated views = flat_map callers_in views

there : (w : ℕ) (views : List View) (i : ℕ) (v : View) → get_elem? views i ≡ some v → times w (callers_in v) ≤ times w (seated views)
there w [] i v e = absurd (some-ne-none v (sym e))
there w (x ∷ views) zero v e = omega (arith, times-append w (callers_in x) (seated views), ap (λ (u : View). times w (callers_in u)) (some-injective x v e))
there w (x ∷ views) (suc i) v e = omega (arith, times-append w (callers_in x) (seated views), there w views i v e)

-- a caller that stands once stands in one seat
pub alone : (w : ℕ) (views : List View) (i j : ℕ) (u v : View) → get_elem? views i ≡ some u → get_elem? views j ≡ some v → 0 < times w (callers_in u) → 0 < times w (callers_in v)
    → times w (seated views) ≤ 1 → i ≡ j
alone w [] i j u v a b p q few = absurd (some-ne-none u (sym a))
alone w (x ∷ views) zero zero u v a b p q few = refl
alone w (x ∷ views) zero (suc j) u v a b p q few =
    absurd (omega (arith, times-append w (callers_in x) (seated views), ap (λ (z : View). times w (callers_in z)) (some-injective x u a), there w views j v b))
alone w (x ∷ views) (suc i) zero u v a b p q few =
    absurd (omega (arith, times-append w (callers_in x) (seated views), ap (λ (z : View). times w (callers_in z)) (some-injective x v b), there w views i u a))
alone w (x ∷ views) (suc i) (suc j) u v a b p q few = ap suc (alone w views i j u v a b p q (omega (arith, times-append w (callers_in x) (seated views))))

-- the one caller of a seat
pub sole : (w who : ℕ) → 0 < times w (who ∷ []) → w ≡ who
sole w who h = grind (arith, nat_tests)

pub sole_counts : (who : ℕ) → 0 < times who (who ∷ [])
sole_counts who = grind (arith, nat_tests)

pub times_at : (views : List View) (id w : ℕ) (v x : View) → get_elem? views id ≡ some v
    → times w (seated (set views id x)) + times w (callers_in v) ≡ times w (seated views) + times w (callers_in x)
times_at [] id w v x e = absurd (some-ne-none v (sym e))
times_at (y ∷ views) zero w v x e =
    omega (arith, times-append w (callers_in y) (seated views), times-append w (callers_in x) (seated views), ap (λ (z : View). times w (callers_in z)) (some-injective y v e))
times_at (y ∷ views) (suc id) w v x e =
    omega (arith, times_at views id w v x e, times-append w (callers_in y) (seated views), times-append w (callers_in y) (seated (set views id x)))

pub times_more : (views : List View) (w : ℕ) (x : View) → times w (seated (views ++ x ∷ [])) ≡ times w (seated views) + times w (callers_in x)
times_more [] w x = omega (arith, times-append w (callers_in x) [])
times_more (y ∷ views) w x = omega (arith, times_more views w x, times-append w (callers_in y) (seated views), times-append w (callers_in y) (seated (views ++ x ∷ [])))

-- ---- a step

-- a front of a history is one of a longer history
pub longer : (log log' front : List Entry) → StartsWith log' log → StartsWith log front → StartsWith log' front
longer log log' front grows h = (h.0 ++ grows.0, grows.1 ∙ ap (λ l. l ++ grows.0) h.1 ∙ append_assoc front h.0 grows.0)

-- each seat knows the new history, where the seat that made the step does
pub seats_after : (log log' : List Entry) (flights : List Flight) (fl : Flight) (views : List View) (id who : ℕ) (v w : View)
    → get_elem? views id ≡ some v → v.callers ≡ who ∷ []
    → ((n : ℕ) → times n (seated views) ≤ 1)
    → StartsWith log' log → ((n : ℕ) → n ≢ who → own n log' ≡ own n log)
    → Knows log' (set flights who fl) w
    → ((j : ℕ) (u : View) → get_elem? views j ≡ some u → Knows log flights u)
    → (j : ℕ) (u : View) → get_elem? (set views id w) j ≡ some u → Knows log' (set flights who fl) u
seats_after log log' flights fl views id who v w at one apart grows others mine knows j u e =
    ⊎_elim
    (λ (t : (j ≡ id) × (w ≡ u)). subst (Knows log' (set flights who fl)) t.1 mine)
    (λ (t : (j ≢ id) × (get_elem? views j ≡ some u)).
    let f = knows j u t.1 in
    let off : (n : ℕ) → 0 < times n (callers_in u) → n ≢ who = λ n p is.
    let q : 0 < times n v.callers = subst (λ (l : List ℕ). 0 < times n l) (sym one) (subst (λ (m : ℕ). 0 < times m (who ∷ [])) (sym is) (sole_counts who)) in
    t.0 (alone n views j id u v t.1 at p (omega (arith, q, times-append n v.callers v.others)) (apart n)) in
    let one_of : (n : ℕ) → 0 < times n u.callers → n ≢ who = λ n p. off n (omega (arith, p, times-append n u.callers u.others)) in
    let other_of : (n : ℕ) → 0 < times n u.others → n ≢ who = λ n p. off n (omega (arith, p, times-append n u.callers u.others)) in
    record {
      seen = longer log log' u.seen grows f.seen;
      told = longer log log' u.told grows f.told;
      mine = λ n p. let o = one_of n p in let g = f.mine n p in (others n o ∙ g.0, get_or-set_other flights who n fl idle o ∙ g.1);
      others = λ n p. let o = other_of n p in let g = f.others n p in (others n o ∙ g.0, get_or-set_other flights who n fl idle o ∙ g.1);
    })
    (at_set views id j w u e)

pub apart_after : (views : List View) (id : ℕ) (v w : View) → get_elem? views id ≡ some v → w.callers ≡ v.callers → w.others ≡ v.others
    → ((n : ℕ) → times n (seated views) ≤ 1) → (n : ℕ) → times n (seated (set views id w)) ≤ 1
apart_after views id v w at callers others apart n =
    omega (arith, apart n, times_at views id n v w at, ap (times n) (λ i. callers i ++ others i))

-- ---- a seat cut in two

-- the rule speaks of the views by the seats alone
pub reseated : (k : Basis) (s : State (Option Frame) View) (rule : Rule k s) (views : List View) → ((j : ℕ) (u : View) → get_elem? views j ≡ some u → Knows rule.log rule.flights u)
    → ((w : ℕ) → times w (seated views) ≤ 1) → Rule k (record { words = s.words; homes = s.homes; views = views })
reseated k s rule views seats apart = record {
  log = rule.log;
  flights = rule.flights;
  legal = rule.legal;
  words_len = rule.words_len;
  homes_len = rule.homes_len;
  flights_len = rule.flights_len;
  seats = seats;
  apart = apart;
  in_flight = rule.in_flight;
  rings = rule.rings;
  marks = rule.marks;
  outs = rule.outs;
  lie = rule.lie;
  vacant = rule.vacant;
}

dealt : (w : ℕ) (callers : List ℕ) → times w (drop 1 callers) + times w (take 1 callers) ≡ times w callers
dealt w [] = refl
dealt w (x ∷ xs) = omega arith

-- the first caller gets a seat of its own, after any history
pub deals : (k : Basis) (id : ℕ) (v : View) → Splits (Rule k) id v (other_callers v) (first_caller v)
deals k id v s rule at =
    let knows = rule.seats id v at in
    let left = other_callers v in
    let right = first_caller v in
    reseated k s rule (set s.views id left ++ right ∷ [])
    (λ j u e. ⊎_elim
    (λ (t : get_elem? (set s.views id left) j ≡ some u). ⊎_elim
    (λ (h : (j ≡ id) × (left ≡ u)). subst (Knows rule.log rule.flights) h.1
    (record { seen = knows.seen; told = knows.told; mine = λ w p. knows.mine w (omega (arith, p, dealt w v.callers)); others = knows.others }))
    (λ (h : (j ≢ id) × (get_elem? s.views j ≡ some u)). rule.seats j u h.1)
    (at_set s.views id j left u t))
    (λ (t : right ≡ u). subst (Knows rule.log rule.flights) t
    (record { seen = knows.seen; told = knows.told; mine = λ w p. knows.mine w (omega (arith, p, dealt w v.callers)); others = λ w p. absurd (omega arith) }))
    (at_snoc (set s.views id left) right u j e))
    (λ w. omega (
      arith,
      rule.apart w,
      dealt w v.callers,
      times_at s.views id w v left at,
      times_more (set s.views id left) w right,
      times-append w v.callers v.others,
      times-append w left.callers left.others,
      times-append w right.callers right.others,
    ))
