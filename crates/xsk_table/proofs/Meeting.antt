-- A seat that is split off for a note, a seat that is put into another, and the look after it keep the rule.
use Rattle.std.proofs.Common.{◌≡◌, ◌≢◌, ℕ, ◌<◌, List, [], ◌∷◌, ◌++◌, set, refl, ap, sym, ◌∙◌, arith, subst, ◌⊎◌, ⊎_elim, append-nil}
use Rattle.std.specs.Prelude.{Option}
use mathlib.Core.Option.{some, none}
use lib.ListN.{get_elem?}
use lib.Seq.{set-get_or}
use Rattle.atomic_table.specs.Table.{step, keeps, Allows, Splits, Joins}
use Rattle.atomic_table.proofs.Lists.{at_set, set_else, at_snoc}
use Rattle.xsk_umem.specs.Frame.{Frame}
use Rattle.xsk_model.specs.Numbers.{times}
use Rattle.xsk_model.specs.Entry.{Entry, Told, own}
use Rattle.xsk_model.specs.History.{IsHistory}
use Rattle.xsk_model.proofs.Counting.{times-append}
use Rattle.xsk_table.specs.View.{Basis, Flight, idle, View, note_of, told_of, spent}
use Rattle.xsk_table.specs.Rule.{Knows, Rule}
use Rattle.xsk_table.specs.Plays.{Seated, Purpose}
use Rattle.xsk_table.specs.Known.{AreSure, AllIsLeft}
use Rattle.xsk_table.specs.Held.{AreLeft, EndsHold, PassHolds, known_in}
use Rattle.xsk_table.specs.Meeting.{Met, Meets, meets}
use Rattle.xsk_table.specs.declared.end.End.{End}
use Rattle.xsk_table.proofs.Seating.{sole_counts, times_at, times_more, reseated}
use Rattle.xsk_table.proofs.Knowing.{whole_log}
use Rattle.xsk_table.proofs.Knowledge.{sure_met}
use Rattle.xsk_table.proofs.Lefts.{left_met}

-- a note is split off
pub notes : (k : Basis) (id : ℕ) (v : View) → Splits (Rule k) id v v (note_of v)
notes k id v s rule at =
    let knows = rule.seats id v at in
    let right = note_of v in
    reseated k s rule (set s.views id v ++ right ∷ [])
    (λ j u e. ⊎_elim
    (λ (t : get_elem? (set s.views id v) j ≡ some u). ⊎_elim
    (λ (h : (j ≡ id) × (v ≡ u)). subst (Knows rule.log rule.flights) h.1 knows)
    (λ (h : (j ≢ id) × (get_elem? s.views j ≡ some u)). rule.seats j u h.1)
    (at_set s.views id j v u t))
    (λ (t : right ≡ u). subst (Knows rule.log rule.flights) t
    (record { seen = knows.seen; told = (rule.log, refl); mine = λ w p. absurd (omega arith); others = λ w p. absurd (omega arith) }))
    (at_snoc (set s.views id v) right u j e))
    (λ w. omega (arith, rule.apart w, times_at s.views id w v v at, times_more (set s.views id v) w right, times-append w right.callers right.others))

knows_nothing : (log : List Entry) (flights : List Flight) → Knows log flights spent
knows_nothing log flights = record { seen = (log, refl); told = (log, refl); mine = λ w p. absurd (omega arith); others = λ w p. absurd (omega arith) }

-- a seat is put into another, which is told of what it has seen
pub tells : (k : Basis) (id other : ℕ) (v u : View) → v.others ≡ [] → u.others ≡ [] → ((w : ℕ) → 0 < times w u.callers → u.flight ≡ idle) → Joins (Rule k) id v other u (told_of v u) spent
tells k id other v u alone nobody rests s rule at off there' =
    let there : get_elem? s.views other ≡ some u = sym (set_else s.views id other (told_of v u) off) ∙ there' in
    let f = rule.seats id v at in
    let g = rule.seats other u there in
    let knows : Knows rule.log rule.flights (told_of v u) = record { seen = f.seen; told = g.seen; mine = f.mine; others = λ w p. ((g.mine w p).0, (g.mine w p).1 ∙ rests w p) } in
    reseated k s rule (set (set s.views id (told_of v u)) other spent)
    (λ j x e. ⊎_elim
    (λ (h : (j ≡ other) × (spent ≡ x)). subst (Knows rule.log rule.flights) h.1 (knows_nothing rule.log rule.flights))
    (λ (h : (j ≢ other) × (get_elem? (set s.views id (told_of v u)) j ≡ some x)). ⊎_elim
    (λ (i : (j ≡ id) × (told_of v u ≡ x)). subst (Knows rule.log rule.flights) i.1 knows)
    (λ (i : (j ≢ id) × (get_elem? s.views j ≡ some x)). rule.seats j x i.1)
    (at_set s.views id j (told_of v u) x h.1))
    (at_set (set s.views id (told_of v u)) other j spent x e))
    (λ w. omega (
      arith,
      rule.apart w,
      ap (times w) nobody,
      ap (times w) alone,
      times-append w v.callers v.others,
      times-append w u.callers u.others,
      times-append w v.callers u.callers,
      times_at s.views id w v (told_of v u) at,
      times_at (set s.views id (told_of v u)) other w u spent there',
    ))

-- the look after it: what the seat was told of and what it has seen become one
pub meets_keep : (slots id : ℕ) (me : Seated) (a : Purpose) (word : ℕ) → ((w : ℕ) → 0 < times w me.0.others → me.0.flight ≡ idle) → Allows (Rule a.setup) slots id me word (λ n. n) (meets a (step slots word 0 0 none) me)
meets_keep slots id me a word rests s rule wide at small =
    let v = me.0 in
    let knows = rule.seats id v at in
    let w : View = record v { callers = v.callers ++ v.others; seen = rule.log; told = []; others = [] } in
    let one_or : (n : ℕ) → 0 < times n (v.callers ++ v.others) → (0 < times n v.callers) ⊎ (0 < times n v.others) = λ n p. let h = times-append n v.callers v.others in grind arith in
    let w_knows : Knows rule.log rule.flights w = record {
      seen = whole_log rule.log;
      told = (rule.log, refl);
      mine = λ n p. (refl, ⊎_elim (λ (h : 0 < times n v.callers). (knows.mine n h).1) (λ (h : 0 < times n v.others). (knows.others n h).1 ∙ sym (rests n h)) (one_or n p));
      others = λ n p. absurd (omega arith);
    } in (
      w,
      keeps,
      tt,
      subst (λ (ws : List ℕ). Rule a.setup record { words = ws; homes = s.homes; views = set s.views id w }) (sym (set-get_or s.words word 0))
          (reseated a.setup s rule (set s.views id w)
          (λ j u e. ⊎_elim
          (λ (h : (j ≡ id) × (w ≡ u)). subst (Knows rule.log rule.flights) h.1 w_knows)
          (λ (h : (j ≢ id) × (get_elem? s.views j ≡ some u)). rule.seats j u h.1)
          (at_set s.views id j w u e))
          (λ n. omega (arith, rule.apart n, times_at s.views id n v w at, times-append n (v.callers ++ v.others) []))),
      record { seen = knows.seen; told = knows.told; legal = rule.legal; mine = λ n p. (knows.mine n p).0; others = λ n p. (knows.others n p).0; view = refl; slots = refl },
    )

-- ---- a pass that has met a note

module _ (k : Basis) (v w : View) (u : View) (slots slots' : List (ℕ × Option Frame)) (who : ℕ) (ends : List End) (flying : ℕ) (ok : PassHolds v slots who ends flying) (setup : v.setup ≡ k)
    (nobody : u.callers ≡ []) (did : Met k (told_of v u, slots) (w, slots')) where
  no_more : own who w.seen ≡ own who v.seen
  no_more = did.mine who (subst (λ (l : List ℕ). 0 < times who l) (sym ok.one) (sole_counts who))

  -- what it knows
  pub met_view : w ≡ record v { seen = w.seen; told = [] }
  met_view = did.view ∙ (λ i. record v { callers = ((ap (λ l. v.callers ++ l) nobody) ∙ append-nil v.callers) i; seen = w.seen; told = []; others = sym ok.alone i })

  pub met_history : Meets v.setup who v.seen u.seen w.seen
  met_history = record { mine = did.seen; note = did.told; legal = subst (λ (t : Basis). IsHistory t.config t.frames w.seen) (sym setup) did.legal; no_more = no_more }

  pub pass_met : PassHolds w slots' who ends flying
  pass_met =
      let seen' = w.seen in
      let P : View → Type 0 = λ x. PassHolds x slots' who ends flying in
      subst P (sym met_view) record {
        one = ok.one;
        alone = ok.alone;
        few = ok.few;
        ends_hold = subst (λ (l : List Told). EndsHold v.setup who l ends) (sym no_more) ok.ends_hold;
        flying_is = ok.flying_is;
        slots_are = did.slots ∙ ok.slots_are;
        left = λ r items is. subst (λ (l : List Told). AreLeft v.setup.config who l r items) (sym no_more) (ok.left r items is);
        history = met_history.legal;
      }

  pub known_met : AreSure v.setup who v.seen (known_in ends) → AreSure w.setup who w.seen (known_in ends)
  known_met sure = subst (λ (t : Basis). AreSure t who w.seen (known_in ends)) (ap (λ (x : View). x.setup) (sym met_view)) (sure_met v.setup who v.seen w.seen (known_in ends) did.seen no_more sure)

  pub met_left : AllIsLeft v.setup who v.seen (known_in ends) → AllIsLeft w.setup who w.seen (known_in ends)
  met_left left = subst (λ (t : Basis). AllIsLeft t who w.seen (known_in ends)) (ap (λ (x : View). x.setup) (sym met_view)) (left_met v.setup who v.seen w.seen (known_in ends) did.seen no_more left)
