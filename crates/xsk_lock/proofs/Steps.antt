-- Each step keeps the rule of the lock's table.
use Rattle.std.proofs.Common.{◌≡◌, ◌≢◌, ℕ, zero, suc, ◌+◌, ◌<◌, ◌≤◌, ◌==◌, Bool, true, false, List, [], ◌∷◌, ◌++◌, set, get_or, length, sym, refl, ap, ◌∙◌, subst, ⊎_elim, inl, inr, arith, length-set, get_or-set_same, length-take, length-drop, length-append, Option, Some}
use mathlib.Core.Logic.{dite}
use native.Mathlib.Decide.{ℕ_discrete, dec_le}
use mathlib.Core.Option.{some, some-injective, some-ne-none}
use mathlib.Core.Option as maybe
use lib.ListN.{get_elem?}
use Rattle.std.specs.List.{range_with_len}
use Rattle.atomic_table.specs.Table.{State, Me, Act, keeps, takes, gives, Valid, carried_after, stepped, step, Allows, Splits, Joins, opening}
use Rattle.atomic_table.proofs.Lists.{set_here, set_else}
use Rattle.xsk_lock.specs.declared.view.Facts.{Facts}
use Rattle.xsk_lock.specs.declared.view.Known.{Known}
use Rattle.xsk_lock.specs.declared.view.Known.TheVariants.{Spent, Sees}
use Rattle.xsk_lock.specs.Rule.{times, total, mine, holder, counts, IsOf, IsFree, IsTaken, Rule, newcomer, first_hand, other_hands, both_hands}
use Rattle.xsk_lock.specs.Plays.{tried, let_go, HeldElsewhere, Locks, Unlocks, locks, unlocks}
use Rattle.xsk_lock.proofs.Totals.{total_has, total_two, total_set, total_more, total_some, times_append, times_dealt, times_first, times_range, times_range_few}
use Rattle.xsk_lock.proofs.Seats.{each_set, each_more, reseated}

abbrev pub facts_or : {N : Type 0} → Facts N → Known N → Facts N
facts_or d Spent = d
facts_or d (Sees v) = v

holds_of : (b : Bool) → 1 ≤ counts b → b ≡ true
holds_of true h = refl
holds_of false h = absurd (omega arith)

some_number : (xs : List ℕ) → 1 ≤ length xs → (x : ℕ) × (1 ≤ times x xs)
some_number [] h = absurd (omega arith)
some_number (x ∷ xs) h = (x, times_first x xs)

pub counts_apart : (b : Bool) → b ≡ true → b ≡ false → ⊥
counts_apart b t f = let p = ap counts t in let q = ap counts f in omega arith

length-range : (a n : ℕ) → length (range_with_len a n) ≡ n
length-range a zero = refl
length-range a (suc n) = ap suc (length-range (a + 1) n)

module _ {T N : Type 0} (name : T → N) (lock : N) (hands : ℕ) where
  abbrev St : Type 0
  St = State (Option T) (Known N)

  abbrev Seat : Type 0
  Seat = Me (Option T) (Known N)

  -- where the word is 1 some view holds the value
  holder_at : (s : St) → Rule name lock hands s → get_or s.words 0 0 ≡ 1 → (j : ℕ) × (v : Facts N) × (get_elem? s.views j ≡ some (Sees v)) × (v.holds ≡ true)
  holder_at s rule one = ⊎_elim
      (λ (t : IsFree name lock s). absurd (omega (arith, t.0, one)))
      (λ (t : IsTaken name lock s). let c = total_some holder s.views (omega (arith, t.2)) in at_facts c.0 c.1 c.2 c.3)
      rule.state
    where
      at_facts : (j : ℕ) (u : Known N) → get_elem? s.views j ≡ some u → 1 ≤ holder u → (j : ℕ) × (v : Facts N) × (get_elem? s.views j ≡ some (Sees v)) × (v.holds ≡ true)
      at_facts j Spent e h = absurd (omega arith)
      at_facts j (Sees v) e h = (j, v, e, holds_of v.holds h)

  elsewhere : (s : St) (id : ℕ) (v : Facts N) → v.holds ≡ false → Rule name lock hands s → get_elem? s.views id ≡ some (Sees v) → get_or s.words 0 0 ≡ 1 → HeldElsewhere name v
  elsewhere s id v off rule at one =
      let c = holder_at s rule one in
      let here : IsOf lock hands (Sees v) = rule.seats id (Sees v) at in
      let other : c.0 ≢ id = λ same.
      let e : Sees v ≡ Sees c.1 = some-injective (Sees v) (Sees c.1) (sym at ∙ ap (get_elem? s.views) (sym same) ∙ c.2) in
      counts_apart c.1.holds c.3 (sym (ap (λ (z : Known N). (facts_or v z).holds) e) ∙ off) in
      (s, id, c.0, c.1, subst (λ (t : N × ℕ). Rule name t.0 t.1 s) (λ i. (sym here.0 i, sym here.1 i)) rule, one, at, other, c.2, c.3)

  -- ---- the swap

  locked : (s : St) (id : ℕ) (v : Facts N) (carried : List (ℕ × Option T)) → v.holds ≡ false → Rule name lock hands s → get_elem? s.views id ≡ some (Sees v)
      → (w : Known N) × (a : Act (Option T)) × Valid s.homes carried a × Rule name lock hands (stepped s 0 1 id carried w a)
      × Locks name (Sees v, carried) (get_or s.words 0 0) (w, carried_after carried a)
  locked s id v carried off rule at =
      let n : ℕ = get_or s.words 0 0 in
      let w : Known N = Sees (tried v n) in
      let here : IsOf lock hands (Sees v) = rule.seats id (Sees v) at in
      let words : length (set s.words 0 1) ≡ 1 = length-set s.words 0 1 ∙ rule.words in
      let one : get_or (set s.words 0 1) 0 0 ≡ 1 = get_or-set_same s.words 0 1 0 (omega (arith, rule.words)) in
      let seats = each_set (IsOf lock hands) s.views id w here rule.seats in
      let apart : (h : ℕ) → total (λ (u : Known N). times h (mine u)) (set s.views id w) ≤ 1 = λ h. omega (arith, rule.apart h, total_set (λ (u : Known N). times h (mine u)) s.views id (Sees v) w at) in
      let none_held = ap counts off in
      ⊎_elim
      (λ (t : IsFree name lock s).
      let x = t.1.0 in
      let is : n ≡ 0 = t.0 in
      let holds = ap (λ (m : ℕ). counts (m == 0)) is in (
        w,
        takes 0 (Some x),
        t.1.1,
        record {
          words = words;
          slots = length-set s.homes 0 maybe.none ∙ rule.slots;
          seats = seats;
          apart = apart;
          state = inr (one, set_here s.homes 0 maybe.none (omega (arith, rule.slots)), omega (arith, total_set holder s.views id (Sees v) w at, t.2, none_held, holds));
        },
        λ u e. (inl is, ap (λ (z : Known N). Sees (tried (facts_or v z) n)) e, (λ _. (x, refl, t.1.2 ∙ sym here.0 ∙ ap (λ (z : Known N). (facts_or v z).name) e)), (λ q. absurd (omega (arith, is, q)))),
      ))
      (λ (t : IsTaken name lock s).
      let is : n ≡ 1 = t.0 in
      let holds = ap (λ (m : ℕ). counts (m == 0)) is in (
        w,
        keeps,
        tt,
        record {
          words = words;
          slots = rule.slots;
          seats = seats;
          apart = apart;
          state = inr (one, t.1, omega (arith, total_set holder s.views id (Sees v) w at, t.2, none_held, holds));
        },
        λ u e. (inr is, ap (λ (z : Known N). Sees (tried (facts_or v z) n)) e, (λ q. absurd (omega (arith, is, q))), (λ q. (refl, subst (λ (z : Known N). HeldElsewhere name (facts_or v z)) e (elsewhere s id v off rule at is)))),
      ))
      rule.state

  -- E1
  pub locks_keep : (slots id : ℕ) (me : Seat) (v : Facts N) → me.0 ≡ Sees v → v.holds ≡ false
      → Allows (Rule name lock hands) slots id me 0 (λ _. 1) (locks name (step slots 0 1 0 maybe.none) me)
  locks_keep slots id me v is off s rule deep at small =
      subst (λ (m : Known N). (w : Known N) × (a : Act (Option T)) × Valid s.homes me.1 a × Rule name lock hands (stepped s 0 1 id me.1 w a) × Locks name (m, me.1) (get_or s.words 0 0) (w, carried_after me.1 a))
      (sym is) (locked s id v me.1 off rule (at ∙ ap some is))

  -- ---- the store

  let_go_of : (s : St) (id : ℕ) (v : Facts N) (x : T) → v.holds ≡ true → name x ≡ lock → Rule name lock hands s → get_elem? s.views id ≡ some (Sees v)
      → Rule name lock hands (record { words = set s.words 0 0; homes = set s.homes 0 (some (Some x)); views = set s.views id (Sees (let_go v)) })
  let_go_of s id v x on named rule at =
      let w : Known N = Sees (let_go v) in
      let here : IsOf lock hands (Sees v) = rule.seats id (Sees v) at in
      let held = ap counts on in
      record {
        words = length-set s.words 0 0 ∙ rule.words;
        slots = length-set s.homes 0 (some (Some x)) ∙ rule.slots;
        seats = each_set (IsOf lock hands) s.views id w here rule.seats;
        apart = λ h. omega (arith, rule.apart h, total_set (λ (u : Known N). times h (mine u)) s.views id (Sees v) w at);
        state = ⊎_elim
            (λ (t : IsFree name lock s). absurd (omega (arith, total_has holder s.views id (Sees v) at, t.2, held)))
            (λ (t : IsTaken name lock s). inl (
              get_or-set_same s.words 0 0 0 (omega (arith, rule.words)),
              (x, set_here s.homes 0 (some (Some x)) (omega (arith, rule.slots)), named),
              omega (arith, total_set holder s.views id (Sees v) w at, t.2, held),
            ))
            rule.state;
      }

  -- E2
  pub unlocks_keep : (slots id : ℕ) (me : Seat) (v : Facts N) (x : T) → me.0 ≡ Sees v → v.holds ≡ true → me.1 ≡ (0, Some x) ∷ [] → name x ≡ lock
      → Allows (Rule name lock hands) slots id me 0 (λ _. 0) (λ _. unlocks (step slots 0 0 0 maybe.none) me 0)
  unlocks_keep slots id me v x is on has named s rule deep at small =
      let P : Seat → Type 0 = λ m. (w : Known N) × (a : Act (Option T)) × Valid s.homes m.1 a × Rule name lock hands (stepped s 0 0 id m.1 w a) × Unlocks m (w, carried_after m.1 a) in
      let q : (Sees v, (0, Some x) ∷ []) ≡ me = λ i. (sym is i, sym has i) in
      subst P q (Sees (let_go v), gives, tt, let_go_of s id v x on named rule (at ∙ ap some is), λ u e. (ap (λ (z : Known N). Sees (let_go (facts_or v z))) e, refl))

  -- ---- seats

  first_of : (v : Facts N) → IsOf lock hands (Sees v) → 1 ≤ length v.mine → IsOf lock hands (first_hand (Sees v))
  first_of v here some_hand = (here.0, here.1, (λ h p. here.2 h (omega (arith, p, times_dealt h v.mine))), omega (arith, some_hand, length-take 1 v.mine))

  others_of : (v : Facts N) → IsOf lock hands (Sees v) → 2 ≤ length v.mine → IsOf lock hands (other_hands (Sees v))
  others_of v here two = (here.0, here.1, (λ h p. here.2 h (omega (arith, p, times_dealt h v.mine))), omega (arith, two, length-drop 1 v.mine))

  -- E4
  pub deals_keep : (id : ℕ) (m : Known N) (v : Facts N) → m ≡ Sees v → 2 ≤ length v.mine → Splits (Rule name lock hands) id m (other_hands m) (first_hand m)
  deals_keep id m v is two = subst (λ (m : Known N). Splits (Rule name lock hands) id m (other_hands m) (first_hand m)) (sym is) (λ s rule at.
      let left = other_hands (Sees v) in
      let right = first_hand (Sees v) in
      let here : IsOf lock hands (Sees v) = rule.seats id (Sees v) at in
      reseated name lock hands s (set s.views id left ++ right ∷ []) rule
      (each_more (IsOf lock hands) (set s.views id left) right (first_of v here (omega arith)) (each_set (IsOf lock hands) s.views id left (others_of v here two) rule.seats))
      (λ h. omega (arith, rule.apart h, times_dealt h v.mine, total_set (λ (u : Known N). times h (mine u)) s.views id (Sees v) left at, total_more (λ (u : Known N). times h (mine u)) (set s.views id left) right))
      (omega (arith, total_set holder s.views id (Sees v) left at, total_more holder (set s.views id left) right)))

  both_of : (v w : Facts N) → IsOf lock hands (Sees v) → IsOf lock hands (Sees w) → IsOf lock hands (both_hands (Sees v) (Sees w))
  both_of v w here there = (
    here.0,
    here.1,
    (λ h p. let k = times_append h v.mine w.mine in dite (dec_le 1 (times h v.mine)) (λ d. here.2 h d) (λ n. there.2 h (omega arith))),
    omega (arith, here.3, length-append v.mine w.mine),
  )

  -- E5
  pub joins_keep : (id other : ℕ) (m m' : Known N) (v w : Facts N) → m ≡ Sees v → m' ≡ Sees w → w.holds ≡ false → Joins (Rule name lock hands) id m other m' (both_hands m m') Spent
  joins_keep id other m m' v w is is' off = subst (λ (t : Known N × Known N). Joins (Rule name lock hands) id t.0 other t.1 (both_hands t.0 t.1) Spent) (λ i. (sym is i, sym is' i)) (λ s rule at apart at'.
      let both = both_hands (Sees v) (Sees w) in
      let there : get_elem? s.views other ≡ some (Sees w) = sym (set_else s.views id other both apart) ∙ at' in
      let none_held = ap counts off in
      reseated name lock hands s (set (set s.views id both) other Spent) rule
      (each_set (IsOf lock hands) (set s.views id both) other Spent tt (each_set (IsOf lock hands) s.views id both (both_of v w (rule.seats id (Sees v) at) (rule.seats other (Sees w) there)) rule.seats))
      (λ h. omega (
        arith,
        rule.apart h,
        times_append h v.mine w.mine,
        total_set (λ (u : Known N). times h (mine u)) s.views id (Sees v) both at,
        total_set (λ (u : Known N). times h (mine u)) (set s.views id both) other (Sees w) Spent at',
      ))
      (omega (arith, none_held, total_set holder s.views id (Sees v) both at, total_set holder (set s.views id both) other (Sees w) Spent at')))

  -- ---- the opening and the end

  pub opens : (words : List ℕ) (homes : List (Option T)) (x : T) → words ≡ 0 ∷ [] → homes ≡ Some x ∷ [] → name x ≡ lock → 1 ≤ hands → Rule name lock hands (opening words homes (newcomer lock hands))
  opens words homes x w h named some_hand = subst (λ (t : List ℕ × List (Option T)). Rule name lock hands (opening t.0 t.1 (newcomer lock hands))) (λ i. (sym w i, sym h i)) (record {
    words = refl;
    slots = refl;
    seats = each_more (IsOf lock hands) [] (newcomer lock hands) (refl, refl, (λ k p. let r = times_range k 0 hands p in omega arith), omega (arith, some_hand, length-range 0 hands)) (λ j v e. absurd (some-ne-none v (sym e)));
    apart = λ k. omega (arith, times_range_few k 0 hands);
    state = inl (refl, (x, refl, named), refl);
  })

  -- a seat of all hands that doesn't hold the value is the last: the lock is free
  pub free_at_last : (s : St) (id : ℕ) (v : Facts N) → Rule name lock hands s → get_elem? s.views id ≡ some (Sees v) → v.holds ≡ false → ((h : ℕ) → h < hands → 1 ≤ times h v.mine) → IsFree name lock s
  free_at_last s id v rule at off all = ⊎_elim
      (λ (t : IsFree name lock s). t)
      (λ (t : IsTaken name lock s).
      let c = holder_at s rule t.0 in
      let there : IsOf lock hands (Sees c.1) = rule.seats c.0 (Sees c.1) c.2 in
      let x = some_number c.1.mine there.3 in
      absurd (dite (ℕ_discrete id c.0)
      (λ same. let e : Sees v ≡ Sees c.1 = some-injective (Sees v) (Sees c.1) (sym at ∙ ap (get_elem? s.views) same ∙ c.2) in counts_apart c.1.holds c.3 (sym (ap (λ (z : Known N). (facts_or v z).holds) e) ∙ off))
      (λ apart. let two = total_two (λ (u : Known N). times x.0 (mine u)) s.views id c.0 (Sees v) (Sees c.1) apart at c.2 in omega (arith, two, rule.apart x.0, x.1, all x.0 (there.2 x.0 x.1)))))
      rule.state
