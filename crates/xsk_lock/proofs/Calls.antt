-- What the calls of a lock have from what its steps tell.
use Rattle.std.proofs.Common.{◌≡◌, ℕ, ◌<◌, ◌≤◌, ◌==◌, Bool, true, false, List, [], ◌∷◌, ◌++◌, sym, refl, ap, ◌∙◌, subst, ⊎_elim, Option, Some, None, IfSome, IsNone, MatchOption}
use mathlib.Core.Option.{some, some-injective}
use lib.ListN.{get_elem?}
use Rattle.atomic_table.specs.Seated.{TableId}
use Rattle.atomic_table.specs.Table.{Me, rest, Final, Seen}
use Rattle.xsk_lock.specs.declared.view.Facts.{Facts}
use Rattle.xsk_lock.specs.declared.view.Known.{Known}
use Rattle.xsk_lock.specs.declared.view.Known.TheVariants.{Sees}
use Rattle.xsk_lock.specs.Rule.{times, mine, holds, found, Rule, both_hands}
use Rattle.xsk_lock.specs.Plays.{tried, let_go, Locks, Unlocks}
use Rattle.xsk_lock.specs.Held.{Holder, Face, Belongs, HasAll, IsHeld, IsOff, IsOn}
use Rattle.xsk_lock.proofs.Steps.{facts_or, counts_apart, free_at_last}

module _ {N : Type 0} where
  pub same_facts : (m : Known N) (u v : Facts N) → m ≡ Sees u → m ≡ Sees v → u ≡ v
  same_facts m u v p q = ap (facts_or u) (sym p ∙ q)

  pub named_of : (lock : Face N) (hand : Holder N) (v : Facts N) → Belongs lock hand → hand.view ≡ Sees v → v.name ≡ lock.name
  named_of lock hand v b is = ap (λ (f : Facts N). f.name) (same_facts hand.view v b.view.0 is b.view.1) ∙ b.view.2

  -- the numbers of all hands, of the seat within
  pub all_of : (lock lock' : Face N) (hand : Holder N) (v : Facts N) → lock ≡ lock' → hand.view ≡ Sees v → HasAll lock' hand → (h : ℕ) → h < lock.hands → 1 ≤ times h v.mine
  all_of lock lock' hand v same is all h lt =
      subst (λ (m : Known N). 1 ≤ times h (mine m)) is (all h (subst (λ (l : Face N). h < l.hands) same lt))

  -- the facts of the view within
  pub within : (m : Known N) (hand hand' : Holder N) (v : Facts N) (b : Bool) → hand.view ≡ m → hand ≡ hand' → m ≡ Sees v → holds hand'.view ≡ b → (hand'.view ≡ Sees v) × (v.holds ≡ b)
  within m hand hand' v b at same is held = (sym (ap (λ (h : Holder N). h.view) same) ∙ at ∙ is, sym (ap holds is) ∙ sym (ap holds at) ∙ ap (λ (h : Holder N). holds h.view) same ∙ held)

module _ {T N : Type 0} where
  pub empty_off : (me : Me (Option T) (Known N)) (v : Facts N) → IsHeld me → me.0 ≡ Sees v → v.holds ≡ false → me.1 ≡ []
  empty_off me v h is off = h.3 (ap (λ (f : Facts N). f.holds) (same_facts me.0 h.0 v h.1 is) ∙ off)

  pub held_on : (me : Me (Option T) (Known N)) (v : Facts N) → IsHeld me → me.0 ≡ Sees v → v.holds ≡ true → me.1 ≡ (0, None) ∷ []
  held_on me v h is on = h.2 (ap (λ (f : Facts N). f.holds) (same_facts me.0 h.0 v h.1 is) ∙ on)

  pub holds_on : (me : Me (Option T) (Known N)) (v : Facts N) → me.0 ≡ Sees v → v.holds ≡ true → me.1 ≡ (0, None) ∷ [] → IsHeld me
  holds_on me v is on has = (v, is, (λ _. has), (λ off. absurd (counts_apart v.holds on off)))

  pub holds_off : (me : Me (Option T) (Known N)) (v : Facts N) → me.0 ≡ Sees v → v.holds ≡ false → me.1 ≡ [] → IsHeld me
  holds_off me v is off has = (v, is, (λ on. absurd (counts_apart v.holds on off)), (λ _. has))

abbrev pub value_or : {A : Type 0} → A → Option A → A
value_or d None = d
value_or d (Some x) = x

abbrev first_or : {A : Type 0} → A → List (ℕ × A) → A
first_or d [] = d
first_or d (x ∷ xs) = x.1

module _ {T N : Type 0} (name : T → N) where
  pub can_take : (me me' : Me (Option T) (Known N)) (v : Facts N) (n : ℕ) → me.0 ≡ Sees v → Locks name me n me' → n ≡ 0 → (old : Option T) × (me'.1 ≡ (0, old) ∷ rest me'.1)
  can_take me me' v n is told zero = let t = (told v is).2 zero in (Some t.0, t.1 ∙ ap (λ (l : List (ℕ × Option T)). (0, Some t.0) ∷ rest l) (sym t.1))

  pub took : (me me' me'' : Me (Option T) (Known N)) (v : Facts N) (n : ℕ) → IsHeld me → me.0 ≡ Sees v → v.holds ≡ false → Locks name me n me' → n ≡ 0
      → me'' ≡ (me'.0, (0, None) ∷ rest me'.1) → IsHeld me''
  took me me' me'' v n h is off told zero new =
      let a = told v is in
      let t = a.2 zero in
      holds_on me'' (tried v n) (ap (λ (m : Me (Option T) (Known N)). m.0) new ∙ a.1) (ap (λ (k : ℕ). k == 0) zero)
      (ap (λ (m : Me (Option T) (Known N)). m.1) new ∙ ap (λ (l : List (ℕ × Option T)). (0, None) ∷ rest l) t.1 ∙ ap (λ (l : List (ℕ × Option T)). (0, None) ∷ l) (empty_off me v h is off))

  pub missed : (me me' : Me (Option T) (Known N)) (v : Facts N) (n : ℕ) → IsHeld me → me.0 ≡ Sees v → v.holds ≡ false → Locks name me n me' → (n ≡ 0 → ⊥) → IsHeld me'
  missed me me' v n h is off told other =
      let a = told v is in
      let one : n ≡ 1 = ⊎_elim (λ (z : n ≡ 0). absurd (other z)) (λ (o : n ≡ 1). o) a.0 in
      holds_off me' (tried v n) a.1 (ap (λ (k : ℕ). k == 0) one) ((a.3 one).0 ∙ empty_off me v h is off)

  pub took_name : (me me' : Me (Option T) (Known N)) (v : Facts N) (n : ℕ) (result : Option T) (lock : N) → me.0 ≡ Sees v → Locks name me n me' → n ≡ 0
      → me'.1 ≡ (0, result) ∷ rest me'.1 → v.name ≡ lock → IfSome result (λ x. name x ≡ lock)
  took_name me me' v n result lock is told zero has named =
      let t = (told v is).2 zero in
      let same : Some t.0 ≡ result = ap (first_or (Some t.0)) (sym t.1 ∙ has) in
      subst (λ (r : Option T). IfSome r (λ x. name x ≡ lock)) same (t.2 ∙ named)

  pub found_one : (me me' : Me (Option T) (Known N)) (v : Facts N) (n : ℕ) → me.0 ≡ Sees v → Locks name me n me' → (n ≡ 0 → ⊥) → n ≡ 1
  found_one me me' v n is told other = ⊎_elim (λ (z : n ≡ 0). absurd (other z)) (λ (o : n ≡ 1). o) (told v is).0

  pub took_it : (me me' : Me (Option T) (Known N)) (v : Facts N) (n : ℕ) (result : Option T) → me.0 ≡ Sees v → Locks name me n me' → n ≡ 0
      → me'.1 ≡ (0, result) ∷ rest me'.1 → (x : T) × (result ≡ Some x) × (name x ≡ v.name)
  took_it me me' v n result is told zero has = let t = (told v is).2 zero in (t.0, ap (first_or (Some t.0)) (sym has ∙ t.1), t.2)

  pub took_some : (me me' : Me (Option T) (Known N)) (v : Facts N) (n : ℕ) (result : Option T) → me.0 ≡ Sees v → Locks name me n me' → n ≡ 0
      → me'.1 ≡ (0, result) ∷ rest me'.1 → IsNone result → ⊥
  took_some me me' v n result is told zero has none = let t = took_it me me' v n result is told zero has in counts_apart true refl (subst (λ (r : Option T). IsNone r) t.1 none)

  pub held_by : (me me' me'' : Me (Option T) (Known N)) (v : Facts N) (n : ℕ) (result : Option T) (table : TableId) (lock : N) → me.0 ≡ Sees v → Locks name me n me' → n ≡ 0
      → me'.1 ≡ (0, result) ∷ rest me'.1 → me'' ≡ (me'.0, (0, None) ∷ rest me'.1) → v.name ≡ lock
      → MatchOption result (IsOff (record { table = table; view = me''.0 })) (λ x. IsOn (record { table = table; view = me''.0 }) × (name x ≡ lock))
  held_by me me' me'' v n result table lock is told zero has new named =
      let t = took_it me me' v n result is told zero has in
      let on : IsOn (record { table = table; view = me''.0 }) = ap (λ (m : Me (Option T) (Known N)). holds m.0) new ∙ ap holds (told v is).1 ∙ ap (λ (k : ℕ). k == 0) zero in
      subst (λ (r : Option T). MatchOption r (IsOff (record { table = table; view = me''.0 })) (λ x. IsOn (record { table = table; view = me''.0 }) × (name x ≡ lock))) (sym t.1) (on, t.2 ∙ named)

  pub gave : (me me' me'' : Me (Option T) (Known N)) (v : Facts N) (x : T) → IsHeld me → me.0 ≡ Sees v → v.holds ≡ true → me' ≡ (me.0, (0, Some x) ∷ rest me.1) → Unlocks me' me'' → IsHeld me''
  gave me me' me'' v x h is on new told =
      let a = told v (ap (λ (m : Me (Option T) (Known N)). m.0) new ∙ is) in
      holds_off me'' (let_go v) a.0 refl (a.1 ∙ ap (λ (m : Me (Option T) (Known N)). rest m.1) new ∙ ap (λ (l : List (ℕ × Option T)). rest l) (held_on me v h is on))

  pub laid : (me me' : Me (Option T) (Known N)) (v : Facts N) (x : T) → IsHeld me → me.0 ≡ Sees v → v.holds ≡ true → me' ≡ (me.0, (0, Some x) ∷ rest me.1) → me'.1 ≡ (0, Some x) ∷ []
  laid me me' v x h is on new = ap (λ (m : Me (Option T) (Known N)). m.1) new ∙ ap (λ (l : List (ℕ × Option T)). (0, Some x) ∷ rest l) (held_on me v h is on)

  -- the value that is left at the end
  pub last_value : (lock : N) (hands id : ℕ) (m : Known N) (v : Facts N) (words : List ℕ) (slots : List (Option T)) (r : Option T)
      → Final (Seen (Rule name lock hands) id m) words slots → m ≡ Sees v → v.holds ≡ false → ((h : ℕ) → h < hands → 1 ≤ times h v.mine) → get_elem? slots 0 ≡ some r
      → (x : T) × (r ≡ Some x) × (name x ≡ lock)
  last_value lock hands id m v words slots r last is off all at =
      let free = free_at_last name lock hands last.0 id v last.1.0 (last.1.1 ∙ ap some is) off all in
      let x = free.1.0 in
      (x, some-injective r (Some x) (sym at ∙ last.4 0 (Some x) free.1.1), free.1.2)

module _ {T N : Type 0} where
  pub both_held : (me me' other : Me (Option T) (Known N)) (v : Facts N) → IsHeld me → me.0 ≡ Sees v → v.holds ≡ false → me' ≡ (both_hands me.0 other.0, me.1) → IsHeld me'
  both_held me me' other v h is off new =
      holds_off me' (record v { mine = v.mine ++ mine other.0 }) (ap (λ (m : Me (Option T) (Known N)). m.0) new ∙ ap (λ (k : Known N). both_hands k other.0) is) off
      (ap (λ (m : Me (Option T) (Known N)). m.1) new ∙ empty_off me v h is off)

module _ {N : Type 0} where
  -- a hand whose view is of the same lock
  pub still_belongs : (lock : Face N) (hand hand' : Holder N) (v w : Facts N) → Belongs lock hand → hand.view ≡ Sees v → hand'.table ≡ hand.table → hand'.view ≡ Sees w → w.name ≡ v.name → w.hands ≡ v.hands → Belongs lock hand'
  still_belongs lock hand hand' v w b is table is' name hands =
      let f = same_facts hand.view v b.view.0 is b.view.1 in
      record { table = table ∙ b.table; view = (w, is', name ∙ ap (λ (u : Facts N). u.name) f ∙ b.view.2, hands ∙ ap (λ (u : Facts N). u.hands) f ∙ b.view.3) }

  pub mine_same : (old new : Known N) (v w : Facts N) → old ≡ Sees v → new ≡ Sees w → w.mine ≡ v.mine → mine new ≡ mine old
  mine_same old new v w p q e = ap mine q ∙ e ∙ ap mine (sym p)

  pub found_same : (old new : Known N) (v w : Facts N) → old ≡ Sees v → new ≡ Sees w → w.found ≡ v.found → found new ≡ found old
  found_same old new v w p q e = ap found q ∙ e ∙ ap found (sym p)

  pub found_more : (old new : Known N) (v : Facts N) (n : ℕ) → old ≡ Sees v → new ≡ Sees (tried v n) → found new ≡ found old ++ n ∷ []
  found_more old new v n p q = ap found q ∙ ap (λ (k : Known N). found k ++ n ∷ []) (sym p)

  pub mine_more : (old new other : Known N) (v : Facts N) → old ≡ Sees v → new ≡ both_hands old other → mine new ≡ mine old ++ mine other
  mine_more old new other v p q = ap mine q ∙ ap (λ (k : Known N). mine (both_hands k other)) p ∙ ap (λ (k : Known N). mine k ++ mine other) (sym p)

  pub found_kept : (old new other : Known N) (v : Facts N) → old ≡ Sees v → new ≡ both_hands old other → found new ≡ found old
  found_kept old new other v p q = ap found q ∙ ap (λ (k : Known N). found (both_hands k other)) p ∙ ap found (sym p)
