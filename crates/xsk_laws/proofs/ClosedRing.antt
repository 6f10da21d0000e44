-- What an application finds of the RX ring of the socket that it closes: at its end it has found the ring empty after it saw that the
-- closing was acknowledged, and it holds nothing of it.
use Rattle.std.proofs.Common.{◌≡◌, ℕ, zero, suc, ◌+◌, ◌-◌, ◌*◌, ◌/◌, ◌%◌, ◌<◌, ◌⊎◌, inl, inr, ⊎_elim, Bool, true, false, cond, ◌&&◌, ◌||◌, not, eqb, Some, List, [], ◌∷◌, length, set, refl, sym, ap, ◌∙◌, arith, eq-eqb}
use Rattle.std.proofs.lemmas.Bool.{cases_eq, and_parts}
use Rattle.xsk_turns.proofs.Object.{Config, classes_of, Draining, are_none, unseen_after, draining_of, draining_after, is_on, taken, held_of}
use Rattle.xsk_model.specs.Own.{released}
use Rattle.xsk_turns.proofs.Calls.{Item, Told, with_told, Ring, Rx, Mark, RxDone, Gone, Call, Peek, Release, Swap, Look, Reply, Granted, Full, Submitted, Items, Empty, Released, Old}
use Rattle.xsk_model.specs.Marks.{is_mark}
use Rattle.xsk_model.specs.declared.call.Mark.TheVariants.{NeedFill, NeedTx, Kick, Acked}
use Rattle.std.proofs.Math.Nat.{mod-eq-sub-div-mul}
use Rattle.std.proofs.lemmas.Nat.{div-mul-add}
use Rattle.xsk_turns.specs.AppTurns.{AppKept, AppNoted, pair_of, rx_of, lanes_of, side_socket, may_tell, noted_first, app_turn, app_start_by, IsWholeAppRunBy, Shut, lane_from}
use Rattle.xsk_turns.specs.AppOwned.{IsApp}
use Rattle.xsk_turns.specs.declared.manner.Manner.{Manner}
use Rattle.xsk_turns.proofs.AppPlaces.{classes_some}
use Rattle.xsk_turns.proofs.AppShut.{IsShut, shut_mine, shut_socket}
use Rattle.xsk_turns.proofs.Draining.{draining_told, same_unseen, when_found, found_here}
use Rattle.xsk_turns.proofs.Walks.{release_due, Anything, meet_anything}
use Rattle.xsk_turns.proofs.AppWalk as walk
use Rattle.xsk_turns.proofs.Acknowledging.{held_now}

-- ---- the lane

module _ (c : Config) (a : ℕ) (one : IsApp c a) (shut : Shut) (is : IsShut c a shut) where
  abbrev from : ℕ
  from = lane_from c shut

  class_low : shut.socket % classes_of c < classes_of c
  class_low = let some = classes_some c a one in omega (arith, some)

  side_is : from / classes_of c ≡ shut.side
  side_is = div-mul-add shut.side (classes_of c) (shut.socket % classes_of c) class_low

  class_is : from % classes_of c ≡ shut.socket % classes_of c
  class_is = mod_of shut.side (classes_of c) (shut.socket % classes_of c) class_low side_is
    where
      mod_of : (s w k : ℕ) → k < w → (s * w + k) / w ≡ s → (s * w + k) % w ≡ k
      mod_of s w k h e = omega (arith, mod-eq-sub-div-mul (s * w + k) w, ap (λ (n : ℕ). n * w) e)

  pub from_is : rx_of c a from ≡ shut.socket
  from_is = ap (λ n. side_socket c a n (from % classes_of c)) side_is ∙ ap (side_socket c a shut.side) class_is ∙ shut_socket c a one shut is

  pub from_below : from < lanes_of c
  from_below = low shut.side (classes_of c) (shut.socket % classes_of c) is.side class_low
    where
      low : (s w k : ℕ) → s < 2 → k < w → s * w + k < 2 * w
      low zero w k h e = omega (arith, e)
      low (suc zero) w k h e = omega (arith, e)
      low (suc (suc s)) w k h e = absurd (omega (arith, h))

-- ---- what is found

-- whether the mark is still to be seen
abbrev unseen_by : ℕ → Bool → List Mark
unseen_by x acked = cond acked [] (Acked x ∷ [])

none_by : (x : ℕ) (acked : Bool) → acked ≡ true → unseen_by x acked ≡ []
none_by x true e = refl
none_by x false e = absurd (cc)

seen_by : (x n : ℕ) (acked : Bool) → acked ≡ false → unseen_after (unseen_by x acked) (Acked x) n ≡ unseen_by x (eqb n 1)
seen_by x n true e = absurd (cc)
seen_by x n false e = ap (λ b. cond (b && eqb n 1) [] (Acked x ∷ [])) (eq-eqb x x refl) ∙ both (eqb n 1)
  where
    both : (b : Bool) → cond b [] (Acked x ∷ []) ≡ unseen_by x b
    both true = refl
    both false = refl

-- another mark is none of it
other_mark : (x n : ℕ) (acked : Bool) (m : Mark) → is_mark (Acked x) m ≡ false → unseen_after (unseen_by x acked) m n ≡ unseen_by x acked
other_mark x n true m e = refl
other_mark x n false m e = ap (λ b. cond (b && eqb n 1) [] (Acked x ∷ [])) e

other_need : (x : ℕ) (m : Mark) → walk.is_need m ≡ true → is_mark (Acked x) m ≡ false
other_need x (NeedFill d) e = refl
other_need x (NeedTx s) e = refl
other_need x m e = absurd (cc)

held_still : (r : Ring) (l : List Told) (call : Call) (reply : Reply) (n : ℕ) → taken reply ≡ [] → released call ≡ 0 → held_of r l ≡ n → held_of r (with_told l call reply) ≡ n
held_still r l call reply n e f h = held_now r l call reply ∙ by (is_on r call)
  where
    by : (b : Bool) → cond b (held_of r l + length (taken reply) - released call) (held_of r l) ≡ n
    by true = omega (arith, h, ap length e, f)
    by false = h

held_other : (r : Ring) (l : List Told) (call : Call) (reply : Reply) (n : ℕ) → is_on r call ≡ false → held_of r l ≡ n → held_of r (with_told l call reply) ≡ n
held_other r l call reply n off h = held_now r l call reply ∙ ap (λ b. cond b (held_of r l + length (taken reply) - released call) (held_of r l)) off ∙ h

held_taken : (x s n : ℕ) (l : List Told) (items : List Item) → held_of (Rx x) l ≡ 0 → held_of (Rx x) (with_told l (Peek (Rx s) n) (Items items)) ≡ cond (eqb x s) (length items) 0
held_taken x s n l items h = held_now (Rx x) l (Peek (Rx s) n) (Items items) ∙ by (eqb x s)
  where
    by : (b : Bool) → cond b (held_of (Rx x) l + length items - 0) (held_of (Rx x) l) ≡ cond b (length items) 0
    by true = omega (arith, h)
    by false = h

held_freed : (x s n : ℕ) (l : List Told) → held_of (Rx x) l ≡ cond (eqb x s) n 0 → held_of (Rx x) (with_told l (Release (Rx s) n) Released) ≡ 0
held_freed x s n l h = held_now (Rx x) l (Release (Rx s) n) Released ∙ by (eqb x s) h
  where
    by : (b : Bool) → held_of (Rx x) l ≡ cond b n 0 → cond b (held_of (Rx x) l + 0 - n) (held_of (Rx x) l) ≡ 0
    by true e = omega (arith, e)
    by false e = e

-- ---- the law

module _ (c : Config) (a : ℕ) (one : IsApp c a) (shut : Shut) (is : IsShut c a shut) where
  abbrev x : ℕ
  x = shut.socket

  abbrev lane0 : ℕ
  lane0 = lane_from c shut

  abbrev state : List Told → Draining
  state l = draining_of (Acked x ∷ []) (Rx x) l

  -- once it told that it sends nothing more
  abbrev Over : AppKept → Type 0
  Over kept = (kept.tx_done ≡ true) × (kept.begun ≡ true)

  -- where it has found the ring empty
  abbrev Needs : walk.Stage → AppNoted → AppKept → Type 0
  Needs (walk.Lanes k) noted kept = (lane0 < k) × (noted.acked ≡ true) × (noted.lanes_empty ≡ true) × (kept.tx_done ≡ false)
  Needs (walk.Lane k due) noted kept = noted.lanes_empty ≡ true
  Needs (walk.Draining k due) noted kept = noted.lanes_empty ≡ true
  Needs (walk.Sides k) noted kept = (noted.acked ≡ true) × (noted.lanes_empty ≡ true) × (kept.tx_done ≡ false)
  Needs (walk.Side k due) noted kept = (noted.acked ≡ true) × (noted.lanes_empty ≡ true) × (kept.tx_done ≡ false)
  Needs walk.Ending noted kept = (noted.acked ≡ true) × (noted.lanes_empty ≡ true) × (kept.tx_done ≡ false)
  Needs place noted kept = ⊥

  abbrev held_at : walk.Stage → ℕ
  held_at (walk.Lane k (release_due (Rx s) n)) = cond (eqb x s) n 0
  held_at (walk.Draining k (release_due (Rx s) n)) = cond (eqb x s) n 0
  held_at place = 0

  -- of what is kept, with what it needs to have found the ring empty
  record Finds (acked : Bool) (found : Type 0) (due : ℕ) (l : List Told) : Type 0 where
    pub unseen : (state l).unseen ≡ unseen_by x acked
    pub empty : found → (state l).empty ≡ true
    pub held : held_of (Rx x) l ≡ due

  abbrev Knows : AppNoted → AppKept → Type 0
  Knows noted kept = noted.acked ≡ true → kept.acked ≡ true

  abbrev At : walk.Family
  At (walk.Waking place need pair) noted kept l = At place noted kept l × (held_at place ≡ 0)
  At (walk.Looked place need pair n) noted kept l = At place noted kept l × (held_at place ≡ 0)
  At (walk.Kicking place pair) noted kept l = At place noted kept l × (held_at place ≡ 0)
  At place noted kept l = Finds kept.acked (Needs place noted kept ⊎ Over kept) (held_at place) l × Knows noted kept

  abbrev Asked : walk.Said
  Asked kept call l = Unit {0}

  abbrev Ended : AppKept → List Told → Type 0
  Ended kept l = kept.begun ≡ true → ((state l).empty ≡ true) × (held_of (Rx x) l ≡ 0)

  -- ---- entries

  fewer : (acked : Bool) (old new : Type 0) (due : ℕ) (l : List Told) → (new → old) → Finds acked old due l → Finds acked new due l
  fewer acked old new due l to h = record { unseen = h.unseen; empty = λ f. h.empty (to f); held = h.held }

  -- one that looks at no mark, and takes no item of the ring
  still : (acked : Bool) (old new : Type 0) (due : ℕ) (l : List Told) (call : Call) (reply : Reply) → ((s : Draining) → draining_after (Rx x) s call reply ≡ s) → taken reply ≡ [] → released call ≡ 0
      → (new → old) → Finds acked old due l → Finds acked new due (with_told l call reply)
  still acked old new due l call reply e f g to h =
      let same = draining_told (Acked x ∷ []) (Rx x) l call reply ∙ e (state l) in
      record { unseen = ap (λ s. s.unseen) same ∙ h.unseen; empty = λ k. ap (λ s. s.empty) same ∙ h.empty (to k); held = held_still (Rx x) l call reply due f g h.held }

  other : (acked : Bool) (old new : Type 0) (due : ℕ) (l : List Told) (call : Call) (reply : Reply) → ((s : Draining) → draining_after (Rx x) s call reply ≡ s) → is_on (Rx x) call ≡ false
      → (new → old) → Finds acked old due l → Finds acked new due (with_told l call reply)
  other acked old new due l call reply e off to h =
      let same = draining_told (Acked x ∷ []) (Rx x) l call reply ∙ e (state l) in
      record { unseen = ap (λ s. s.unseen) same ∙ h.unseen; empty = λ k. ap (λ s. s.empty) same ∙ h.empty (to k); held = held_other (Rx x) l call reply due off h.held }

  -- a look at another mark
  looked : (acked : Bool) (old new : Type 0) (due : ℕ) (l : List Told) (m : Mark) (n : ℕ) → is_mark (Acked x) m ≡ false → (new → old) → Finds acked old due l
      → Finds acked new due (with_told l (Look m) (Old n))
  looked acked old new due l m n off to h =
      let same = draining_told (Acked x ∷ []) (Rx x) l (Look m) (Old n) in
      record {
        unseen = ap (λ s. s.unseen) same ∙ ap (λ ms. unseen_after ms m n) h.unseen ∙ other_mark x n acked m off;
        empty = λ k. ap (λ s. s.empty) same ∙ h.empty (to k);
        held = held_still (Rx x) l (Look m) (Old n) due refl refl h.held;
      }

  -- items that come on a lane, and are released
  taken_items : (acked : Bool) (old new : Type 0) (s n : ℕ) (l : List Told) (items : List Item) → (new → ⊥) → Finds acked old 0 l
      → Finds acked new (cond (eqb x s) (length items) 0) (with_told l (Peek (Rx s) n) (Items items))
  taken_items acked old new s n l items un h =
      let same = draining_told (Acked x ∷ []) (Rx x) l (Peek (Rx s) n) (Items items) in
      record { unseen = ap (λ s. s.unseen) same ∙ same_unseen (eqb x s) (state l) false ∙ h.unseen; empty = λ k. absurd (un k); held = held_taken x s n l items h.held }

  freed : (acked : Bool) (old new : Type 0) (s n : ℕ) (l : List Told) → (new → old) → Finds acked old (cond (eqb x s) n 0) l → Finds acked new 0 (with_told l (Release (Rx s) n) Released)
  freed acked old new s n l to h =
      let same = draining_told (Acked x ∷ []) (Rx x) l (Release (Rx s) n) Released in
      record { unseen = ap (λ s. s.unseen) same ∙ h.unseen; empty = λ k. ap (λ s. s.empty) same ∙ h.empty (to k); held = held_freed x s n l h.held }

  -- a lane is found empty
  visits_empty : (lane n : ℕ) (noted : AppNoted) (kept : AppKept) (l : List Told) → kept.tx_done ≡ false → At (walk.Lanes lane) noted kept l
      → At (walk.Lanes (lane + 1)) noted kept (with_told l (Peek (Rx (rx_of c a lane)) n) Empty)
  visits_empty lane n noted kept l sends h =
      let s = rx_of c a lane in
      let u = state l in
      let same = draining_told (Acked x ∷ []) (Rx x) l (Peek (Rx s) n) Empty in
      let none = λ (acked : noted.acked ≡ true). h.0.unseen ∙ none_by x kept.acked (h.1 acked) in (
        record {
          unseen = ap (λ s. s.unseen) same ∙ same_unseen (eqb x s) u (are_none u.unseen) ∙ h.0.unseen;
          empty = λ f. ⊎_elim
              (λ (k : Needs (walk.Lanes (lane + 1)) noted kept).
              ap (λ s. s.empty) same
              ∙ ⊎_elim
              (λ (e : lane0 ≡ lane). found_here (eqb x s) u (eq-eqb x s (sym (from_is c a one shut is) ∙ ap (rx_of c a) e)) (none k.1))
              (λ (e : lane0 ≡ lane → ⊥). when_found (eqb x s) u (none k.1) (h.0.empty (inl (before lane0 lane k.0 e, k.1, k.2, k.3))))
              (cases_eq lane0 lane))
              (λ (k : Over kept). absurd (let no : false ≡ true = sym sends ∙ k.0 in cc))
              f;
          held = held_still (Rx x) l (Peek (Rx s) n) Empty 0 refl refl h.0.held;
        },
        h.1,
      )
    where
      before : (j k : ℕ) → j < k + 1 → (j ≡ k → ⊥) → j < k
      before j k h e = omega arith

  -- what holds at a place stays so, as flags are looked at and drivers woken
  on_look : (place : walk.Stage) (noted : AppNoted) (kept : AppKept) (l : List Told) (m : Mark) (n : ℕ) → is_mark (Acked x) m ≡ false → At place noted kept l → At place noted kept (with_told l (Look m) (Old n))
  on_look (walk.Waking place need pair) noted kept l m n off h = (on_look place noted kept l m n off h.0, h.1)
  on_look (walk.Looked place need pair k) noted kept l m n off h = (on_look place noted kept l m n off h.0, h.1)
  on_look (walk.Kicking place pair) noted kept l m n off h = (on_look place noted kept l m n off h.0, h.1)
  on_look (walk.Lanes k) noted kept l m n off h = (looked kept.acked _ _ _ l m n off (λ f. f) h.0, h.1)
  on_look (walk.Lane k due) noted kept l m n off h = (looked kept.acked _ _ _ l m n off (λ f. f) h.0, h.1)
  on_look (walk.Sides k) noted kept l m n off h = (looked kept.acked _ _ _ l m n off (λ f. f) h.0, h.1)
  on_look (walk.Side k due) noted kept l m n off h = (looked kept.acked _ _ _ l m n off (λ f. f) h.0, h.1)
  on_look walk.Ending noted kept l m n off h = (looked kept.acked _ _ _ l m n off (λ f. f) h.0, h.1)
  on_look (walk.Looking k) noted kept l m n off h = (looked kept.acked _ _ _ l m n off (λ f. f) h.0, h.1)
  on_look walk.TxTold noted kept l m n off h = (looked kept.acked _ _ _ l m n off (λ f. f) h.0, h.1)
  on_look (walk.Lowering s k) noted kept l m n off h = (looked kept.acked _ _ _ l m n off (λ f. f) h.0, h.1)
  on_look (walk.Shutting s) noted kept l m n off h = (looked kept.acked _ _ _ l m n off (λ f. f) h.0, h.1)
  on_look (walk.Draining k due) noted kept l m n off h = (looked kept.acked _ _ _ l m n off (λ f. f) h.0, h.1)

  on_swap : (place : walk.Stage) (noted : AppNoted) (kept : AppKept) (l : List Told) (m : Mark) (value n : ℕ) → At place noted kept l → At place noted kept (with_told l (Swap m value) (Old n))
  on_swap (walk.Waking place need pair) noted kept l m v n h = (on_swap place noted kept l m v n h.0, h.1)
  on_swap (walk.Looked place need pair k) noted kept l m v n h = (on_swap place noted kept l m v n h.0, h.1)
  on_swap (walk.Kicking place pair) noted kept l m v n h = (on_swap place noted kept l m v n h.0, h.1)
  on_swap (walk.Lanes k) noted kept l m v n h = (still kept.acked _ _ _ l (Swap m v) (Old n) (λ s. refl) refl refl (λ f. f) h.0, h.1)
  on_swap (walk.Lane k due) noted kept l m v n h = (still kept.acked _ _ _ l (Swap m v) (Old n) (λ s. refl) refl refl (λ f. f) h.0, h.1)
  on_swap (walk.Sides k) noted kept l m v n h = (still kept.acked _ _ _ l (Swap m v) (Old n) (λ s. refl) refl refl (λ f. f) h.0, h.1)
  on_swap (walk.Side k due) noted kept l m v n h = (still kept.acked _ _ _ l (Swap m v) (Old n) (λ s. refl) refl refl (λ f. f) h.0, h.1)
  on_swap walk.Ending noted kept l m v n h = (still kept.acked _ _ _ l (Swap m v) (Old n) (λ s. refl) refl refl (λ f. f) h.0, h.1)
  on_swap (walk.Looking k) noted kept l m v n h = (still kept.acked _ _ _ l (Swap m v) (Old n) (λ s. refl) refl refl (λ f. f) h.0, h.1)
  on_swap walk.TxTold noted kept l m v n h = (still kept.acked _ _ _ l (Swap m v) (Old n) (λ s. refl) refl refl (λ f. f) h.0, h.1)
  on_swap (walk.Lowering s k) noted kept l m v n h = (still kept.acked _ _ _ l (Swap m v) (Old n) (λ s. refl) refl refl (λ f. f) h.0, h.1)
  on_swap (walk.Shutting s) noted kept l m v n h = (still kept.acked _ _ _ l (Swap m v) (Old n) (λ s. refl) refl refl (λ f. f) h.0, h.1)
  on_swap (walk.Draining k due) noted kept l m v n h = (still kept.acked _ _ _ l (Swap m v) (Old n) (λ s. refl) refl refl (λ f. f) h.0, h.1)

  no_false : {A : Type 0} → false ≡ true → A
  no_false e = absurd (cc)

  not_both : {A : Type 0} (b : Bool) → b ≡ false → b ≡ true → A
  not_both b e f = absurd (let no : false ≡ true = sym e ∙ f in cc)

  -- a socket that is closed was acknowledged before it tells
  told_acked : (noted : AppNoted) (kept : AppKept) → may_tell noted kept ≡ true → kept.begun ≡ true → (noted.acked ≡ true) × (noted.lanes_empty ≡ true)
  told_acked noted kept e f =
      let parts = and_parts (noted.seen && noted.lanes_empty) (not kept.begun || noted.acked) e in
      (ap (λ b. not b || noted.acked) (sym f) ∙ parts.1, (and_parts noted.seen noted.lanes_empty parts.0).1)

  entries : walk.AtEntries c a Anything At Asked
  entries (walk.rx_empty lane) noted kept l known h asked q = visits_empty lane _ noted kept l known.1 h
  entries (walk.drain_empty lane) noted kept l known h asked q = visits_empty lane _ noted kept l known.1 h
  entries (walk.rx_items lane items) noted kept l known h asked q =
      (taken_items kept.acked _ _ (rx_of c a lane) _ l items (λ f. ⊎_elim (λ e. no_false e) (λ (o : Over kept). not_both kept.tx_done known.1 o.0) f) h.0, h.1)
  entries (walk.drain_items lane items) noted kept l known h asked q =
      (taken_items kept.acked _ _ (rx_of c a lane) _ l items (λ f. ⊎_elim (λ e. no_false e) (λ (o : Over kept). not_both kept.tx_done known.1 o.0) f) h.0, h.1)
  entries (walk.rx_released lane n) noted kept l known h asked q = (freed kept.acked _ _ (rx_of c a lane) n l (λ f. f) h.0, h.1)
  entries (walk.drain_released lane n) noted kept l known h asked q = (freed kept.acked _ _ (rx_of c a lane) n l (λ f. ⊎_elim (λ (e : Needs (walk.Lanes (lane + 1)) noted kept). inl e.2) (λ o. inr o) f) h.0, h.1)
  entries (walk.tx_granted lane) noted kept l known h asked q = (still kept.acked _ _ 0 l _ Granted (λ s. refl) refl refl (λ f. f) h.0, h.1)
  entries (walk.tx_full lane free) noted kept l known h asked q =
      (still kept.acked _ _ 0 l _ (Full free) (λ s. refl) refl refl (λ f. ⊎_elim (λ (e : Needs (walk.Lanes (lane + 1)) noted kept). inl e.2) (λ o. inr o) f) h.0, h.1)
  entries (walk.tx_submitted lane) noted kept l known h asked q =
      ((still kept.acked _ _ 0 l _ Submitted (λ s. refl) refl refl (λ f. ⊎_elim (λ (e : Needs (walk.Lanes (lane + 1)) noted kept). inl e.2) (λ o. inr o) f) h.0, h.1), refl)
  entries (walk.comp_items side items) noted kept l known h asked q = (other kept.acked _ _ 0 l _ (Items items) (λ s. refl) refl (λ f. f) h.0, h.1)
  entries (walk.comp_released side n) noted kept l known h asked q = (other kept.acked _ _ 0 l _ Released (λ s. refl) refl (λ f. f) h.0, h.1)
  entries (walk.fill_submitted side frame frames) noted kept l known h asked q = ((still kept.acked _ _ 0 l _ Submitted (λ s. refl) refl refl (λ f. f) h.0, h.1), refl)
  entries (walk.looked_rx_done side n) noted kept l known h asked q = by (eqb n 1)
    where
      now : At (walk.Looking (side + 1)) noted kept (with_told l (Look (RxDone (pair_of c a side))) (Old n))
      now = (looked kept.acked _ _ 0 l (RxDone (pair_of c a side)) n refl (λ f. f) h.0, h.1)

      by : (b : Bool) → At (walk.Looking (side + 1)) noted (cond b (record kept { seen = set kept.seen side true }) kept) (with_told l (Look (RxDone (pair_of c a side))) (Old n))
      by true = now
      by false = now
  entries (walk.looked_gone side n) noted kept l known h asked q = by (eqb n 1)
    where
      now : At (walk.Looking (side + 1)) noted kept (with_told l (Look (Gone (pair_of c a side))) (Old n))
      now = (looked kept.acked _ _ 0 l (Gone (pair_of c a side)) n refl (λ f. f) h.0, h.1)

      by : (b : Bool) → At (walk.Looking (side + 1)) noted (cond b (record kept { gone = set kept.gone side true }) kept) (with_told l (Look (Gone (pair_of c a side))) (Old n))
      by true = now
      by false = now
  entries (walk.told_tx_done n) noted kept l known h asked q = (
    still kept.acked _ _ 0 l _ (Old n) (λ s. refl) refl refl
        (λ f. ⊎_elim (λ e. absurd e) (λ (o : (true ≡ true) × (kept.begun ≡ true)). let told = told_acked noted kept known.1 o.1 in inl (told.0, told.1, known.0)) f) h.0,
    h.1,
  )
  entries (walk.looked_need place need pair n) noted kept l known h asked q = (on_look place noted kept l need n (other_need x need known.1) h.0, h.1)
  entries (walk.kicked place pair n) noted kept l known h asked q = on_swap place noted kept l (Kick pair) 1 n h.0
  entries (walk.told_closing s n) noted kept l known h asked q =
      (still kept.acked _ _ 0 l _ (Old n) (λ s. refl) refl refl (λ f. ⊎_elim (λ e. absurd e) (λ (o : (kept.tx_done ≡ true) × (true ≡ true)). not_both kept.tx_done known.2 o.0) f) h.0, h.1)
  entries (walk.looked_acked s n) noted kept l known h asked q =
      let same : s.socket ≡ x = (let two : Some s.socket ≡ Some x = sym (shut_mine c a s known.0).closing ∙ is.closing in cc) in
      let m = with_told l (Look (Acked s.socket)) (Old n) in
      let here = draining_told (Acked x ∷ []) (Rx x) l (Look (Acked s.socket)) (Old n) in (
        record {
          unseen = ap (λ u. u.unseen) here ∙ ap (λ ms. unseen_after ms (Acked s.socket) n) h.0.unseen ∙ ap (λ (k : ℕ). unseen_after (unseen_by x kept.acked) (Acked k) n) same ∙ seen_by x n kept.acked known.2;
          empty = λ f. ap (λ u. u.empty) here ∙ h.0.empty f;
          held = held_still (Rx x) l (Look (Acked s.socket)) (Old n) 0 refl refl h.0.held;
        },
        λ f. not_both kept.acked known.2 (h.1 f),
      )
  entries e noted kept l known h asked q =
      (still kept.acked _ _ 0 l (walk.call_at c a (walk.point_of e) kept) (walk.reply_of e) (λ s. refl) refl refl (λ f. f) h.0, h.1)

  silent : walk.AtSilent c a At
  silent walk.no_lanes noted kept l = λ h e. (fewer kept.acked _ _ 0 l (λ f. ⊎_elim (λ (k : Needs (walk.Sides 0) noted kept). not_both kept.tx_done k.2 e) (λ o. inr o) f) h.0, h.1)
  silent (walk.has_items lane item items) noted kept l = λ h e. (fewer kept.acked _ _ 0 l (λ f. ⊎_elim (λ k. no_false k) (λ o. inr o) f) h.0, h.1)
  silent walk.lanes_done noted kept l = λ h e. (fewer kept.acked _ _ 0 l (λ f. ⊎_elim (λ (k : Needs (walk.Sides 0) noted kept). inl (from_below c a one shut is, k.0, k.1, k.2)) (λ o. inr o) f) h.0, h.1)
  silent walk.looks noted kept l = λ h e. (fewer kept.acked _ _ 0 l (λ f. ⊎_elim (λ k. absurd k) (λ o. inr o) f) h.0, h.1)
  silent walk.rests noted kept l = λ h e. (fewer kept.acked _ _ 0 l (λ f. ⊎_elim (λ k. absurd k) (λ o. inr o) f) h.0, h.1)
  silent walk.begins noted kept l = λ h e. (fewer kept.acked _ _ 0 l (λ f. ⊎_elim (λ (k : Needs (walk.Lanes 0) (noted_first kept) kept). absurd (omega (arith, k.0))) (λ o. inr o) f) h.0, λ f. f)
  silent (walk.without_need place need pair) noted kept l = λ h off. h.0
  silent (walk.needs_none place need pair n) noted kept l = λ h off. h.0
  silent (walk.needs_kick place need pair n) noted kept l = λ h off. h
  silent walk.told_both noted kept l = λ h on. ((h, refl), refl)
  silent (walk.closes s) noted kept l = λ h e. (fewer kept.acked _ _ 0 l (λ f. ⊎_elim (λ k. absurd k) (λ o. inr o) f) h.0, h.1)
  silent (walk.closed_quietly s) noted kept l = λ h off. (fewer kept.acked _ _ 0 l (λ f. ⊎_elim (λ (k : Needs (walk.Lanes 0) noted kept). absurd (omega (arith, k.0))) (λ o. inr o) f) h.0, h.1)
  silent (walk.closed_kicks s) noted kept l = λ h on. ((fewer kept.acked _ _ 0 l (λ f. ⊎_elim (λ (k : Needs (walk.Lanes 0) noted kept). absurd (omega (arith, k.0))) (λ o. inr o) f) h.0, h.1), refl)
  silent p noted kept l = λ h e. h

  law : walk.IsLaw c a Anything At Asked Ended
  law = record { calls = λ p noted kept l known h. tt; entries = entries; silent = silent; ends = λ noted kept l done h begun. (h.0.empty (inr (done.0, begun)), h.0.held) }

-- at its end an application that has closed the socket has found it so
pub finds_at_end : (m : Manner) (c : Config) (a : ℕ) (one : IsApp c a) (shut : Shut) (l : List Told) (run : IsWholeAppRunBy m c a l) → IsShut c a shut → run.0.begun ≡ true
    → ((draining_of (Acked shut.socket ∷ []) (Rx shut.socket) l).empty ≡ true) × (held_of (Rx shut.socket) l ≡ 0)
finds_at_end m c a one shut l run is begun =
    walk.at_end c a one Anything (At c a one shut is) (Asked c a one shut is) (Ended c a one shut is) (law c a one shut is) (app_start_by m c)
    (record { unseen = refl; empty = λ f. ⊎_elim (λ (k : Needs c a one shut is (walk.Lanes 0) (noted_first (app_start_by m c)) (app_start_by m c)). absurd (omega (arith, k.0))) (λ (o : Over c a one shut is (app_start_by m c)). absurd (cc (o.0))) f; held = refl }, λ e. absurd (cc)) l
    (meet_anything (app_turn c a) (app_turn c a (app_start_by m c)) [] l) run.0 run.1 begun
