-- A ring is empty at the end where its consumer found it so after it had found a mark of its producer to be 1, and the
-- producer submits nothing more once it has set that mark.
use Rattle.std.proofs.Common.{◌≡◌, ℕ, zero, suc, ◌<◌, ◌⊎◌, inl, inr, Bool, true, false, cond, eqb, nat_le, ◌&&◌, ◌||◌, List, [], ◌∷◌, ◌++◌, length, get_or, set, drop, refl, sym, ap, subst, ◌∙◌, ⊎_elim, arith, append_assoc, append-nil, get_or-set_same, get_or-set_other}
use Rattle.std.specs.List.{fold}
use Rattle.std.proofs.lemmas.Bool.{cases_Bool, cases_eq, and_parts, or_cases, or_parts, or_left, or_right, eqb-true, eq-eqb, ne_eqb}
use Rattle.std.proofs.lemmas.List.Sums.{fold-append, fold_push}
use Rattle.xsk_umem.specs.Frame.{Frame}
use Rattle.xsk_umem.specs.declared.batch.Item.{Item}
use Rattle.xsk_model.specs.Config.{Config, IsConfig, HasRing, size_of}
use Rattle.xsk_model.specs.Rings.{is_ring, places_of, producer, consumer}
use Rattle.xsk_model.specs.Marks.{HasMark, is_mark, IsMarkOwner, mark_place, mark_places_of}
use Rattle.xsk_model.specs.Object.{RingState, State, ring_at, mark_at, free, peek_reply, reply_at, ring_after, after}
use Rattle.xsk_model.specs.Entry.{Told, Entry, told, own}
use Rattle.xsk_model.specs.Own.{is_on}
use Rattle.xsk_model.specs.Legal.{IsLegal}
use Rattle.xsk_model.specs.Opening.{opening}
use Rattle.xsk_model.specs.History.{GoesOn, after_all, IsHistory, state_after}
use Rattle.xsk_model.specs.Ends.{Draining, are_none, unseen_after, found, looked, draining_after, draining_step, draining_of, Telling, telling_after, telling_step, telling_of}
use Rattle.xsk_model.specs.declared.call.Ring.{Ring}
use Rattle.xsk_model.specs.declared.call.Mark.{Mark}
use Rattle.xsk_model.specs.declared.call.Call.{Call}
use Rattle.xsk_model.specs.declared.call.Call.TheVariants.{Reserve, Submit, Peek, Release, Swap, Look}
use Rattle.xsk_model.specs.declared.call.Reply.{Reply}
use Rattle.xsk_model.specs.declared.call.Reply.TheVariants.{Granted, Full, Submitted, Items, Empty, Released, Old}
use Rattle.xsk_model.proofs.Closings.{is_mark-true, is_mark-self}
use Rattle.xsk_model.proofs.Places.{is_ring-true, place_below}
use Rattle.xsk_model.proofs.MarkPlaces.{mark_place_below, mark_place_injective}
use Rattle.xsk_model.proofs.Folds.{own-append, own-push_same, own-push_other}
use Rattle.xsk_model.proofs.Moves.{ring_at-after_same, ring_at-after_other, cond-out}
use Rattle.xsk_model.proofs.Histories.{IsSound, sound_step, opening_sound}

-- ---- marks in a list

abbrev pub has_mark : Mark → List Mark → Bool
has_mark m [] = false
has_mark m (n ∷ ns) = is_mark m n || has_mark m ns

abbrev StaysOr : Mark → List Mark → Mark → ℕ → Type 0
StaysOr m ms q number = (has_mark m ms ≡ true) ⊎ ((m ≡ q) × (number ≡ 1))

-- a mark leaves the list where it was looked at and is 1
seen_one : (m : Mark) (ms : List Mark) (q : Mark) (number : ℕ) → has_mark m ms ≡ true → StaysOr m (unseen_after ms q number) q number
seen_one m [] q number h = absurd (cc)
seen_one m (n ∷ ns) q number h = ⊎_elim
    (λ (e : (is_mark n q && eqb number 1) ≡ true).
    let both = and_parts (is_mark n q) (eqb number 1) e in
    subst (λ b. StaysOr m (cond b (unseen_after ns q number) (n ∷ unseen_after ns q number)) q number) (sym e)
    (⊎_elim
    (λ (f : is_mark m n ≡ true). inr (is_mark-true m n f ∙ is_mark-true n q both.0, eqb-true number 1 both.1))
    (λ (f : has_mark m ns ≡ true). seen_one m ns q number f)
    (or_cases (is_mark m n) (has_mark m ns) h)))
    (λ (e : (is_mark n q && eqb number 1) ≡ false).
    subst (λ b. StaysOr m (cond b (unseen_after ns q number) (n ∷ unseen_after ns q number)) q number) (sym e)
    (⊎_elim
    (λ (f : is_mark m n ≡ true). inl (or_left (is_mark m n) (has_mark m (unseen_after ns q number)) f))
    (λ (f : has_mark m ns ≡ true). ⊎_elim
    (λ (g : has_mark m (unseen_after ns q number) ≡ true). inl (or_right (is_mark m n) (has_mark m (unseen_after ns q number)) g))
    (λ (g : (m ≡ q) × (number ≡ 1)). inr g)
    (seen_one m ns q number f))
    (or_cases (is_mark m n) (has_mark m ns) h)))
    (cases_Bool (is_mark n q && eqb number 1))

none_left : (m : Mark) (ms : List Mark) → are_none ms ≡ true → has_mark m ms ≡ false
none_left m [] h = refl
none_left m (n ∷ ns) h = absurd (cc)

-- ---- what is kept

-- The mark is 1 where its owner told so; the consumer has yet to see it, or it was told; and where the consumer found the
-- ring empty after it had seen the mark, the ring is empty.
pub record Holds (m : Mark) (told : Bool) (d : Draining) (out : List Item) (mark : ℕ) : Type 0 where
  pub marked : mark ≡ 1 → told ≡ true
  pub seen : (has_mark m d.unseen ≡ true) ⊎ (told ≡ true)
  pub found_empty : d.empty ≡ true → (out ≡ []) × (told ≡ true)

same_holds : (m : Mark) (told told' : Bool) (d d' : Draining) (out out' : List Item) (mark mark' : ℕ) → told' ≡ told → d' ≡ d → out' ≡ out → mark' ≡ mark
    → Holds m told d out mark → Holds m told' d' out' mark'
same_holds m told told' d d' out out' mark mark' e f g k h =
    subst (λ x. Holds m x d' out' mark') (sym e)
    (subst (λ x. Holds m told x out' mark') (sym f)
    (subst (λ x. Holds m told d x mark') (sym g)
    (subst (λ x. Holds m told d out x) (sym k) h)))

-- ---- one call

cond_same : {A : Type 0} (b : Bool) (x : A) → cond b x x ≡ x
cond_same true x = refl
cond_same false x = refl

pub cond_told : (b : Bool) (t u : Telling) → u.told ≡ t.told → (cond b u t).told ≡ t.told
cond_told true t u h = h
cond_told false t u h = refl

found_other : (r : Ring) (d : Draining) (q : Ring) (reply : Reply) → is_ring r q ≡ false → found r d q reply ≡ d
found_other r d q Granted h = refl
found_other r d q (Full places) h = refl
found_other r d q Submitted h = refl
found_other r d q (Items items) h = ap (λ b. cond b (record d { empty = false }) d) h
found_other r d q Empty h = ap (λ b. cond b (record d { empty = are_none d.unseen }) d) h
found_other r d q Released h = refl
found_other r d q (Old number) h = refl

-- what a Submit leaves where it isn't late
not_late : (late told on : Bool) → (late || (told && on)) ≡ false → on ≡ true → told ≡ false
not_late late true true h e = (or_parts late true h).1
not_late late true false h e = absurd (cc)
not_late late false on h e = refl

submit_holds : (m : Mark) (told : Bool) (d : Draining) (out out' : List Item) (mark : ℕ) → told ≡ false → Holds m told d out mark → Holds m told d out' mark
submit_holds m told d out out' mark e h = record {
  marked = h.marked;
  seen = h.seen;
  found_empty = λ f. let both = h.found_empty f in absurd (cc (both.1));
}

-- what a Peek leaves
peek_holds : (m : Mark) (told : Bool) (r q : Ring) (d : Draining) (n : ℕ) (out : List Item) (mark : ℕ) → is_ring r q ≡ true → Holds m told d out mark
    → Holds m told (found r d q (peek_reply n out)) (drop n out) mark
peek_holds m told r q d n [] mark e h =
    subst (λ b. Holds m told (cond b (record d { empty = are_none d.unseen }) d) (drop n []) mark) (sym e)
    (record {
      marked = h.marked;
      seen = h.seen;
      found_empty = λ f. (drop_none n, ⊎_elim (λ (g : has_mark m d.unseen ≡ true). let k = none_left m d.unseen f in absurd (cc)) (λ (g : told ≡ true). g) h.seen);
    })
  where
    drop_none : (n : ℕ) → ◌≡◌ {A = List Item} (drop n []) []
    drop_none zero = refl
    drop_none (suc n) = refl
peek_holds m told r q d n (item ∷ out) mark e h =
    subst (λ b. Holds m told (cond b (record d { empty = false }) d) (drop n (item ∷ out)) mark) (sym e)
    (record {
      marked = h.marked;
      seen = h.seen;
      found_empty = λ f. absurd (cc);
    })

-- what a Look leaves
look_holds : (m q : Mark) (told : Bool) (d : Draining) (out : List Item) (mark number : ℕ) (by : Bool) → (m ≡ q → number ≡ mark) → Holds m told d out mark
    → Holds m told (cond by (record d { unseen = unseen_after d.unseen q number }) d) out mark
look_holds m q told d out mark number false same h = h
look_holds m q told d out mark number true same h = record {
  marked = h.marked;
  seen = ⊎_elim
      (λ (e : has_mark m d.unseen ≡ true). ⊎_elim
      (λ (f : has_mark m (unseen_after d.unseen q number) ≡ true). inl f)
      (λ (f : (m ≡ q) × (number ≡ 1)). inr (h.marked (sym (same f.0) ∙ f.1)))
      (seen_one m d.unseen q number e))
      (λ (e : told ≡ true). inr e)
      h.seen;
  found_empty = h.found_empty;
}

-- what a Swap leaves: what was told stays told, and the mark is 1 only where it was told
swap_holds : (m : Mark) (told told' : Bool) (d : Draining) (out : List Item) (mark mark' : ℕ) → (told ≡ true → told' ≡ true) → (mark' ≡ 1 → told' ≡ true)
    → Holds m told d out mark → Holds m told' d out mark'
swap_holds m told told' d out mark mark' stays marked h = record {
  marked = marked;
  seen = ⊎_elim (λ (e : has_mark m d.unseen ≡ true). inl e) (λ (e : told ≡ true). inr (stays e)) h.seen;
  found_empty = λ f. let both = h.found_empty f in (both.0, stays both.1);
}

-- ---- one entry

own_fold : {A : Type 0} (f : A → Told → A) (a : A) (who : ℕ) (past : List Entry) (e : Entry)
    → fold f a (own who (past ++ e ∷ [])) ≡ cond (eqb e.who who) (f (fold f a (own who past)) (told e)) (fold f a (own who past))
own_fold f a who past e = ⊎_elim
    (λ (h : e.who ≡ who).
    ap (fold f a) (own-push_same who past e h) ∙ fold_push f a (own who past) (told e)
    ∙ ap (λ b. cond b (f (fold f a (own who past)) (told e)) (fold f a (own who past))) (sym (eq-eqb e.who who h)))
    (λ (h : e.who ≡ who → ⊥).
    ap (fold f a) (own-push_other who past e h)
    ∙ ap (λ b. cond b (f (fold f a (own who past)) (told e)) (fold f a (own who past))) (sym (ne_eqb e.who who h)))
    (cases_eq e.who who)

module _ (c : Config) (m : Mark) (r : Ring) (config : IsConfig c) (ring : HasRing c r) (known : HasMark c m)
    (owned : (who : ℕ) → IsMarkOwner c who m → who ≡ producer c r) where
  -- what is kept over a call by someone: what the producer told, and what the consumer found
  abbrev HoldsAfter : State → ℕ → Call → Reply → Telling → Draining → Type 0
  HoldsAfter s who call reply t d =
      Holds m (cond (eqb who (producer c r)) (telling_after m r t call) t).told (cond (eqb who (consumer c r)) (draining_after r d call reply) d)
      (ring_at c (after c s who call) r).out (mark_at c (after c s who call) m)

  abbrev HoldsNow : State → Telling → Draining → Type 0
  HoldsNow s t d = Holds m t.told d (ring_at c s r).out (mark_at c s m)

  -- the items of another ring
  out_other : (s : State) (who : ℕ) (mine : List Told) (call : Call) → IsLegal c mine who call → is_on r call ≡ false
      → (ring_at c (after c s who call) r).out ≡ (ring_at c s r).out
  out_other s who mine call legal off = ap (λ (x : RingState). x.out) (ring_at-after_other c s who call r ring legal.known off)

  out_same : (s : State) (who : ℕ) (mine : List Told) (call : Call) → IsLegal c mine who call → length s.rings ≡ places_of c → is_on r call ≡ true
      → (ring_at c (after c s who call) r).out ≡ (ring_after (size_of c r) (ring_at c s r) call).out
  out_same s who mine call legal len on =
      ap (λ (x : RingState). x.out) (ring_at-after_same c s who call r ring legal.known (omega (arith, len, place_below c r ring)) on)

  call_holds : (s : State) (who : ℕ) (mine : List Told) (call : Call) (reply : Reply) (t : Telling) (d : Draining)
      → length s.rings ≡ places_of c → length s.marks ≡ mark_places_of c → IsLegal c mine who call → reply ≡ reply_at c s call
      → (cond (eqb who (producer c r)) (telling_after m r t call) t).late ≡ false
      → HoldsNow s t d → HoldsAfter s who call reply t d
  call_holds s who mine (Reserve q n) reply t d rings marks legal replied late h =
      same_holds m t.told _ d _ (ring_at c s r).out _ (mark_at c s m) _
      (cond_told (eqb who (producer c r)) t t refl) (cond_same (eqb who (consumer c r)) d)
      (⊎_elim
      (λ (on : is_ring r q ≡ true). out_same s who mine (Reserve q n) legal rings on ∙ cond-out (nat_le n (free (size_of c r) (ring_at c s r))) (ring_at c s r) n)
      (λ (off : is_ring r q ≡ false). out_other s who mine (Reserve q n) legal off)
      (cases_Bool (is_ring r q)))
      refl h
  call_holds s who mine (Submit q items) reply t d rings marks legal replied late h = ⊎_elim
      (λ (on : is_ring r q ≡ true).
      let by : who ≡ producer c r = legal.role ∙ ap (producer c) (sym (is_ring-true r q on)) in
      let now : (telling_after m r t (Submit q items)).late ≡ false = subst (λ b. (cond b (telling_after m r t (Submit q items)) t).late ≡ false) (eq-eqb who (producer c r) by) late in
      let untold : t.told ≡ false = not_late t.late t.told (is_ring r q) now on in
      same_holds m t.told _ d _ (ring_at c (after c s who (Submit q items)) r).out _ (mark_at c s m) _
      (cond_told (eqb who (producer c r)) t (telling_after m r t (Submit q items)) refl) (cond_same (eqb who (consumer c r)) d) refl refl
      (submit_holds m t.told d (ring_at c s r).out (ring_at c (after c s who (Submit q items)) r).out (mark_at c s m) untold h))
      (λ (off : is_ring r q ≡ false).
      same_holds m t.told _ d _ (ring_at c s r).out _ (mark_at c s m) _
      (cond_told (eqb who (producer c r)) t (telling_after m r t (Submit q items)) refl) (cond_same (eqb who (consumer c r)) d)
      (out_other s who mine (Submit q items) legal off) refl h)
      (cases_Bool (is_ring r q))
  call_holds s who mine (Peek q n) reply t d rings marks legal replied late h = ⊎_elim
      (λ (on : is_ring r q ≡ true).
      let by : who ≡ consumer c r = legal.role ∙ ap (consumer c) (sym (is_ring-true r q on)) in
      let gave : reply ≡ peek_reply n (ring_at c s r).out = replied ∙ ap (λ x. peek_reply n (ring_at c s x).out) (sym (is_ring-true r q on)) in
      same_holds m t.told _ (found r d q (peek_reply n (ring_at c s r).out)) _ (drop n (ring_at c s r).out) _ (mark_at c s m) _
      (cond_told (eqb who (producer c r)) t t refl)
      (ap (λ b. cond b (found r d q reply) d) (eq-eqb who (consumer c r) by) ∙ ap (found r d q) gave)
      (out_same s who mine (Peek q n) legal rings on) refl
      (peek_holds m t.told r q d n (ring_at c s r).out (mark_at c s m) on h))
      (λ (off : is_ring r q ≡ false).
      same_holds m t.told _ d _ (ring_at c s r).out _ (mark_at c s m) _
      (cond_told (eqb who (producer c r)) t t refl)
      (ap (λ x. cond (eqb who (consumer c r)) x d) (found_other r d q reply off) ∙ cond_same (eqb who (consumer c r)) d)
      (out_other s who mine (Peek q n) legal off) refl h)
      (cases_Bool (is_ring r q))
  call_holds s who mine (Release q n) reply t d rings marks legal replied late h =
      same_holds m t.told _ d _ (ring_at c s r).out _ (mark_at c s m) _
      (cond_told (eqb who (producer c r)) t t refl) (cond_same (eqb who (consumer c r)) d)
      (⊎_elim
      (λ (on : is_ring r q ≡ true). out_same s who mine (Release q n) legal rings on)
      (λ (off : is_ring r q ≡ false). out_other s who mine (Release q n) legal off)
      (cases_Bool (is_ring r q)))
      refl h
  call_holds s who mine (Swap q value) reply t d rings marks legal replied late h =
      same_holds m _ _ d _ (ring_at c s r).out _ (mark_at c (after c s who (Swap q value)) m) _
      refl (cond_same (eqb who (consumer c r)) d) refl refl
      (swap_holds m t.told (cond (eqb who (producer c r)) (telling_after m r t (Swap q value)) t).told d (ring_at c s r).out (mark_at c s m) (mark_at c (after c s who (Swap q value)) m)
      (told_stays (eqb who (producer c r)) t (is_mark m q && eqb value 1))
      (⊎_elim
      (λ (e : mark_place c m ≡ mark_place c q) (one : get_or (set s.marks (mark_place c q) value) (mark_place c m) 0 ≡ 1).
      let same : m ≡ q = mark_place_injective c m q config known legal.known e in
      let by : who ≡ producer c r = owned who (subst (IsMarkOwner c who) (sym same) legal.role.0) in
      let within : mark_place c m < length s.marks = omega (arith, marks, mark_place_below c m config known) in
      let now : get_or (set s.marks (mark_place c q) value) (mark_place c m) 0 ≡ value =
      ap (λ k. get_or (set s.marks k value) (mark_place c m) 0) (sym e) ∙ get_or-set_same s.marks (mark_place c m) value 0 within in
      told_now (eqb who (producer c r)) t (is_mark m q) (eqb value 1) (eq-eqb who (producer c r) by)
      (subst (λ x. is_mark m x ≡ true) same (is_mark-self m)) (eq-eqb value 1 (sym now ∙ one)))
      (λ (apart : mark_place c m ≡ mark_place c q → ⊥) (one : get_or (set s.marks (mark_place c q) value) (mark_place c m) 0 ≡ 1).
      told_stays (eqb who (producer c r)) t (is_mark m q && eqb value 1)
      (h.marked (sym (get_or-set_other s.marks (mark_place c q) (mark_place c m) value 0 apart) ∙ one)))
      (cases_eq (mark_place c m) (mark_place c q)))
      h)
    where
      told_stays : (by : Bool) (t : Telling) (more : Bool) → t.told ≡ true → (cond by (record t { told = t.told || more }) t).told ≡ true
      told_stays true t more e = or_left t.told more e
      told_stays false t more e = e

      told_now : (by : Bool) (t : Telling) (here one : Bool) → by ≡ true → here ≡ true → one ≡ true → (cond by (record t { told = t.told || (here && one) }) t).told ≡ true
      told_now true t true true e f g = or_right t.told true refl
      told_now true t true false e f g = absurd (cc)
      told_now true t false one e f g = absurd (cc)
      told_now false t here one e f g = absurd (cc)
  call_holds s who mine (Look q) reply t d rings marks legal replied late h =
      same_holds m t.told _ (cond (eqb who (consumer c r)) (looked d q (Old (mark_at c s q))) d) _ (ring_at c s r).out _ (mark_at c s m) _
      (cond_told (eqb who (producer c r)) t t refl)
      (ap (λ x. cond (eqb who (consumer c r)) (looked d q x) d) replied) refl refl
      (look_holds m q t.told d (ring_at c s r).out (mark_at c s m) (mark_at c s q) (eqb who (consumer c r)) (λ e. ap (mark_at c s) (sym e)) h)

-- ---- all entries

-- what was late stays so
late_step : (m : Mark) (r : Ring) (t : Telling) (call : Call) → (telling_after m r t call).late ≡ false → t.late ≡ false
late_step m r t (Reserve q n) h = h
late_step m r t (Submit q items) h = (or_parts t.late (t.told && is_ring r q) h).0
late_step m r t (Peek q n) h = h
late_step m r t (Release q n) h = h
late_step m r t (Swap q value) h = h
late_step m r t (Look q) h = h

late_all : (m : Mark) (r : Ring) (t : Telling) (l : List Told) → (fold (telling_step m r) t l).late ≡ false → t.late ≡ false
late_all m r t [] h = h
late_all m r t (x ∷ l) h = late_step m r t x.call (late_all m r (telling_step m r t x) l h)

-- so nothing was late before
late_before : (m : Mark) (r : Ring) (who : ℕ) (past more : List Entry) → (telling_of m r (own who (past ++ more))).late ≡ false
    → (telling_of m r (own who past)).late ≡ false
late_before m r who past more h =
    late_all m r (telling_of m r (own who past)) (own who more)
    (subst (λ (t : Telling). t.late ≡ false) (ap (telling_of m r) (own-append who past more) ∙ fold-append (telling_step m r) (record { told = false; late = false }) (own who past) (own who more)) h)

module _ (c : Config) (frames : List Frame) (ms : List Mark) (m : Mark) (r : Ring) (config : IsConfig c) (ring : HasRing c r) (known : HasMark c m)
    (owned : (who : ℕ) → IsMarkOwner c who m → who ≡ producer c r) where
  abbrev HoldsAt : State → List Entry → Type 0
  HoldsAt s past = Holds m (telling_of m r (own (producer c r) past)).told (draining_of ms r (own (consumer c r) past)) (ring_at c s r).out (mark_at c s m)

  entry_holds : (s : State) (past : List Entry) (e : Entry) → IsSound c frames s past → IsLegal c (own e.who past) e.who e.call → e.reply ≡ reply_at c s e.call
      → (telling_of m r (own (producer c r) (past ++ e ∷ []))).late ≡ false → HoldsAt s past → HoldsAt (after c s e.who e.call) (past ++ e ∷ [])
  entry_holds s past e sound legal replied late h =
      let t = telling_of m r (own (producer c r) past) in
      let d = draining_of ms r (own (consumer c r) past) in
      let told_after = own_fold (telling_step m r) (record { told = false; late = false }) (producer c r) past e in
      let found_after = own_fold (draining_step r) (record { unseen = ms; empty = false }) (consumer c r) past e in
      same_holds m (cond (eqb e.who (producer c r)) (telling_after m r t e.call) t).told _ (cond (eqb e.who (consumer c r)) (draining_after r d e.call e.reply) d) _ _ _ _ _
      (ap (λ (x : Telling). x.told) told_after) found_after refl refl
      (call_holds c m r config ring known owned s e.who (own e.who past) e.call e.reply t d sound.rings sound.marks legal replied
      (subst (λ (x : Telling). x.late ≡ false) told_after late) h)

  all_hold : (s : State) (past h : List Entry) → IsSound c frames s past → GoesOn c s past h → (telling_of m r (own (producer c r) (past ++ h))).late ≡ false
      → HoldsAt s past → HoldsAt (after_all c s h) (past ++ h)
  all_hold s past [] sound goes late holds = subst (HoldsAt s) (sym (append-nil past)) holds
  all_hold s past (e ∷ es) sound goes late holds =
      let one : past ++ e ∷ es ≡ (past ++ e ∷ []) ++ es = sym (append_assoc past (e ∷ []) es) in
      let later : (telling_of m r (own (producer c r) ((past ++ e ∷ []) ++ es))).late ≡ false = subst (λ p. (telling_of m r (own (producer c r) p)).late ≡ false) one late in
      subst (HoldsAt (after_all c (after c s e.who e.call) es)) (sym one)
      (all_hold (after c s e.who e.call) (past ++ e ∷ []) es (sound_step c frames s past e config sound goes.0 goes.1) goes.2 later
      (entry_holds s past e sound goes.0 goes.1 (late_before m r (producer c r) (past ++ e ∷ []) es later) holds))

  -- what is kept of it after a history
  pub holds_after : (h : List Entry) → IsHistory c frames h → has_mark m ms ≡ true → mark_at c (opening c frames) m ≡ 0 → (telling_of m r (own (producer c r) h)).late ≡ false
      → HoldsAt (state_after c frames h) h
  holds_after h history listed unset late =
      let first : HoldsAt (opening c frames) [] = record { marked = λ e. absurd (omega (arith, e, unset)); seen = inl listed; found_empty = λ e. absurd (cc) } in
      all_hold (opening c frames) [] h (opening_sound c frames history.opened) history.legal late first

  -- the ring is empty at the end
  pub emptied : (h : List Entry) → IsHistory c frames h → has_mark m ms ≡ true → mark_at c (opening c frames) m ≡ 0
      → (draining_of ms r (own (consumer c r) h)).empty ≡ true → (telling_of m r (own (producer c r) h)).late ≡ false
      → (ring_at c (state_after c frames h) r).out ≡ []
  emptied h history listed unset empty late = ((holds_after h history listed unset late).found_empty empty).0
