-- What a driver watches, its kick, and what its application owes it, along a history: where it watches a ring and entries come
-- to it, or its end, its kick is set or its application owes it one.
use Rattle.std.proofs.Common.{◌≡◌, ◌≢◌, ℕ, zero, suc, ◌≤◌, ◌⊎◌, inl, inr, Bool, true, false, cond, not, eqb, ◌&&◌, ◌||◌, List, [], ◌∷◌, ◌++◌, length, refl, sym, ap, subst, ◌∙◌, ⊎_elim, arith, append-nil, length-append}
use Rattle.std.specs.List.{fold}
use Rattle.std.proofs.lemmas.Bool.{cases_eq, eq-eqb, ne_eqb}
use Rattle.std.proofs.lemmas.List.Sums.{fold_push}
use Rattle.xsk_umem.specs.Frame.{Frame}
use Rattle.xsk_umem.specs.declared.batch.Item.{Item}
use Rattle.xsk_model.specs.Config.{Config, IsConfig, HasRing, size_of}
use Rattle.xsk_model.specs.Rings.{is_ring, producer, consumer}
use Rattle.xsk_model.specs.Marks.{HasMark, IsMarkNumber, IsMarkOwner, is_mark}
use Rattle.xsk_model.specs.Object.{RingState, State, ring_at, mark_at, reply_at, peek_reply, ring_after, submitted, taken, after}
use Rattle.xsk_model.specs.Entry.{Told, Entry, told, own}
use Rattle.xsk_model.specs.Own.{is_on}
use Rattle.xsk_model.specs.Legal.{IsLegal}
use Rattle.xsk_model.specs.declared.call.Ring.{Ring}
use Rattle.xsk_model.specs.declared.call.Mark.{Mark}
use Rattle.xsk_model.specs.declared.call.Mark.TheVariants.{Kick}
use Rattle.xsk_model.specs.declared.call.Call.{Call}
use Rattle.xsk_model.specs.declared.call.Call.TheVariants.{Reserve, Submit, Peek, Release, Swap, Look}
use Rattle.xsk_model.specs.declared.call.Reply.{Reply}
use Rattle.xsk_model.specs.declared.call.Reply.TheVariants.{Granted, Full, Submitted, Items, Empty, Released, Old}
use Rattle.xsk_model.proofs.Places.{is_ring-true, place_below}
use Rattle.xsk_model.proofs.Folds.{own-append}
use Rattle.xsk_model.proofs.Changes.{mark_set, mark_stays}
use Rattle.xsk_model.proofs.Moves.{ring_reply, ring_after-out, ring_at-after, ring_at-after_other}
use Rattle.xsk_model.proofs.Histories.{IsSound}
use Rattle.xsk_model.proofs.Along.{Keeps}
use Rattle.xsk_turns.specs.AppLaw.{SetsKick, SetsKicks}
use Rattle.xsk_turns.specs.Watching.{Watching, peeked, watching_after, watching_step, watching_of}
use Rattle.xsk_turns.specs.Wakes.{looked_at, owes_after, owes_step, owes_on}
use Rattle.xsk_model.proofs.Closings.{is_mark-true, is_mark-self}

-- ---- folds over a caller's own entries

push_where : {A : Type 0} (step : A → Told → A) (first : A) (l : List Told) (t : Told) (b : Bool)
    → fold step first (l ++ cond b (t ∷ []) []) ≡ cond b (step (fold step first l) t) (fold step first l)
push_where step first l t true = fold_push step first l t
push_where step first l t false = ap (fold step first) (append-nil l)

-- one entry more of any caller
pub own_fold : {A : Type 0} (step : A → Told → A) (first : A) (who : ℕ) (past : List Entry) (e : Entry)
    → fold step first (own who (past ++ e ∷ [])) ≡ cond (eqb e.who who) (step (fold step first (own who past)) (told e)) (fold step first (own who past))
own_fold step first who past e = ap (fold step first) (own-append who past (e ∷ [])) ∙ push_where step first (own who past) (told e) (eqb e.who who)

pub same_both : {A : Type 0} (b : Bool) (x : A) → cond b x x ≡ x
same_both true x = refl
same_both false x = refl

-- what all of a caller's entries meet, those before the last meet, and the last where it is the caller's
pub sets_front : (l m : List Told) → SetsKicks (l ++ m) → SetsKicks l × SetsKicks m
sets_front [] m h = (tt, h)
sets_front (t ∷ l) m h = let rest = sets_front l m h.1 in ((h.0, rest.0), rest.1)

pub sets_before : (who : ℕ) (past : List Entry) (e : Entry) → SetsKicks (own who (past ++ e ∷ [])) → SetsKicks (own who past) × (e.who ≡ who → SetsKick e.call)
sets_before who past e h =
    let parts = sets_front (own who past) (own who (e ∷ [])) (subst SetsKicks (own-append who past (e ∷ [])) h) in
    (parts.0, λ same. (subst (λ b. SetsKicks (cond b (told e ∷ []) [])) (eq-eqb e.who who same) parts.1).0)

-- ---- what is watched

-- The flag tells whether it is set, what is watched has its flag set, and where that is due which is watched for, the kick is set
-- or owed.
pub record IsKept (s : Watching) (owes : Bool) (flag kick : ℕ) (due : Type 0) : Type 0 where
  pub set : flag ≡ cond s.set 1 0
  pub armed : s.watched ≡ true → s.set ≡ true
  pub woken : s.watched ≡ true → due → (kick ≡ 1) ⊎ (owes ≡ true)

-- where nothing is lost of it
pub still : (s t : Watching) (owes owed : Bool) (flag kick flag' kick' : ℕ) (due due' : Type 0) → t ≡ s → flag' ≡ flag → kick' ≡ kick → (owes ≡ true → owed ≡ true) → (due' → due)
    → IsKept s owes flag kick due → IsKept t owed flag' kick' due'
still s t owes owed flag kick flag' kick' due due' e f g on before h = record {
  set = f ∙ h.set ∙ ap (λ w. cond w.set 1 0) (sym e);
  armed = λ watched. ap (λ w. w.set) e ∙ h.armed (ap (λ w. w.watched) (sym e) ∙ watched);
  woken = λ watched x. ⊎_elim (λ (k : kick ≡ 1). inl (g ∙ k)) (λ (o : owes ≡ true). inr (on o)) (h.woken (ap (λ w. w.watched) (sym e) ∙ watched) (before x));
}

-- where it isn't watched any more
pub unwatched : (s : Watching) (owes : Bool) (flag kick : ℕ) (due : Type 0) → s.watched ≡ false → flag ≡ cond s.set 1 0 → IsKept s owes flag kick due
unwatched s owes flag kick due e f = record {
  set = f;
  armed = λ watched. absurd (let no : false ≡ true = sym e ∙ watched in cc);
  woken = λ watched x. absurd (let no : false ≡ true = sym e ∙ watched in cc);
}

-- where the kick is set or owed
pub comes : (s t : Watching) (owes owed : Bool) (flag kick flag' kick' : ℕ) (due due' : Type 0) → t ≡ s → flag' ≡ flag → (due' → (kick' ≡ 1) ⊎ (owed ≡ true))
    → IsKept s owes flag kick due → IsKept t owed flag' kick' due'
comes s t owes owed flag kick flag' kick' due due' e f now h = record {
  set = f ∙ h.set ∙ ap (λ w. cond w.set 1 0) (sym e);
  armed = λ watched. ap (λ w. w.set) e ∙ h.armed (ap (λ w. w.watched) (sym e) ∙ watched);
  woken = λ watched x. now x;
}

pub folded : (s t : Watching) (owes owed : Bool) (flag kick : ℕ) (due : Type 0) → s ≡ t → owes ≡ owed → IsKept t owed flag kick due → IsKept s owes flag kick due
folded s t owes owed flag kick due e f h = subst (λ x. IsKept x owes flag kick due) (sym e) (subst (λ o. IsKept t o flag kick due) (sym f) h)

pub number_set : (value : ℕ) → value ≤ 1 → value ≡ cond (eqb value 1) 1 0
number_set zero h = refl
number_set (suc zero) h = refl
number_set (suc (suc n)) h = absurd (omega arith)

other_swap : (m q : Mark) (value : ℕ) → is_mark m q ≡ false → (v : ℕ) → Swap q value ≢ Swap m v
other_swap m q value off v e =
    let same : q ≡ m = cc in
    absurd (let no : false ≡ true = sym off ∙ ap (is_mark m) same ∙ is_mark-self m in cc)

-- ---- a ring with its flag

pub record IsTarget (c : Config) (d w : ℕ) (r : Ring) (flag : Mark) : Type 0 where
  pub ring : HasRing c r
  pub marked : HasMark c flag
  pub kicked : HasMark c (Kick d)
  pub consumes : consumer c r ≡ d
  pub produces : producer c r ≡ w
  pub numbers : (value : ℕ) → IsMarkNumber c flag value → value ≤ 1
  pub owns : (who : ℕ) → IsMarkOwner c who flag → who ≡ d
  pub wakes : (who : ℕ) → IsMarkOwner c who (Kick d) → (who ≡ d → ⊥) → who ≡ w
  pub apart : is_mark flag (Kick d) ≡ false

owes_more : (b o x : Bool) → o ≡ true → x ≡ false → cond b (o && not x) o ≡ true
owes_more true true x e f = ap not f
owes_more true false x e f = absurd (cc)
owes_more false o x e f = e

owes_or : (b o x : Bool) → o ≡ true → cond b (o || x) o ≡ true
owes_or true true x e = refl
owes_or true false x e = absurd (cc)
owes_or false o x e = e

or_true : (b : Bool) → (b || true) ≡ true
or_true true = refl
or_true false = refl

peeked_other : (r q : Ring) (s : Watching) (reply : Reply) → is_ring r q ≡ false → peeked r s q reply ≡ s
peeked_other r q s Granted e = refl
peeked_other r q s (Full free) e = refl
peeked_other r q s Submitted e = refl
peeked_other r q s (Items items) e = ap (λ b. let t : Watching = cond b (record s { watched = false }) s in t) e
peeked_other r q s Empty e = ap (λ b. let t : Watching = cond b (record s { watched = s.set }) s in t) e
peeked_other r q s Released e = refl
peeked_other r q s (Old number) e = refl

module _ (c : Config) (frames : List Frame) (config : IsConfig c) (s : State) (past : List Entry) (sound : IsSound c frames s past) (who : ℕ) where
  abbrev then : Call → State
  then call = after c s who call

  -- no more entries wait on a ring where none was submitted
  fewer : (call : Call) (r : Ring) → IsLegal c (own who past) who call → HasRing c r → submitted call ≡ [] → length (ring_at c (then call) r).out ≤ length (ring_at c s r).out
  fewer call r legal has none = by (is_on r call) (ring_at-after c s who call r has legal.known (omega (arith, sound.rings, place_below c r has)))
    where
      by : (b : Bool) → ring_at c (then call) r ≡ cond b (ring_after (size_of c r) (ring_at c s r) call) (ring_at c s r) → length (ring_at c (then call) r).out ≤ length (ring_at c s r).out
      by true e =
          let ring = ring_at c s r in
          let now = ring_after (size_of c r) ring call in
          let moved = ring_after-out (size_of c r) ring call ∙ ap (λ xs. ring.out ++ xs) none ∙ append-nil ring.out in
          omega (arith, ap (λ (x : RingState). length x.out) e, ap length moved, length-append (taken (ring_reply (size_of c r) ring call)) now.out)
      by false e = omega (arith, ap (λ (x : RingState). length x.out) e)

  -- a mark that a Swap leaves
  pub left : (m q : Mark) (value : ℕ) → HasMark c m → IsLegal c (own who past) who (Swap q value) → is_mark m q ≡ false → mark_at c (then (Swap q value)) m ≡ mark_at c s m
  left m q value has legal off = mark_stays c s (own who past) who (Swap q value) m config has legal (other_swap m q value off)

  pub now_set : (m : Mark) (value : ℕ) → HasMark c m → mark_at c (then (Swap m value)) m ≡ value
  now_set m value has = mark_set c s who m value config has sound.marks

  module _ (d w : ℕ) (r : Ring) (flag : Mark) (is : IsTarget c d w r flag) (seen : Watching) (owes : Bool) where
    abbrev Waits : State → Type 0
    Waits x = 1 ≤ length (ring_at c x r).out

    abbrev Before : Type 0
    Before = IsKept seen owes (mark_at c s flag) (mark_at c s (Kick d)) (Waits s)

    -- what is kept after a call with its reply
    abbrev After : Call → Reply → Type 0
    After call reply = IsKept (cond (eqb who d) (watching_after flag r (Kick d) seen call reply) seen) (cond (eqb who w) (owes_after r flag (Kick d) owes call reply) owes)
        (mark_at c (then call) flag) (mark_at c (then call) (Kick d)) (Waits (then call))

    -- a call of which nothing is seen
    unseen : (call : Call) (reply : Reply) → watching_after flag r (Kick d) seen call reply ≡ seen → owes_after r flag (Kick d) owes call reply ≡ owes
        → mark_at c (then call) flag ≡ mark_at c s flag → mark_at c (then call) (Kick d) ≡ mark_at c s (Kick d) → (Waits (then call) → Waits s) → Before → After call reply
    unseen call reply e f flags kicks waits h =
        still seen _ owes _ _ _ _ _ _ _ (ap (λ x. cond (eqb who d) x seen) e ∙ same_both (eqb who d) seen) flags kicks
        (λ o. ap (λ x. cond (eqb who w) x owes) f ∙ same_both (eqb who w) owes ∙ o) waits h

    on_reserve : (q : Ring) (n : ℕ) (reply : Reply) → IsLegal c (own who past) who (Reserve q n) → Before → After (Reserve q n) reply
    on_reserve q n reply legal h = unseen (Reserve q n) reply refl refl refl refl (λ k. omega (arith, k, fewer (Reserve q n) r legal is.ring refl)) h

    on_release : (q : Ring) (n : ℕ) (reply : Reply) → IsLegal c (own who past) who (Release q n) → Before → After (Release q n) reply
    on_release q n reply legal h = unseen (Release q n) reply refl refl refl refl (λ k. omega (arith, k, fewer (Release q n) r legal is.ring refl)) h

    on_submit : (q : Ring) (items : List Item) (reply : Reply) → IsLegal c (own who past) who (Submit q items) → Before → After (Submit q items) reply
    on_submit q items reply legal h = by (is_ring r q) refl
      where
        quiet : cond (eqb who d) seen seen ≡ seen
        quiet = same_both (eqb who d) seen

        by : (b : Bool) → is_ring r q ≡ b → After (Submit q items) reply
        by true e =
            let produces : who ≡ w = legal.role ∙ ap (producer c) (sym (is_ring-true r q e)) ∙ is.produces in
            let owed : cond (eqb who w) (owes || is_ring r q) owes ≡ true = ap (λ b. cond b (owes || is_ring r q) owes) (eq-eqb who w produces) ∙ ap (λ b. owes || b) e ∙ or_true owes in
            comes seen _ owes _ _ _ _ _ _ _ quiet refl (λ x. inr owed) h
        by false e =
            let same = ring_at-after_other c s who (Submit q items) r is.ring legal.known e in
            still seen _ owes _ _ _ _ _ _ _ quiet refl refl (owes_or (eqb who w) owes (is_ring r q)) (λ k. subst (λ (x : RingState). 1 ≤ length x.out) same k) h

    on_peek : (q : Ring) (n : ℕ) (reply : Reply) → IsLegal c (own who past) who (Peek q n) → reply ≡ peek_reply n (ring_at c s q).out → Before → After (Peek q n) reply
    on_peek q n reply legal e h = by (is_ring r q) refl
      where
        less : length (ring_at c (then (Peek q n)) r).out ≤ length (ring_at c s r).out
        less = fewer (Peek q n) r legal is.ring refl

        -- the driver peeks the ring
        found : (out : List Item) → is_ring r q ≡ true → (ring_at c s r).out ≡ out → reply ≡ peek_reply n out → who ≡ d → After (Peek q n) reply
        found [] f g k mine =
            let t : Watching = record seen { watched = seen.set } in
            let now : cond (eqb who d) (peeked r seen q reply) seen ≡ t =
            ap (λ b. cond b (peeked r seen q reply) seen) (eq-eqb who d mine) ∙ ap (peeked r seen q) k ∙ ap (λ b. let x : Watching = cond b t seen in x) f in
            let none : IsKept t owes (mark_at c s flag) (mark_at c s (Kick d)) (Waits s) =
            record { set = h.set; armed = λ watched. watched; woken = λ watched x. absurd (omega (arith, x, ap length g)) } in
            comes t _ owes _ _ _ _ _ (Waits s) _ now refl (λ x. absurd (omega (arith, x, less, ap length g))) none
        found (item ∷ out) f g k mine =
            let t : Watching = record seen { watched = false } in
            let now : cond (eqb who d) (peeked r seen q reply) seen ≡ t =
            ap (λ b. cond b (peeked r seen q reply) seen) (eq-eqb who d mine) ∙ ap (peeked r seen q) k ∙ ap (λ b. let x : Watching = cond b t seen in x) f in
            unwatched _ _ _ _ _ (ap (λ x. x.watched) now) (h.set ∙ ap (λ x. cond x.set 1 0) (sym now))

        by : (b : Bool) → is_ring r q ≡ b → After (Peek q n) reply
        by true f =
            let same = is_ring-true r q f in
            found (ring_at c s r).out f refl (e ∙ ap (λ p. peek_reply n (ring_at c s p).out) (sym same)) (legal.role ∙ ap (consumer c) (sym same) ∙ is.consumes)
        by false f = unseen (Peek q n) reply (peeked_other r q seen reply f) refl refl refl (λ k. omega (arith, k, less)) h

    on_swap : (m : Mark) (value : ℕ) (reply : Reply) → IsLegal c (own who past) who (Swap m value) → (who ≡ w → SetsKick (Swap m value)) → Before → After (Swap m value) reply
    on_swap m value reply legal sets h = by (is_mark flag m) (is_mark (Kick d) m) refl refl
      where
        -- its flag, which only the driver swaps
        at_flag : m ≡ flag → is_mark flag m ≡ true → After (Swap m value) reply
        at_flag same e =
            let mine = is.owns who (subst (IsMarkOwner c who) same legal.role.0) in
            let t : Watching = record { set = eqb value 1; watched = false } in
            let now : cond (eqb who d) (watching_after flag r (Kick d) seen (Swap m value) reply) seen ≡ t =
            ap (λ b. cond b (watching_after flag r (Kick d) seen (Swap m value) reply) seen) (eq-eqb who d mine)
            ∙ ap (λ b. let x : Watching = cond b t (cond (is_mark (Kick d) m) (record seen { watched = false }) seen) in x) e in
            unwatched _ _ _ _ _ (ap (λ x. x.watched) now)
            (ap (λ p. mark_at c (then (Swap p value)) flag) same ∙ now_set flag value is.marked ∙ number_set value (is.numbers value (subst (λ p. IsMarkNumber c p value) same legal.counted))
            ∙ ap (λ x. cond x.set 1 0) (sym now))

        -- its kick, which the driver clears and the application sets
        at_kick : m ≡ Kick d → is_mark flag m ≡ false → is_mark (Kick d) m ≡ true → After (Swap m value) reply
        at_kick same off e = ⊎_elim
            (λ (mine : who ≡ d).
            let t : Watching = record seen { watched = false } in
            let now : cond (eqb who d) (watching_after flag r (Kick d) seen (Swap m value) reply) seen ≡ t =
            ap (λ b. cond b (watching_after flag r (Kick d) seen (Swap m value) reply) seen) (eq-eqb who d mine)
            ∙ ap (λ b. let x : Watching = cond b (record { set = eqb value 1; watched = false }) (cond (is_mark (Kick d) m) t seen) in x) off
            ∙ ap (λ b. let x : Watching = cond b t seen in x) e in
            unwatched _ _ _ _ _ (ap (λ x. x.watched) now) (left flag m value is.marked legal off ∙ h.set ∙ ap (λ x. cond x.set 1 0) (sym now)))
            (λ (other : who ≡ d → ⊥).
            let waker = is.wakes who (subst (IsMarkOwner c who) same legal.role.0) other in
            let one : value ≡ 1 = subst (λ p. SetsKick (Swap p value)) same (sets waker) in
            comes seen _ owes _ _ _ _ _ _ _ (ap (λ b. cond b (watching_after flag r (Kick d) seen (Swap m value) reply) seen) (ne_eqb who d other)) (left flag m value is.marked legal off)
            (λ x. inl (ap (λ p. mark_at c (then (Swap p value)) (Kick d)) same ∙ now_set (Kick d) value is.kicked ∙ one)) h)
            (cases_eq who d)

        by : (a b : Bool) → is_mark flag m ≡ a → is_mark (Kick d) m ≡ b → After (Swap m value) reply
        by true b e f = at_flag (sym (is_mark-true flag m e)) e
        by false true e f = at_kick (sym (is_mark-true (Kick d) m f)) e f
        by false false e f =
            let quiet : watching_after flag r (Kick d) seen (Swap m value) reply ≡ seen =
            ap (λ b. let x : Watching = cond b (record { set = eqb value 1; watched = false }) (cond (is_mark (Kick d) m) (record seen { watched = false }) seen) in x) e
            ∙ ap (λ b. let x : Watching = cond b (record seen { watched = false }) seen in x) f in
            still seen _ owes _ _ _ _ _ _ _ (ap (λ x. cond (eqb who d) x seen) quiet ∙ same_both (eqb who d) seen) (left flag m value is.marked legal e) (left (Kick d) m value is.kicked legal f)
            (λ o. owes_more (eqb who w) owes (is_mark (Kick d) m && eqb value 1) o (ap (λ b. b && eqb value 1) f)) (λ k. k) h

    -- a look at the flag is answered 0 only where it isn't set
    on_look : (m : Mark) (reply : Reply) → reply ≡ Old (mark_at c s m) → Before → After (Look m) reply
    on_look m reply e h =
        let quiet = same_both (eqb who d) seen in
        record {
          set = h.set ∙ ap (λ x. cond x.set 1 0) (sym quiet);
          armed = λ watched. ap (λ x. x.set) quiet ∙ h.armed (ap (λ x. x.watched) (sym quiet) ∙ watched);
          woken = λ watched x.
              let before = ap (λ y. y.watched) (sym quiet) ∙ watched in
              ⊎_elim (λ (k : mark_at c s (Kick d) ≡ 1). inl k)
              (λ (o : owes ≡ true). inr (ap (λ y. cond (eqb who w) (looked_at flag owes m y) owes) e ∙ owes_more (eqb who w) owes _ o (unlooked (is_mark flag m) (h.armed before) refl)))
              (h.woken before x);
        }
      where
        unlooked : (b : Bool) → seen.set ≡ true → is_mark flag m ≡ b → (is_mark flag m && eqb (mark_at c s m) 0) ≡ false
        unlooked true set f =
            let here : mark_at c s m ≡ 1 = ap (mark_at c s) (sym (is_mark-true flag m f)) ∙ h.set ∙ ap (λ b. cond b 1 0) set in
            ap (λ b. b && eqb (mark_at c s m) 0) f ∙ ap (λ n. eqb n 0) here
        unlooked false set f = ap (λ b. b && eqb (mark_at c s m) 0) f

    pub on_call : (call : Call) (reply : Reply) → IsLegal c (own who past) who call → reply ≡ reply_at c s call → (who ≡ w → SetsKick call) → Before → After call reply
    on_call (Reserve q n) reply legal e sets h = on_reserve q n reply legal h
    on_call (Submit q items) reply legal e sets h = on_submit q items reply legal h
    on_call (Peek q n) reply legal e sets h = on_peek q n reply legal e h
    on_call (Release q n) reply legal e sets h = on_release q n reply legal h
    on_call (Swap m value) reply legal e sets h = on_swap m value reply legal sets h
    on_call (Look m) reply legal e sets h = on_look m reply e h

-- ---- a ring along a history

module _ (c : Config) (frames : List Frame) (config : IsConfig c) (d w : ℕ) (r : Ring) (flag : Mark) (is : IsTarget c d w r flag) where
  abbrev pub IsKeptOn : State → List Entry → Type 0
  IsKeptOn s past = SetsKicks (own w past)
      → IsKept (watching_of flag r (Kick d) (own d past)) (owes_on d r flag (own w past)) (mark_at c s flag) (mark_at c s (Kick d)) (1 ≤ length (ring_at c s r).out)

  pub keeps_on : Keeps c frames IsKeptOn
  keeps_on s past e sound legal reply h sets =
      let before = sets_before w past e sets in
      let seen = watching_of flag r (Kick d) (own d past) in
      let owes = owes_on d r flag (own w past) in
      let kept = on_call c frames config s past sound e.who d w r flag is seen owes e.call e.reply legal reply before.1 (h before.0) in
      folded _ _ _ _ _ _ _ (own_fold (watching_step flag r (Kick d)) (record { set = false; watched = false }) d past e) (own_fold (owes_step r flag (Kick d)) false w past e) kept
