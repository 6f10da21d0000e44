-- Where a driver watches its end and the application has told that it sends nothing more, its kick is set or owed.
use Rattle.std.proofs.Common.{◌≡◌, ℕ, inl, inr, Bool, true, false, cond, not, eqb, ◌&&◌, ◌||◌, List, refl, sym, ap, subst, ◌∙◌, ⊎_elim}
use Rattle.std.proofs.lemmas.Bool.{cases_eq, eq-eqb, ne_eqb}
use Rattle.xsk_umem.specs.Frame.{Frame}
use Rattle.xsk_model.specs.Config.{Config, IsConfig}
use Rattle.xsk_model.specs.Marks.{HasMark, IsMarkNumber, IsMarkOwner, is_mark}
use Rattle.xsk_model.specs.Object.{State, mark_at, reply_at, after}
use Rattle.xsk_model.specs.Entry.{Entry, own}
use Rattle.xsk_model.specs.Legal.{IsLegal}
use Rattle.xsk_model.specs.declared.call.Mark.{Mark}
use Rattle.xsk_model.specs.declared.call.Mark.TheVariants.{Kick, RxDone, TxDone}
use Rattle.xsk_model.specs.declared.call.Call.{Call}
use Rattle.xsk_model.specs.declared.call.Call.TheVariants.{Reserve, Submit, Peek, Release, Swap, Look}
use Rattle.xsk_model.specs.declared.call.Reply.{Reply}
use Rattle.xsk_model.specs.declared.call.Reply.TheVariants.{Old}
use Rattle.xsk_model.proofs.Histories.{IsSound}
use Rattle.xsk_model.proofs.Along.{Keeps}
use Rattle.xsk_turns.specs.AppLaw.{SetsKick, SetsKicks}
use Rattle.xsk_turns.specs.Watching.{Watching, ending_after, ending_step, ending_of}
use Rattle.xsk_turns.specs.Wakes.{owes_end_after, owes_end_step, owes_end}
use Rattle.xsk_model.proofs.Closings.{is_mark-true}
use Rattle.xsk_laws.proofs.Waking.{own_fold, sets_before, same_both, IsKept, still, unwatched, comes, folded, number_set, left, now_set}

pub record IsEnding (c : Config) (d w a : ℕ) : Type 0 where
  pub received : HasMark c (RxDone d)
  pub sent : HasMark c (TxDone a)
  pub kicked : HasMark c (Kick d)
  pub tells : (who : ℕ) → IsMarkOwner c who (TxDone a) → who ≡ w
  pub wakes : (who : ℕ) → IsMarkOwner c who (Kick d) → (who ≡ d → ⊥) → who ≡ w

-- the end is owed still, and newly
pub owes_still : (b o x y : Bool) → o ≡ true → y ≡ false → cond b ((o || x) && not y) o ≡ true
owes_still true true x y e f = ap not f
owes_still true false x y e f = absurd (cc)
owes_still false o x y e f = e

pub owes_now : (b o x y : Bool) → b ≡ true → x ≡ true → y ≡ false → cond b ((o || x) && not y) o ≡ true
owes_now true true x y e f g = ap not g
owes_now true false true y e f g = ap not g
owes_now true false false y e f g = f
owes_now false o x y e f g = absurd (cc)

module _ (c : Config) (frames : List Frame) (config : IsConfig c) (s : State) (past : List Entry) (sound : IsSound c frames s past) (who d w a : ℕ) (is : IsEnding c d w a) (seen : Watching) (owes : Bool) where
  abbrev told : Mark
  told = RxDone d

  abbrev done : Mark
  done = TxDone a

  abbrev then : Call → State
  then call = after c s who call

  abbrev Over : State → Type 0
  Over x = mark_at c x done ≡ 1

  abbrev Before : Type 0
  Before = IsKept seen owes (mark_at c s told) (mark_at c s (Kick d)) (Over s)

  -- what is kept after a call with its reply
  abbrev After : Call → Reply → Type 0
  After call reply = IsKept (cond (eqb who d) (ending_after told done (Kick d) seen call reply) seen) (cond (eqb who w) (owes_end_after done (Kick d) owes call) owes)
      (mark_at c (then call) told) (mark_at c (then call) (Kick d)) (Over (then call))

  -- a call that swaps no mark, and looks at none
  unseen : (call : Call) (reply : Reply) → ending_after told done (Kick d) seen call reply ≡ seen → owes_end_after done (Kick d) owes call ≡ owes
      → ((m : Mark) → mark_at c (then call) m ≡ mark_at c s m) → Before → After call reply
  unseen call reply e f marks h =
      still seen _ owes _ _ _ _ _ _ _ (ap (λ x. cond (eqb who d) x seen) e ∙ same_both (eqb who d) seen) (marks told) (marks (Kick d))
      (λ o. ap (λ x. cond (eqb who w) x owes) f ∙ same_both (eqb who w) owes ∙ o) (λ k. sym (marks done) ∙ k) h

  on_swap : (m : Mark) (value : ℕ) (reply : Reply) → IsLegal c (own who past) who (Swap m value) → (who ≡ w → SetsKick (Swap m value)) → Before → After (Swap m value) reply
  on_swap m value reply legal sets h = by (is_mark told m) (is_mark (Kick d) m) (is_mark done m) refl refl refl
    where
      swapped_told : Watching
      swapped_told = record { set = eqb value 1; watched = false }

      unwatch : Watching
      unwatch = record seen { watched = false }

      -- the driver's own mark
      at_told : m ≡ told → is_mark told m ≡ true → After (Swap m value) reply
      at_told same e =
          let mine : who ≡ d = subst (IsMarkOwner c who) same legal.role.0 in
          let now : cond (eqb who d) (ending_after told done (Kick d) seen (Swap m value) reply) seen ≡ swapped_told =
          ap (λ b. cond b (ending_after told done (Kick d) seen (Swap m value) reply) seen) (eq-eqb who d mine)
          ∙ ap (λ b. let x : Watching = cond b swapped_told (cond (is_mark (Kick d) m) unwatch seen) in x) e in
          unwatched _ _ _ _ _ (ap (λ x. x.watched) now)
          (ap (λ p. mark_at c (then (Swap p value)) told) same ∙ now_set c frames config s past sound who told value is.received
          ∙ number_set value (subst (λ p. IsMarkNumber c p value) same legal.counted) ∙ ap (λ x. cond x.set 1 0) (sym now))

      -- its kick, which the driver clears and the application sets
      at_kick : m ≡ Kick d → is_mark told m ≡ false → is_mark (Kick d) m ≡ true → After (Swap m value) reply
      at_kick same off e = ⊎_elim
          (λ (mine : who ≡ d).
          let now : cond (eqb who d) (ending_after told done (Kick d) seen (Swap m value) reply) seen ≡ unwatch =
          ap (λ b. cond b (ending_after told done (Kick d) seen (Swap m value) reply) seen) (eq-eqb who d mine)
          ∙ ap (λ b. let x : Watching = cond b swapped_told (cond (is_mark (Kick d) m) unwatch seen) in x) off
          ∙ ap (λ b. let x : Watching = cond b unwatch seen in x) e in
          unwatched _ _ _ _ _ (ap (λ x. x.watched) now) (left c frames config s past sound who told m value is.received legal off ∙ h.set ∙ ap (λ x. cond x.set 1 0) (sym now)))
          (λ (other : who ≡ d → ⊥).
          let waker = is.wakes who (subst (IsMarkOwner c who) same legal.role.0) other in
          let one : value ≡ 1 = subst (λ p. SetsKick (Swap p value)) same (sets waker) in
          comes seen _ owes _ _ _ _ _ _ _ (ap (λ b. cond b (ending_after told done (Kick d) seen (Swap m value) reply) seen) (ne_eqb who d other)) (left c frames config s past sound who told m value is.received legal off)
          (λ x. inl (ap (λ p. mark_at c (then (Swap p value)) (Kick d)) same ∙ now_set c frames config s past sound who (Kick d) value is.kicked ∙ one)) h)
          (cases_eq who d)

      -- another mark: nothing is seen of it by the driver
      quiet : is_mark told m ≡ false → is_mark (Kick d) m ≡ false → cond (eqb who d) (ending_after told done (Kick d) seen (Swap m value) reply) seen ≡ seen
      quiet e f =
          ap (λ x. cond (eqb who d) x seen)
          (ap (λ b. let x : Watching = cond b swapped_told (cond (is_mark (Kick d) m) unwatch seen) in x) e ∙ ap (λ b. let x : Watching = cond b unwatch seen in x) f)
          ∙ same_both (eqb who d) seen

      -- the application's mark: where it is set to 1 a kick is owed
      at_done : m ≡ done → is_mark told m ≡ false → is_mark (Kick d) m ≡ false → is_mark done m ≡ true → After (Swap m value) reply
      at_done same e f g =
          let mine = is.tells who (subst (IsMarkOwner c who) same legal.role.0) in
          comes seen _ owes _ _ _ _ _ _ _ (quiet e f) (left c frames config s past sound who told m value is.received legal e)
          (λ over.
          let one : value ≡ 1 = sym (ap (λ p. mark_at c (then (Swap p value)) done) same ∙ now_set c frames config s past sound who done value is.sent) ∙ over in
          inr (owes_now (eqb who w) owes (is_mark done m && eqb value 1) (is_mark (Kick d) m && eqb value 1) (eq-eqb who w mine) (ap (λ b. b && eqb value 1) g ∙ eq-eqb value 1 one) (ap (λ b. b && eqb value 1) f))) h

      by : (x y z : Bool) → is_mark told m ≡ x → is_mark (Kick d) m ≡ y → is_mark done m ≡ z → After (Swap m value) reply
      by true y z e f g = at_told (sym (is_mark-true told m e)) e
      by false true z e f g = at_kick (sym (is_mark-true (Kick d) m f)) e f
      by false false true e f g = at_done (sym (is_mark-true done m g)) e f g
      by false false false e f g =
          still seen _ owes _ _ _ _ _ _ _ (quiet e f) (left c frames config s past sound who told m value is.received legal e) (left c frames config s past sound who (Kick d) m value is.kicked legal f)
          (λ o. owes_still (eqb who w) owes (is_mark done m && eqb value 1) (is_mark (Kick d) m && eqb value 1) o (ap (λ b. b && eqb value 1) f))
          (λ k. sym (left c frames config s past sound who done m value is.sent legal g) ∙ k) h

  -- a look at the application's mark that begins the watch found it other than 1
  on_look : (m : Mark) (reply : Reply) → reply ≡ Old (mark_at c s m) → Before → After (Look m) reply
  on_look m reply e h = by (eqb who d) (is_mark done m) refl refl
    where
      number : ℕ
      number = mark_at c s m

      owed : cond (eqb who w) owes owes ≡ owes
      owed = same_both (eqb who w) owes

      began : Watching
      began = record seen { watched = seen.set && not (eqb number 1) }

      looks : ending_after told done (Kick d) seen (Look m) reply ≡ cond (is_mark done m) began seen
      looks = ap (λ y. ending_after told done (Kick d) seen (Look m) y) e

      same : cond (eqb who d) (ending_after told done (Kick d) seen (Look m) reply) seen ≡ seen → After (Look m) reply
      same now = still seen _ owes _ _ _ _ _ _ _ now refl refl (λ o. owed ∙ o) (λ k. k) h

      front : (x y : Bool) → (x && y) ≡ true → x ≡ true
      front true y k = refl
      front false y k = absurd (cc)

      back : (x y : Bool) → (x && not y) ≡ true → y ≡ false
      back true true k = absurd (cc)
      back true false k = refl
      back false y k = absurd (cc)

      by : (b f : Bool) → eqb who d ≡ b → is_mark done m ≡ f → After (Look m) reply
      by true true k g =
          let here : m ≡ done = sym (is_mark-true done m g) in
          let now : cond (eqb who d) (ending_after told done (Kick d) seen (Look m) reply) seen ≡ began =
          ap (λ b. cond b (ending_after told done (Kick d) seen (Look m) reply) seen) k ∙ looks ∙ ap (λ b. let x : Watching = cond b began seen in x) g in
          let begins : IsKept began owes (mark_at c s told) (mark_at c s (Kick d)) (Over s) = record {
            set = h.set;
            armed = λ watched. front seen.set (not (eqb number 1)) watched;
            woken = λ watched over.
                let found : eqb number 1 ≡ true = eq-eqb number 1 (ap (mark_at c s) here ∙ over) in
                absurd (let no : true ≡ false = sym found ∙ back seen.set (eqb number 1) watched in cc);
          } in
          still began _ owes _ _ _ _ _ _ _ now refl refl (λ o. owed ∙ o) (λ over. over) begins
      by true false k g = same (ap (λ b. cond b (ending_after told done (Kick d) seen (Look m) reply) seen) k ∙ looks ∙ ap (λ b. let x : Watching = cond b began seen in x) g)
      by false f k g = same (ap (λ b. cond b (ending_after told done (Kick d) seen (Look m) reply) seen) k)

  on_call : (call : Call) (reply : Reply) → IsLegal c (own who past) who call → reply ≡ reply_at c s call → (who ≡ w → SetsKick call) → Before → After call reply
  on_call (Reserve q n) reply legal e sets h = unseen (Reserve q n) reply refl refl (λ m. refl) h
  on_call (Submit q items) reply legal e sets h = unseen (Submit q items) reply refl refl (λ m. refl) h
  on_call (Peek q n) reply legal e sets h = unseen (Peek q n) reply refl refl (λ m. refl) h
  on_call (Release q n) reply legal e sets h = unseen (Release q n) reply refl refl (λ m. refl) h
  on_call (Swap m value) reply legal e sets h = on_swap m value reply legal sets h
  on_call (Look m) reply legal e sets h = on_look m reply e h

-- ---- along a history

module _ (c : Config) (frames : List Frame) (config : IsConfig c) (d w a : ℕ) (is : IsEnding c d w a) where
  abbrev pub IsKeptAtEnd : State → List Entry → Type 0
  IsKeptAtEnd s past = SetsKicks (own w past)
      → IsKept (ending_of (RxDone d) (TxDone a) (Kick d) (own d past)) (owes_end d (TxDone a) (own w past)) (mark_at c s (RxDone d)) (mark_at c s (Kick d)) (mark_at c s (TxDone a) ≡ 1)

  pub keeps_at_end : Keeps c frames IsKeptAtEnd
  keeps_at_end s past e sound legal reply h sets =
      let before = sets_before w past e sets in
      let kept = on_call c frames config s past sound e.who d w a is (ending_of (RxDone d) (TxDone a) (Kick d) (own d past)) (owes_end d (TxDone a) (own w past)) e.call e.reply legal reply before.1 (h before.0) in
      folded _ _ _ _ _ _ _ (own_fold (ending_step (RxDone d) (TxDone a) (Kick d)) (record { set = false; watched = false }) d past e) (own_fold (owes_end_step (TxDone a) (Kick d)) false w past e) kept
