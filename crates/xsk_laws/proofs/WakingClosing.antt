-- Where a driver that is to acknowledge a closing has looked for it in vain, and its application has closed the socket since, its kick is
-- set or owed.
use Rattle.std.proofs.Common.{◌≡◌, ℕ, ◌⊎◌, inl, inr, Bool, true, false, cond, not, eqb, ◌&&◌, Option, None, Some, List, refl, sym, ap, subst, ◌∙◌, ⊎_elim}
use Rattle.std.proofs.lemmas.Bool.{cases_eq, eq-eqb}
use Rattle.xsk_umem.specs.Frame.{Frame}
use Rattle.xsk_model.specs.Config.{Config, IsConfig}
use Rattle.xsk_model.specs.Marks.{HasMark, IsMarkOwner, is_mark}
use Rattle.xsk_model.specs.Object.{State, mark_at, reply_at, after}
use Rattle.xsk_model.specs.Entry.{Entry, own}
use Rattle.xsk_model.specs.Legal.{IsLegal}
use Rattle.xsk_model.specs.Swaps.{set_step, last_set}
use Rattle.xsk_model.specs.declared.call.Mark.{Mark}
use Rattle.xsk_model.specs.declared.call.Mark.TheVariants.{Kick, Closing, Acked}
use Rattle.xsk_model.specs.declared.call.Call.{Call}
use Rattle.xsk_model.specs.declared.call.Call.TheVariants.{Reserve, Submit, Peek, Release, Swap, Look}
use Rattle.xsk_model.specs.declared.call.Reply.{Reply}
use Rattle.xsk_model.specs.declared.call.Reply.TheVariants.{Old}
use Rattle.xsk_model.proofs.Histories.{IsSound}
use Rattle.xsk_model.proofs.Along.{Keeps}
use Rattle.xsk_model.proofs.Changes.{mark_set, mark_stays}
use Rattle.xsk_model.proofs.Closings.{is_mark-true, sets_or_leaves}
use Rattle.xsk_turns.specs.AppLaw.{SetsKick, SetsKicks}
use Rattle.xsk_turns.specs.Watching.{closing_after, closing_step, watches_closing}
use Rattle.xsk_turns.specs.Wakes.{owes_end_after, owes_end_step, owes_end}
use Rattle.xsk_laws.proofs.Waking.{own_fold, sets_before, same_both, left, now_set}
use Rattle.xsk_laws.proofs.WakingEnd.{owes_still, owes_now}

-- a socket that one application closes and one driver acknowledges
pub record IsShutting (c : Config) (d w x : ℕ) : Type 0 where
  pub shut : HasMark c (Closing x)
  pub kicked : HasMark c (Kick d)
  pub tells : (who : ℕ) → IsMarkOwner c who (Closing x) → who ≡ w
  pub wakes : (who : ℕ) → IsMarkOwner c who (Kick d) → (who ≡ d → ⊥) → who ≡ w

-- where it was looked for in vain and is due now, the kick is set or owed
abbrev IsKeptFor : Bool → Bool → ℕ → ℕ → Type 0
IsKeptFor seen owes shut kick = seen ≡ true → shut ≡ 1 → (kick ≡ 1) ⊎ (owes ≡ true)

module _ (c : Config) (frames : List Frame) (config : IsConfig c) (s : State) (past : List Entry) (sound : IsSound c frames s past) (who d w x : ℕ) (is : IsShutting c d w x) (seen owes : Bool) where
  abbrev then : Call → State
  then call = after c s who call

  abbrev Before : Type 0
  Before = IsKeptFor seen owes (mark_at c s (Closing x)) (mark_at c s (Kick d))

  -- what the driver has seen after a call with its reply, and what the application owes
  abbrev sees : Call → Reply → Bool
  sees call reply = cond (eqb who d) (closing_after (Closing x) (Kick d) seen call reply) seen

  abbrev owed : Call → Bool
  owed call = cond (eqb who w) (owes_end_after (Closing x) (Kick d) owes call) owes

  abbrev After : Call → Reply → Type 0
  After call reply = IsKeptFor (sees call reply) (owed call) (mark_at c (then call) (Closing x)) (mark_at c (then call) (Kick d))

  -- what was so before is so after a call that changes none of it
  still : (call : Call) (reply : Reply) → sees call reply ≡ seen → (owes ≡ true → owed call ≡ true) → mark_at c (then call) (Closing x) ≡ mark_at c s (Closing x)
      → mark_at c (then call) (Kick d) ≡ mark_at c s (Kick d) → Before → After call reply
  still call reply e on shuts kicks h = λ watched over.
      ⊎_elim (λ (k : mark_at c s (Kick d) ≡ 1). inl (kicks ∙ k)) (λ (o : owes ≡ true). inr (on o)) (h (sym e ∙ watched) (sym shuts ∙ over))

  -- a call that swaps no mark, and looks at none
  unseen : (call : Call) (reply : Reply) → closing_after (Closing x) (Kick d) seen call reply ≡ seen → owes_end_after (Closing x) (Kick d) owes call ≡ owes
      → ((m : Mark) → mark_at c (then call) m ≡ mark_at c s m) → Before → After call reply
  unseen call reply e f marks h =
      still call reply (ap (λ y. cond (eqb who d) y seen) e ∙ same_both (eqb who d) seen) (λ o. ap (λ y. cond (eqb who w) y owes) f ∙ same_both (eqb who w) owes ∙ o) (marks (Closing x)) (marks (Kick d)) h

  on_swap : (m : Mark) (value : ℕ) (reply : Reply) → IsLegal c (own who past) who (Swap m value) → (who ≡ w → SetsKick (Swap m value)) → Before → After (Swap m value) reply
  on_swap m value reply legal sets h = by (is_mark (Kick d) m) (is_mark (Closing x) m) refl refl
    where
      -- its kick, which the driver clears and the application sets
      at_kick : m ≡ Kick d → is_mark (Kick d) m ≡ true → After (Swap m value) reply
      at_kick same e = ⊎_elim
          (λ (mine : who ≡ d).
          let now : sees (Swap m value) reply ≡ false =
          ap (λ b. cond b (closing_after (Closing x) (Kick d) seen (Swap m value) reply) seen) (eq-eqb who d mine) ∙ ap (λ b. cond b false seen) e in
          λ watched over. absurd (let no : false ≡ true = sym now ∙ watched in cc))
          (λ (other : who ≡ d → ⊥).
          let waker = is.wakes who (subst (IsMarkOwner c who) same legal.role.0) other in
          let one : value ≡ 1 = subst (λ p. SetsKick (Swap p value)) same (sets waker) in
          λ watched over. inl (ap (λ p. mark_at c (then (Swap p value)) (Kick d)) same ∙ now_set c frames config s past sound who (Kick d) value is.kicked ∙ one))
          (cases_eq who d)

      -- another mark: nothing is seen of it by the driver
      quiet : is_mark (Kick d) m ≡ false → sees (Swap m value) reply ≡ seen
      quiet e = ap (λ b. cond (eqb who d) (cond b false seen) seen) e ∙ same_both (eqb who d) seen

      -- the closing: where it is set to 1 a kick is owed
      at_closing : m ≡ Closing x → is_mark (Kick d) m ≡ false → is_mark (Closing x) m ≡ true → After (Swap m value) reply
      at_closing same e f =
          let mine = is.tells who (subst (IsMarkOwner c who) same legal.role.0) in
          λ watched over.
          let one : value ≡ 1 = sym (ap (λ p. mark_at c (then (Swap p value)) (Closing x)) same ∙ now_set c frames config s past sound who (Closing x) value is.shut) ∙ over in
          inr (owes_now (eqb who w) owes (is_mark (Closing x) m && eqb value 1) (is_mark (Kick d) m && eqb value 1) (eq-eqb who w mine) (ap (λ b. b && eqb value 1) f ∙ eq-eqb value 1 one) (ap (λ b. b && eqb value 1) e))

      by : (y z : Bool) → is_mark (Kick d) m ≡ y → is_mark (Closing x) m ≡ z → After (Swap m value) reply
      by true z e f = at_kick (sym (is_mark-true (Kick d) m e)) e
      by false true e f = at_closing (sym (is_mark-true (Closing x) m f)) e f
      by false false e f =
          still (Swap m value) reply (quiet e) (λ o. owes_still (eqb who w) owes (is_mark (Closing x) m && eqb value 1) (is_mark (Kick d) m && eqb value 1) o (ap (λ b. b && eqb value 1) e))
          (left c frames config s past sound who (Closing x) m value is.shut legal f) (left c frames config s past sound who (Kick d) m value is.kicked legal e) h

  -- a look that begins the watch found the mark other than 1
  on_look : (m : Mark) (reply : Reply) → reply ≡ Old (mark_at c s m) → Before → After (Look m) reply
  on_look m reply e h = by (eqb who d) (is_mark (Closing x) m) refl refl
    where
      began : Bool
      began = not (eqb (mark_at c s m) 1)

      looks : closing_after (Closing x) (Kick d) seen (Look m) reply ≡ cond (is_mark (Closing x) m) began seen
      looks = ap (λ y. closing_after (Closing x) (Kick d) seen (Look m) y) e

      same : sees (Look m) reply ≡ seen → After (Look m) reply
      same now = still (Look m) reply now (λ o. same_both (eqb who w) owes ∙ o) refl refl h

      by : (b f : Bool) → eqb who d ≡ b → is_mark (Closing x) m ≡ f → After (Look m) reply
      by true true k g =
          let here : m ≡ Closing x = sym (is_mark-true (Closing x) m g) in
          let now : sees (Look m) reply ≡ began = ap (λ b. cond b (closing_after (Closing x) (Kick d) seen (Look m) reply) seen) k ∙ looks ∙ ap (λ b. cond b began seen) g in
          λ watched over.
          let found : eqb (mark_at c s m) 1 ≡ true = eq-eqb (mark_at c s m) 1 (ap (mark_at c s) here ∙ over) in
          absurd (let no : false ≡ true = sym (now ∙ ap not found) ∙ watched in cc)
      by true false k g = same (ap (λ b. cond b (closing_after (Closing x) (Kick d) seen (Look m) reply) seen) k ∙ looks ∙ ap (λ b. cond b began seen) g)
      by false f k g = same (ap (λ b. cond b (closing_after (Closing x) (Kick d) seen (Look m) reply) seen) k)

  on_call : (call : Call) (reply : Reply) → IsLegal c (own who past) who call → reply ≡ reply_at c s call → (who ≡ w → SetsKick call) → Before → After call reply
  on_call (Reserve q n) reply legal e sets h = unseen (Reserve q n) reply refl refl (λ m. refl) h
  on_call (Submit q items) reply legal e sets h = unseen (Submit q items) reply refl refl (λ m. refl) h
  on_call (Peek q n) reply legal e sets h = unseen (Peek q n) reply refl refl (λ m. refl) h
  on_call (Release q n) reply legal e sets h = unseen (Release q n) reply refl refl (λ m. refl) h
  on_call (Swap m value) reply legal e sets h = on_swap m value reply legal sets h
  on_call (Look m) reply legal e sets h = on_look m reply e h

-- ---- along a history

module _ (c : Config) (frames : List Frame) (config : IsConfig c) (d w x : ℕ) (is : IsShutting c d w x) where
  abbrev pub IsKeptAtClosing : State → List Entry → Type 0
  IsKeptAtClosing s past = SetsKicks (own w past)
      → IsKeptFor (watches_closing (Closing x) (Kick d) (own d past)) (owes_end d (Closing x) (own w past)) (mark_at c s (Closing x)) (mark_at c s (Kick d))

  pub keeps_at_closing : Keeps c frames IsKeptAtClosing
  keeps_at_closing s past e sound legal reply h sets =
      let before = sets_before w past e sets in
      let seen = watches_closing (Closing x) (Kick d) (own d past) in
      let owes = owes_end d (Closing x) (own w past) in
      let kept = on_call c frames config s past sound e.who d w x is seen owes e.call e.reply legal reply before.1 (h before.0) in
      let sees_now = own_fold (closing_step (Closing x) (Kick d)) false d past e in
      let owed_now = own_fold (owes_end_step (Closing x) (Kick d)) false w past e in
      λ watched over. subst (λ o. (mark_at c (after c s e.who e.call) (Kick d) ≡ 1) ⊎ (o ≡ true)) (sym owed_now) (kept (sym sees_now ∙ watched) over)

-- ---- who acknowledged it has set the mark

module _ (c : Config) (frames : List Frame) (config : IsConfig c) (x : ℕ) (has : HasMark c (Acked x)) where
  abbrev pub IsAcked : State → List Entry → Type 0
  IsAcked s past = (who : ℕ) → last_set (Acked x) (own who past) ≡ Some 1 → mark_at c s (Acked x) ≡ 1

  pub keeps_acked : Keeps c frames IsAcked
  keeps_acked s past e sound legal reply h who set =
      elim (sets_or_leaves (Acked x) e.call) [
        | inl sets ↦
            ap (λ y. mark_at c (after c s e.who y) (Acked x)) sets.1.0 ∙ mark_set c s e.who (Acked x) sets.0 config has sound.marks ∙ (subst (IsLegal c (own e.who past) e.who) sets.1.0 legal).role.1.0
        | inr leaves ↦
            let mine : Option ℕ = last_set (Acked x) (own who past) in
            let as_before = own_fold (set_step (Acked x)) None who past e ∙ ap (λ o. cond (eqb e.who who) o mine) (leaves.1 mine) ∙ same_both (eqb e.who who) mine in
            mark_stays c s (own e.who past) e.who e.call (Acked x) config has legal leaves.0 ∙ h who (sym as_before ∙ set)
      ]
