-- A socket that is closed: nothing is submitted late on its rings, and at the end of its application its RX ring is empty.
use Rattle.std.proofs.Common.{◌≡◌, ℕ, ◌<◌, Bool, true, false, Some, None, inl, inr, List, [], ◌∷◌, ◌++◌, length, refl, sym, ap, ◌∙◌, subst}
use Rattle.std.proofs.lemmas.Bool.{or_left}
use Rattle.std.proofs.lemmas.List.Sums.{fold_push}
use Rattle.std.proofs.lemmas.List.{nil_from_length}
use Rattle.xsk_umem.specs.Frame.{Frame}
use Rattle.xsk_model.specs.Config.{Config, HasRing}
use Rattle.xsk_model.specs.Rings.{caller_of, app_of, producer, consumer}
use Rattle.xsk_model.specs.Marks.{is_mark}
use Rattle.xsk_model.specs.Object.{ring_at}
use Rattle.xsk_model.specs.Entry.{Told, Entry, own}
use Rattle.xsk_model.specs.Own.{held_of}
use Rattle.xsk_model.specs.Ends.{draining_of}
use Rattle.xsk_model.specs.History.{state_after, Fits, OwnGoesOn}
use Rattle.xsk_model.specs.Legal.{IsLegal}
use Rattle.xsk_model.specs.Swaps.{last_set, set_after, set_step}
use Rattle.xsk_model.specs.declared.call.Mark.TheVariants.{Closing, Acked}
use Rattle.xsk_model.specs.declared.call.Ring.TheVariants.{Rx}
use Rattle.xsk_model.proofs.Closings.{never_late, is_mark-self, sets_or_leaves}
use Rattle.xsk_model.proofs.OwnRuns.{own_all}
use Rattle.xsk_model.proofs.MarkNumbers.{opening_mark_is}
use Rattle.xsk_model.proofs.Theorems.{own_entries, parts_by_own}
use Rattle.xsk_turns.specs.AppOwned.{IsApp}
use Rattle.xsk_turns.specs.AppTurns.{AppKept, Shut}
use Rattle.xsk_turns.specs.declared.manner.Manner.{Manner}
use Rattle.xsk_turns.proofs.AppClosing.{HasSet, set_at_end}
use Rattle.xsk_turns.proofs.AppShut.{IsShut, shut_app, shut_below}
use Rattle.xsk_laws.specs.Closed.{NothingBehindClosing, HasWholeApp, ClosedIsEmpty}
use Rattle.xsk_laws.proofs.ClosedRing.{finds_at_end}
use Rattle.xsk_laws.proofs.Emptied.{emptied}

pub nothing_behind_closing : NothingBehindClosing
nothing_behind_closing c frames h s who history = never_late c who s (own who h) (own_entries c frames h who history)

pub app_of_whole : (m : Manner) (c : Config) (a : ℕ) (frames : List Frame) (h : List Entry) → HasWholeApp m c a frames h → IsApp c a
app_of_whole m c a frames h has = record { config = has.history.opened.config; regular = has.regular; geometry = has.history.opened.geometry; known = has.known }

-- whoever closed a socket closed the one that is to be closed
closing_is : (c : Config) (who s : ℕ) (mine : List Told) → OwnGoesOn c who [] mine → last_set (Closing s) mine ≡ Some 1 → c.closing ≡ Some s
closing_is c who s mine goes is = own_all IsTold c who [] mine step goes (λ value no. absurd (cc)) 1 is
  where
    IsTold : List Told → Type 0
    IsTold l = (value : ℕ) → last_set (Closing s) l ≡ Some value → c.closing ≡ Some s

    step : (before : List Told) (t : Told) → IsLegal c before who t.call → Fits c before t.call t.reply → IsTold before → IsTold (before ++ t ∷ [])
    step before t legal fits h value e =
        let push : last_set (Closing s) (before ++ t ∷ []) ≡ set_after (Closing s) (last_set (Closing s) before) t.call = fold_push (set_step (Closing s)) None before t in
        elim (sets_or_leaves (Closing s) t.call) [
          | inl set ↦ (subst (IsLegal c before who) set.1.0 legal).role.0.0
          | inr leaves ↦ h value (sym (push ∙ leaves.1 (last_set (Closing s) before)) ∙ e)
        ]

module _ (m : Manner) (c : Config) (a s : ℕ) (frames : List Frame) (h : List Entry) (has : HasWholeApp m c a frames h) (set : last_set (Closing s) (own (caller_of c a) h) ≡ Some 1) where
  abbrev mine : List Told
  mine = own (caller_of c a) h

  one : IsApp c a
  one = app_of_whole m c a frames h has

  abbrev last : AppKept
  last = has.whole.0

  has_set : HasSet c a last.begun mine
  has_set = set_at_end m c a one mine last has.whole.1

  begun : last.begun ≡ true
  begun = by last.begun refl
    where
      by : (b : Bool) → last.begun ≡ b → b ≡ true
      by true e = refl
      by false e = absurd (let no : None ≡ Some 1 = sym (has_set.fed e s) ∙ set in cc)

  abbrev shut : Shut
  shut = (has_set.closed begun).0

  is : IsShut c a shut
  is = (has_set.closed begun).1

  same : shut.socket ≡ s
  same = let two : Some shut.socket ≡ Some s = sym is.closing ∙ closing_is c (caller_of c a) s mine (own_entries c frames h (caller_of c a) has.history) set in cc

  below : s < length c.sockets
  below = subst (λ n. n < length c.sockets) same (shut_below c a one shut is)

  ring : HasRing c (Rx s)
  ring = (below, (has.regular.places s below).2)

  consumes : consumer c (Rx s) ≡ caller_of c a
  consumes = sym (subst (λ n. caller_of c a ≡ app_of c (Rx n)) same (shut_app c a one shut is))

  found : ((draining_of (Acked s ∷ []) (Rx s) mine).empty ≡ true) × (held_of (Rx s) mine ≡ 0)
  found = subst (λ n. ((draining_of (Acked n ∷ []) (Rx n) mine).empty ≡ true) × (held_of (Rx n) mine ≡ 0)) same (finds_at_end m c a one shut mine has.whole is begun)

  out : (ring_at c (state_after c frames h) (Rx s)).out ≡ []
  out =
      let over = emptied c frames (Acked s ∷ []) (Acked s) (Rx s) has.history.opened.config ring below (λ who owner. owner.1) h has.history
      (or_left (is_mark (Acked s) (Acked s)) false (is_mark-self (Acked s))) (opening_mark_is c frames (Acked s) has.history.opened.config below)
      (subst (λ who. (draining_of (Acked s ∷ []) (Rx s) (own who h)).empty ≡ true) (sym consumes) found.0)
      (nothing_behind_closing c frames h s (producer c (Rx s)) has.history).0 in
      over

  held : (ring_at c (state_after c frames h) (Rx s)).held ≡ []
  held =
      let counted = (parts_by_own c frames h (Rx s) has.history ring).1 in
      nil_from_length (ring_at c (state_after c frames h) (Rx s)).held (counted ∙ ap (λ who. held_of (Rx s) (own who h)) consumes ∙ found.1)

pub closed_is_empty : ClosedIsEmpty
closed_is_empty m c a s frames h has set = (out m c a s frames h has set, held m c a s frames h has set)
