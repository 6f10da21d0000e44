-- A caller's own calls and replies in a history fit, and show cells as lowered.
use Rattle.std.proofs.Common.{◌≡◌, ℕ, ⊎_elim, cond, Some, None, List, [], ◌∷◌, ◌++◌, sym, ap, ◌∙◌, subst, append_assoc, append-nil, eq-eqb, ne_eqb}
use Rattle.std.proofs.lemmas.Bool.{cases_eq}
use Rattle.std.specs.Prelude.{IfSome}
use Rattle.xsk_umem.specs.Frame.{Frame}
use Rattle.xsk_model.specs.Config.{Config, IsConfig, IsClosable}
use Rattle.xsk_model.specs.Rings.{port_of}
use Rattle.xsk_model.specs.Marks.{HasMark, HoldsClosing}
use Rattle.xsk_model.specs.Object.{mark_at, reply_at}
use Rattle.xsk_model.specs.Entry.{Told, Entry, told, own}
use Rattle.xsk_model.specs.Legal.{IsLegal}
use Rattle.xsk_model.specs.Opening.{opening}
use Rattle.xsk_model.specs.History.{MayGive, OwnGoesOn, IsHistory, state_after}
use Rattle.xsk_model.specs.declared.call.Ring.TheVariants.{Rx}
use Rattle.xsk_model.specs.declared.call.Mark.TheVariants.{Cell, Closing}
use Rattle.xsk_model.specs.declared.call.Call.{Call}
use Rattle.xsk_model.specs.declared.call.Call.TheVariants.{Look}
use Rattle.xsk_model.specs.declared.call.Reply.{Reply}
use Rattle.xsk_model.specs.declared.call.Reply.TheVariants.{Old}
use Rattle.xsk_model.proofs.Closings.{closed_cells, seen_is_closed}
use Rattle.xsk_model.proofs.Folds.{own-push_same, own-push_other}
use Rattle.xsk_model.proofs.Histories.{history_first, goes_rest}
use Rattle.xsk_model.proofs.Theorems.{fitting_replies}
use Rattle.xsk_turns.specs.Owned.{FindsLowered, Suits, AllFit}

-- ---- where no socket is closed

pub lowered_of_none : (c : Config) (past : List Told) (call : Call) (reply : Reply) → c.closing ≡ None → FindsLowered c past call reply
lowered_of_none c past (Look (Cell port index)) (Old number) none = λ s holds. absurd (let no : None ≡ Some s = sym none ∙ holds.0 in cc)
lowered_of_none c past call reply none = tt

-- there a caller's own entries fit where each reply does
pub fit_of_none : (c : Config) (who : ℕ) (past l : List Told) → c.closing ≡ None → OwnGoesOn c who past l → AllFit c past l
fit_of_none c who past [] none goes = tt
fit_of_none c who past (t ∷ l) none goes = ((goes.1, lowered_of_none c past t.call t.reply none), fit_of_none c who (past ++ t ∷ []) l none goes.2)

-- ---- a history's entries

pub closing_known : (c : Config) (s : ℕ) → IsConfig c → c.closing ≡ Some s → HasMark c (Closing s)
closing_known c s config e = let closable : IsClosable c.sockets s = subst (λ o. IfSome o (IsClosable c.sockets)) e config.closing in closable.0

module _ (c : Config) (frames : List Frame) where
  -- each reply shows cells as lowered
  shows_lowered : (past later : List Entry) (e : Entry) → IsHistory c frames (past ++ e ∷ later) → FindsLowered c (own e.who past) e.call e.reply
  shows_lowered past later e history = by e.call e.reply goes.0 goes.1
    where
      before : IsHistory c frames past
      before = history_first c frames past (e ∷ later) history

      goes : IsLegal c (own e.who past) e.who e.call × (e.reply ≡ reply_at c (state_after c frames past) e.call)
      goes = let rest = goes_rest c (opening c frames) [] past (e ∷ later) history.legal in (rest.0, rest.1)

      by : (call : Call) (reply : Reply) → IsLegal c (own e.who past) e.who call → reply ≡ reply_at c (state_after c frames past) call → FindsLowered c (own e.who past) call reply
      by (Look (Cell port index)) (Old number) legal is = λ s holds at seen.
          let closing = closing_known c s history.opened.config holds.0 in
          let closed = seen_is_closed c frames past s e.who before closing seen in
          let here : HasMark c (Cell (port_of c (Rx s)) index) = subst (λ p. HasMark c (Cell p index)) at legal.known in
          let low = closed_cells c frames past s index before closing closed here (subst (λ p. HoldsClosing c p index s) at holds) in
          let same : number ≡ mark_at c (state_after c frames past) (Cell port index) = cc in
          same ∙ ap (λ p. mark_at c (state_after c frames past) (Cell p index)) at ∙ low
      by call reply legal is = tt

  suits_at : (past later : List Entry) (e : Entry) → IsHistory c frames (past ++ e ∷ later) → Suits c (own e.who past) e.call e.reply
  suits_at past later e history = (fitting_replies c frames past later e history, shows_lowered past later e history)

  fit_from : (who : ℕ) (past later : List Entry) → IsHistory c frames (past ++ later) → AllFit c (own who past) (own who later)
  fit_from who past [] history = tt
  fit_from who past (e ∷ later) history =
      let moved : IsHistory c frames ((past ++ e ∷ []) ++ later) = subst (IsHistory c frames) (sym (append_assoc past (e ∷ []) later)) history in
      let rest = fit_from who (past ++ e ∷ []) later moved in
      ⊎_elim
      (λ (mine : e.who ≡ who).
      subst (λ b. AllFit c (own who past) (cond b (told e ∷ own who later) (own who later))) (sym (eq-eqb e.who who mine))
      (subst (λ w. Suits c (own w past) e.call e.reply) mine (suits_at past later e history), subst (λ p. AllFit c p (own who later)) (own-push_same who past e mine) rest))
      (λ (other : e.who ≡ who → ⊥).
      subst (λ b. AllFit c (own who past) (cond b (told e ∷ own who later) (own who later))) (sym (ne_eqb e.who who other))
      (subst (λ p. AllFit c p (own who later)) (own-push_other who past e other) rest))
      (cases_eq e.who who)

-- so a caller's own entries fit
pub fit_in_history : (c : Config) (frames : List Frame) (h : List Entry) (who : ℕ) → IsHistory c frames h → AllFit c [] (own who h)
fit_in_history c frames h who history = fit_from c frames who [] h history

-- and so does the reply to a call that is made next
pub suits_next : (c : Config) (frames : List Frame) (past : List Entry) (e : Entry) → IsHistory c frames (past ++ e ∷ []) → Suits c (own e.who past) e.call e.reply
suits_next c frames past e history = suits_at c frames past [] e history

-- so each reply that the object may give does
fit_last : (c : Config) (past l : List Told) (t : Told) → AllFit c past (l ++ t ∷ []) → Suits c (past ++ l) t.call t.reply
fit_last c past [] t h = subst (λ m. Suits c m t.call t.reply) (sym (append-nil past)) h.0
fit_last c past (x ∷ l) t h = subst (λ m. Suits c m t.call t.reply) (append_assoc past (x ∷ []) l) (fit_last c (past ++ x ∷ []) l t h.1)

pub gift_suits : (c : Config) (mine : List Told) (who : ℕ) (call : Call) (reply : Reply) → MayGive c mine who call reply → Suits c mine call reply
gift_suits c mine who call reply may =
    fit_last c [] mine (record { call = call; reply = reply }) (subst (AllFit c []) may.entries (fit_in_history c may.frames may.history who may.legal))
