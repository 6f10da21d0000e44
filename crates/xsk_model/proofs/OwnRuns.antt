-- What a caller knows of a history by its own entries.
use Rattle.std.proofs.Common.{◌≡◌, ℕ, ◌⊎◌, inl, inr, ⊎_elim, cond, List, [], ◌∷◌, ◌++◌, refl, sym, subst, append_assoc, append-nil, eq-eqb, ne_eqb}
use Rattle.std.proofs.lemmas.Bool.{cases_eq}
use Rattle.xsk_umem.specs.Frame.{Frame}
use Rattle.xsk_umem.specs.declared.batch.Item.{Item}
use Rattle.xsk_model.specs.Config.{Config, IsConfig}
use Rattle.xsk_model.specs.Object.{State, taken, after}
use Rattle.xsk_model.specs.Entry.{Told, Entry, told, own}
use Rattle.xsk_model.specs.Legal.{IsLegal}
use Rattle.xsk_model.specs.Opening.{opening}
use Rattle.xsk_model.specs.History.{GoesOn, IsHistory, IsHistoryFrom, Fits, AreFresh, OwnGoesOn}
use Rattle.xsk_model.specs.declared.call.Ring.{Ring}
use Rattle.xsk_model.specs.declared.call.Call.{Call}
use Rattle.xsk_model.specs.declared.call.Call.TheVariants.{Reserve, Submit, Peek, Release, Swap, Look}
use Rattle.xsk_model.specs.declared.call.Reply.{Reply}
use Rattle.xsk_model.specs.declared.call.Reply.TheVariants.{Granted, Full, Submitted, Items, Empty, Released, Old}
use Rattle.xsk_model.proofs.Folds.{own-push_same, own-push_other}
use Rattle.xsk_model.proofs.Histories.{IsSoundFrom, step_from, opening_sound, start_sound}
use Rattle.xsk_model.proofs.Replies.{fits_from}

-- ---- own entries of a history

pub own_goes : (c : Config) (start s : State) (past h : List Entry) (who : ℕ) → IsConfig c → IsSoundFrom c start s past → GoesOn c s past h
    → OwnGoesOn c who (own who past) (own who h)
own_goes c start s past [] who config sound goes = tt
own_goes c start s past (e ∷ es) who config sound goes =
    let later : OwnGoesOn c who (own who (past ++ e ∷ [])) (own who es) =
    own_goes c start (after c s e.who e.call) (past ++ e ∷ []) es who config (step_from c start s past e config sound goes.0 goes.1) goes.2 in
    ⊎_elim
    (λ (one : e.who ≡ who).
    let fits : Fits c (own e.who past) e.call e.reply = subst (Fits c (own e.who past) e.call) (sym goes.1) (fits_from c start s past e.who e.call sound goes.0) in
    let here : OwnGoesOn c who (own who past) (told e ∷ own who es) = (
      subst (λ w. IsLegal c (own w past) w e.call) one goes.0,
      subst (λ w. Fits c (own w past) e.call e.reply) one fits,
      subst (λ p. OwnGoesOn c who p (own who es)) (own-push_same who past e one) later,
    ) in
    subst (λ b. OwnGoesOn c who (own who past) (cond b (told e ∷ own who es) (own who es))) (sym (eq-eqb e.who who one)) here)
    (λ (other : e.who ≡ who → ⊥).
    subst (λ b. OwnGoesOn c who (own who past) (cond b (told e ∷ own who es) (own who es))) (sym (ne_eqb e.who who other))
    (subst (λ p. OwnGoesOn c who p (own who es)) (own-push_other who past e other) later))
    (cases_eq e.who who)

pub history_own : (c : Config) (frames : List Frame) (h : List Entry) (who : ℕ) → IsHistory c frames h → OwnGoesOn c who [] (own who h)
history_own c frames h who history =
    own_goes c (opening c frames) (opening c frames) [] h who history.opened.config (opening_sound c frames history.opened) history.legal

pub own_from : (c : Config) (start : State) (h : List Entry) (who : ℕ) → IsHistoryFrom c start h → OwnGoesOn c who [] (own who h)
own_from c start h who history = own_goes c start start [] h who history.begins.config (start_sound c start history.begins) history.legal

-- ---- what holds along own entries

-- what one call and its reply keep holds after all
pub own_all : (P : List Told → Type 0) (c : Config) (who : ℕ) (past mine : List Told)
    → ((before : List Told) (t : Told) → IsLegal c before who t.call → Fits c before t.call t.reply → P before → P (before ++ t ∷ []))
    → OwnGoesOn c who past mine → P past → P (past ++ mine)
own_all P c who past [] step goes h = subst P (sym (append-nil past)) h
own_all P c who past (t ∷ mine) step goes h =
    subst P (append_assoc past (t ∷ []) mine) (own_all P c who (past ++ t ∷ []) mine step goes.2 (step past t goes.0 goes.1 h))

-- ---- what a fitting reply takes

no_items : (reply : Reply) → (taken reply ≡ []) ⊎ ((items : List Item) × (reply ≡ Items items))
no_items Granted = inl refl
no_items (Full places) = inl refl
no_items Submitted = inl refl
no_items (Items items) = inr (items, refl)
no_items Empty = inl refl
no_items Released = inl refl
no_items (Old value) = inl refl

abbrev pub IsPeeked : Config → List Told → Call → Reply → Type 0
IsPeeked c mine call reply = (r : Ring) × (n : ℕ) × (call ≡ Peek r n) × AreFresh c mine r n (taken reply)

peeked_fresh : (c : Config) (mine : List Told) (r : Ring) (n : ℕ) (reply : Reply) → Fits c mine (Peek r n) reply → (taken reply ≡ []) ⊎ AreFresh c mine r n (taken reply)
peeked_fresh c mine r n Granted h = absurd h
peeked_fresh c mine r n (Full places) h = absurd h
peeked_fresh c mine r n Submitted h = absurd h
peeked_fresh c mine r n (Items items) h = inr h
peeked_fresh c mine r n Empty h = inl refl
peeked_fresh c mine r n Released h = absurd h
peeked_fresh c mine r n (Old value) h = absurd h

-- only a Peek takes items
pub fits_taken : (c : Config) (mine : List Told) (call : Call) (reply : Reply) → Fits c mine call reply → (taken reply ≡ []) ⊎ IsPeeked c mine call reply
fits_taken c mine (Reserve r n) reply h = elim (no_items reply) [ inl e ↦ inl e | inr some ↦ absurd (subst (Fits c mine (Reserve r n)) some.1 h) ]
fits_taken c mine (Submit r items) reply h = elim (no_items reply) [ inl e ↦ inl e | inr some ↦ absurd (subst (Fits c mine (Submit r items)) some.1 h) ]
fits_taken c mine (Peek r n) reply h = elim (peeked_fresh c mine r n reply h) [ inl e ↦ inl e | inr fresh ↦ inr (r, n, refl, fresh) ]
fits_taken c mine (Release r n) reply h = elim (no_items reply) [ inl e ↦ inl e | inr some ↦ absurd (subst (Fits c mine (Release r n)) some.1 h) ]
fits_taken c mine (Swap m value) reply h = elim (no_items reply) [ inl e ↦ inl e | inr some ↦ absurd (subst (Fits c mine (Swap m value)) some.1 h) ]
fits_taken c mine (Look m) reply h = elim (no_items reply) [ inl e ↦ inl e | inr some ↦ absurd (subst (Fits c mine (Look m)) some.1 h) ]

-- one call more
pub own_push : (c : Config) (who : ℕ) (past mine : List Told) (t : Told) → OwnGoesOn c who past mine → IsLegal c (past ++ mine) who t.call → Fits c (past ++ mine) t.call t.reply
    → OwnGoesOn c who past (mine ++ t ∷ [])
own_push c who past [] t goes legal fits = (
  subst (λ (p : List Told). IsLegal c p who t.call) (append-nil past) legal,
  subst (λ (p : List Told). Fits c p t.call t.reply) (append-nil past) fits,
  tt,
)
own_push c who past (u ∷ mine) t goes legal fits =
    let same : past ++ u ∷ mine ≡ (past ++ u ∷ []) ++ mine = sym (append_assoc past (u ∷ []) mine) in (
      goes.0,
      goes.1,
      own_push c who (past ++ u ∷ []) mine t goes.2 (subst (λ (p : List Told). IsLegal c p who t.call) same legal) (subst (λ (p : List Told). Fits c p t.call t.reply) same fits),
    )
