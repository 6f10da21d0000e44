-- Each reply of a history fits its call.
use Rattle.std.proofs.Common.{◌≡◌, ℕ, zero, suc, ◌+◌, ◌<◌, ◌≤◌, Bool, true, false, cond, eqb, eq-eqb, ne_eqb, nat_le, List, [], ◌∷◌, ◌++◌, length, get_or, take, drop, All, flat_map, refl, sym, ap, subst, ◌∙◌, ⊎_elim, arith, leb-false, length-append, length-take, take-append-drop}
use Rattle.std.specs.List.{range_with_len}
use Rattle.std.proofs.lemmas.Bool.{cases_lt, cases_eq}
use Rattle.std.proofs.lemmas.List.Elements.{All-take}
use Rattle.xsk_umem.specs.Frame.{Frame}
use Rattle.xsk_umem.specs.declared.batch.Item.{Item}
use Rattle.xsk_model.specs.Config.{Config, size_of}
use Rattle.xsk_model.specs.Numbers.{times, numbers}
use Rattle.xsk_model.specs.Rings.{place}
use Rattle.xsk_model.specs.Object.{State, empty_ring, ring_at, free, peek_reply, reply_at}
use Rattle.xsk_model.specs.Entry.{Told, Entry, told, own}
use Rattle.xsk_model.specs.Own.{had_of}
use Rattle.xsk_model.specs.Legal.{IsLegal, IsItemOn}
use Rattle.xsk_model.specs.History.{GoesOn, after_all, IsHistory, IsHistoryFrom, state_after, MayGive, Fits}
use Rattle.xsk_model.specs.Opening.{opening}
use Rattle.xsk_model.specs.Holders.{out_numbers}
use Rattle.xsk_model.specs.declared.call.Ring.{Ring}
use Rattle.xsk_model.specs.declared.call.Call.{Call}
use Rattle.xsk_model.specs.declared.call.Call.TheVariants.{Reserve, Submit, Peek, Release, Swap, Look}
use Rattle.xsk_model.specs.declared.call.Reply.{Reply}
use Rattle.xsk_model.specs.declared.call.Reply.TheVariants.{Granted, Full, Submitted, Items, Empty, Released, Old}
use Rattle.xsk_model.proofs.Counting.{times-append, times-range_past, times-range_within, numbers-append}
use Rattle.xsk_model.proofs.Histories.{IsSoundFrom, IsSound, history_first, history_sound, first_from, sound_from, goes_rest}
use Rattle.xsk_model.specs.Expected.{IsReplyTo}

-- ---- one holder

-- a row from 0 has each number once at most
pub times-row : (n k : ℕ) → times n (range_with_len 0 k) ≤ 1
times-row n k = ⊎_elim
    (λ (h : n < k). omega (arith, times-range_within n 0 k (omega arith) (omega arith)))
    (λ (h : k ≤ n). omega (arith, times-range_past n 0 k (omega arith)))
    (cases_lt n k)

-- a piece has no number more often than all pieces
pub times-piece : {X : Type 0} (n : ℕ) (f : X → List ℕ) (xs : List X) (i : ℕ) (d : X) → f d ≡ [] → times n (f (get_or xs i d)) ≤ times n (flat_map f xs)
times-piece n f [] i d h = omega (arith, ap (times n) h)
times-piece n f (x ∷ xs) zero d h = omega (arith, times-append n (f x) (flat_map f xs))
times-piece n f (x ∷ xs) (suc i) d h = omega (arith, times-append n (f x) (flat_map f xs), times-piece n f xs i d h)

-- a caller and a ring have each frame once at most between them
pub times-apart : (c : Config) (start s : State) (past : List Entry) (who k n : ℕ) → IsSoundFrom c start s past
    → times n (had_of (own who past)) + times n (out_numbers (get_or s.rings k empty_ring)) ≤ 1
times-apart c start s past who k n h =
    let mine = times-piece n (λ (had : List ℕ). had) s.had who [] refl in
    let ring = times-piece n out_numbers s.rings k empty_ring refl in
    let all = times-append n (flat_map (λ (had : List ℕ). had) s.had) (flat_map out_numbers s.rings) in
    omega (arith, mine, ring, all, h.holders n, times-row n c.geometry.frames, ap (times n) (h.had who))

pub times-had : (c : Config) (frames : List Frame) (s : State) (past : List Entry) (who n : ℕ) → IsSound c frames s past
    → times n (had_of (own who past)) ≤ 1
times-had c frames s past who n h = omega (arith, times-apart c (opening c frames) s past who 0 n h)

pub times-take : (n k : ℕ) (items : List Item) → times n (numbers (take k items)) ≤ times n (numbers items)
times-take n k items =
    let whole = ap (λ xs. times n (numbers xs)) (take-append-drop k items) in
    omega (arith, whole, ap (times n) (numbers-append (take k items) (drop k items)), times-append n (numbers (take k items)) (numbers (drop k items)))

-- ---- replies

reserve_fits : (c : Config) (mine : List Told) (r : Ring) (n places : ℕ) (b : Bool) → b ≡ nat_le n places → Fits c mine (Reserve r n) (cond b Granted (Full places))
reserve_fits c mine r n places true e = tt
reserve_fits c mine r n places false e = leb-false n places (sym e)

peek_fits : (c : Config) (mine : List Told) (r : Ring) (n : ℕ) (out : List Item) → 1 ≤ n → All (IsItemOn c.geometry r) out
    → ((k : ℕ) → times k (had_of mine) + times k (numbers out) ≤ 1) → Fits c mine (Peek r n) (peek_reply n out)
peek_fits c mine r n [] some lawful apart = tt
peek_fits c mine r n (item ∷ out) some lawful apart =
    record {
      some = omega (arith, length-take n (item ∷ out));
      few = omega (arith, length-take n (item ∷ out));
      lawful = All-take (IsItemOn c.geometry r) n (item ∷ out) lawful;
      fresh = λ k. omega (arith, apart k, times-take k n (item ∷ out));
    }

pub fits_from : (c : Config) (start s : State) (past : List Entry) (who : ℕ) (call : Call) → IsSoundFrom c start s past
    → IsLegal c (own who past) who call → Fits c (own who past) call (reply_at c s call)
fits_from c start s past who (Reserve r n) h legal =
    reserve_fits c (own who past) r n (free (size_of c r) (ring_at c s r)) (nat_le n (free (size_of c r) (ring_at c s r))) refl
fits_from c start s past who (Submit r items) h legal = tt
fits_from c start s past who (Peek r n) h legal =
    peek_fits c (own who past) r n (ring_at c s r).out legal.counted.0 (h.ring r legal.known).items
    (λ k. times-apart c start s past who (place c r) k h)
fits_from c start s past who (Release r n) h legal = tt
fits_from c start s past who (Swap m value) h legal = h.numbers m legal.known
fits_from c start s past who (Look m) h legal = h.numbers m legal.known

pub reply_fits : (c : Config) (frames : List Frame) (s : State) (past : List Entry) (who : ℕ) (call : Call) → IsSound c frames s past
    → IsLegal c (own who past) who call → Fits c (own who past) call (reply_at c s call)
reply_fits c frames s past who call h legal = fits_from c (opening c frames) s past who call h legal

-- an entry of a history: legal, with the object's reply
pub history_entry : (c : Config) (frames : List Frame) (past later : List Entry) (e : Entry) → IsHistory c frames (past ++ e ∷ later)
    → IsLegal c (own e.who past) e.who e.call × (e.reply ≡ reply_at c (state_after c frames past) e.call)
history_entry c frames past later e history =
    let rest : GoesOn c (state_after c frames past) past (e ∷ later) = goes_rest c (opening c frames) [] past (e ∷ later) history.legal in
    (rest.0, rest.1)

pub entry_fits : (c : Config) (frames : List Frame) (past later : List Entry) (e : Entry) → IsHistory c frames (past ++ e ∷ later)
    → Fits c (own e.who past) e.call e.reply
entry_fits c frames past later e history =
    let entry = history_entry c frames past later e history in
    let sound = history_sound c frames past (history_first c frames past (e ∷ later) history) in
    subst (Fits c (own e.who past) e.call) (sym entry.1) (reply_fits c frames (state_after c frames past) past e.who e.call sound entry.0)

-- so in a history from any start
pub entry_from : (c : Config) (start : State) (past later : List Entry) (e : Entry) → IsHistoryFrom c start (past ++ e ∷ later)
    → IsLegal c (own e.who past) e.who e.call × (e.reply ≡ reply_at c (after_all c start past) e.call)
entry_from c start past later e history =
    let rest : GoesOn c (after_all c start past) past (e ∷ later) = goes_rest c start [] past (e ∷ later) history.legal in
    (rest.0, rest.1)

pub entry_fits_from : (c : Config) (start : State) (past later : List Entry) (e : Entry) → IsHistoryFrom c start (past ++ e ∷ later)
    → Fits c (own e.who past) e.call e.reply
entry_fits_from c start past later e history =
    let entry = entry_from c start past later e history in
    let sound = sound_from c start past (first_from c start past (e ∷ later) history) in
    subst (Fits c (own e.who past) e.call) (sym entry.1) (fits_from c start (after_all c start past) past e.who e.call sound entry.0)

-- ---- the last of a caller's own entries

pub record IsLast (who : ℕ) (h : List Entry) (mine : List Told) (t : Told) : Type 0 where
  pub past : List Entry
  pub later : List Entry
  pub e : Entry
  pub split : h ≡ past ++ e ∷ later
  pub by : e.who ≡ who
  pub is : told e ≡ t
  pub before : own who past ≡ mine

last_of_more : (who : ℕ) (h : List Entry) (mine more : List Told) (t : Told) (first : Entry) → IsLast who h mine t
    → own who (first ∷ []) ++ mine ≡ more → IsLast who (first ∷ h) more t
last_of_more who h mine more t first l e =
    record {
      past = first ∷ l.past;
      later = l.later;
      e = l.e;
      split = ap (λ es. first ∷ es) l.split;
      by = l.by;
      is = l.is;
      before = first_own (eqb first.who who) (told first) (own who l.past) ∙ ap (λ xs. own who (first ∷ []) ++ xs) l.before ∙ e;
    }
  where
    first_own : (b : Bool) (x : Told) (xs : List Told) → cond b (x ∷ xs) xs ≡ cond b (x ∷ []) [] ++ xs
    first_own true x xs = refl
    first_own false x xs = refl

last_here : (who : ℕ) (first : Entry) (h : List Entry) (mine : List Told) (t : Told) → first.who ≡ who
    → ((before : List Told) → own who h ≡ before ++ t ∷ [] → IsLast who h before t)
    → told first ∷ own who h ≡ mine ++ t ∷ [] → IsLast who (first ∷ h) mine t
last_here who first h [] t by rest e =
    let is : told first ≡ t = cc in
    record { past = []; later = h; e = first; split = refl; by = by; is = is; before = refl }
last_here who first h (m ∷ mine) t by rest e =
    let head : told first ≡ m = cc in
    let tail : own who h ≡ mine ++ t ∷ [] = cc in
    last_of_more who h mine (m ∷ mine) t first (rest mine tail)
    (ap (λ b. cond b (told first ∷ []) [] ++ mine) (eq-eqb first.who who by) ∙ ap (λ x. x ∷ mine) head)

pub last_own : (who : ℕ) (h : List Entry) (mine : List Told) (t : Told) → own who h ≡ mine ++ t ∷ [] → IsLast who h mine t
last_own who [] mine t e = absurd (omega (arith, ap length e, length-append mine (t ∷ [])))
last_own who (first ∷ h) mine t e = ⊎_elim
    (λ (by : first.who ≡ who).
    last_here who first h mine t by (λ before k. last_own who h before t k)
    (ap (λ b. cond b (told first ∷ own who h) (own who h)) (sym (eq-eqb first.who who by)) ∙ e))
    (λ (other : first.who ≡ who → ⊥).
    last_of_more who h mine mine t first
    (last_own who h mine t (ap (λ b. cond b (told first ∷ own who h) (own who h)) (sym (ne_eqb first.who who other)) ∙ e))
    (ap (λ b. cond b (told first ∷ []) [] ++ mine) (ne_eqb first.who who other)))
    (cases_eq first.who who)

-- a reply that the object may give fits
pub gift_fits : (c : Config) (mine : List Told) (who : ℕ) (call : Call) (reply : Reply) → MayGive c mine who call reply → Fits c mine call reply
gift_fits c mine who call reply gift =
    let l : IsLast who gift.history mine (record { call = call; reply = reply }) = last_own who gift.history mine (record { call = call; reply = reply }) gift.entries in
    let history : IsHistory c gift.frames (l.past ++ l.e ∷ l.later) = subst (IsHistory c gift.frames) l.split gift.legal in
    let fits : Fits c (own l.e.who l.past) l.e.call l.e.reply = entry_fits c gift.frames l.past l.later l.e history in
    let mine_is : own l.e.who l.past ≡ mine = ap (λ w. own w l.past) l.by ∙ l.before in
    let moved : Fits c mine l.e.call l.e.reply = subst (λ m. Fits c m l.e.call l.e.reply) mine_is fits in
    subst (λ (t : Told). Fits c mine t.call t.reply) l.is moved

-- a reply that fits a call is of the call's kind
pub fits_kind : (c : Config) (mine : List Told) (call : Call) (reply : Reply) → Fits c mine call reply → IsReplyTo call reply
fits_kind c mine (Reserve r n) Granted h = tt
fits_kind c mine (Reserve r n) (Full places) h = tt
fits_kind c mine (Submit r items) Submitted h = refl
fits_kind c mine (Peek r n) Empty h = tt
fits_kind c mine (Peek r n) (Items items) h = tt
fits_kind c mine (Release r n) Released h = refl
fits_kind c mine (Swap m value) (Old old) h = tt
fits_kind c mine (Look m) (Old old) h = tt
fits_kind c mine call reply h = absurd h
