-- Once an application has lowered a cell it submits nothing more on the TX rings of the lanes that it closes, and it has closed them where
-- it has ended.
use Rattle.std.proofs.Common.{◌≡◌, ℕ, ◌<◌, Bool, true, false, cond, ◌&&◌, ◌||◌, eqb, ne_eqb, List, [], ◌∷◌, ◌++◌, set, refl, sym, ap, ◌∙◌, subst, append-nil, append_assoc}
use Rattle.std.specs.List.{fold}
use Rattle.std.proofs.Math.Bool.{and-false, or-false}
use Rattle.std.proofs.lemmas.List.Sums.{fold_push}
use Rattle.xsk_turns.proofs.Object.{Config, submitted, is_ring, submitted_of, Telling}
use Rattle.xsk_turns.proofs.Calls.{Item, Told, with_told, Fill, Tx, RxDone, Gone, Cell, Call, Reserve, Submit, Peek, Release, Swap, Look, Reply, Submitted, Old}
use Rattle.xsk_model.specs.declared.call.Mark.TheVariants.{Kick, Closing}
use Rattle.xsk_turns.specs.AppTurns.{AppKept, AppNoted, pair_of, tx_of, lanes_of, is_closed, drains, given_on, with_seen, with_gone, app_turn, app_start_by, IsWholeAppRunBy}
use Rattle.xsk_turns.specs.AppOwned.{IsApp}
use Rattle.xsk_turns.specs.declared.manner.Manner.{Manner}
use Rattle.xsk_turns.proofs.AppPlaces.{tx_lane}
use Rattle.xsk_turns.proofs.Owned.{none_submitted, other_submitted}
use Rattle.xsk_turns.proofs.Walks.{Anything, meet_anything}
use Rattle.xsk_turns.proofs.AppWalk as walk

-- ---- what was lowered, and submitted behind that

-- whether a cell was lowered, and whether something was submitted on a TX ring behind that
abbrev pub lowering_after : ℕ → Telling → Call → Telling
lowering_after t u (Swap (Cell port index) value) = record u { told = true }
lowering_after t u (Submit r items) = record u { late = u.late || (u.told && is_ring (Tx t) r) }
lowering_after t u call = u

abbrev pub lowering_step : ℕ → Telling → Told → Telling
lowering_step t u x = lowering_after t u x.call

abbrev pub lowering_of : ℕ → List Told → Telling
lowering_of t l = fold (lowering_step t) (record { told = false; late = false }) l

pub lowering_told : (t : ℕ) (l : List Told) (call : Call) (reply : Reply) → lowering_of t (with_told l call reply) ≡ lowering_after t (lowering_of t l) call
lowering_told t l call reply = fold_push (lowering_step t) (record { told = false; late = false }) l (record { call = call; reply = reply })

-- what was late once stays so, and what was told
late_before : (t : ℕ) (u : Telling) (call : Call) → (lowering_after t u call).late ≡ false → u.late ≡ false
late_before t u (Swap (Cell port index) value) e = e
late_before t u (Submit r items) e = by u.late (u.told && is_ring (Tx t) r) e
  where
    by : (x y : Bool) → (x || y) ≡ false → x ≡ false
    by true y e = e
    by false y e = refl
late_before t u call e = e

pub told_after : (t : ℕ) (u : Telling) (call : Call) → u.told ≡ true → (lowering_after t u call).told ≡ true
told_after t u (Swap (Cell port index) value) e = refl
told_after t u (Submit r items) e = e
told_after t u call e = e

late_front : (t : ℕ) (past l : List Told) → (lowering_of t (past ++ l)).late ≡ false → (lowering_of t past).late ≡ false
late_front t past [] e = ap (λ xs. (lowering_of t xs).late) (sym (append-nil past)) ∙ e
late_front t past (x ∷ l) e =
    let next : (lowering_of t (past ++ x ∷ [])).late ≡ false = late_front t (past ++ x ∷ []) l (ap (λ xs. (lowering_of t xs).late) (append_assoc past (x ∷ []) l) ∙ e) in
    late_before t (lowering_of t past) x.call (ap (λ (u : Telling). u.late) (sym (lowering_told t past x.call x.reply)) ∙ next)

-- where nothing was, nothing is submitted behind a cell that was lowered
one_quiet : (t : ℕ) (past : List Told) (u : Telling) (call : Call) (reply : Reply) → u.told ≡ true → (lowering_after t u call).late ≡ false → submitted_of (Tx t) (with_told past call reply) ≡ submitted_of (Tx t) past
one_quiet t past u (Submit r items) reply told e = other_submitted (Tx t) past (Submit r items) reply (by u.late u.told (is_ring (Tx t) r) told e)
  where
    by : (x y z : Bool) → y ≡ true → (x || (y && z)) ≡ false → z ≡ false
    by true y z e f = absurd (cc)
    by false true z e f = f
    by false false z e f = absurd (cc)
one_quiet t past u (Reserve r n) reply told e = none_submitted (Tx t) past (Reserve r n) reply refl
one_quiet t past u (Peek r n) reply told e = none_submitted (Tx t) past (Peek r n) reply refl
one_quiet t past u (Release r n) reply told e = none_submitted (Tx t) past (Release r n) reply refl
one_quiet t past u (Swap m value) reply told e = none_submitted (Tx t) past (Swap m value) reply refl
one_quiet t past u (Look m) reply told e = none_submitted (Tx t) past (Look m) reply refl

pub none_behind : (t : ℕ) (past l : List Told) → (lowering_of t past).told ≡ true → (lowering_of t (past ++ l)).late ≡ false → submitted_of (Tx t) (past ++ l) ≡ submitted_of (Tx t) past
none_behind t past [] told e = ap (submitted_of (Tx t)) (append-nil past)
none_behind t past (x ∷ l) told e =
    let more : (lowering_of t ((past ++ x ∷ []) ++ l)).late ≡ false = ap (λ xs. (lowering_of t xs).late) (append_assoc past (x ∷ []) l) ∙ e in
    let here : lowering_of t (past ++ x ∷ []) ≡ lowering_after t (lowering_of t past) x.call = lowering_told t past x.call x.reply in
    let now : (lowering_of t (past ++ x ∷ [])).told ≡ true = ap (λ (u : Telling). u.told) here ∙ told_after t (lowering_of t past) x.call told in
    let quiet : (lowering_after t (lowering_of t past) x.call).late ≡ false = ap (λ (u : Telling). u.late) (sym here) ∙ late_front t (past ++ x ∷ []) l more in
    ap (submitted_of (Tx t)) (sym (append_assoc past (x ∷ []) l)) ∙ none_behind t (past ++ x ∷ []) l now more ∙ one_quiet t past (lowering_of t past) x.call x.reply told quiet

pub told_front : (t : ℕ) (past l : List Told) → (lowering_of t past).told ≡ true → (lowering_of t (past ++ l)).told ≡ true
told_front t past [] e = ap (λ xs. (lowering_of t xs).told) (append-nil past) ∙ e
told_front t past (x ∷ l) e =
    ap (λ xs. (lowering_of t xs).told) (sym (append_assoc past (x ∷ []) l))
    ∙ told_front t (past ++ x ∷ []) l (ap (λ (u : Telling). u.told) (lowering_told t past x.call x.reply) ∙ told_after t (lowering_of t past) x.call e)

-- by the call that lowers a cell nothing is submitted
pub lowers_only : (t : ℕ) (u : Telling) (call : Call) → u.told ≡ false → (lowering_after t u call).told ≡ true → submitted call ≡ []
lowers_only t u (Submit r items) none told = absurd (let no : false ≡ true = sym none ∙ told in cc)
lowers_only t u (Reserve r n) none told = refl
lowers_only t u (Peek r n) none told = refl
lowers_only t u (Release r n) none told = refl
lowers_only t u (Swap m value) none told = refl
lowers_only t u (Look m) none told = refl

-- a cell that is lowered now
pub lowered_now : (t : ℕ) (past : List Told) (port index value : ℕ) (reply : Reply) → (lowering_of t (with_told past (Swap (Cell port index) value) reply)).told ≡ true
lowered_now t past port index value reply = ap (λ (u : Telling). u.told) (lowering_told t past (Swap (Cell port index) value) reply)

-- ---- along the turns

module _ (c : Config) (a : ℕ) (one : IsApp c a) (lane : ℕ) (below : lane < lanes_of c) (closed : is_closed c a lane c.closing ≡ true) where
  abbrev t : ℕ
  t = tx_of c a lane

  abbrev state : List Told → Telling
  state l = lowering_of t l

  abbrev Quiet : List Told → Type 0
  Quiet l = (state l).late ≡ false

  -- what is lowered is closed
  abbrev Follows : AppKept → List Told → Type 0
  Follows kept l = Quiet l × ((state l).told ≡ true → kept.begun ≡ true)

  abbrev At : walk.Family
  At (walk.Lowering shut index) noted kept l = Quiet l
  At (walk.Shutting shut) noted kept l = Quiet l × (kept.begun ≡ true)
  At (walk.Waking place need pair) noted kept l = At place noted kept l
  At (walk.Looked place need pair n) noted kept l = At place noted kept l
  At (walk.Kicking place pair) noted kept l = At place noted kept l
  At place noted kept l = Follows kept l

  abbrev Asked : walk.Said
  Asked kept call l = Unit {0}

  -- a call of which nothing is noted
  abbrev IsAside : Call → Type 0
  IsAside call = (u : Telling) → lowering_after t u call ≡ u

  same : (l : List Told) (call : Call) (reply : Reply) → IsAside call → state (with_told l call reply) ≡ state l
  same l call reply e = lowering_told t l call reply ∙ e (state l)

  quiet : (l m : List Told) → state m ≡ state l → Quiet l → Quiet m
  quiet l m e h = ap (λ (u : Telling). u.late) e ∙ h

  follows : (kept : AppKept) (l m : List Told) → state m ≡ state l → Follows kept l → Follows kept m
  follows kept l m e h = (quiet l m e h.0, λ f. h.1 (ap (λ (u : Telling). u.told) (sym e) ∙ f))

  aside : (kept : AppKept) (l : List Told) (call : Call) (reply : Reply) → IsAside call → Follows kept l → Follows kept (with_told l call reply)
  aside kept l call reply e h = follows kept l (with_told l call reply) (same l call reply e) h

  stays : (place : walk.Stage) (noted : AppNoted) (kept : AppKept) (l m : List Told) → state m ≡ state l → At place noted kept l → At place noted kept m
  stays (walk.Lanes j) noted kept l m e h = follows kept l m e h
  stays (walk.Lane j due) noted kept l m e h = follows kept l m e h
  stays (walk.Sides side) noted kept l m e h = follows kept l m e h
  stays (walk.Side side due) noted kept l m e h = follows kept l m e h
  stays walk.Ending noted kept l m e h = follows kept l m e h
  stays (walk.Looking side) noted kept l m e h = follows kept l m e h
  stays walk.TxTold noted kept l m e h = follows kept l m e h
  stays (walk.Draining j due) noted kept l m e h = follows kept l m e h
  stays (walk.Lowering shut index) noted kept l m e h = quiet l m e h
  stays (walk.Shutting shut) noted kept l m e h = (quiet l m e h.0, h.1)
  stays (walk.Waking place need pair) noted kept l m e h = stays place noted kept l m e h
  stays (walk.Looked place need pair n) noted kept l m e h = stays place noted kept l m e h
  stays (walk.Kicking place pair) noted kept l m e h = stays place noted kept l m e h

  -- a lane that isn't given back is another one, once it is closed
  other_lane : (j : ℕ) (kept : AppKept) → j < lanes_of c → drains c a j kept ≡ false → kept.begun ≡ true → eqb t (tx_of c a j) ≡ false
  other_lane j kept k off begun =
      ne_eqb t (tx_of c a j)
      (λ (e : t ≡ tx_of c a j).
      let here : is_closed c a j c.closing ≡ true = subst (λ i. is_closed c a i c.closing ≡ true) (tx_lane c a one lane j below k e) closed in
      absurd (let no : true ≡ false = sym here ∙ ap (λ b. b && is_closed c a j c.closing) (sym begun) ∙ off in cc))

  submits : (j : ℕ) (kept : AppKept) (l : List Told) (items : List Item) → j < lanes_of c → drains c a j kept ≡ false → Follows kept l → Follows kept (with_told l (Submit (Tx (tx_of c a j)) items) Submitted)
  submits j kept l items k off h =
      let now = lowering_told t l (Submit (Tx (tx_of c a j)) items) Submitted in
      (ap (λ (u : Telling). u.late) now ∙ by (state l).late (state l).told refl h.0 h.1, λ f. h.1 (ap (λ (u : Telling). u.told) (sym now) ∙ f))
    where
      by : (x y : Bool) → y ≡ (state l).told → x ≡ false → ((state l).told ≡ true → kept.begun ≡ true) → (x || (y && eqb t (tx_of c a j))) ≡ false
      by true y e f g = absurd (cc)
      by false false e f g = refl
      by false true e f g = other_lane j kept k off (g (sym e))

  gives : (home : ℕ) (kept : AppKept) (l : List Told) (items : List Item) → Follows kept l → Follows kept (with_told l (Submit (Fill home) items) Submitted)
  gives home kept l items h =
      let now = lowering_told t l (Submit (Fill home) items) Submitted in (
        ap (λ (u : Telling). u.late) now ∙ ap (λ b. (state l).late || b) (and-false (state l).told) ∙ or-false (state l).late ∙ h.0,
        λ f. h.1 (ap (λ (u : Telling). u.told) (sym now) ∙ f),
      )

  seen_so : (kept : AppKept) (side n : ℕ) (l : List Told) → Follows kept l → Follows (with_seen kept side n) l
  seen_so kept side n l h = by (eqb n 1)
    where
      by : (b : Bool) → Follows (cond b (record kept { seen = set kept.seen side true }) kept) l
      by true = h
      by false = h

  gone_so : (kept : AppKept) (side n : ℕ) (l : List Told) → Follows kept l → Follows (with_gone kept side n) l
  gone_so kept side n l h = by (eqb n 1)
    where
      by : (b : Bool) → Follows (cond b (record kept { gone = set kept.gone side true }) kept) l
      by true = h
      by false = h

  entries : walk.AtEntries c a Anything At Asked
  entries (walk.tx_submitted j) noted kept l known h asked q = submits j kept l (given_on c j kept) known.0 known.2 h
  entries (walk.fill_submitted side frame frames) noted kept l known h asked q = gives _ kept l _ h
  entries (walk.lowered shut index n) noted kept l known h asked q =
      ap (λ (u : Telling). u.late) (lowering_told t l (Swap (Cell (walk.shut_port c shut) index) 0) (Old n)) ∙ h
  entries (walk.told_closing shut n) noted kept l known h asked q =
      let call = Swap (Closing shut.socket) 1 in
      (quiet l (with_told l call (Old n)) (same l call (Old n) (λ u. refl)) h, refl)
  entries (walk.looked_rx_done side n) noted kept l known h asked q =
      let call = Look (RxDone (pair_of c a side)) in
      seen_so kept side n (with_told l call (Old n)) (aside kept l call (Old n) (λ u. refl) h)
  entries (walk.looked_gone side n) noted kept l known h asked q =
      let call = Look (Gone (pair_of c a side)) in
      gone_so kept side n (with_told l call (Old n)) (aside kept l call (Old n) (λ u. refl) h)
  entries (walk.looked_need place need pair n) noted kept l known h asked q = stays place noted kept l _ (same l (Look need) (Old n) (λ u. refl)) h
  entries (walk.kicked place pair n) noted kept l known h asked q = stays place noted kept l _ (same l (Swap (Kick pair) 1) (Old n) (λ u. refl)) h
  entries e noted kept l known h asked q =
      aside kept l (walk.call_at c a (walk.point_of e) kept) (walk.reply_of e) (λ u. refl) h

  silent : walk.AtSilent c a At
  silent (walk.closes shut) noted kept l = λ h e. h.0
  silent (walk.closed_quietly shut) noted kept l = λ h e. (h.0, λ f. h.1)
  silent (walk.closed_kicks shut) noted kept l = λ h e. (h.0, λ f. h.1)
  silent p noted kept l = λ h e. h

  law : walk.IsLaw c a Anything At Asked Follows
  law = record { calls = λ p noted kept l known h. tt; entries = entries; silent = silent; ends = λ noted kept l done h. h }

  module _ (m : Manner) (l : List Told) (whole : IsWholeAppRunBy m c a l) where
    pub lowered_late : Follows whole.0 l
    lowered_late =
        walk.at_end c a one Anything At Asked Follows law (app_start_by m c) (refl, λ f. absurd (cc)) l (meet_anything (app_turn c a) (app_turn c a (app_start_by m c)) [] l) whole.0 whole.1
