-- Where an application owes a driver a kick, its next call is on the way to it.
use Rattle.std.proofs.Common.{◌≡◌, ℕ, zero, suc, ◌-◌, ◌/◌, ◌%◌, ◌<◌, ◌≤◌, ◌⊎◌, inl, inr, Bool, true, false, not, ◌&&◌, ◌||◌, eqb, List, [], refl, sym, ap, ◌∙◌, ⊎_elim, arith, eq-eqb}
use Rattle.std.proofs.lemmas.List.Sums.{fold_push}
use Rattle.xsk_turns.proofs.Object.{Config, pool_of, classes_of, IsMarkNumber, is_ring}
use Rattle.xsk_turns.proofs.Calls.{Told, with_told, Ring, Fill, Tx, Mark, TxDone, Call, Swap, Look, Reply, Submitted, Old}
use Rattle.xsk_model.specs.Marks.{is_mark}
use Rattle.xsk_model.specs.Rings.{driver_of}
use Rattle.xsk_model.specs.declared.call.Mark.TheVariants.{NeedFill, NeedTx, Kick, Closing}
use Rattle.xsk_model.proofs.Places.{is_ring-true}
use Rattle.xsk_turns.specs.AppLaw.{IsFlagged, PaysAtOnce, PaysEndAtOnce}
use Rattle.xsk_turns.specs.AppOwned.{IsApp}
use Rattle.xsk_turns.specs.Wakes.{owes_after, owes_step, owes_on, owes_end_after, owes_end_step, owes_end}
use Rattle.xsk_turns.specs.AppTurns.{AppKept, pair_of, tx_of, tx_pair, home_of, app_turn, app_start_by}
use Rattle.xsk_turns.proofs.AppPlaces.{class_below, socket_driver}
use Rattle.xsk_turns.proofs.Walks.{Premise, Anything, Fitting, meet_anything, meet_fitting}
use Rattle.xsk_turns.proofs.AppWalk.{Stage, Lanes, Lane, Sides, Side, Ending, Looking, Waking, Looked, Kicking, TxTold, Lowering, Shutting, Draining, Family, LowerCell, lowered, told_closing, closed_quietly, closed_kicks, LookNeed, KickDriver, is_need, call_at, tx_submitted, fill_submitted, told_tx_done, looked_need, kicked, point_of, reply_of, without_need, needs_none, needs_kick, told_quietly, told_both, AtCalls, AtEntries, AtSilent, Said, IsLaw, at_call}

-- ---- numbers and marks

never_true : (b : Bool) → (b ≡ true → ⊥) → b ≡ false
never_true true h = absurd (h refl)
never_true false h = refl

both_true : (x y : Bool) → (x && y) ≡ true → (x ≡ true) × (y ≡ true)
both_true true y e = (refl, e)
both_true false y e = absurd (cc)

not_true : (x : Bool) → not x ≡ true → x ≡ false
not_true true e = absurd (cc)
not_true false e = refl

flag_number : (c : Config) (need : Mark) (n : ℕ) → is_need need ≡ true → IsMarkNumber c need n → n ≤ 1
flag_number c (NeedFill d) n flag h = h
flag_number c (NeedTx s) n flag h = h
flag_number c need n flag h = absurd (cc)

some_number : (n : ℕ) → n ≤ 1 → eqb n 0 ≡ false → n ≡ 1
some_number zero h e = absurd (cc)
some_number (suc zero) h e = refl
some_number (suc (suc n)) h e = absurd (omega arith)

self_flag : (c : Config) (d : ℕ) (r : Ring) (flag : Mark) → IsFlagged c d r flag → is_mark flag flag ≡ true
self_flag c d (Fill e) (NeedFill f) h = eq-eqb f f refl
self_flag c d (Tx t) (NeedTx u) h = eq-eqb u u refl
self_flag c d r flag h = absurd h

-- ---- what it owes on a ring

module _ (c : Config) (a : ℕ) (one : IsApp c a) (wakeup : c.wakeup ≡ true) (d : ℕ) (r : Ring) (flag : Mark) (is : IsFlagged c d r flag) where
  abbrev owes : List Told → Bool
  owes l = owes_on d r flag l

  -- where it owes one, it is on the way to it
  abbrev OnTheWay : Stage → List Told → Type 0
  OnTheWay (Waking place need pair) l = owes l ≡ true → (need ≡ flag) × (pair ≡ d)
  OnTheWay (Looked place need pair n) l = owes l ≡ true → (n ≡ 1) × (pair ≡ d)
  OnTheWay (Kicking place pair) l = owes l ≡ true → pair ≡ d
  OnTheWay place l = owes l ≡ false

  abbrev pub At : Family
  At place noted kept l = OnTheWay place l

  abbrev Pays : Call → Type 0
  Pays call = (call ≡ Look flag) ⊎ (call ≡ Swap (Kick d) 1)

  abbrev pub Asked : Said
  Asked kept call l = owes l ≡ true → Pays call

  abbrev Answers : Premise AppKept
  Answers kept l call reply = Fitting c kept l call reply

  owes_told : (l : List Told) (call : Call) (reply : Reply) → owes (with_told l call reply) ≡ owes_after r flag (Kick d) (owes l) call reply
  owes_told l call reply = fold_push (owes_step r flag (Kick d)) false l (record { call = call; reply = reply })

  free : (place : Stage) (l : List Told) → owes l ≡ false → OnTheWay place l
  free (Waking place need pair) l e = λ o. absurd (let no : false ≡ true = sym e ∙ o in cc)
  free (Looked place need pair n) l e = λ o. absurd (let no : false ≡ true = sym e ∙ o in cc)
  free (Kicking place pair) l e = λ o. absurd (let no : false ≡ true = sym e ∙ o in cc)
  free (Lanes lane) l e = e
  free (Lane lane due) l e = e
  free (Sides side) l e = e
  free (Side side due) l e = e
  free Ending l e = e
  free (Looking side) l e = e
  free TxTold l e = e
  free (Lowering shut index) l e = e
  free (Shutting shut) l e = e
  free (Draining lane due) l e = e

  nothing : (kept : AppKept) (l : List Told) (call : Call) → owes l ≡ false → Asked kept call l
  nothing kept l call e = λ o. absurd (let no : false ≡ true = sym e ∙ o in cc)

  calls : AtCalls c a At Asked
  calls (LookNeed place need pair) noted kept l known h = λ o. inl (ap (λ m. Look m) (h o).0)
  calls (KickDriver place pair) noted kept l known h = λ o. inr (ap (λ p. Swap (Kick p) 1) (h o))
  calls p noted kept l known h = nothing kept l (call_at c a p kept) h

  -- what it owes where it owed nothing before
  stays : (l : List Told) (call : Call) (reply : Reply) → owes l ≡ false → owes_after r flag (Kick d) false call reply ≡ false → owes (with_told l call reply) ≡ false
  stays l call reply e f = owes_told l call reply ∙ ap (λ o. owes_after r flag (Kick d) o call reply) e ∙ f

  tx_flag : (t pair : ℕ) → driver_of c (Tx t) ≡ pair → is_ring r (Tx t) ≡ true → (NeedTx t ≡ flag) × (pair ≡ d)
  tx_flag t pair driver e = by r flag (is_ring-true r (Tx t) e) is
    where
      by : (q : Ring) (m : Mark) → q ≡ Tx t → IsFlagged c d q m → (NeedTx t ≡ m) × (pair ≡ d)
      by (Tx u) (NeedTx v) same h = (let e : u ≡ t = cc in ap (λ n. NeedTx n) (sym e ∙ sym h.1), let e : u ≡ t = cc in sym driver ∙ ap (λ n. driver_of c (Tx n)) (sym e) ∙ h.0)
      by (Fill e) m same h = absurd (cc)
      by q m same h = absurd h

  fill_flag : (home : ℕ) → is_ring r (Fill home) ≡ true → (NeedFill home ≡ flag) × (home ≡ d)
  fill_flag home e = by r flag (is_ring-true r (Fill home) e) is
    where
      by : (q : Ring) (m : Mark) → q ≡ Fill home → IsFlagged c d q m → (NeedFill home ≡ m) × (home ≡ d)
      by (Fill e) (NeedFill f) same h = (let i : e ≡ home = cc in ap (λ n. NeedFill n) (sym i ∙ h.0 ∙ sym h.1), let i : e ≡ home = cc in sym i ∙ h.0)
      by (Tx t) m same h = absurd (cc)
      by q m same h = absurd h

  entries : AtEntries c a Answers At Asked
  entries (tx_submitted lane) noted kept l known h asked q = λ o.
      tx_flag (tx_of c a lane) (tx_pair c a lane) (socket_driver c a one (1 - lane / classes_of c) (lane % classes_of c) (omega arith) (class_below c a one lane))
      (sym (ap (λ b. b || is_ring r (Tx (tx_of c a lane))) h) ∙ sym (owes_told l _ Submitted) ∙ o)
  entries (fill_submitted side frame frames) noted kept l known h asked q = λ o.
      fill_flag (home_of (pool_of c) frame) (sym (ap (λ b. b || is_ring r (Fill (home_of (pool_of c) frame))) h) ∙ sym (owes_told l _ Submitted) ∙ o)
  entries (told_tx_done n) noted kept l known h asked q = stays l _ (Old n) h refl
  entries (looked_need place need pair n) noted kept l known h asked q = λ o.
      let parts = both_true (owes l) (not (is_mark flag need && eqb n 0)) (sym (owes_told l (Look need) (Old n)) ∙ o) in
      let way = h parts.0 in
      let same : is_mark flag need ≡ true = ap (is_mark flag) way.0 ∙ self_flag c d r flag is in
      let some : eqb n 0 ≡ false = sym (ap (λ b. b && eqb n 0) same) ∙ not_true (is_mark flag need && eqb n 0) parts.1 in
      (some_number n (flag_number c need n known.1 q) some, way.1)
  entries (kicked place pair n) noted kept l known h asked q =
      free place (with_told l (Swap (Kick pair) 1) (Old n)) (never_true (owes (with_told l (Swap (Kick pair) 1) (Old n)))
      (λ o.
      let parts = both_true (owes l) (not (eqb d pair && true)) (sym (owes_told l (Swap (Kick pair) 1) (Old n)) ∙ o) in
      let here : eqb d pair ≡ true = eq-eqb d pair (sym (h parts.0)) in
      absurd (let no : true ≡ false = sym (ap (λ b. b && true) here) ∙ not_true (eqb d pair && true) parts.1 in cc)))
  entries e noted kept l known h asked q = stays l (call_at c a (point_of e) kept) (reply_of e) h refl

  silent : AtSilent c a At
  silent (without_need place need pair) noted kept l = λ h off. absurd (let no : true ≡ false = sym wakeup ∙ off in cc)
  silent (needs_none place need pair n) noted kept l = λ h e.
      free place l (never_true (owes l) (λ o. absurd (let no : true ≡ false = sym (eq-eqb n 1 (h o).0) ∙ e in cc)))
  silent (needs_kick place need pair n) noted kept l = λ h e o. (h o).1
  silent told_quietly noted kept l = λ h off. h
  silent told_both noted kept l = λ h e. free (Kicking (Kicking (Looking 2) (pair_of c a 1)) (pair_of c a 0)) l h
  silent (closed_kicks shut) noted kept l = λ h e. free (Kicking (Lanes 0) (pair_of c a shut.side)) l h
  silent p noted kept l = λ h e. h

  pub law : IsLaw c a Answers At Asked (λ kept l. Unit {0})
  law = record { calls = calls; entries = entries; silent = silent; ends = λ noted kept l done h. tt }

pub pays_at_once : PaysAtOnce
pays_at_once m c a l kept call rest d r flag one wakeup fit asks is owes =
    at_call c a one (Answers c a one wakeup d r flag is) (At c a one wakeup d r flag is) (Asked c a one wakeup d r flag is) (λ kept l. Unit {0}) (law c a one wakeup d r flag is) (app_start_by m c) refl l
    (meet_fitting (app_turn c a) c (app_turn c a (app_start_by m c)) [] l fit) kept call rest asks owes

-- ---- what it owes for the end

or_off : (x : Bool) → (x || (false && true)) ≡ true → x ≡ true
or_off true e = refl
or_off false e = absurd (cc)

-- a swap of another mark
others : (x b : Bool) → ((x || (false && b)) && not (false && b)) ≡ x
others true b = refl
others false b = refl

-- the first kick is that of the first side, the second that of the other
either : (c : Config) (a side : ℕ) → side < 2 → (pair_of c a 0 ≡ pair_of c a side) ⊎ ((pair_of c a 0 ≡ pair_of c a 0) × ((pair_of c a 1 ≡ pair_of c a side) ⊎ ((pair_of c a 1 ≡ pair_of c a 0) × ⊥)))
either c a zero h = inl refl
either c a (suc zero) h = inr (refl, inl refl)
either c a (suc (suc side)) h = absurd (omega arith)

module _ (c : Config) (a : ℕ) (one : IsApp c a) (wakeup : c.wakeup ≡ true) (side : ℕ) (below : side < 2) where
  abbrev mine : ℕ
  mine = pair_of c a side

  abbrev owing : List Told → Bool
  owing l = owes_end mine (TxDone a) l

  -- the kick is still to come at a place
  abbrev Comes : Stage → Type 0
  Comes (Kicking place pair) = (pair ≡ mine) ⊎ ((pair ≡ pair_of c a 0) × Comes place)
  Comes TxTold = Unit {0}
  Comes place = ⊥

  abbrev pub AtTold : Family
  AtTold place noted kept l = owing l ≡ true → Comes place

  abbrev Kicks : Call → Type 0
  Kicks call = (other : ℕ) × (other ≤ side) × (call ≡ Swap (Kick (pair_of c a other)) 1)

  abbrev pub AskedTold : Said
  AskedTold kept call l = owing l ≡ true → Kicks call

  owing_told : (l : List Told) (call : Call) (reply : Reply) → owing (with_told l call reply) ≡ owes_end_after (TxDone a) (Kick mine) (owing l) call
  owing_told l call reply = fold_push (owes_end_step (TxDone a) (Kick mine)) false l (record { call = call; reply = reply })

  -- a call that changes nothing of it
  as_before : (l : List Told) (call : Call) (reply : Reply) → owes_end_after (TxDone a) (Kick mine) (owing l) call ≡ owing l → owing (with_told l call reply) ≡ true → owing l ≡ true
  as_before l call reply e o = sym e ∙ sym (owing_told l call reply) ∙ o

  told_calls : AtCalls c a AtTold AskedTold
  told_calls (KickDriver place pair) noted kept l known h = λ o. ⊎_elim
      (λ (e : pair ≡ mine). (side, omega arith, ap (λ p. Swap (Kick p) 1) e))
      (λ (e : (pair ≡ pair_of c a 0) × Comes place). (0, omega arith, ap (λ p. Swap (Kick p) 1) e.0))
      (h o)
  told_calls p noted kept l known h = λ o. absurd (h o)

  told_entries : AtEntries c a Anything AtTold AskedTold
  told_entries (told_tx_done n) noted kept l known h asked q = λ o. tt
  told_entries (kicked place pair n) noted kept l known h asked q = λ o.
      let parts = both_true (owing l || (false && true)) (not (eqb mine pair && true)) (sym (owing_told l (Swap (Kick pair) 1) (Old n)) ∙ o) in
      ⊎_elim
      (λ (e : pair ≡ mine). absurd (let no : true ≡ false = sym (ap (λ b. b && true) (eq-eqb mine pair (sym e))) ∙ not_true (eqb mine pair && true) parts.1 in cc))
      (λ (e : (pair ≡ pair_of c a 0) × Comes place). e.1)
      (h (or_off (owing l) parts.0))
  told_entries (lowered shut index n) noted kept l known h asked q = λ o. absurd (h (as_before l (call_at c a (LowerCell shut index) kept) (Old n) (others (owing l) false) o))
  told_entries (told_closing shut n) noted kept l known h asked q = λ o. absurd (h (as_before l (Swap (Closing shut.socket) 1) (Old n) (others (owing l) true) o))
  told_entries e noted kept l known h asked q = λ o. absurd (h (as_before l (call_at c a (point_of e) kept) (reply_of e) refl o))

  told_silent : AtSilent c a AtTold
  told_silent (without_need place need pair) noted kept l = λ h off o. absurd (h o)
  told_silent (needs_none place need pair n) noted kept l = λ h e o. absurd (h o)
  told_silent (needs_kick place need pair n) noted kept l = λ h e o. absurd (h o)
  told_silent told_quietly noted kept l = λ h off. absurd (let no : true ≡ false = sym wakeup ∙ off in cc)
  told_silent told_both noted kept l = λ h on o. either c a side below
  told_silent (closed_quietly shut) noted kept l = λ h off. h
  told_silent (closed_kicks shut) noted kept l = λ h on o. absurd (h o)
  told_silent p noted kept l = λ h e. h

  pub told_law : IsLaw c a Anything AtTold AskedTold (λ kept l. Unit {0})
  told_law = record { calls = told_calls; entries = told_entries; silent = told_silent; ends = λ noted kept l done h. tt }

pub pays_end_at_once : PaysEndAtOnce
pays_end_at_once m c a l kept call rest side one wakeup below asks owes =
    at_call c a one Anything (AtTold c a one wakeup side below) (AskedTold c a one wakeup side below) (λ kept l. Unit {0}) (told_law c a one wakeup side below) (app_start_by m c) (λ o. absurd (cc)) l
    (meet_anything (app_turn c a) (app_turn c a (app_start_by m c)) [] l) kept call rest asks owes
