-- Why an application whose calls change nothing stays as it is: in each turn of them every lane and every side is empty or lacks
-- room, the second turn knows what the drivers told, and the third would tell or end.
use Rattle.std.proofs.Common.{◌≡◌, ◌≢◌, ◌⊎◌, inl, inr, ℕ, zero, suc, ◌+◌, ◌*◌, ◌/◌, ◌<◌, ◌≤◌, Bool, true, false, cond, not, eqb, nat_le, ◌&&◌, ◌||◌, Some, None, List, [], ◌∷◌, ◌++◌, length, set, refl, sym, ap, ◌∙◌, subst, ⊎_elim, arith, length-append, length-set, get_or-set_same, get_or-set_other, All, leb-false, eq-eqb}
use Rattle.std.proofs.lemmas.Bool.{cases_lt, cases_eq, and_parts, eqb-true}
use Rattle.std.proofs.lemmas.List.{get_or_past}
use Rattle.std.proofs.lemmas.List.Elements.{All-head, All-tail}
use Rattle.xsk_umem.specs.Frame.{Frame}
use Rattle.xsk_turns.proofs.Object.{Config, classes_of, pool_of}
use Rattle.xsk_model.specs.Object.{State, mark_at, reserve_reply, peek_reply, reply_at}
use Rattle.xsk_model.specs.OtherWords.{changes}
use Rattle.xsk_turns.proofs.Calls.{Item, Told, with_told, Fill, Comp, Rx, Tx, Mark, RxDone, Gone, Kick, TxDone, Call, Swap, Look, Reply, Granted, Full, Items, Empty, Old}
use Rattle.xsk_turns.specs.AppTurns.{AppKept, AppNoted, pair_of, rx_of, tx_of, lanes_of, home_of, both, is_set, is_none, pending_at, back_at, with_back, Shut, shut_of, drains, may_tell, noted_first, app_turn, app_start}
use Rattle.xsk_turns.specs.AppOwned.{IsApp}
use Rattle.xsk_turns.specs.Script.{Script, ask, Asks}
use Rattle.xsk_turns.proofs.AppShut.{no_shut, none_drains}
use Rattle.xsk_turns.proofs.Counting.{four_classes}
use Rattle.xsk_turns.proofs.Mangling.{back_sides}
use Rattle.xsk_turns.proofs.Walks.{Premise, nothing_due, submit_due, release_due}
use Rattle.xsk_turns.proofs.AppWalk.{Stage, Lanes, Lane, Sides, Side, Ending, Looking, Waking, Looked, Kicking, TxTold, Lowering, Shutting, Family, PeekRx, ReleaseRx, ReserveTx, SubmitTx, PeekComp, ReleaseComp, ReserveFill, SubmitFill, LookRxDone, TellTxDone, LookGone, LookNeed, KickDriver, LowerCell, TellClosing, PeekDrain, ReleaseDrain, LookAcked, group, rx_empty, rx_items, rx_released, tx_granted, tx_full, tx_submitted, comp_empty, comp_items, comp_released, fill_granted, fill_full, fill_submitted, looked_rx_done, told_tx_done, looked_gone, looked_need, kicked, lowered, told_closing, drain_empty, drain_items, drain_released, looked_acked, flags_of, is_over, no_lanes, has_items, lanes_done, has_frames, all_given, sides_done, looks, rests, skips, begins, without_need, needs_none, needs_kick, told_quietly, told_both, closes, keeps_cell, closed_quietly, closed_kicks, Said, AtCalls, AtEntries, AtSilent, IsLaw, at_call}
use Rattle.xsk_still.specs.Still.{LaneStays, SideStays, AppStaysBy}
use Rattle.xsk_still.specs.Still.{IsStill}
use Rattle.xsk_still.specs.Own.{IsPlain, AppStays}
use Rattle.xsk_still.proofs.Meeting.{meet_each, cut_behind}

-- ---- replies

pub was_empty : (n : ℕ) (out : List Item) → Empty ≡ peek_reply n out → out ≡ []
was_empty n [] e = refl
was_empty n (item ∷ out) e = absurd (cc)

pub was_full : (n places given : ℕ) → Full given ≡ reserve_reply n places → places < n
was_full n places given e = by (nat_le n places) refl
  where
    by : (b : Bool) → nat_le n places ≡ b → places < n
    by true f = absurd (let no : Full given ≡ Granted = e ∙ ap (λ b. cond b Granted (Full places)) f in cc)
    by false f = leb-false n places f

pub was_number : (n k : ℕ) → Old n ≡ Old k → n ≡ k
was_number n k e = cc

pub still_one : (n : ℕ) → not (eqb n 1) ≡ false → n ≡ 1
still_one n e = by (eqb n 1) refl
  where
    by : (b : Bool) → eqb n 1 ≡ b → n ≡ 1
    by true f = eqb-true n 1 f
    by false f = absurd (let no : true ≡ false = sym (ap not f) ∙ e in cc)

both_set : (p q : Bool) → p ≡ true → q ≡ true → (p && q) ≡ true
both_set p q e f = ap (λ b. b && q) e ∙ f

none_of : {A : Type 0} (xs : List A) → xs ≡ [] → is_none xs ≡ true
none_of xs e = ap is_none e

-- a flag that is set stays so as another is
set_more : (flags : List Bool) (side j : ℕ) → side < length flags → is_set flags j ≡ true → is_set (set flags side true) j ≡ true
set_more flags side j within e = ⊎_elim
    (λ (same : j ≡ side). ap (is_set (set flags side true)) same ∙ get_or-set_same flags side true false within)
    (λ (other : j ≡ side → ⊥). get_or-set_other flags side j true false (λ h. other h) ∙ e)
    (cases_eq j side)

pub longer : (l : List Told) (call : Call) (reply : Reply) → length (with_told l call reply) ≡ length l + 1
longer l call reply = length-append l ((record { call = call; reply = reply }) ∷ [])

-- an application that closes nothing tells by what it noted of its lanes alone
tells_open : (noted : AppNoted) (kept : AppKept) → kept.begun ≡ false → may_tell noted kept ≡ false → (noted.seen && noted.lanes_empty) ≡ false
tells_open noted kept unshut e = by (noted.seen && noted.lanes_empty) kept.begun unshut e
  where
    by : (b begun : Bool) → begun ≡ false → (b && (not begun || noted.acked)) ≡ false → b ≡ false
    by b true f g = absurd (let no : true ≡ false = f in cc)
    by true false f g = absurd (let no : true ≡ false = g in cc)
    by false false f g = refl

module _ (c : Config) (a : ℕ) (one : IsApp c a) (none_shut : c.closing ≡ None) (x : State) (m : ℕ) where
  -- there is no socket of it to close, and no lane whose items it gives back
  no_socket : (shut : Shut) → shut_of c a ≡ Some shut → ⊥
  no_socket shut e = let off : None ≡ Some shut = sym (no_shut c a none_shut) ∙ e in cc

  never_drains : (lane : ℕ) (kept : AppKept) → drains c a lane kept ≡ true → ⊥
  never_drains lane kept e = let off : false ≡ true = sym (none_drains c a lane kept none_shut) ∙ e in cc

  -- a call in the stretch
  record IsAnswered (kept : AppKept) (call : Call) (reply : Reply) : Type 0 where
    pub gives : reply ≡ reply_at c x call
    pub quiet : changes call reply ≡ false
    pub told : mark_at c x (TxDone a) ≡ 1 → kept.tx_done ≡ true

  abbrev Q : Premise AppKept
  Q kept l call reply = m ≤ length l → IsAnswered kept call reply

  -- ---- what is found in a turn

  abbrev LanesTo : AppKept → ℕ → Type 0
  LanesTo kept k = (j : ℕ) → j < k → LaneStays c a x kept j

  abbrev SidesTo : AppKept → ℕ → Type 0
  SidesTo kept k = (j : ℕ) → j < k → SideStays c a x kept j

  abbrev NonePending : AppKept → ℕ → Type 0
  NonePending kept k = (j : ℕ) → j < k → pending_at kept j ≡ []

  abbrev NoneBack : AppKept → ℕ → Type 0
  NoneBack kept k = (j : ℕ) → j < k → back_at kept j ≡ []

  record LanesNow (k : ℕ) (noted : AppNoted) (kept : AppKept) : Type 0 where
    pub stay : LanesTo kept k
    pub empty : NonePending kept k → noted.lanes_empty ≡ true

  abbrev LanesDone : AppNoted → AppKept → Type 0
  LanesDone noted kept = kept.tx_done ≡ false → LanesNow (lanes_of c) noted kept

  record SidesNow (k : ℕ) (noted : AppNoted) (kept : AppKept) : Type 0 where
    pub lanes : LanesDone noted kept
    pub stay : SidesTo kept k
    pub empty : NoneBack kept k → noted.sides_empty ≡ true

  -- the mark that is looked at for a side, and what is known of it
  abbrev mark_of : AppKept → ℕ → Mark
  mark_of kept side = cond kept.tx_done (Gone (pair_of c a side)) (RxDone (pair_of c a side))

  abbrev IsKnown : AppKept → ℕ → Type 0
  IsKnown kept side = (is_set (flags_of kept) side ≡ true) ⊎ (mark_at c x (mark_of kept side) ≢ 1)

  abbrev AreOne : AppKept → Type 0
  AreOne kept = (side : ℕ) → side < 2 → mark_at c x (mark_of kept side) ≡ 1

  abbrev Began : AppNoted → AppKept → Type 0
  Began noted kept = AreOne kept → cond kept.tx_done noted.gone noted.seen ≡ true

  record Over (kept : AppKept) : Type 0 where
    pub untold : AreOne kept → kept.tx_done ≡ false → NonePending kept (lanes_of c) → ⊥
    pub unended : AreOne kept → kept.tx_done ≡ true → NoneBack kept 2 → ⊥

  record Known (k : ℕ) (kept : AppKept) : Type 0 where
    pub known : (j : ℕ) → j < k → IsKnown kept j

  -- in a turn that began in the stretch
  abbrev Now : ℕ → Stage → AppNoted → AppKept → Type 0
  Now t (Lanes k) noted kept = LanesNow k noted kept × (noted.sides_empty ≡ true)
  Now t (Lane k nothing_due) noted kept = LanesTo kept k × (pending_at kept k ≢ []) × (noted.sides_empty ≡ true)
  Now t (Sides k) noted kept = SidesNow k noted kept
  Now t (Side k nothing_due) noted kept = LanesDone noted kept × SidesTo kept k × (back_at kept k ≢ [])
  Now t Ending noted kept = SidesNow 2 noted kept
  Now t (Looking k) noted kept = SidesNow 2 noted kept × Known k kept × (2 ≤ t → Over kept)
  Now t place noted kept = ⊥

  abbrev before : Stage → ℕ
  before (Lanes k) = k
  before (Lane k due) = k
  before (Sides k) = 8 + k
  before (Side k due) = 8 + k
  before Ending = 10
  before (Looking k) = 10 + k
  before place = 0

  record Sized (kept : AppKept) : Type 0 where
    pub back : length kept.back ≡ 2
    pub seen : length kept.seen ≡ 2
    pub gone : length kept.gone ≡ 2
    pub unshut : kept.begun ≡ false

  record Stays (kept : AppKept) : Type 0 where
    pub lanes : kept.tx_done ≡ false → LanesTo kept (lanes_of c)
    pub sides : SidesTo kept 2
    pub known : Known 2 kept

  record Stands (place : Stage) (noted : AppNoted) (kept : AppKept) (l : List Told) : Type 0 where
    pub turns : ℕ
    pub few : length l ≤ m + 4 + 12 * turns + before place
    pub sized : Sized kept
    pub now : 1 ≤ turns → Now turns place noted kept
    pub stays : 2 ≤ turns → Stays kept
    pub began : 2 ≤ turns → Began noted kept
    pub over : 3 ≤ turns → Over kept

  -- a place to which it goes on once drivers are woken, and how many are yet to be
  abbrev IsOn : Stage → Type 0
  IsOn (Lanes k) = Unit {0}
  IsOn (Side k nothing_due) = Unit {0}
  IsOn (Looking k) = Unit {0}
  IsOn (Kicking place pair) = IsOn place
  IsOn place = ⊥

  abbrev kicks : Stage → ℕ
  kicks (Kicking place pair) = 1 + kicks place
  kicks place = 0

  abbrev At : Family
  At (Waking place need pair) noted kept l = IsOn place × (kicks place ≡ 0) × (length l ≤ m) × Sized kept
  At (Looked place need pair n) noted kept l = IsOn place × (kicks place ≡ 0) × (length l ≤ m + 1) × Sized kept
  At (Kicking place pair) noted kept l = IsOn place × (length l + kicks place ≤ m + 2) × Sized kept
  At TxTold noted kept l = (length l ≤ m) × Sized kept
  At place noted kept l = Stands place noted kept l

  abbrev Asked : Said
  Asked kept call l = m + 64 ≤ length l → IsPlain call × AppStaysBy c a x kept

  -- before the stretch nothing is claimed
  early : (place : Stage) (noted : AppNoted) (kept : AppKept) (l : List Told) → length l ≤ m + 4 → Sized kept → Stands place noted kept l
  early place noted kept l few sized = record {
    turns = 0;
    few = omega (arith, few);
    sized = sized;
    now = λ some. absurd (omega arith);
    stays = λ some. absurd (omega arith);
    began = λ some. absurd (omega arith);
    over = λ some. absurd (omega arith);
  }

  woken : (place : Stage) (noted : AppNoted) (kept : AppKept) (l : List Told) → IsOn place → length l + kicks place ≤ m + 3 → Sized kept → At place noted kept l
  woken (Lanes k) noted kept l on few sized = early (Lanes k) noted kept l (omega (arith, few)) sized
  woken (Side k nothing_due) noted kept l on few sized = early (Side k nothing_due) noted kept l (omega (arith, few)) sized
  woken (Looking k) noted kept l on few sized = early (Looking k) noted kept l (omega (arith, few)) sized
  woken (Kicking place pair) noted kept l on few sized = (on, omega (arith, few), sized)
  woken place noted kept l on few sized = absurd on

  lanes_few : lanes_of c ≤ 8
  lanes_few = omega (arith, four_classes c one.regular.classes)

  -- ---- at each call

  many : (place : Stage) (noted : AppNoted) (kept : AppKept) (l : List Told) → before place ≤ 12 → m + 64 ≤ length l → (h : Stands place noted kept l) → 4 ≤ h.turns
  many place noted kept l small long h = omega (arith, small, long, h.few)

  reasons : (place : Stage) (noted : AppNoted) (kept : AppKept) (l : List Told) → before place ≤ 12 → m + 64 ≤ length l → Stands place noted kept l → AppStaysBy c a x kept
  reasons place noted kept l small long h =
      let four = many place noted kept l small long h in
      let stays = h.stays (omega (arith, four)) in
      let over = h.over (omega (arith, four)) in
      record {
        lanes = stays.lanes;
        sides = stays.sides;
        untold = λ e ones none. over.untold (λ side k. subst (λ b. mark_at c x (cond b (Gone (pair_of c a side)) (RxDone (pair_of c a side))) ≡ 1) (sym e) (ones side k)) e none;
        unended = λ e ones none. over.unended (λ side k. subst (λ b. mark_at c x (cond b (Gone (pair_of c a side)) (RxDone (pair_of c a side))) ≡ 1) (sym e) (ones side k)) e none;
      }

  never : {A : Type 0} (place : Stage) (noted : AppNoted) (kept : AppKept) (l : List Told) → before place ≤ 12 → m + 64 ≤ length l → (h : Stands place noted kept l) → (Now h.turns place noted kept → ⊥) → A
  never place noted kept l small long h un = absurd (un (h.now (omega (arith, many place noted kept l small long h))))

  calls : AtCalls c a At Asked
  calls (PeekRx lane) noted kept l known h = λ long. (tt, reasons (Lanes lane) noted kept l (omega (arith, known.0, lanes_few)) long h)
  calls (ReleaseRx lane n) noted kept l known h = λ long. never (Lane lane (release_due (Rx (rx_of c a lane)) n)) noted kept l (omega (arith, known.0, lanes_few)) long h (λ no. no)
  calls (ReserveTx lane) noted kept l known h = λ long. (tt, reasons (Lane lane nothing_due) noted kept l (omega (arith, known.0, lanes_few)) long h)
  calls (SubmitTx lane) noted kept l known h = λ long. never (Lane lane (submit_due (Tx (tx_of c a lane)) (length (pending_at kept lane)))) noted kept l (omega (arith, known.0, lanes_few)) long h (λ no. no)
  calls (PeekComp side) noted kept l known h = λ long. (tt, reasons (Sides side) noted kept l (omega (arith, known.0)) long h)
  calls (ReleaseComp side n) noted kept l known h = λ long. never (Side side (release_due (Comp (pair_of c a side)) n)) noted kept l (omega (arith, known)) long h (λ no. no)
  calls (ReserveFill side frame frames) noted kept l known h = λ long. (tt, reasons (Side side nothing_due) noted (with_back kept side (frame ∷ frames)) l (omega (arith, known)) long h)
  calls (SubmitFill side frame frames) noted kept l known h = λ long.
      never (Side side (submit_due (Fill (home_of (pool_of c) frame)) (length (group c frame frames)))) noted (with_back kept side (frame ∷ frames)) l (omega (arith, known)) long h (λ no. no)
  calls (LookRxDone side) noted kept l known h = λ long. (tt, reasons (Looking side) noted kept l (omega (arith, known.0)) long h)
  calls TellTxDone noted kept l known h = λ long. (tt, reasons Ending noted kept l (omega arith) long h)
  calls (LookGone side) noted kept l known h = λ long. (tt, reasons (Looking side) noted kept l (omega (arith, known.0)) long h)
  calls (LookNeed place need pair) noted kept l known h = λ long. absurd (omega (arith, long, h.2))
  calls (KickDriver place pair) noted kept l known h = λ long. absurd (omega (arith, long, h.1))
  calls (LowerCell shut index) noted kept l known h = absurd (no_socket shut known.0)
  calls (TellClosing shut) noted kept l known h = absurd (no_socket shut known.0)
  calls (PeekDrain lane) noted kept l known h = absurd (never_drains lane kept known.2)
  calls (ReleaseDrain lane n) noted kept l known h = absurd (never_drains lane kept known.2)
  calls (LookAcked shut) noted kept l known h = absurd (no_socket shut known.0)

  -- ---- entries

  -- one in the stretch, that leaves what is kept of lanes and sides, and what is noted
  step : (place next : Stage) (noted : AppNoted) (kept : AppKept) (l : List Told) (call : Call) (reply : Reply) → before place + 1 ≤ before next → (h : Stands place noted kept l)
      → (1 ≤ h.turns → Now h.turns next noted kept) → Stands next noted kept (with_told l call reply)
  step place next noted kept l call reply fits h now = record {
    turns = h.turns;
    few = omega (arith, h.few, fits, longer l call reply);
    sized = h.sized;
    now = now;
    stays = h.stays;
    began = h.began;
    over = h.over;
  }

  -- one before the stretch
  first : (next : Stage) (noted : AppNoted) (kept : AppKept) (l : List Told) (call : Call) (reply : Reply) → length l < m → Sized kept → Stands next noted kept (with_told l call reply)
  first next noted kept l call reply lt sized = early next noted kept (with_told l call reply) (omega (arith, lt, longer l call reply)) sized

  by_stretch : {A : Type 0} (l : List Told) → (length l < m → A) → (m ≤ length l → A) → A
  by_stretch l f g = ⊎_elim (λ (lt : length l < m). f lt) (λ (ge : m ≤ length l). g ge) (cases_lt (length l) m)

  -- one that changes the object isn't in it
  moves : (next : Stage) (noted : AppNoted) (now kept : AppKept) (l : List Told) (call : Call) (reply : Reply) → changes call reply ≡ true → Q now l call reply → Sized kept
      → Stands next noted kept (with_told l call reply)
  moves next noted now kept l call reply is q sized =
      by_stretch l (λ lt. first next noted kept l call reply lt sized) (λ ge. absurd (let no : true ≡ false = sym is ∙ (q ge).quiet in cc))

  ends_before : (now : AppKept) (l : List Told) (call : Call) (reply : Reply) → changes call reply ≡ true → Q now l call reply → length (with_told l call reply) ≤ m
  ends_before now l call reply is q = by_stretch l (λ lt. omega (arith, lt, longer l call reply)) (λ ge. absurd (let no : true ≡ false = sym is ∙ (q ge).quiet in cc))

  lane_more : (kept : AppKept) (k : ℕ) → LanesTo kept k → LaneStays c a x kept k → LanesTo kept (k + 1)
  lane_more kept k all here j below = ⊎_elim (λ (same : j ≡ k). subst (LaneStays c a x kept) (sym same) here) (λ (other : j ≡ k → ⊥). all j (omega (arith, below, other))) (cases_eq j k)

  side_more : (kept : AppKept) (k : ℕ) → SidesTo kept k → SideStays c a x kept k → SidesTo kept (k + 1)
  side_more kept k all here j below = ⊎_elim (λ (same : j ≡ k). subst (SideStays c a x kept) (sym same) here) (λ (other : j ≡ k → ⊥). all j (omega (arith, below, other))) (cases_eq j k)

  known_more : (kept : AppKept) (k : ℕ) → Known k kept → IsKnown kept k → Known (k + 1) kept
  known_more kept k all here = record { known = λ j below. ⊎_elim (λ (same : j ≡ k). subst (IsKnown kept) (sym same) here) (λ (other : j ≡ k → ⊥). all.known j (omega (arith, below, other))) (cases_eq j k) }

  back_sized : (kept : AppKept) (side : ℕ) (frames : List Frame) → Sized kept → Sized (with_back kept side frames)
  back_sized kept side frames h = record { back = length-set kept.back side frames ∙ h.back; seen = h.seen; gone = h.gone; unshut = h.unshut }

  -- ---- flags

  abbrev AsSeen : List Bool → ℕ → Type 0
  AsSeen flags j = (is_set flags j ≡ true) ⊎ (mark_at c x (RxDone (pair_of c a j)) ≢ 1)

  abbrev AsGone : List Bool → ℕ → Type 0
  AsGone flags j = (is_set flags j ≡ true) ⊎ (mark_at c x (Gone (pair_of c a j)) ≢ 1)

  to_known : (kept : AppKept) (j : ℕ) (b : Bool) → kept.tx_done ≡ b → cond b (AsGone kept.gone j) (AsSeen kept.seen j) → IsKnown kept j
  to_known kept j true e h = subst (λ b. (is_set (cond b kept.gone kept.seen) j ≡ true) ⊎ (mark_at c x (cond b (Gone (pair_of c a j)) (RxDone (pair_of c a j))) ≢ 1)) (sym e) h
  to_known kept j false e h = subst (λ b. (is_set (cond b kept.gone kept.seen) j ≡ true) ⊎ (mark_at c x (cond b (Gone (pair_of c a j)) (RxDone (pair_of c a j))) ≢ 1)) (sym e) h

  as_seen : (kept : AppKept) (j : ℕ) → kept.tx_done ≡ false → IsKnown kept j → AsSeen kept.seen j
  as_seen kept j e h = subst (λ b. (is_set (cond b kept.gone kept.seen) j ≡ true) ⊎ (mark_at c x (cond b (Gone (pair_of c a j)) (RxDone (pair_of c a j))) ≢ 1)) e h

  as_gone : (kept : AppKept) (j : ℕ) → kept.tx_done ≡ true → IsKnown kept j → AsGone kept.gone j
  as_gone kept j e h = subst (λ b. (is_set (cond b kept.gone kept.seen) j ≡ true) ⊎ (mark_at c x (cond b (Gone (pair_of c a j)) (RxDone (pair_of c a j))) ≢ 1)) e h

  more : (P : Type 0) (flags : List Bool) (side j : ℕ) → side < length flags → (is_set flags j ≡ true) ⊎ P → (is_set (set flags side true) j ≡ true) ⊎ P
  more P flags side j within (inl e) = inl (set_more flags side j within e)
  more P flags side j within (inr p) = inr p

  not_one : (n k : ℕ) → eqb n 1 ≡ false → n ≡ k → k ≢ 1
  not_one n k e f g = absurd (let no : true ≡ false = sym (eq-eqb n 1 (f ∙ g)) ∙ e in cc)

  seen_now : (side n : ℕ) (noted : AppNoted) (kept : AppKept) (l : List Told) → side < 2 → kept.tx_done ≡ false → n ≡ mark_at c x (RxDone (pair_of c a side)) → Stands (Looking side) noted kept l
      → (b : Bool) → eqb n 1 ≡ b → Stands (Looking (side + 1)) noted (cond b (record kept { seen = set kept.seen side true }) kept) (with_told l (Look (RxDone (pair_of c a side))) (Old n))
  seen_now side n noted kept l below e f h true g =
      let on : AppKept = record kept { seen = set kept.seen side true } in
      let within : side < length kept.seen = omega (arith, below, h.sized.seen) in
      let grows : (j : ℕ) → IsKnown kept j → IsKnown on j = λ j k. to_known on j false e (more _ kept.seen side j within (as_seen kept j e k)) in
      record {
        turns = h.turns;
        few = omega (arith, h.few, longer l (Look (RxDone (pair_of c a side))) (Old n));
        sized = record { back = h.sized.back; seen = length-set kept.seen side true ∙ h.sized.seen; gone = h.sized.gone; unshut = h.sized.unshut };
        now = λ some.
            let now = h.now some in (
              record { lanes = λ k. record { stay = (now.0.lanes k).stay; empty = (now.0.lanes k).empty }; stay = now.0.stay; empty = now.0.empty },
              known_more on side (record { known = λ j k. grows j (now.1.known j k) }) (to_known on side false e (inl (get_or-set_same kept.seen side true false within))),
              λ two. record { untold = (now.2 two).untold; unended = (now.2 two).unended },
            );
        stays = λ two. let stays = h.stays two in record { lanes = stays.lanes; sides = stays.sides; known = record { known = λ j k. grows j (stays.known.known j k) } };
        began = h.began;
        over = λ three. record { untold = (h.over three).untold; unended = (h.over three).unended };
      }
  seen_now side n noted kept l below e f h false g =
      step (Looking side) (Looking (side + 1)) noted kept l _ (Old n) (omega arith) h
      (λ some. let now = h.now some in (now.0, known_more kept side now.1 (to_known kept side false e (inr (not_one n _ g f))), now.2))

  gone_now : (side n : ℕ) (noted : AppNoted) (kept : AppKept) (l : List Told) → side < 2 → kept.tx_done ≡ true → n ≡ mark_at c x (Gone (pair_of c a side)) → Stands (Looking side) noted kept l
      → (b : Bool) → eqb n 1 ≡ b → Stands (Looking (side + 1)) noted (cond b (record kept { gone = set kept.gone side true }) kept) (with_told l (Look (Gone (pair_of c a side))) (Old n))
  gone_now side n noted kept l below e f h true g =
      let on : AppKept = record kept { gone = set kept.gone side true } in
      let within : side < length kept.gone = omega (arith, below, h.sized.gone) in
      let grows : (j : ℕ) → IsKnown kept j → IsKnown on j = λ j k. to_known on j true e (more _ kept.gone side j within (as_gone kept j e k)) in
      record {
        turns = h.turns;
        few = omega (arith, h.few, longer l (Look (Gone (pair_of c a side))) (Old n));
        sized = record { back = h.sized.back; seen = h.sized.seen; gone = length-set kept.gone side true ∙ h.sized.gone; unshut = h.sized.unshut };
        now = λ some.
            let now = h.now some in (
              record { lanes = λ k. record { stay = (now.0.lanes k).stay; empty = (now.0.lanes k).empty }; stay = now.0.stay; empty = now.0.empty },
              known_more on side (record { known = λ j k. grows j (now.1.known j k) }) (to_known on side true e (inl (get_or-set_same kept.gone side true false within))),
              λ two. record { untold = (now.2 two).untold; unended = (now.2 two).unended },
            );
        stays = λ two. let stays = h.stays two in record { lanes = stays.lanes; sides = stays.sides; known = record { known = λ j k. grows j (stays.known.known j k) } };
        began = h.began;
        over = λ three. record { untold = (h.over three).untold; unended = (h.over three).unended };
      }
  gone_now side n noted kept l below e f h false g =
      step (Looking side) (Looking (side + 1)) noted kept l _ (Old n) (omega arith) h
      (λ some. let now = h.now some in (now.0, known_more kept side now.1 (to_known kept side true e (inr (not_one n _ g f))), now.2))

  seen_sized : (kept : AppKept) (side : ℕ) → Sized kept → (b : Bool) → Sized (cond b (record kept { seen = set kept.seen side true }) kept)
  seen_sized kept side h true = record { back = h.back; seen = length-set kept.seen side true ∙ h.seen; gone = h.gone; unshut = h.unshut }
  seen_sized kept side h false = h

  gone_sized : (kept : AppKept) (side : ℕ) → Sized kept → (b : Bool) → Sized (cond b (record kept { gone = set kept.gone side true }) kept)
  gone_sized kept side h true = record { back = h.back; seen = h.seen; gone = length-set kept.gone side true ∙ h.gone; unshut = h.unshut }
  gone_sized kept side h false = h

  entries : AtEntries c a Q At Asked
  entries (rx_empty lane) noted kept l known h said q = by_stretch l
      (λ lt. first (Lanes (lane + 1)) noted kept l _ Empty lt h.sized)
      (λ ge. step (Lanes lane) (Lanes (lane + 1)) noted kept l _ Empty (omega arith) h
      (λ some.
      let now = h.now some in (
        record {
          stay = lane_more kept lane now.0.stay (inl (known.2, was_empty _ _ (q ge).gives));
          empty = λ none. now.0.empty (λ j k. none j (omega (arith, k)));
        },
        now.1,
      )))
  entries (rx_items lane items) noted kept l known h said q = moves _ _ kept _ l _ (Items items) refl q (record { back = h.sized.back; seen = h.sized.seen; gone = h.sized.gone; unshut = h.sized.unshut })
  entries (rx_released lane n) noted kept l known h said q = moves _ noted kept kept l _ _ refl q h.sized
  entries (tx_granted lane) noted kept l known h said q = moves _ noted kept kept l _ Granted refl q h.sized
  entries (tx_full lane places) noted kept l known h said q = by_stretch l
      (λ lt. first (Lanes (lane + 1)) noted kept l _ (Full places) lt h.sized)
      (λ ge. step (Lane lane nothing_due) (Lanes (lane + 1)) noted kept l _ (Full places) (omega arith) h
      (λ some.
      let now = h.now some in (
        record {
          stay = lane_more kept lane now.0 (inr (now.1, was_full _ _ places (q ge).gives));
          empty = λ none. absurd (now.1 (none lane (omega arith)));
        },
        now.2,
      )))
  entries (tx_submitted lane) noted kept l known h said q = (tt, refl, ends_before _ l _ _ refl q, record { back = back_sides kept.manner.mangle kept.number (pending_at kept lane) (lane / classes_of c) kept.back ∙ h.sized.back; seen = h.sized.seen; gone = h.sized.gone; unshut = h.sized.unshut })
  entries (comp_empty side) noted kept l known h said q = by_stretch l
      (λ lt. first (Sides (side + 1)) noted kept l _ Empty lt h.sized)
      (λ ge. step (Sides side) (Sides (side + 1)) noted kept l _ Empty (omega arith) h
      (λ some.
      let now = h.now some in
      record {
        lanes = now.lanes;
        stay = side_more kept side now.stay (inl (known.1, was_empty _ _ (q ge).gives));
        empty = λ none. now.empty (λ j k. none j (omega (arith, k)));
      }))
  entries (comp_items side items) noted kept l known h said q = moves _ _ kept _ l _ (Items items) refl q (back_sized kept side _ h.sized)
  entries (comp_released side n) noted kept l known h said q = moves _ noted kept kept l _ _ refl q h.sized
  entries (fill_granted side frame frames) noted kept l known h said q = moves _ noted _ _ l _ Granted refl q h.sized
  entries (fill_full side frame frames places) noted kept l known h said q =
      let now : AppKept = with_back kept side (frame ∷ frames) in by_stretch l
      (λ lt. first (Sides (side + 1)) noted now l _ (Full places) lt h.sized)
      (λ ge. step (Side side nothing_due) (Sides (side + 1)) noted now l _ (Full places) (omega arith) h
      (λ some.
      let this = h.now some in
      let here : back_at now side ≡ frame ∷ frames = get_or-set_same kept.back side (frame ∷ frames) [] (omega (arith, known, h.sized.back, length-set kept.back side (frame ∷ frames))) in
      record {
        lanes = this.0;
        stay = side_more now side this.1 (inr (record { frame = frame; others = frames; first = here; lacks = was_full _ _ places (q ge).gives }));
        empty = λ none. absurd (this.2 (none side (omega arith)));
      }))
  entries (fill_submitted side frame frames) noted kept l known h said q = (
    tt,
    refl,
    ends_before _ l _ _ refl q,
    record { back = length-set kept.back side _ ∙ sym (length-set kept.back side (frame ∷ frames)) ∙ h.sized.back; seen = h.sized.seen; gone = h.sized.gone; unshut = h.sized.unshut },
  )
  entries (looked_rx_done side n) noted kept l known h said q = by_stretch l
      (λ lt. first (Looking (side + 1)) noted _ l _ (Old n) lt (seen_sized kept side h.sized (eqb n 1)))
      (λ ge. seen_now side n noted kept l known.0 known.2 (was_number n _ (q ge).gives) h (eqb n 1) refl)
  entries (told_tx_done n) noted kept l known h said q = by_stretch l
      (λ lt. (omega (arith, lt, longer l (Swap (TxDone a) 1) (Old n)), record { back = h.sized.back; seen = h.sized.seen; gone = h.sized.gone; unshut = h.sized.unshut }))
      (λ ge.
      let ans = q ge in
      let one : mark_at c x (TxDone a) ≡ 1 = sym (was_number n _ ans.gives) ∙ still_one n ans.quiet in
      absurd (let off : false ≡ true = sym known.0 ∙ ans.told one in cc))
  entries (looked_gone side n) noted kept l known h said q = by_stretch l
      (λ lt. first (Looking (side + 1)) noted _ l _ (Old n) lt (gone_sized kept side h.sized (eqb n 1)))
      (λ ge. gone_now side n noted kept l known.0 known.2 (was_number n _ (q ge).gives) h (eqb n 1) refl)
  entries (looked_need place need pair n) noted kept l known h said q = (h.0, h.1, omega (arith, h.2, longer l (Look need) (Old n)), h.3)
  entries (kicked place pair n) noted kept l known h said q = woken place noted kept _ h.0 (omega (arith, h.1, longer l (Swap (Kick pair) 1) (Old n))) h.2
  entries (lowered shut index n) noted kept l known h said q = absurd (no_socket shut known.0)
  entries (told_closing shut n) noted kept l known h said q = absurd (no_socket shut known.0)
  entries (drain_empty lane) noted kept l known h said q = absurd (never_drains lane kept known.2)
  entries (drain_items lane items) noted kept l known h said q = absurd (never_drains lane kept known.2)
  entries (drain_released lane n) noted kept l known h said q = absurd (never_drains lane kept known.2)
  entries (looked_acked shut n) noted kept l known h said q = absurd (no_socket shut known.0)

  -- ---- what goes on without a call

  pass : (place next : Stage) (noted : AppNoted) (kept : AppKept) (l : List Told) → before place ≤ before next → (h : Stands place noted kept l) → (1 ≤ h.turns → Now h.turns next noted kept)
      → Stands next noted kept l
  pass place next noted kept l fits h now = record { turns = h.turns; few = omega (arith, h.few, fits); sized = h.sized; now = now; stays = h.stays; began = h.began; over = h.over }

  all_known : (kept : AppKept) → Known 2 kept → AreOne kept → (b : Bool) → kept.tx_done ≡ b → (side : ℕ) → side < 2 → is_set (cond b kept.gone kept.seen) side ≡ true
  all_known kept k ones b e side below = ⊎_elim
      (λ (set : is_set (flags_of kept) side ≡ true). subst (λ b. is_set (cond b kept.gone kept.seen) side ≡ true) e set)
      (λ (other : mark_at c x (mark_of kept side) ≢ 1). absurd (other (ones side below)))
      (k.known side below)

  -- why it looks, or goes on
  over_by : (t : ℕ) (noted : AppNoted) (kept : AppKept) → SidesNow 2 noted kept → (2 ≤ t → Stays kept) → (2 ≤ t → Began noted kept)
      → (((kept.tx_done ≡ false) × (both kept.seen ≡ false)) ⊎ ((kept.tx_done ≡ true) × (is_over noted kept ≡ false))) → 2 ≤ t → Over kept
  over_by t noted kept now stays began (inl w) two = record {
    untold = λ ones e none.
        let set = all_known kept (stays two).known ones false e in
        let off : false ≡ true = sym w.1 ∙ both_set _ _ (set 0 (omega arith)) (set 1 (omega arith)) in cc;
    unended = λ ones e none. let off : false ≡ true = sym w.0 ∙ e in cc;
  }
  over_by t noted kept now stays began (inr w) two = record {
    untold = λ ones e none. let off : true ≡ false = sym w.0 ∙ e in cc;
    unended = λ ones e none.
        let gone : noted.gone ≡ true = subst (λ b. cond b noted.gone noted.seen ≡ true) e (began two ones) in
        let sides : noted.sides_empty ≡ true = now.empty none in
        let ended : is_over noted kept ≡ true = both_set _ _ (both_set _ _ (both_set _ _ gone sides) (none_of (back_at kept 0) (none 0 (omega arith)))) (none_of (back_at kept 1) (none 1 (omega arith))) in
        let off : false ≡ true = sym w.1 ∙ ended in cc;
  }

  over_rests : (t : ℕ) (noted : AppNoted) (kept : AppKept) → SidesNow 2 noted kept → (2 ≤ t → Began noted kept) → kept.tx_done ≡ false → (noted.seen && noted.lanes_empty) ≡ false → 2 ≤ t → Over kept
  over_rests t noted kept now began sends f two = record {
    untold = λ ones e none.
        let seen : noted.seen ≡ true = subst (λ b. cond b noted.gone noted.seen ≡ true) e (began two ones) in
        let off : false ≡ true = sym f ∙ both_set _ _ seen ((now.lanes e).empty none) in cc;
    unended = λ ones e none. let off : false ≡ true = sym sends ∙ e in cc;
  }

  none_left : (kept : AppKept) (side : ℕ) → back_at (with_back kept side []) side ≡ []
  none_left kept side = ⊎_elim
      (λ (within : side < length kept.back). get_or-set_same kept.back side [] [] within)
      (λ (past : length kept.back ≤ side). get_or_past (set kept.back side []) side [] (omega (arith, past, length-set kept.back side [])))
      (cases_lt side (length kept.back))

  some_item : (xs : List Item) (item : Item) (items : List Item) → xs ≡ item ∷ items → xs ≢ []
  some_item xs item items e none = let off : item ∷ items ≡ [] = sym e ∙ none in cc

  some_frame : (xs : List Frame) (frame : Frame) (frames : List Frame) → xs ≡ frame ∷ frames → xs ≢ []
  some_frame xs frame frames e none = let off : frame ∷ frames ≡ [] = sym e ∙ none in cc

  silent : AtSilent c a At
  silent no_lanes noted kept l = λ h done. pass (Lanes 0) (Sides 0) noted kept l (omega arith) h
      (λ some. record { lanes = λ e. absurd (let off : true ≡ false = sym done ∙ e in cc); stay = λ j k. absurd (omega (arith, k)); empty = λ none. (h.now some).1 })
  silent (has_items lane item items) noted kept l = λ h e. record {
    turns = h.turns;
    few = h.few;
    sized = h.sized;
    stays = h.stays;
    began = h.began;
    over = h.over;
    now = λ some. ((h.now some).0.stay, some_item (pending_at kept lane) item items e, (h.now some).1);
  }
  silent lanes_done noted kept l = λ h sends. pass (Lanes (lanes_of c)) (Sides 0) noted kept l (omega (arith, lanes_few)) h
      (λ some. record { lanes = λ e. (h.now some).0; stay = λ j k. absurd (omega (arith, k)); empty = λ none. (h.now some).1 })
  silent (has_frames side frame frames) noted kept l = λ h e. record {
    turns = h.turns;
    few = h.few;
    sized = h.sized;
    stays = h.stays;
    began = h.began;
    over = h.over;
    now = λ some.
        let now = h.now some in
        ((λ sends. record { stay = (now.lanes sends).stay; empty = (now.lanes sends).empty }), now.stay, some_frame (back_at kept side) frame frames e);
  }
  silent (all_given side) noted kept l = λ h e. pass (Side side nothing_due) (Sides (side + 1)) noted (with_back kept side []) l (omega arith) h
      (λ some. absurd ((h.now some).2 (none_left kept side)))
  silent sides_done noted kept l = λ h e. pass (Sides 2) Ending noted kept l (omega arith) h h.now
  silent looks noted kept l = λ h w. pass Ending (Looking 0) noted kept l (omega arith) h
      (λ some. let now = h.now some in (now, record { known = λ j k. absurd (omega (arith, k)) }, over_by h.turns noted kept now h.stays h.began w))
  silent rests noted kept l = λ h w. pass Ending (Looking 2) noted kept l (omega arith) h
      (λ some.
      let now = h.now some in
      let seen = and_parts (is_set kept.seen 0) (is_set kept.seen 1) w.1 in
      (now, record { known = both_known kept w.0 seen.0 seen.1 }, over_rests h.turns noted kept now h.began w.0 (tells_open noted kept h.sized.unshut w.2)))
    where
      both_known : (kept : AppKept) → kept.tx_done ≡ false → is_set kept.seen 0 ≡ true → is_set kept.seen 1 ≡ true → (j : ℕ) → j < 2 → IsKnown kept j
      both_known kept e f g zero k = to_known kept 0 false e (inl f)
      both_known kept e f g (suc zero) k = to_known kept 1 false e (inl g)
      both_known kept e f g (suc (suc j)) k = absurd (omega (arith, k))
  silent (skips side) noted kept l = λ h e. pass (Looking side) (Looking (side + 1)) noted kept l (omega arith) h
      (λ some. let now = h.now some in (now.0, known_more kept side now.1 (inl e), now.2))
  silent begins noted kept l = λ h e. record {
    turns = h.turns + 1;
    few = omega (arith, h.few);
    sized = h.sized;
    now = λ some. (record { stay = λ j k. absurd (omega (arith, k)); empty = λ none. refl }, refl);
    stays = λ two. let now = h.now (omega (arith, two)) in record { lanes = λ e. (now.0.lanes e).stay; sides = now.0.stay; known = now.1 };
    began = λ two ones. let now = h.now (omega (arith, two)) in both_flags kept.tx_done kept (all_known kept now.1 ones kept.tx_done refl);
    over = λ three. let now = h.now (omega (arith, three)) in now.2 (omega (arith, three));
  }
    where
      both_flags : (b : Bool) (kept : AppKept) → ((side : ℕ) → side < 2 → is_set (cond b kept.gone kept.seen) side ≡ true) → cond b (both kept.gone) (both kept.seen) ≡ true
      both_flags true kept all = both_set _ _ (all 0 (omega arith)) (all 1 (omega arith))
      both_flags false kept all = both_set _ _ (all 0 (omega arith)) (all 1 (omega arith))
  silent (without_need place need pair) noted kept l = λ h off. woken place noted kept l h.0 (omega (arith, h.1, h.2)) h.3
  silent (needs_none place need pair n) noted kept l = λ h e. woken place noted kept l h.0 (omega (arith, h.1, h.2)) h.3
  silent (needs_kick place need pair n) noted kept l = λ h e. (h.0, omega (arith, h.1, h.2), h.3)
  silent told_quietly noted kept l = λ h off. early (Looking 2) noted kept l (omega (arith, h.0)) h.1
  silent told_both noted kept l = λ h on. (tt, omega (arith, h.0), h.1)
  silent (closes shut) noted kept l = λ h e. absurd (no_socket shut e.0)
  silent (keeps_cell shut index) noted kept l = λ h e. pass (Lowering shut index) (Lowering shut (index + 1)) noted kept l (omega arith) h h.now
  silent (closed_quietly shut) noted kept l = λ h e. pass (Shutting shut) (Lanes 0) noted kept l (omega arith) h (λ some. absurd (h.now some))
  silent (closed_kicks shut) noted kept l = λ h e. absurd (no_socket shut e.1)

  law : IsLaw c a Q At Asked (λ kept l. Unit {0})
  law = record { calls = calls; entries = entries; silent = silent; ends = λ noted kept l done h. tt }

-- ---- the law

pub all_at : {X : Type 0} (P : X → Type 0) (front later : List X) (t : X) → All P (front ++ t ∷ later) → P t
all_at P [] later t all = All-head P t later all
all_at P (x ∷ front) later t all = all_at P front later t (All-tail P x (front ++ t ∷ later) all)

pub app_stays : AppStays
app_stays c a x mine still kept call rest one none_shut fit all long told asks =
    let m = length mine in
    let begins = app_start c in
    let each : (front : List Told) (t : Told) (later : List Told) (k : AppKept) (on : Reply → Script AppKept) → mine ++ still ≡ front ++ t ∷ later → Asks (app_turn c a) begins front k t.call on
    → Q c a one none_shut x m k front t.call t.reply =
    λ front t later k on e asked behind.
    let cut = cut_behind mine still front later t e behind in
    let is : IsStill c x t = all_at (IsStill c x) cut.0 later t (subst (All (IsStill c x)) cut.2 all) in
    record {
      gives = is.reply;
      quiet = is.quiet;
      told = told cut.0 t later k on cut.2 (subst (λ l. Asks (app_turn c a) begins l k t.call on) cut.1 asked);
    } in
    at_call c a one (Q c a one none_shut x m) (At c a one none_shut x m) (Asked c a one none_shut x m) (λ kept l. Unit {0}) (law c a one none_shut x m) begins
    (early c a one none_shut x m (Lanes 0) (noted_first begins) begins [] (omega arith) (record { back = refl; seen = refl; gone = refl; unshut = refl })) (mine ++ still)
    (meet_each (app_turn c a) begins (Q c a one none_shut x m) (mine ++ still) each (ask kept call rest) asks) kept call rest asks (omega (arith, long, length-append mine still))
