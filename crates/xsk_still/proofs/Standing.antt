-- What stands after a stretch of calls that change nothing, of each worker by itself: it has ended, or the reasons for which it
-- stays are those of the last state; nothing is due; each mark of its end tells what it told; and a parked driver isn't woken.
use Rattle.std.proofs.Common.{◌≡◌, ◌⊎◌, inl, inr, ℕ, ◌+◌, ◌<◌, ◌≤◌, Bool, true, false, cond, ◌||◌, ◌&&◌, eqb, is_some, All, None, List, [], ◌∷◌, ◌++◌, length, refl, sym, ap, ◌∙◌, subst, ⊎_elim, arith, append-nil, length-append}
use Rattle.std.specs.List.{fold}
use Rattle.std.proofs.lemmas.List.Sums.{fold-append}
use Rattle.xsk_umem.specs.Frame.{Frame}
use Rattle.xsk_model.specs.Config.{Config, IsConfig, HasRing, size_of, classes_of, callers_of}
use Rattle.xsk_model.specs.Rings.{producer, consumer, app_of, caller_of}
use Rattle.xsk_model.specs.Marks.{is_mark, apps_of}
use Rattle.xsk_model.specs.Object.{RingState, State, ring_at, mark_at}
use Rattle.xsk_model.specs.Entry.{Told, Entry, own, all_told}
use Rattle.xsk_model.specs.Own.{peeked_of, submitted_of}
use Rattle.xsk_model.specs.Ends.{Telling, telling_after, telling_step, telling_of}
use Rattle.xsk_model.specs.Homes.{first_ring}
use Rattle.xsk_model.specs.History.{IsHistory, OwnGoesOn, state_after}
use Rattle.xsk_model.specs.Opening.{opening}
use Rattle.xsk_model.specs.declared.call.Ring.{Ring}
use Rattle.xsk_model.specs.declared.call.Ring.TheVariants.{Fill, Comp, Rx, Tx}
use Rattle.xsk_model.specs.declared.call.Mark.{Mark}
use Rattle.xsk_model.specs.declared.call.Mark.TheVariants.{NeedFill, NeedTx, Kick, RxDone, Gone, TxDone}
use Rattle.xsk_model.specs.declared.call.Call.{Call}
use Rattle.xsk_model.specs.declared.call.Call.TheVariants.{Reserve, Submit, Peek, Release, Swap, Look}
use Rattle.xsk_model.specs.declared.call.Reply.{Reply}
use Rattle.xsk_model.specs.declared.call.Reply.TheVariants.{Old}
use Rattle.xsk_model.proofs.Folds.{own-append}
use Rattle.xsk_model.proofs.FrameTheorems.{opening_is}
use Rattle.xsk_model.proofs.Histories.{history_first}
use Rattle.xsk_model.proofs.MarkNumbers.{opening_mark_is}
use Rattle.xsk_model.proofs.Theorems.{in_order, parts_by_own, items_by_own, own_entries}
use Rattle.xsk_turns.specs.Script.{Script, Asks}
use Rattle.xsk_turns.specs.Turns.{Kept, seat_of, start, turn, IsDriverRun, IsWholeDriverRun}
use Rattle.xsk_turns.specs.Mangling.{plain}
use Rattle.xsk_turns.specs.AppTurns.{AppKept, app_turn, app_start, lanes_of, IsAppRun, IsAppRunBy, IsWholeAppRun, IsWholeAppRunBy}
use Rattle.xsk_turns.specs.AppLaw.{SetsKicks}
use Rattle.xsk_turns.specs.AppOwned.{IsApp}
use Rattle.xsk_turns.specs.Owned.{IsSeat, AllFit, socket_at_class}
use Rattle.xsk_turns.specs.Wakes.{IsParked, IsWoken, NoWakeIsLost, app_for, owes_on, owes_end}
use Rattle.xsk_turns.specs.Watching.{watching_of}
use Rattle.xsk_turns.specs.Workers.{Setting, input_of, IsWholeRun}
use Rattle.xsk_turns.proofs.AppWaking.{only_sets_kicks}
use Rattle.xsk_turns.proofs.Fitting.{fit_in_history}
use Rattle.xsk_turns.proofs.Places.{app_known, class_here, tx_ring}
use Rattle.xsk_turns.proofs.ScriptLemmas.{run_front}
use Rattle.xsk_laws.specs.Woken.{AreWorkerRuns}
use Rattle.xsk_laws.proofs.Woken.{no_wakes_are_lost, fill_kept, tx_kept}
use Rattle.xsk_still.specs.Still.{HasAmpleRoom, IsStill, AreStill, LacksRoom, IsEmpty, StaysBy, AppStaysBy}
use Rattle.xsk_still.specs.Own.{KeepsRxMark, KeepsTxMark, IsFree, IsPlain, HasNothingDue}
use Rattle.xsk_still.specs.Laws.{IsStretch}
use Rattle.xsk_still.proofs.AppStaying.{app_stays, was_number}
use Rattle.xsk_still.proofs.Asking.{IsAsking, whole_or_asking, turn_asks, app_turn_asks}
use Rattle.xsk_still.proofs.DriverStaying.{driver_stays}
use Rattle.xsk_still.proofs.Dues.{driver_is_free, driver_ends_free, app_is_free}
use Rattle.xsk_still.proofs.Keeping.{keeps_rx_told, keeps_tx_told}
use Rattle.xsk_still.proofs.Marks.{mark_is_told, last_of}
use Rattle.xsk_still.proofs.Meeting.{cut_behind}
use Rattle.xsk_still.proofs.Setting.{ends_set_once, app_sets_once}

-- ---- lists

told_on : (m : Mark) (r : Ring) (t : Telling) (l : List Told) → t.told ≡ true → (fold (telling_step m r) t l).told ≡ true
told_on m r t [] e = e
told_on m r t (u ∷ l) e = told_on m r (telling_step m r t u) l (by u.call)
  where
    or_on : (x y : Bool) → x ≡ true → (x || y) ≡ true
    or_on true y f = refl
    or_on false y f = absurd (cc)

    by : (call : Call) → (telling_after m r t call).told ≡ true
    by (Swap n value) = or_on t.told (is_mark m n && eqb value 1) e
    by (Reserve q k) = e
    by (Submit q items) = e
    by (Peek q k) = e
    by (Release q k) = e
    by (Look n) = e

-- what was told stays so
told_stays : (m : Mark) (r : Ring) (l more : List Told) → (telling_of m r l).told ≡ true → (telling_of m r (l ++ more)).told ≡ true
told_stays m r l more e = ap (λ (t : Telling). t.told) (fold-append (telling_step m r) (record { told = false; late = false }) l more) ∙ told_on m r (telling_of m r l) more e

if_one : (b : Bool) → ◌≡◌ {A = ℕ} (cond b 1 0) 1 → b ≡ true
if_one true e = refl
if_one false e = absurd (omega (arith, e))

pub one_if : (b : Bool) → b ≡ true → ◌≡◌ {A = ℕ} (cond b 1 0) 1
one_if true e = refl
one_if false e = absurd (cc)

-- the last of two lists joined is one of the second
last_is : {X : Type 0} (P : X → Type 0) (mine still before : List X) (t : X) → 1 ≤ length still → All P still → mine ++ still ≡ before ++ t ∷ [] → P t
last_is P mine still before t some all e =
    let few : length mine ≤ length before = omega (arith, some, ap length e, length-append mine still, length-append before (t ∷ [])) in
    let cut = cut_behind mine still before [] t e few in
    last_of P cut.0 t (subst (All P) cut.2 all)

-- ---- after the stretch

module _ (s : Setting) (frames : List Frame) (past es : List Entry) (are : AreWorkerRuns s frames (past ++ es)) (ample : HasAmpleRoom s.config) (st : IsStretch s frames past es) where
  abbrev pub c : Config
  c = s.config

  abbrev pub h : List Entry
  h = past ++ es

  abbrev pub x : State
  x = state_after c frames h

  pub config : IsConfig c
  config = are.history.opened.config

  pub seat : (d : ℕ) → d < length c.pairs → IsSeat c d
  seat d below = record { config = config; regular = are.steady.regular; geometry = are.history.opened.geometry; known = below }

  pub one_app : (a : ℕ) → a < apps_of c → IsApp c a
  one_app a known = record { config = config; regular = are.steady.regular; geometry = are.history.opened.geometry; known = known }

  pub goes : (who : ℕ) → OwnGoesOn c who [] (own who h)
  goes who = own_entries c frames h who are.history

  pub fit : (who : ℕ) → AllFit c [] (own who h)
  fit who = fit_in_history c frames h who are.history

  pub closes : c.closing ≡ None
  closes = are.steady.closes

  pub driver_run : (d : ℕ) → d < length c.pairs → IsDriverRun s.wire c d (input_of s d) (own d h)
  driver_run d below = (are.runs d (omega (arith, below))).driver below

  pub app_run : (a : ℕ) → a < apps_of c → IsAppRun c a (own (caller_of c a) h)
  app_run a known = subst (λ m. IsAppRunBy m c a (own (caller_of c a) h)) st.unchanged ((are.runs (caller_of c a) (omega (arith, known))).app a refl)

  still_at : (who : ℕ) → who < callers_of c → AreStill c x (own who es)
  still_at who known = subst (λ y. AreStill c y (own who es)) (sym st.same) (st.still who known)

  -- ---- what is told

  earlier : IsHistory c frames past
  earlier = history_first c frames past es are.history

  before : (d : ℕ) → d < length c.pairs → IsDriverRun s.wire c d (input_of s d) (own d past)
  before d below = run_front (turn (seat_of s.wire c d)) (start (classes_of c) (input_of s d)) (own d past) (own d es) (subst (IsDriverRun s.wire c d (input_of s d)) (own-append d past es) (driver_run d below))

  app_before : (a : ℕ) → a < apps_of c → IsAppRun c a (own (caller_of c a) past)
  app_before a known = run_front (app_turn c a) (app_start c) (own (caller_of c a) past) (own (caller_of c a) es) (subst (IsAppRun c a) (own-append (caller_of c a) past es) (app_run a known))

  pub rx_marked : (d r : ℕ) → d < length c.pairs → mark_at c x (RxDone d) ≡ cond (telling_of (RxDone d) (Rx r) (own d h)).told 1 0
  rx_marked d r below =
      mark_is_told c frames h (RxDone d) (Rx r) d are.history below (opening_mark_is c frames (RxDone d) config below) (λ other e. e) (ends_set_once s.wire c d (input_of s d) (own d h) (driver_run d below)).0

  pub gone_marked : (d r : ℕ) → d < length c.pairs → mark_at c x (Gone d) ≡ cond (telling_of (Gone d) (Comp r) (own d h)).told 1 0
  gone_marked d r below =
      mark_is_told c frames h (Gone d) (Comp r) d are.history below (opening_mark_is c frames (Gone d) config below) (λ other e. e) (ends_set_once s.wire c d (input_of s d) (own d h) (driver_run d below)).1

  pub tx_marked : (a r : ℕ) → a < apps_of c → mark_at c x (TxDone a) ≡ cond (telling_of (TxDone a) (Tx r) (own (caller_of c a) h)).told 1 0
  tx_marked a r known =
      mark_is_told c frames h (TxDone a) (Tx r) (caller_of c a) are.history known (opening_mark_is c frames (TxDone a) config known) (λ other e. e) (app_sets_once c a (own (caller_of c a) h) (one_app a known) (app_run a known))

  keeps_rx : (d : ℕ) → d < length c.pairs → KeepsRxMark s.wire c d (input_of s d) x (own d past) (own d es)
  keeps_rx d below front t later kept rest cut asks marked =
      let was : mark_at c (state_after c frames past) (RxDone d) ≡ cond (telling_of (RxDone d) (Rx 0) (own d past)).told 1 0 =
      mark_is_told c frames past (RxDone d) (Rx 0) d earlier below (opening_mark_is c frames (RxDone d) config below) (λ other e. e) (ends_set_once s.wire c d (input_of s d) (own d past) (before d below)).0 in
      let told : (telling_of (RxDone d) (Rx 0) (own d past)).told ≡ true = if_one _ (sym was ∙ ap (λ y. mark_at c y (RxDone d)) (sym st.same) ∙ marked) in
      let keeps = keeps_rx_told s.wire c d 0 (input_of s d) (own d past ++ front) kept t.call rest asks in
      sym keeps.0 ∙ told_stays (RxDone d) (Rx 0) (own d past) front told

  keeps_tx : (a : ℕ) → a < apps_of c → KeepsTxMark c a x (own (caller_of c a) past) (own (caller_of c a) es)
  keeps_tx a known front t later kept rest cut asks marked =
      let mine = own (caller_of c a) past in
      let was : mark_at c (state_after c frames past) (TxDone a) ≡ cond (telling_of (TxDone a) (Tx 0) mine).told 1 0 =
      mark_is_told c frames past (TxDone a) (Tx 0) (caller_of c a) earlier known (opening_mark_is c frames (TxDone a) config known) (λ other e. e) (app_sets_once c a mine (one_app a known) (app_before a known)) in
      let told : (telling_of (TxDone a) (Tx 0) mine).told ≡ true = if_one _ (sym was ∙ ap (λ y. mark_at c y (TxDone a)) (sym st.same) ∙ marked) in
      let keeps = keeps_tx_told c a 0 (mine ++ front) kept t.call rest (one_app a known) closes asks in
      sym keeps.0 ∙ told_stays (TxDone a) (Tx 0) mine front told

  -- ---- each worker has ended, or stays as it is

  abbrev pub Stays : ℕ → Kept → Type 0
  Stays d kept = (IsParked d (own d h) × (is_some kept.parked ≡ true)) ⊎ StaysBy (seat_of s.wire c d) x kept

  pub record OpenDriver (d : ℕ) : Type 0 where
    pub kept : Kept
    pub call : Call
    pub rest : Reply → Script Kept
    pub asks : Asks (turn (seat_of s.wire c d)) (start (classes_of c) (input_of s d)) (own d h) kept call rest
    pub long : 64 ≤ length (own d es)
    pub free : IsFree call
    pub stays : Stays d kept

  pub driver_state : (d : ℕ) → d < length c.pairs → IsWholeDriverRun s.wire c d (input_of s d) (own d h) ⊎ OpenDriver d
  driver_state d below = ⊎_elim
      (λ (whole : IsWholeRun s d (own d h)). inl (whole.driver below))
      (λ (long : 64 ≤ length (own d es)). ⊎_elim
      (λ (whole : IsWholeDriverRun s.wire c d (input_of s d) (own d h)). inl whole)
      (λ (asking : IsAsking (turn (seat_of s.wire c d)) (start (classes_of c) (input_of s d)) (own d h)).
      let same = own-append d past es in
      let cut = subst (λ l. Asks (turn (seat_of s.wire c d)) (start (classes_of c) (input_of s d)) l asking.kept asking.call asking.rest) same asking.asks in
      let settled = st.settled d below in
      let now = driver_stays s.wire c d (input_of s d) x settled.0 (own d past) (own d es) asking.kept asking.call asking.rest
      (seat d below) closes (subst (AllFit c []) same (fit d)) (still_at d (omega (arith, below))) long settled.1 (keeps_rx d below) cut in
      inr (record {
        kept = asking.kept;
        call = asking.call;
        rest = asking.rest;
        asks = asking.asks;
        long = long;
        free = now.0;
        stays = subst (λ l. (IsParked d l × (is_some asking.kept.parked ≡ true)) ⊎ StaysBy (seat_of s.wire c d) x asking.kept) (sym same) now.1;
      }))
      (whole_or_asking (turn (seat_of s.wire c d)) (turn_asks (seat_of s.wire c d) (some_class d below)) (start (classes_of c) (input_of s d)) (own d h) (driver_run d below)))
      (st.long d (omega (arith, below)))
    where
      some_class : (d : ℕ) → d < length s.config.pairs → 1 ≤ classes_of s.config
      some_class d below = let classes = are.steady.regular.classes in omega (arith, classes)

  pub record OpenApp (a : ℕ) : Type 0 where
    pub kept : AppKept
    pub call : Call
    pub rest : Reply → Script AppKept
    pub asks : Asks (app_turn c a) (app_start c) (own (caller_of c a) h) kept call rest
    pub plain : IsPlain call
    pub stays : AppStaysBy c a x kept

  pub app_state : (a : ℕ) → a < apps_of c → IsWholeAppRun c a (own (caller_of c a) h) ⊎ OpenApp a
  app_state a known = ⊎_elim
      (λ (whole : IsWholeRun s (caller_of c a) (own (caller_of c a) h)). inl (subst (λ m. IsWholeAppRunBy m c a (own (caller_of c a) h)) st.unchanged (whole.app a refl)))
      (λ (long : 64 ≤ length (own (caller_of c a) es)). ⊎_elim
      (λ (whole : IsWholeAppRun c a (own (caller_of c a) h)). inl whole)
      (λ (asking : IsAsking (app_turn c a) (app_start c) (own (caller_of c a) h)).
      let who = caller_of c a in
      let same = own-append who past es in
      let cut = subst (λ l. Asks (app_turn c a) (app_start c) l asking.kept asking.call asking.rest) same asking.asks in
      let now = app_stays c a x (own who past) (own who es) asking.kept asking.call asking.rest
      (one_app a known) closes (subst (AllFit c []) same (fit who)) (still_at who (omega (arith, known))) long (keeps_tx a known) cut in
      inr (record { kept = asking.kept; call = asking.call; rest = asking.rest; asks = asking.asks; plain = now.0; stays = now.1 }))
      (whole_or_asking (app_turn c a) (app_turn_asks c a some_lane) (app_start c) (own (caller_of c a) h) (app_run a known)))
      (st.long (caller_of c a) (omega (arith, known)))
    where
      some_lane : 1 ≤ lanes_of s.config
      some_lane = let classes = are.steady.regular.classes in omega (arith, classes)

  -- ---- nothing is due

  pub driver_due : (d : ℕ) → d < length c.pairs → HasNothingDue (own d h)
  driver_due d below = ⊎_elim
      (λ (whole : IsWholeDriverRun s.wire c d (input_of s d) (own d h)). driver_ends_free s.wire c d (input_of s d) (own d h) (seat d below) (fit d) whole)
      (λ (o : OpenDriver d). driver_is_free s.wire c d (input_of s d) (own d h) o.kept o.call o.rest (seat d below) (fit d) o.asks o.free)
      (driver_state d below)

  pub plain_free : (call : Call) → IsPlain call → IsFree call
  plain_free (Submit r items) calls = absurd calls
  plain_free (Release r n) calls = absurd calls
  plain_free call calls = tt

  pub app_due : (a : ℕ) → a < apps_of c → OpenApp a → HasNothingDue (own (caller_of c a) h)
  app_due a known w = app_is_free c a (own (caller_of c a) h) w.kept w.call w.rest (one_app a known) (fit (caller_of c a)) w.asks (plain_free w.call w.plain)

  -- so a ring of these has as much room as isn't filled
  pub has_room : (r : Ring) (n : ℕ) → HasRing c r → HasNothingDue (own (producer c r) h) → HasNothingDue (own (consumer c r) h) → length (ring_at c x r).out + n ≤ size_of c r → LacksRoom c x r n → ⊥
  has_room r n has made taken few lacks =
      let parts = parts_by_own c frames h r are.history has in
      let room : (ring_at c x r).room ≡ 0 = parts.0 ∙ (made r).0 in
      let held : length (ring_at c x r).held ≡ 0 = parts.1 ∙ (taken r).1 in
      omega (arith, room, held, few, lacks)

  -- and what was submitted on one that is empty was peeked
  pub passed_on : (r : Ring) → HasRing c r → first_ring c frames r ≡ (let e : RingState = record { out = []; held = []; room = 0 } in e) → IsEmpty c x r
      → peeked_of r (own (consumer c r) h) ≡ submitted_of r (own (producer c r) h)
  passed_on r has first none =
      let mine = items_by_own c frames h r are.history has in
      let opened : (ring_at c (opening c frames) r).out ≡ [] = ap (λ (q : RingState). q.out) ((opening_is c frames are.history.opened).ring r has ∙ first) in
      sym mine.0
      ∙ sym (append-nil (peeked_of r (all_told h)))
      ∙ ap (λ out. peeked_of r (all_told h) ++ out) (sym none)
      ∙ in_order c frames h r are.history has
      ∙ ap (λ out. out ++ submitted_of r (all_told h)) opened
      ∙ mine.1

  -- ---- a driver that is parked

  module _ (d : ℕ) (below : d < length c.pairs) (o : OpenDriver d) (parked : IsParked d (own d h)) where
    kick_is_0 : mark_at c x (Kick d) ≡ 0
    kick_is_0 =
        let t : Told = record { call = Look (Kick d); reply = Old 0 } in
        let last = last_is (IsStill c x) (own d past) (own d es) parked.0 t (omega (arith, o.long)) (still_at d (omega (arith, below))) (sym (own-append d past es) ∙ parked.1) in
        sym (was_number 0 (mark_at c x (Kick d)) last.reply)

    pub none_lost : NoWakeIsLost c frames h d
    none_lost = no_wakes_are_lost s frames h [] d (subst (AreWorkerRuns s frames) (sym (append-nil h)) are) below

    -- so nobody has woken it
    pub not_woken : (owes : Bool) → IsWoken c x d owes → owes ≡ true
    not_woken owes woken = ⊎_elim
        (λ (kick : mark_at c x (Kick d) ≡ 1). absurd (let no : ◌≡◌ {A = ℕ} 0 1 = sym kick_is_0 ∙ kick in omega (arith, no)))
        (λ (owed : owes ≡ true). owed)
        woken

    app_mine : IsAppRun c (app_for c d) (own (app_of c (Fill d)) h)
    app_mine = app_run (app_for c d) (app_known c d (seat d below))

    kicks : SetsKicks (own (app_of c (Fill d)) h)
    kicks = only_sets_kicks plain c (app_for c d) (own (app_of c (Fill d)) h) (one_app (app_for c d) (app_known c d (seat d below))) app_mine

    -- a flag that is set has its mark
    pub fill_flag : (watching_of (NeedFill d) (Fill d) (Kick d) (own d h)).set ≡ true → mark_at c x (NeedFill d) ≡ 1
    fill_flag set =
        (fill_kept s.wire c (input_of s d) frames h d are.steady.regular are.history below (driver_run d below) kicks).set ∙ one_if _ set

    pub tx_flag : (class : ℕ) → class < classes_of c
        → (watching_of (NeedTx (socket_at_class c d class)) (Tx (socket_at_class c d class)) (Kick d) (own d h)).set ≡ true → mark_at c x (NeedTx (socket_at_class c d class)) ≡ 1
    tx_flag class within set =
        let t = socket_at_class c d class in
        let ring = tx_ring c d (seat d below) t (class_here c d (seat d below) class within) in
        (tx_kept s.wire c (input_of s d) frames h d are.steady.regular are.history below (driver_run d below) kicks t ring.0 (sym ring.1)).set ∙ one_if _ set

    -- a ring that isn't empty owes it a wake
    pub fill_owed : (watching_of (NeedFill d) (Fill d) (Kick d) (own d h)).set ≡ true → 1 ≤ length (ring_at c x (Fill d)).out → owes_on d (Fill d) (NeedFill d) (own (app_of c (Fill d)) h) ≡ true
    fill_owed set waits = not_woken _ (none_lost.fill (record { parked = parked; set = fill_flag set; waits = waits }))

    pub tx_owed : (class : ℕ) → class < classes_of c
        → (watching_of (NeedTx (socket_at_class c d class)) (Tx (socket_at_class c d class)) (Kick d) (own d h)).set ≡ true
        → 1 ≤ length (ring_at c x (Tx (socket_at_class c d class))).out
        → owes_on d (Tx (socket_at_class c d class)) (NeedTx (socket_at_class c d class)) (own (app_of c (Fill d)) h) ≡ true
    tx_owed class within set waits =
        let t = socket_at_class c d class in
        let ring = tx_ring c d (seat d below) t (class_here c d (seat d below) class within) in
        not_woken _ (none_lost.tx t ring.0 (sym ring.1) (record { parked = parked; set = tx_flag class within set; waits = waits }))

    pub end_owed : mark_at c x (RxDone d) ≡ 1 → mark_at c x (TxDone (app_for c d)) ≡ 1 → owes_end d (TxDone (app_for c d)) (own (app_of c (Fill d)) h) ≡ true
    end_owed received sent = not_woken _ (none_lost.at_end (record { parked = parked; received = received; sent = sent }))
