-- The marks that tell of an end are set to 1 alone, and an application puts on FILL of a pair only frames of its pool.
use Rattle.std.proofs.Common.{◌≡◌, ℕ, ◌+◌, Bool, true, false, cond, eqb, All, List, [], ◌∷◌, ◌++◌, take, map, one-add, refl, sym, ◌∙◌, subst}
use Rattle.std.proofs.lemmas.Bool.{eqb-true}
use Rattle.std.proofs.lemmas.List.Elements.{All-nil, All-cons, All-append, All-map, All-take, All-weaker}
use Rattle.std.specs.List.{prefix_len}
use Rattle.xsk_umem.specs.Frame.{Frame}
use Rattle.xsk_turns.proofs.Object.{Config, classes_of, pool_of, batch_of, home_item, submitted, submitted_of, submitted_step}
use Rattle.xsk_model.proofs.Folds.{part_of-push}
use Rattle.xsk_turns.proofs.Calls.{Told, with_told, Fill, Mark, RxDone, Gone, TxDone, Call, Submit, Swap, Reply, Submitted, Old}
use Rattle.xsk_turns.specs.Turns.{Seat, seat_of, start, turn}
use Rattle.xsk_turns.specs.AppTurns.{AppKept, AppNoted, app_turn, app_start, home_of}
use Rattle.xsk_model.specs.declared.call.Mark.TheVariants.{Kick}
use Rattle.xsk_turns.proofs.Owned.{none_submitted, other_submitted}
use Rattle.xsk_turns.proofs.Walks.{Anything, meet_anything}
use Rattle.xsk_turns.proofs.DriverStages as walk
use Rattle.xsk_turns.proofs.DriverWalk as along
use Rattle.xsk_turns.proofs.AppWalk as app
use Rattle.xsk_still.specs.Own.{SetsOne, SetsOnes, EndsSetOnce, AppSetsOnce, IsHomeItem, FillsHomes}

push : (m : Mark) (l : List Told) (call : Call) (reply : Reply) → SetsOne m call → SetsOnes m l → SetsOnes m (with_told l call reply)
push m l call reply one all = All-append (λ (t : Told). SetsOne m t.call) l _ all (All-cons (λ (t : Told). SetsOne m t.call) (record { call = call; reply = reply }) [] one (All-nil (λ (t : Told). SetsOne m t.call)))

-- ---- a driver

module _ (seat : Seat) where
  abbrev Ones : List Told → Type 0
  Ones l = SetsOnes (RxDone seat.pair) l × SetsOnes (Gone seat.pair) l

  abbrev At : walk.Family
  At place noted kept l = Ones l

  both : (l : List Told) (call : Call) (reply : Reply) → SetsOne (RxDone seat.pair) call → SetsOne (Gone seat.pair) call → Ones l → Ones (with_told l call reply)
  both l call reply e f h = (push (RxDone seat.pair) l call reply e h.0, push (Gone seat.pair) l call reply f h.1)

  entries : walk.AtEntries seat Anything At (λ kept call l. Ones l)
  entries (walk.told_rx_done n) noted kept l known found h a q = both l (Swap (RxDone seat.pair) 1) (Old n) (λ e. refl) (λ e. refl) h
  entries (walk.told_bounced packet n) noted kept l known found h a q = both l _ (Old n) (λ e. let off : false ≡ true = e in cc) (λ e. let off : false ≡ true = e in cc) h
  entries (walk.told_acked s n) noted kept l known found h a q = both l _ (Old n) (λ e. refl) (λ e. refl) h
  entries (walk.armed_fill n) noted kept l known found h a q = both l _ (Old n) (λ e. refl) (λ e. refl) h
  entries (walk.armed_tx k n) noted kept l known found h a q = both l _ (Old n) (λ e. refl) (λ e. refl) h
  entries (walk.cleared_kick frames n) noted kept l known found h a q = both l _ (Old n) (λ e. let off : false ≡ true = e in cc) (λ e. let off : false ≡ true = e in cc) h
  entries (walk.disarmed_fill n) noted kept l known found h a q = both l _ (Old n) (λ e. let off : false ≡ true = e in cc) (λ e. let off : false ≡ true = e in cc) h
  entries (walk.disarmed_tx k n) noted kept l known found h a q = both l _ (Old n) (λ e. let off : false ≡ true = e in cc) (λ e. let off : false ≡ true = e in cc) h
  entries e noted kept l known found h a q = both l (walk.call_at seat (walk.point_of e) kept) (walk.reply_of e) tt tt h

  silent : walk.AtSilent seat Anything At
  silent walk.none_comes noted kept l = λ h e. h
  silent p noted kept l = λ h e. h

  calls : walk.AtCalls seat Anything At (λ kept call l. Ones l)
  calls p noted kept l known h = h

  law : walk.IsLaw seat Anything At (λ kept call l. Ones l) (λ kept l. Ones l)
  law = record { calls = calls; entries = entries; silent = silent; ends = λ noted kept l n known h a q. both l (Swap (Gone seat.pair) 1) (Old n) (λ e. refl) (λ e. refl) h }

pub ends_set_once : EndsSetOnce
ends_set_once wire c d input l run =
    let seat = seat_of wire c d in
    along.of_run seat Anything (At seat) (λ kept call l. Ones seat l) (λ kept l. Ones seat l) (law seat) (start (classes_of c) input)
    (All-nil (λ (t : Told). SetsOne (RxDone d) t.call), All-nil (λ (t : Told). SetsOne (Gone d) t.call)) l (meet_anything (turn seat) _ [] l)
    (Ones seat) (λ kept m h. h) (λ kept call m h. h) (λ kept m h. h) run

-- ---- an application

module _ (c : Config) (a : ℕ) where
  abbrev Told1 : List Told → Type 0
  Told1 l = SetsOnes (TxDone a) l

  abbrev AppAt : app.Family
  AppAt (app.Waking place need pair) noted kept l = Told1 l
  AppAt place noted kept l = Told1 l

  told_at : (place : app.Stage) (noted : AppNoted) (kept : AppKept) (l : List Told) → Told1 l → AppAt place noted kept l
  told_at (app.Waking place need pair) noted kept l h = h
  told_at place noted kept l h = h

  app_calls : app.AtCalls c a AppAt (λ kept call l. Told1 l)
  app_calls (app.LookNeed place need pair) noted kept l known h = h
  app_calls p noted kept l known h = h

  app_entries : app.AtEntries c a Anything AppAt (λ kept call l. Told1 l)
  app_entries (app.told_tx_done n) noted kept l known h said q = push (TxDone a) l _ (Old n) (λ e. refl) h
  app_entries (app.lowered shut index n) noted kept l known h said q = push (TxDone a) l _ (Old n) (λ e. let off : false ≡ true = e in cc) h
  app_entries (app.told_closing shut n) noted kept l known h said q = push (TxDone a) l _ (Old n) (λ e. refl) h
  app_entries (app.kicked place pair n) noted kept l known h said q = told_at place noted kept _ (push (TxDone a) l _ (Old n) (λ e. refl) h)
  app_entries e noted kept l known h said q = push (TxDone a) l (app.call_at c a (app.point_of e) kept) (app.reply_of e) tt h

  app_silent : app.AtSilent c a AppAt
  app_silent (app.without_need place need pair) noted kept l = λ h e. told_at place noted kept l h
  app_silent (app.needs_none place need pair n) noted kept l = λ h e. told_at place noted kept l h
  app_silent p noted kept l = λ h e. h

  app_law : app.IsLaw c a Anything AppAt (λ kept call l. Told1 l) (λ kept l. Told1 l)
  app_law = record { calls = app_calls; entries = app_entries; silent = app_silent; ends = λ noted kept l done h. h }

pub app_sets_once : AppSetsOnce
app_sets_once c a l one run =
    app.of_run c a one Anything (AppAt c a) (λ kept call l. Told1 c a l) (λ kept l. Told1 c a l) (app_law c a) (app_start c)
    (All-nil (λ (t : Told). SetsOne (TxDone a) t.call)) l (meet_anything (app_turn c a) _ [] l) (Told1 c a) (λ kept m h. h) (λ kept call m h. h) (λ kept m h. h) run

-- ---- what is put on FILL

whiles : (test : Frame → Bool) (xs : List Frame) → All (λ (f : Frame). test f ≡ true) (take (prefix_len test xs) xs)
whiles test [] = All-nil (λ (f : Frame). test f ≡ true)
whiles test (x ∷ xs) = by (test x) refl (whiles test xs)
  where
    by : (b : Bool) → test x ≡ b → All (λ (f : Frame). test f ≡ true) (take (prefix_len test xs) xs) → All (λ (f : Frame). test f ≡ true) (take (cond b (1 + prefix_len test xs) 0) (x ∷ xs))
    by true e rest = subst (λ n. All (λ (f : Frame). test f ≡ true) (take n (x ∷ xs))) (sym (one-add (prefix_len test xs))) (All-cons (λ (f : Frame). test f ≡ true) x _ e rest)
    by false e rest = All-nil (λ (f : Frame). test f ≡ true)

module _ (c : Config) (h : ℕ) where
  abbrev Homes : List Told → Type 0
  Homes l = All (IsHomeItem c h) (submitted_of (Fill h) l)

  -- the frames that go back together
  pub group_homes : (frame : Frame) (frames : List Frame) → h ≡ home_of (pool_of c) frame → All (IsHomeItem c h) (map (home_item c.geometry) (app.group c frame frames))
  group_homes frame frames e =
      let test : Frame → Bool = λ (f : Frame). eqb (home_of (pool_of c) f) (home_of (pool_of c) frame) in
      All-map (IsHomeItem c h) (home_item c.geometry) (app.group c frame frames)
      (All-weaker (λ (f : Frame). test f ≡ true) (λ (f : Frame). IsHomeItem c h (home_item c.geometry f)) (λ f t. (f, refl, eqb-true _ _ t ∙ sym e)) (app.group c frame frames)
      (All-take (λ (f : Frame). test f ≡ true) (batch_of c) _ (whiles test (frame ∷ frames))))

  gives : (l : List Told) (frame : Frame) (frames : List Frame) → Homes l → Homes (with_told l (Submit (Fill (home_of (pool_of c) frame)) (map (home_item c.geometry) (app.group c frame frames))) Submitted)
  gives l frame frames all =
      subst (All (IsHomeItem c h)) (sym (part_of-push submitted_step (Fill h) [] l (record { call = Submit (Fill (home_of (pool_of c) frame)) (map (home_item c.geometry) (app.group c frame frames)); reply = Submitted })))
      (by (eqb h (home_of (pool_of c) frame)) refl)
    where
      by : (b : Bool) → eqb h (home_of (pool_of c) frame) ≡ b
          → All (IsHomeItem c h) (cond b (submitted_of (Fill h) l ++ map (home_item c.geometry) (app.group c frame frames)) (submitted_of (Fill h) l))
      by true e = All-append (IsHomeItem c h) (submitted_of (Fill h) l) _ all (group_homes frame frames (eqb-true h _ e))
      by false e = all

  none : (l : List Told) (call : Call) (reply : Reply) → submitted call ≡ [] → Homes l → Homes (with_told l call reply)
  none l call reply e all = subst (All (IsHomeItem c h)) (sym (none_submitted (Fill h) l call reply e)) all

  module _ (a : ℕ) where
    abbrev HomeAt : app.Family
    HomeAt (app.Waking place need pair) noted kept l = Homes l
    HomeAt place noted kept l = Homes l

    home_at : (place : app.Stage) (noted : AppNoted) (kept : AppKept) (l : List Told) → Homes l → HomeAt place noted kept l
    home_at (app.Waking place need pair) noted kept l all = all
    home_at place noted kept l all = all

    home_calls : app.AtCalls c a HomeAt (λ kept call l. Homes l)
    home_calls (app.LookNeed place need pair) noted kept l known all = all
    home_calls p noted kept l known all = all

    home_entries : app.AtEntries c a Anything HomeAt (λ kept call l. Homes l)
    home_entries (app.tx_submitted lane) noted kept l known all said q = subst (All (IsHomeItem c h)) (sym (other_submitted (Fill h) l _ Submitted refl)) all
    home_entries (app.fill_submitted side frame frames) noted kept l known all said q = gives l frame frames all
    home_entries (app.kicked place pair n) noted kept l known all said q = home_at place noted kept _ (none l (Swap (Kick pair) 1) (Old n) refl all)
    home_entries e noted kept l known all said q = none l (app.call_at c a (app.point_of e) kept) (app.reply_of e) refl all

    home_silent : app.AtSilent c a HomeAt
    home_silent (app.without_need place need pair) noted kept l = λ all e. home_at place noted kept l all
    home_silent (app.needs_none place need pair n) noted kept l = λ all e. home_at place noted kept l all
    home_silent p noted kept l = λ all e. all

    home_law : app.IsLaw c a Anything HomeAt (λ kept call l. Homes l) (λ kept l. Homes l)
    home_law = record { calls = home_calls; entries = home_entries; silent = home_silent; ends = λ noted kept l done all. all }

pub fills_homes : FillsHomes
fills_homes c a h l one run =
    app.of_run c a one Anything (HomeAt c h a) (λ kept call l. Homes c h l) (λ kept l. Homes c h l) (home_law c h a) (app_start c)
    (All-nil (IsHomeItem c h)) l (meet_anything (app_turn c a) _ [] l) (Homes c h) (λ kept m all. all) (λ kept call m all. all) (λ kept m all. all) run
