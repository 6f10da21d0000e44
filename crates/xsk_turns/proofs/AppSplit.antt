-- Steps of an application: each law of its turns goes along the piece of a turn that a step is, so it holds after any steps, and of
-- the turns behind them.
use Rattle.std.proofs.Common.{◌≡◌, ℕ, zero, suc, ◌+◌, ◌-◌, Bool, true, false, cond, eqb, None, List, [], ◌∷◌, ◌++◌, append_assoc, append-nil, length, drop, map, set, refl, sym, ap, ◌∙◌, subst, arith}
use Rattle.std.proofs.lemmas.List.Elements.{All-nil, All-cons, All-head, All-weaker}
use Rattle.xsk_turns.proofs.Object.{Frame, Config, Geometry, pool_of, batch_of, home_item, IsItemOn, submitted_of}
use Rattle.xsk_turns.proofs.Calls.{Item, Told, Fill, Comp, Rx, Tx, Mark, RxDone, Call, Reserve, Submit, Peek, Release, Swap, Look, Reply}
use Rattle.xsk_model.specs.declared.call.Mark.TheVariants.{NeedFill, NeedTx, Kick}
use Rattle.xsk_turns.specs.Script.{Script, ask, again, ended, on_submitted, Leaves, Asks, Ends}
use Rattle.xsk_turns.specs.Turns.{frames_in}
use Rattle.xsk_turns.specs.Owned.{AllFit}
use Rattle.xsk_turns.specs.AppTurns.{AppKept, AppNoted, pair_of, rx_of, tx_of, tx_pair, lanes_of, home_of, group_of, is_set, pending_at, received, drains, given_on, passed_on, back_at, with_back, kick, wake, pass_on, receive_lane, visit_lane, give_back, complete_side, visit_side, with_seen, look_marks, noted_first, app_turn, app_start}
use Rattle.xsk_turns.proofs.AppShut.{none_drains}
use Rattle.xsk_turns.proofs.AppClosing.{clear_of_none}
use Rattle.xsk_turns.specs.AppOwned.{IsApp}
use Rattle.xsk_turns.specs.Mangling.{plain}
use Rattle.xsk_turns.proofs.Mangling.{altered_same}
use Rattle.xsk_turns.specs.AppSplit.{SplitStep, AtLane, AtSide, AtMarks, HasPlace, no_note, piece, LeavesOf, IsStep, AreSteps, IsSplit, MayGoBack, HasLeft, SplitKeepsLanes, SplitKeepsFrames, StepCallsLegal, LaterCallsLegal, LaterFramesAtEnd}
use Rattle.xsk_turns.proofs.AppOwned.{AppHas, IsBackFrame, back_frames, fill_item, times-app_numbers, app_owned, has_none}
use Rattle.xsk_turns.proofs.Walks.{Law, Holds, Says, Fitting, Anything, meet_fitting, meet_anything, along, at_reserve, at_submit, at_peek, at_release, at_old, by_case}
use Rattle.xsk_turns.proofs.AppWalk.{Family, Said, Lanes, Sides, Looking, IsLaw, go_lane, go_side, go_rx_done, go_turn}
use Rattle.xsk_turns.proofs.AppWalk as walk
use Rattle.xsk_turns.proofs.AppOwning as owning
use Rattle.xsk_turns.proofs.AppLanes as lanes

-- after a piece another begins
abbrev pub pieces : AppKept → Script AppKept
pieces kept = again kept

-- ---- lists that fit

pub fit_cut : (c : Config) (past l m : List Told) → AllFit c past (l ++ m) → AllFit c past l × AllFit c (past ++ l) m
fit_cut c past [] m h = (tt, subst (λ p. AllFit c p m) (sym (append-nil past)) h)
fit_cut c past (t ∷ l) m h =
    let rest = fit_cut c (past ++ t ∷ []) l m h.1 in ((h.0, rest.0), subst (λ p. AllFit c p m) (append_assoc past (t ∷ []) l) rest.1)

pub fit_join : (c : Config) (past l m : List Told) → AllFit c past l → AllFit c (past ++ l) m → AllFit c past (l ++ m)
fit_join c past [] m h k = subst (λ p. AllFit c p m) (append-nil past) k
fit_join c past (t ∷ l) m h k = (h.0, fit_join c (past ++ t ∷ []) l m h.1 (subst (λ p. AllFit c p m) (sym (append_assoc past (t ∷ []) l)) k))

-- ---- it tells in no step that it sends nothing more

abbrev Sending : Law AppKept
Sending = record { begins = λ kept l. kept.tx_done ≡ false; asks = λ kept call l. Unit {0}; ends = λ kept l. Unit {0} }

abbrev Stays : Script AppKept → List Told → Type 0
Stays s l = Holds Anything Sending s l

module _ (c : Config) (a : ℕ) where
  abbrev Goes : (AppKept → Script AppKept) → Type 0
  Goes next = (kept : AppKept) (l : List Told) → kept.tx_done ≡ false → Stays (next kept) l

  stays_kick : (pair : ℕ) (kept : AppKept) (next : Script AppKept) (l : List Told) → ((m : List Told) → Stays next m) → Stays (kick pair kept next) l
  stays_kick pair kept next l go =
      let call = Swap (Kick pair) 1 in (tt, at_old Anything Sending kept call l (λ old. next) (λ n q. go _))

  stays_wake : (need : Mark) (pair : ℕ) (kept : AppKept) (next : Script AppKept) (l : List Told) → ((m : List Told) → Stays next m) → Stays (wake c need pair kept next) l
  stays_wake need pair kept next l go = by_case Anything Sending c.wakeup _ _ l
      (λ on.
      let call = Look need in (
        tt,
        at_old Anything Sending kept call l (λ n. cond (eqb n 1) (kick pair kept next) next)
            (λ n q. by_case Anything Sending (eqb n 1) _ _ _ (λ e. stays_kick pair kept next _ go) (λ e. go _)),
      ))
      (λ off. go l)

  stays_pass_on : (lane : ℕ) (kept : AppKept) (next : AppKept → Script AppKept) (l : List Told) → kept.tx_done ≡ false → Goes next → Stays (pass_on c a lane kept next) l
  stays_pass_on lane kept next l sends go =
      let call = Reserve (Tx (tx_of c a lane)) (length (pending_at kept lane)) in
      let give = Submit (Tx (tx_of c a lane)) (given_on c lane kept) in
      let left = passed_on c lane kept in (
        tt,
        at_reserve Anything Sending kept call l (ask left give (on_submitted (wake c (NeedTx (tx_of c a lane)) (tx_pair c a lane) left (next left)))) (next kept)
            (λ q. (
              tt,
              at_submit Anything Sending left give _ (wake c (NeedTx (tx_of c a lane)) (tx_pair c a lane) left (next left))
                  (λ r. stays_wake (NeedTx (tx_of c a lane)) (tx_pair c a lane) left (next left) _ (λ m. go left m sends)),
            ))
            (λ free q. go kept _ sends),
      )

  stays_lane : (lane : ℕ) (items : List Item) (noted : AppNoted) (kept : AppKept) (next : AppNoted → AppKept → Script AppKept) (l : List Told) → kept.tx_done ≡ false
      → ((noted : AppNoted) → Goes (next noted)) → Stays (visit_lane c a lane items noted kept next) l
  stays_lane lane [] noted kept next l sends go =
      let full : AppNoted = record noted { lanes_empty = false } in
      let call = Peek (Rx (rx_of c a lane)) (batch_of c) in (
        tt,
        at_peek Anything Sending kept call l (receive_lane c a lane kept (next full)) (next noted kept)
            (λ items q.
            let more = received c a lane kept items in
            let give = Release (Rx (rx_of c a lane)) (length items) in
            (tt, at_release Anything Sending more give _ (pass_on c a lane more (next full)) (λ r. stays_pass_on lane more (next full) _ sends (go full))))
            (λ q. go noted kept _ sends),
      )
  stays_lane lane (item ∷ items) noted kept next l sends go =
      let full : AppNoted = record noted { lanes_empty = false } in stays_pass_on lane kept (next full) l sends (go full)

  stays_give : (side done : ℕ) (frames : List Frame) (kept : AppKept) (next : AppKept → Script AppKept) (l : List Told) → kept.tx_done ≡ false → Goes next
      → Stays (give_back c side done frames kept next) l
  stays_give side zero [] kept next l sends go = go (with_back kept side []) l sends
  stays_give side (suc done) [] kept next l sends go = go (with_back kept side []) l sends
  stays_give side (suc done) (frame ∷ frames) kept next l sends go = stays_give side done frames kept next l sends go
  stays_give side zero (frame ∷ frames) kept next l sends go =
      let group = group_of (pool_of c) (batch_of c) frame frames in
      let n = length group in
      let home = home_of (pool_of c) frame in
      let now = with_back kept side (frame ∷ frames) in
      let left = with_back kept side (drop n (frame ∷ frames)) in
      let call = Reserve (Fill home) n in
      let give = Submit (Fill home) (map (home_item c.geometry) group) in (
        tt,
        at_reserve Anything Sending now call l (ask left give (on_submitted (wake c (NeedFill home) home left (give_back c side (n - 1) frames kept next)))) (next now)
            (λ q. (
              tt,
              at_submit Anything Sending left give _ (wake c (NeedFill home) home left (give_back c side (n - 1) frames kept next))
                  (λ r. stays_wake (NeedFill home) home left (give_back c side (n - 1) frames kept next) _ (λ m. stays_give side (n - 1) frames kept next m sends go)),
            ))
            (λ free q. go now _ sends),
      )

  stays_side : (side : ℕ) (frames : List Frame) (noted : AppNoted) (kept : AppKept) (next : AppNoted → AppKept → Script AppKept) (l : List Told) → kept.tx_done ≡ false
      → ((noted : AppNoted) → Goes (next noted)) → Stays (visit_side c a side frames noted kept next) l
  stays_side side [] noted kept next l sends go =
      let full : AppNoted = record noted { sides_empty = false } in
      let call = Peek (Comp (pair_of c a side)) (batch_of c) in (
        tt,
        at_peek Anything Sending kept call l (complete_side c a side kept (next full)) (next noted kept)
            (λ items q.
            let more = with_back kept side (frames_in items) in
            let give = Release (Comp (pair_of c a side)) (length items) in
            (tt, at_release Anything Sending more give _ (give_back c side zero (frames_in items) more (next full)) (λ r. stays_give side zero (frames_in items) more (next full) _ sends (go full))))
            (λ q. go noted kept _ sends),
      )
  stays_side side (frame ∷ frames) noted kept next l sends go =
      let full : AppNoted = record noted { sides_empty = false } in stays_give side zero (frame ∷ frames) kept (next full) l sends (go full)

  stays_seen : (side n : ℕ) (kept : AppKept) → kept.tx_done ≡ false → (with_seen kept side n).tx_done ≡ false
  stays_seen side n kept e = by (eqb n 1)
    where
      by : (b : Bool) → (let k : AppKept = cond b (record kept { seen = set kept.seen side true }) kept in k.tx_done ≡ false)
      by true = e
      by false = e

  stays_marks : (more side : ℕ) (kept : AppKept) (l : List Told) → kept.tx_done ≡ false
      → Stays (look_marks (λ (k : AppKept). k.seen) (λ side. RxDone (pair_of c a side)) with_seen more side kept) l
  stays_marks zero side kept l sends = sends
  stays_marks (suc more) side kept l sends =
      by_case Anything Sending (is_set kept.seen side) _ _ l (λ e. stays_marks more (side + 1) kept l sends)
      (λ e. (
        tt,
        at_old Anything Sending kept (Look (RxDone (pair_of c a side))) l
            (λ n. look_marks (λ (k : AppKept). k.seen) (λ side. RxDone (pair_of c a side)) with_seen more (side + 1) (with_seen kept side n))
            (λ n q. stays_marks more (side + 1) (with_seen kept side n) _ (stays_seen side n kept sends)),
      ))

  stays : (step : SplitStep) (kept : AppKept) (l : List Told) → kept.tx_done ≡ false → Stays (piece c a step kept) l
  stays (AtLane lane) kept l sends = stays_lane lane (pending_at kept lane) no_note kept (λ noted kept. again kept) l sends (λ noted kept l sends. sends)
  stays (AtSide side) kept l sends = stays_side side (back_at kept side) no_note kept (λ noted kept. again kept) l sends (λ noted kept l sends. sends)
  stays AtMarks kept l sends = stays_marks 2 0 kept l sends

  pub step_sends : (step : SplitStep) (start : AppKept) (l : List Told) (now : AppKept) → start.tx_done ≡ false → IsStep c a step start l now → now.tx_done ≡ false
  step_sends step start l now sends is =
      along Anything Sending pieces (λ kept l h. h) (piece c a step start) [] l (again now) (stays step start [] sends) (meet_anything pieces (piece c a step start) [] l) is.leaves

-- ---- a law of turns along steps

-- each step begins where a turn does, and leads there again
pub record Jumps (At : Family) : Type 0 where
  pub to_lane : (lane : ℕ) (kept : AppKept) (l : List Told) → At (Lanes 0) (noted_first kept) kept l → At (Lanes lane) no_note kept l
  pub from_lane : (lane : ℕ) (noted : AppNoted) (kept : AppKept) (l : List Told) → At (Lanes lane) noted kept l → At (Lanes 0) (noted_first kept) kept l
  pub to_side : (side : ℕ) (kept : AppKept) (l : List Told) → At (Lanes 0) (noted_first kept) kept l → At (Sides side) no_note kept l
  pub from_side : (side : ℕ) (noted : AppNoted) (kept : AppKept) (l : List Told) → At (Sides side) noted kept l → At (Lanes 0) (noted_first kept) kept l
  pub to_marks : (kept : AppKept) (l : List Told) → At (Lanes 0) (noted_first kept) kept l → At (Looking 0) no_note kept l

module _ (c : Config) (a : ℕ) (one : IsApp c a) (At : Family) (A : Said) (E : AppKept → List Told → Type 0) (is : IsLaw c a (Fitting c) At A E) (jumps : Jumps At) (closes : c.closing ≡ None) where
  abbrev law : Law AppKept
  law = walk.law c a one (Fitting c) At A E is

  abbrev pub Between : AppKept → List Told → Type 0
  Between kept l = At (Lanes 0) (noted_first kept) kept l

  piece_holds : (step : SplitStep) (kept : AppKept) (l : List Told) → HasPlace c step → kept.tx_done ≡ false → Between kept l → Holds (Fitting c) law (piece c a step kept) l
  piece_holds (AtLane lane) kept l below sends h =
      go_lane c a one (Fitting c) At A E is lane (pending_at kept lane) no_note kept (λ noted kept. again kept) l (below, sends, none_drains c a lane kept closes) refl (jumps.to_lane lane kept l h)
      (λ noted kept l sends h. jumps.from_lane (lane + 1) noted kept l h)
  piece_holds (AtSide side) kept l below sends h =
      go_side c a one (Fitting c) At A E is side (back_at kept side) no_note kept (λ noted kept. again kept) l below refl (jumps.to_side side kept l h)
      (λ noted kept l h. jumps.from_side (side + 1) noted kept l h)
  piece_holds AtMarks kept l below sends h = go_rx_done c a one (Fitting c) At A E is no_note kept l sends (jumps.to_marks kept l h)

  -- what it says where a list stops in a step
  pub says_in_step : (step : SplitStep) (start : AppKept) (past l : List Told) (left : Script AppKept) → HasPlace c step → start.tx_done ≡ false → Between start past → AllFit c past l
      → LeavesOf (piece c a step start) l left → Says law left (past ++ l)
  says_in_step step start past l left place sends h fit leaves =
      along (Fitting c) law pieces (λ kept l h. h) (piece c a step start) past l left (piece_holds step start past place sends h) (meet_fitting pieces c (piece c a step start) past l fit) leaves

  -- so it holds after steps
  pub after_steps : (steps : List SplitStep) (start : AppKept) (past l : List Told) (now : AppKept) → start.tx_done ≡ false → Between start past → AllFit c past l → AreSteps c a steps start l now
      → Between now (past ++ l)
  after_steps [] start past l now sends h fit is =
      subst (Between now) (sym (append-nil past) ∙ ap (λ m. past ++ m) (sym is.0)) (subst (λ k. Between k past) (sym is.1) h)
  after_steps (step ∷ steps) start past l now sends h fit is =
      let first = is.0 in
      let later = is.1 in
      let next = is.2 in
      let whole : l ≡ first ++ later = is.3 in
      let step_is = is.4 in
      let parts = fit_cut c past first later (subst (AllFit c past) whole fit) in
      let on = says_in_step step start past first (again next) step_is.place sends h parts.0 step_is.leaves in
      subst (Between now) (append_assoc past first later ∙ ap (λ m. past ++ m) (sym whole))
      (after_steps steps next (past ++ first) later now (step_sends c a step start first next sends step_is) on parts.1 is.5)

  -- and along a run behind them
  pub says_in_run : (start : AppKept) (past l : List Told) (left : Script AppKept) → Between start past → AllFit c past l → Leaves (app_turn c a) (app_turn c a start) l left
      → Says law left (past ++ l)
  says_in_run start past l left h fit leaves =
      along (Fitting c) law (app_turn c a) (go_turn c a one (Fitting c) At A E is) (app_turn c a start) past l left (go_turn c a one (Fitting c) At A E is start past h)
      (meet_fitting (app_turn c a) c (app_turn c a start) past l fit) leaves

-- ---- the frames

left_back : (g : Geometry) (frame : Frame) → IsItemOn g (Fill 0) (home_item g frame) → IsBackFrame g frame
left_back g frame h =
    All-head (IsBackFrame g) frame [] (back_frames g (Fill 0) (home_item g frame ∷ []) (All-cons (IsItemOn g (Fill 0)) (home_item g frame) [] h (All-nil (IsItemOn g (Fill 0)))))

pub has_of_left : (c : Config) (kept : AppKept) (past : List Told) → HasLeft c kept past → AppHas c kept [] past
has_of_left c kept past h = record {
  lanes = h.lanes;
  sides = h.sides;
  items = h.items;
  few = h.few;
  frames = λ side. All-weaker (MayGoBack c) (IsBackFrame c.geometry) (left_back c.geometry) (back_at kept side) (h.frames side);
  once = h.once;
  counts = λ n. omega (arith, h.counts n, times-app_numbers n kept);
}

pub left_of_has : (c : Config) (kept : AppKept) (past : List Told) → AppHas c kept [] past → HasLeft c kept past
left_of_has c kept past h = record {
  lanes = h.lanes;
  sides = h.sides;
  items = h.items;
  few = h.few;
  frames = λ side. All-weaker (IsBackFrame c.geometry) (MayGoBack c) (fill_item c.geometry 0) (back_at kept side) (h.frames side);
  once = h.once;
  counts = λ n. omega (arith, h.counts n, times-app_numbers n kept);
}

module _ (c : Config) (a : ℕ) (one : IsApp c a) (closes : c.closing ≡ None) where
  has_jumps : Jumps (owning.At c a one)
  has_jumps = record {
    to_lane = λ lane kept l h. (h.0, tt);
    from_lane = λ lane noted kept l h. (h.0, tt);
    to_side = λ side kept l h. (h.0, tt);
    from_side = λ side noted kept l h. (h.0, tt);
    to_marks = λ kept l h. (h.0, tt);
  }

  pub owned_in_step : (step : SplitStep) (start : AppKept) (past l : List Told) (kept : AppKept) (call : Call) (rest : Reply → Script AppKept) → HasPlace c step → start.tx_done ≡ false
      → AppHas c start [] past → AllFit c past l → LeavesOf (piece c a step start) l (ask kept call rest) → owning.Asked c a one kept call (past ++ l)
  owned_in_step step start past l kept call rest place sends has fit leaves =
      says_in_step c a one (owning.At c a one) (owning.Asked c a one) (owning.Has c a one) (owning.law c a one) has_jumps closes step start past l (ask kept call rest) place sends (has, tt) fit leaves

  pub has_after_step : (step : SplitStep) (start : AppKept) (past l : List Told) (now : AppKept) → start.tx_done ≡ false → AppHas c start [] past → AllFit c past l → IsStep c a step start l now
      → AppHas c now [] (past ++ l)
  has_after_step step start past l now sends has fit is =
      (says_in_step c a one (owning.At c a one) (owning.Asked c a one) (owning.Has c a one) (owning.law c a one) has_jumps closes step start past l (again now) is.place sends (has, tt) fit is.leaves).0

  has_after_steps : (steps : List SplitStep) (l : List Told) (now : AppKept) → AllFit c [] l → AreSteps c a steps (app_start c) l now → AppHas c now [] l
  has_after_steps steps l now fit is =
      (after_steps c a one (owning.At c a one) (owning.Asked c a one) (owning.Has c a one) (owning.law c a one) has_jumps closes steps (app_start c) [] l now refl (has_none plain c, tt) fit is).0

  owned_in_run : (start : AppKept) (past l : List Told) (kept : AppKept) (call : Call) (rest : Reply → Script AppKept) → AppHas c start [] past → AllFit c past l
      → Asks (app_turn c a) start l kept call rest → owning.Asked c a one kept call (past ++ l)
  owned_in_run start past l kept call rest has fit asks =
      says_in_run c a one (owning.At c a one) (owning.Asked c a one) (owning.Has c a one) (owning.law c a one) has_jumps closes start past l (ask kept call rest) (has, tt) fit asks

  has_at_end : (start : AppKept) (past l : List Told) (kept : AppKept) → AppHas c start [] past → AllFit c past l → Ends (app_turn c a) start l kept → AppHas c kept [] (past ++ l)
  has_at_end start past l kept has fit ends =
      says_in_run c a one (owning.At c a one) (owning.Asked c a one) (owning.Has c a one) (owning.law c a one) has_jumps closes start past l (ended kept) (has, tt) fit ends

pub split_keeps_frames : SplitKeepsFrames
split_keeps_frames c a l kept one closes fit split = left_of_has c kept l (has_after_steps c a one closes split.0 l kept fit split.1)

pub step_calls_legal : StepCallsLegal
step_calls_legal c a past step start l kept call rest one closes sends left place fit leaves own =
    (owned_in_step c a one closes step start past l kept call rest place sends (has_of_left c start past left) fit leaves).1 own (clear_of_none c (past ++ l) call closes)

pub later_calls_legal : LaterCallsLegal
later_calls_legal c a past start l kept call rest one closes left fit asks =
    let at = owned_in_run c a one closes start past l kept call rest (has_of_left c start past left) fit asks in (app_owned c kept call (past ++ l) at.0, λ own. at.1 own (clear_of_none c (past ++ l) call closes))

pub later_frames_at_end : LaterFramesAtEnd
later_frames_at_end c a past start l kept one closes left fit ends =
    let has = has_at_end c a one closes start past l kept (has_of_left c start past left) fit ends in λ n. omega (arith, has.counts n, times-app_numbers n kept)

-- ---- the lanes

module _ (c : Config) (a : ℕ) (one : IsApp c a) (closes : c.closing ≡ None) where
  pub lanes_law : IsLaw c a (Fitting c) (lanes.At plain c a one) (lanes.Asked plain c a one) (lanes.Ended plain c a one)
  lanes_law =
      let on = lanes.law plain c a one in
      record { calls = on.calls; entries = λ e noted kept l known h asked q. on.entries e noted kept l known h asked tt; silent = on.silent; ends = on.ends }

  pub lanes_jumps : Jumps (lanes.At plain c a one)
  lanes_jumps = record {
    to_lane = λ lane kept l h. lanes.renoted plain c a (noted_first kept) 0 kept l h no_note lane (λ e. absurd (cc)) (λ e. absurd (cc));
    from_lane = λ lane noted kept l h. lanes.renoted plain c a noted lane kept l h (noted_first kept) 0 (λ e. e) (λ e sends j k. absurd (omega arith));
    to_side = λ side kept l h. lanes.renoted plain c a (noted_first kept) 0 kept l h no_note (lanes_of c) (λ e. absurd (cc)) (λ e. absurd (cc));
    from_side = λ side noted kept l h. lanes.renoted plain c a noted (lanes_of c) kept l h (noted_first kept) 0 (λ e. e) (λ e sends j k. absurd (omega arith));
    to_marks = λ kept l h. lanes.over_turn plain c a (noted_first kept) 0 kept l h;
  }

  pub lanes_after_steps : (steps : List SplitStep) (l : List Told) (now : AppKept) → AllFit c [] l → AreSteps c a steps (app_start c) l now
      → lanes.InOrder plain c a (noted_first now) 0 now l
  lanes_after_steps steps l now fit is =
      after_steps c a one (lanes.At plain c a one) (lanes.Asked plain c a one) (lanes.Ended plain c a one) lanes_law lanes_jumps closes steps (app_start c) [] l now refl (lanes.first plain c a one l) fit is

pub split_keeps_lanes : SplitKeepsLanes
split_keeps_lanes c a l kept lane one closes fit split below =
    let out = submitted_of (Tx (tx_of c a lane)) l in
    let order = lanes.open_lane c.geometry None (drains c a lane kept) out (pending_at kept lane) _ (none_drains c a lane kept closes) ((lanes_after_steps c a one closes split.0 l kept fit split.1).order lane below) in
    let same : out ≡ order.front = altered_same c.geometry order.front out order.altered in
    sym (ap (λ xs. xs ++ pending_at kept lane) same ∙ order.whole)

-- ---- one step more

pub steps_push : (c : Config) (a : ℕ) (steps : List SplitStep) (start : AppKept) (l : List Told) (kept : AppKept) (step : SplitStep) (m : List Told) (now : AppKept)
    → AreSteps c a steps start l kept → IsStep c a step kept m now → AreSteps c a (steps ++ step ∷ []) start (l ++ m) now
steps_push c a [] start l kept step m now is on =
    (m, [], now, ap (λ x. x ++ m) is.0 ∙ sym (append-nil m), subst (λ k. IsStep c a step k m now) is.1 on, (refl, refl))
steps_push c a (first ∷ steps) start l kept step m now is on =
    (is.0, is.1 ++ m, is.2, ap (λ x. x ++ m) is.3 ∙ append_assoc is.0 is.1 m, is.4, steps_push c a steps is.2 is.1 kept step m now is.5 on)

pub split_push : (c : Config) (a : ℕ) (l : List Told) (kept : AppKept) (step : SplitStep) (m : List Told) (now : AppKept) → IsSplit c a l kept → IsStep c a step kept m now → IsSplit c a (l ++ m) now
split_push c a l kept step m now is on = (is.0 ++ step ∷ [], steps_push c a is.0 (app_start c) l kept step m now is.1 on)

pub split_none : (c : Config) (a : ℕ) → IsSplit c a [] (app_start c)
split_none c a = ([], (refl, refl))
