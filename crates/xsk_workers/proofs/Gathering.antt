-- Passes are taken, and given back once their members have ended.
use Rattle.std.proofs.Common.{◌≡◌, ℕ, ◌+◌, ◌<◌, ◌≤◌, Option, Some, None, List, [], ◌∷◌, ◌++◌, length, get_or, set, map, All, refl, sym, ap, subst, ◌∙◌, arith, ⊎_elim, get_or-set_same, get_or-set_other, length-set, length-append, append-nil, drop, Bool, true, false, zero, suc, ◌==◌, ◌||◌, nat_lt, ◌⊎◌, inl, inr}
use Rattle.std.specs.Prelude.{is_some}
use Rattle.std.specs.List.{range_with_len}
use Rattle.std.proofs.lemmas.Bool.{cases_eq, or_cases, eqb-true, ltb-true}
use Rattle.std.proofs.lemmas.List.{get_or-map, length-map, get_or_append_left, get_or_push}
use Rattle.std.proofs.lemmas.List.Elements.{All-head, All-tail}
use Rattle.std.proofs.lemmas.List.FromFn.{length-range_with_len, get_or-range_with_len, fill_by_all}
use Rattle.xsk_model.specs.Config.{IsRegular, callers_of, classes_of}
use Rattle.xsk_model.specs.Entry.{Told, own}
use Rattle.xsk_model.specs.declared.call.Act.TheVariants.{Ended}
use Rattle.xsk_model.proofs.CallTheorems.{callers_exist}
use Rattle.xsk_turns.specs.Statistics.{capped}
use Rattle.xsk_turns.specs.Hands.{IsWholeRunOf, IsWholeAppRunOf}
use Rattle.xsk_turns.specs.AppSplit.{IsWholeSplitRun}
use Rattle.xsk_turns.specs.Workers.{Setting, IsWholeRun, input_of}
use Rattle.xsk_turns.specs.declared.manner.Manner.{Manner}
use Rattle.xsk_turns.specs.declared.wire.Wire.{Wire}
use Rattle.xsk_machine.specs.Figures.{figures_in}
use Rattle.xsk_machine.specs.HistoryFigures.{driver_figures_by, driver_figures_of, figures_of}
use Rattle.xsk_driver.specs.Shown.{Shown as DriverShown}
use Rattle.xsk_machine.specs.declared.figures.DriverFigures.{DriverFigures}
use Rattle.xsk_machine.specs.declared.figures.Figures.{Figures}
use Rattle.xsk_machine.proofs.Figured.{figures_at_end}
use Rattle.xsk_machine.specs.Acts.{DriverStands, sent_of}
use Rattle.xsk_machine.proofs.Acts.{sent_at}
use Rattle.xsk_table.specs.Held.{Board, Holder, new_pass}
use Rattle.xsk_table.specs.Opening.{new_passes}
use Rattle.xsk_model.specs.Rings.{caller_of}
use Rattle.xsk_workers.specs.Crew.{Seat, IsSeatOn}
use Rattle.xsk_workers.specs.Shown.{WorkerShown, seat_at, is_alone}
use Rattle.xsk_workers.specs.Hands.{SuitHands, TeamShown, team_seat, TeamHasRun}
use Rattle.xsk_workers.specs.Members.{member_seat, MemberHasRun, pass_in, IsLeftOf, kept_left, figures_left}
use Rattle.xsk_workers.specs.declared.member.Member.{Member}
use Rattle.xsk_workers.specs.declared.member.Member.TheVariants.{One, Several}
use Rattle.xsk_machine.specs.Workers.{Stands}
use Rattle.xsk_umem.specs.Frame.{Frame}
use Rattle.xsk_model.specs.Config.{Config}
use Rattle.xsk_model.specs.Entry.{Entry}
use Rattle.xsk_model.specs.History.{IsHistory}
use Rattle.xsk_model.proofs.Theorems.{one_holder}
use Rattle.xsk_machine.proofs.Within.{by_one}
use Rattle.xsk_ended.proofs.Ended.{ended_lose_no_wakes}
use Rattle.xsk_ended.proofs.Within.{are_within_by}
use Rattle.xsk_table.specs.Closing.{AreThere, EndsIn}
use Rattle.xsk_workers.specs.Forwarded.{HasForwarded}
use Rattle.xsk_workers.specs.Gathering.{StandsLeft, IsDone, HaveRunFrom, WillHaveRun, AreTaken, AreGiven, AreKept, AreSent, IsSentOf, AreFiguresOf, IsFiguresOf, calls_in}
use Rattle.xsk_workers.specs.Keeping.{HasRoomFor}
use Rattle.xsk_workers.proofs.Calls.{calls_are}
use Rattle.xsk_machine.specs.Acts.{packets_in}
use Rattle.xsk_machine.specs.declared.collected.Collected.{Collected}
use Rattle.std.specs.Vec.{vec_items}
use Rattle.std.specs.Prelude.{vec_capacity}
use Rattle.xsk_machine.specs.declared.worker.AnyWorker.{AnyWorker}
use Rattle.xsk_machine.specs.declared.worker.AnyWorker.TheVariants.{Driver, App}

-- ---- taken

pub taken_none : (b : Board) → AreTaken b 0 (new_passes b)
taken_none b =
    let callers = callers_of b.setup.config in
    let count : length (new_passes b) ≡ callers = length-map (range_with_len 0 callers) (λ who. Some (new_pass b who)) ∙ length-range_with_len 0 callers in
    record {
      length_is = count;
      there = λ w low below.
          get_or-map (λ who. Some (new_pass b who)) (range_with_len 0 callers) w 0 None (omega (arith, below, length-range_with_len 0 callers))
          ∙ ap (λ n. Some (new_pass b n)) (let at : get_or (range_with_len 0 callers) w 0 ≡ w = get_or-range_with_len 0 callers w 0 below ∙ omega arith in at);
      gone = λ w none. absurd (omega arith);
    }

pub taken_more : (b : Board) (n : ℕ) (passes : List (Option Holder)) → n < callers_of b.setup.config → AreTaken b n passes → AreTaken b (n + 1) (set passes n None)
taken_more b n passes known h = record {
  length_is = length-set passes n None ∙ h.length_is;
  there = λ w low below. get_or-set_other passes n w None None (λ e. omega (arith, e)) ∙ h.there w (omega arith) below;
  gone = λ w below. ⊎_elim
      (λ (e : w ≡ n). subst (λ k. get_or (set passes n None) k None ≡ None) (sym e) (get_or-set_same passes n None None (omega (arith, h.length_is, known))))
      (λ (e : w ≡ n → ⊥). get_or-set_other passes n w None None e ∙ h.gone w (omega (arith, e)))
      (cases_eq w n);
}

some_of : {X : Type 0} → X → Option X → X
some_of d None = d
some_of d (Some x) = x

-- the pass that is taken is the caller's new one
pub is_new_pass : (b : Board) (n : ℕ) (passes : List (Option Holder)) (p : Holder) → n < callers_of b.setup.config → AreTaken b n passes → Some p ≡ get_or passes n None → p ≡ new_pass b n
unfolding some_of
is_new_pass b n passes p below taken is = ap (some_of p) (is ∙ taken.there n (omega arith) below)

-- ---- given back

pub given_none : (b : Board) (hands : ℕ) (s : Setting) (passes : List (Option Holder)) → AreTaken b (callers_of b.setup.config) passes → AreGiven b hands s 0 passes
given_none b hands s passes h = record { length_is = h.length_is; there = λ w none. absurd (omega arith); gone = λ w low below. h.gone w below }

-- the figures of a driver that has ended
figures_at : (s : Setting) (n classes : ℕ) (d : DriverShown) (l : List Told) → classes ≡ classes_of s.config → DriverStands s n d Ended l → IsFiguresOf s n l (figures_in classes d)
figures_at s n classes d l is stands within =
    ap (λ k. figures_in k d) is ∙ figures_at_end s.wire s.config n (input_of s n) d l stands.stands
    ∙ ap (λ (ps : List (List ℕ)). driver_figures_by s.wire s.config n (input_of s n) (length ps) l) (sent_at s n d Ended l refl stands within)

module _ (b : Board) (hands : ℕ) (s : Setting) (n : ℕ) (passes : List (Option Holder)) (p : Holder) (known : n < callers_of b.setup.config) (h : AreGiven b hands s n passes) where
  abbrev more : List (Option Holder)
  more = set passes n (Some p)

  here : get_or more n None ≡ Some p
  here = get_or-set_same passes n (Some p) None (omega (arith, h.length_is, known))

  before : (w : ℕ) → w < n → get_or more w None ≡ get_or passes w None
  before w below = get_or-set_other passes n w (Some p) None (λ e. omega (arith, e, below))

  pub given_more : p.table ≡ b.table → p.view.setup ≡ b.setup → IsWholeRunOf hands s n (own n p.view.seen) → AreGiven b hands s (n + 1) more
  given_more table setup whole = record {
    length_is = length-set passes n (Some p) ∙ h.length_is;
    there = λ w below. ⊎_elim
        (λ (e : w ≡ n). (p, ap (λ k. get_or more k None) e ∙ here, table, setup, subst (λ k. IsWholeRunOf hands s k (own k p.view.seen)) (sym e) whole))
        (λ (e : w ≡ n → ⊥). let old = h.there w (omega (arith, e)) in (old.0, before w (omega (arith, e)) ∙ old.1, old.2, old.3, old.4))
        (cases_eq w n);
    gone = λ w low below. get_or-set_other passes n w (Some p) None (λ e. omega (arith, e)) ∙ h.gone w (omega arith) below;
  }

  -- what was kept of a driver stands behind the others, and of an application nothing is kept
  one_kept : {X : Type 0} (Is : ℕ → List Told → X → Type 0) (xs : List X) (x : X) → n < length s.config.pairs → Is n (own n p.view.seen) x → AreKept Is s n passes xs → AreKept Is s (n + 1) more (xs ++ x ∷ [])
  one_kept Is xs x below is kept =
      let few : length xs ≡ n = kept.first (omega (arith, below)) in
      let count : length (xs ++ x ∷ []) ≡ n + 1 = omega (arith, few, length-append xs (x ∷ [])) in
      record {
        first = λ low. count;
        all = λ full. omega (arith, count, below, full);
        each = λ w none in_kept. ⊎_elim
            (λ (e : w ≡ n).
            let at : get_or (xs ++ x ∷ []) w none ≡ x = get_or_push xs x none w (few ∙ sym e) in (
              p,
              ap (λ k. get_or more k None) e ∙ here,
              subst (λ k. Is k (own k p.view.seen) (get_or (xs ++ x ∷ []) w none)) (sym e) (subst (Is n (own n p.view.seen)) (sym at) is),
            ))
            (λ (e : w ≡ n → ⊥).
            let low : w < n = omega (arith, e, in_kept, count) in
            let old = kept.each w none (omega (arith, low, few)) in
            (old.0, before w low ∙ old.1, subst (Is w (own w old.0.view.seen)) (sym (get_or_append_left xs (x ∷ []) none w (omega (arith, low, few)))) old.2))
            (cases_eq w n);
      }

  none_kept : {X : Type 0} (Is : ℕ → List Told → X → Type 0) (xs : List X) → length s.config.pairs ≤ n → AreKept Is s n passes xs → AreKept Is s (n + 1) more (xs ++ [])
  none_kept Is xs past kept =
      let count : length xs ≡ length s.config.pairs = kept.all past in
      subst (AreKept Is s (n + 1) more) (sym (append-nil xs)) (record {
        first = λ few. absurd (omega (arith, past, few));
        all = λ full. count;
        each = λ w none below. let old = kept.each w none below in (old.0, before w (omega (arith, below, count, past)) ∙ old.1, old.2);
      })

  pub sent_more : (lists : List (List (List ℕ))) (left : Option AnyWorker) → StandsLeft s n left (own n p.view.seen) → AreSent s n passes lists → AreSent s (n + 1) more (lists ++ kept_left left)
  sent_more lists None past sent = none_kept (IsSentOf s) lists past sent
  sent_more lists (Some (Driver d)) stands sent = one_kept (IsSentOf s) lists d.sent.packets stands.known (λ within. sent_at s n d Ended (own n p.view.seen) refl stands within) sent
  sent_more lists (Some (App a)) stands sent = none_kept (IsSentOf s) lists (omega (arith, stands.caller)) sent

  pub figures_more : (classes : ℕ) (figures : List DriverFigures) (left : Option AnyWorker) → classes ≡ classes_of s.config → StandsLeft s n left (own n p.view.seen) → AreFiguresOf s n passes figures
      → AreFiguresOf s (n + 1) more (figures ++ figures_left classes left)
  figures_more classes figures None is past kept = none_kept (IsFiguresOf s) figures past kept
  figures_more classes figures (Some (Driver d)) is stands kept = one_kept (IsFiguresOf s) figures (figures_in classes d) stands.known (figures_at s n classes d (own n p.view.seen) is stands) kept
  figures_more classes figures (Some (App a)) is stands kept = none_kept (IsFiguresOf s) figures (omega (arith, stands.caller)) kept

pub kept_none : {X : Type 0} (Is : ℕ → List Told → X → Type 0) (s : Setting) (passes : List (Option Holder)) → AreKept Is s 0 passes []
kept_none Is s passes = record { first = λ few. refl; all = λ full. omega (arith, full); each = λ w none below. absurd (omega (arith, below)) }

-- ---- members that came back

pub seats_count : (b : Board) (hands : ℕ) (s : Setting) (ms : List (Member WorkerShown TeamShown)) → map member_seat ms ≡ map (seat_at hands s b) (range_with_len 0 (callers_of b.setup.config))
    → length ms ≡ callers_of b.setup.config
seats_count b hands s ms seats =
    sym (length-map ms member_seat) ∙ ap (length {A = Seat}) seats ∙ length-map (range_with_len 0 (callers_of b.setup.config)) (seat_at hands s b)
    ∙ length-range_with_len 0 (callers_of b.setup.config)

-- one machine makes all calls where there is one hand, or of a driver
alone_by : (hands n pairs : ℕ) → (hands == 1 || nat_lt n pairs) ≡ true → (hands ≡ 1) ⊎ (n < pairs)
alone_by hands n pairs is = ⊎_elim (λ one. inl (eqb-true hands 1 one)) (λ driver. inr (ltb-true n pairs driver)) (or_cases (hands == 1) (nat_lt n pairs) is)

-- several hands make a whole split run
split_by : (hands : ℕ) (m : Manner) (c : Config) (app : ℕ) (l : List Told) → (hands ≡ 1 → ⊥) → m.mangle ≡ None → IsWholeSplitRun c app l → IsWholeAppRunOf hands m c app l
split_by zero m c app l several is whole = (is, whole)
split_by (suc zero) m c app l several is whole = absurd (several refl)
split_by (suc (suc hands)) m c app l several is whole = (is, whole)

-- by so many hands, a worker's whole run is one where it is alone
whole_alone : (hands : ℕ) (s : Setting) (n : ℕ) (l : List Told) → is_alone hands s n ≡ true → IsWholeRun s n l → IsWholeRunOf hands s n l
whole_alone hands s n l is run = ⊎_elim
    (λ (one : hands ≡ 1). subst (λ (k : ℕ). IsWholeRunOf k s n l) (sym one) (by_one s n l run))
    (λ (driver : n < length s.config.pairs). record { driver = run.driver; app = λ a at. absurd (omega (arith, driver, at)) })
    (alone_by hands n (length s.config.pairs) is)

-- and several hands' whole split run where it isn't
whole_split : (hands : ℕ) (s : Setting) (n app : ℕ) (l : List Told) → is_alone hands s n ≡ false → s.manner.mangle ≡ None → n ≡ caller_of s.config app → IsWholeSplitRun s.config app l → IsWholeRunOf hands s n l
whole_split hands s n app l is changes_nothing caller whole =
    let several : hands ≡ 1 → ⊥ = λ one. let no : true ≡ false = ap (λ k. is_alone k s n) (sym one) ∙ is in absurd cc in
    record {
      driver = λ below. absurd (omega (arith, below, caller));
      app = λ a at.
          let same : app ≡ a = omega (arith, at, caller) in
          split_by hands s.manner s.config a l several changes_nothing (subst (λ k. IsWholeSplitRun s.config k l) same whole);
    }

-- a member in the setting and as the caller of its seat
module _ (b : Board) (hands : ℕ) (s : Setting) (n : ℕ) where
  who_is : (m : Member WorkerShown TeamShown) → member_seat m ≡ seat_at hands s b n → (pass_in m).who ≡ n
  who_is (One w) seat = ap (λ (x : Seat). x.who) seat
  who_is (Several t) seat = ap (λ (x : Seat). x.who) seat

  table_is : (m : Member WorkerShown TeamShown) → member_seat m ≡ seat_at hands s b n → (pass_in m).table ≡ b.table
  table_is (One w) seat = ap (λ (x : Seat). x.table) seat
  table_is (Several t) seat = ap (λ (x : Seat). x.table) seat

  setup_is : (m : Member WorkerShown TeamShown) → member_seat m ≡ seat_at hands s b n → (pass_in m).view.setup ≡ b.setup
  setup_is (One w) seat = ap (λ (x : Seat). x.setup) seat
  setup_is (Several t) seat = ap (λ (x : Seat). x.setup) seat

  at_seat : (P : Setting → ℕ → Type 0) (t : Setting) (who : ℕ) → t ≡ s → who ≡ n → P t who → P s n
  at_seat P t who setting is h = subst (λ k. P s k) is (subst (λ k. P k who) setting h)

  -- of several hands: its caller is an application
  past : (t : TeamShown) → team_seat t ≡ seat_at hands s b n → TeamHasRun t → n ≡ caller_of s.config t.last.app
  past t seat run =
      at_seat (λ x k. k ≡ caller_of x.config t.last.app) t.setting t.last.pass.who (ap (λ (x : Seat). x.setting) seat) (ap (λ (x : Seat). x.who) seat) run.team.caller

  whole_here : (m : Member WorkerShown TeamShown) → s.manner.mangle ≡ None → member_seat m ≡ seat_at hands s b n → MemberHasRun m → IsWholeRunOf hands s n (own n (pass_in m).view.seen)
  whole_here (One w) changes_nothing seat run =
      whole_alone hands s n (own n w.pass.view.seen) (sym (ap (λ (x : Seat). x.alone) seat))
      (at_seat (λ x k. IsWholeRun x k (own k w.pass.view.seen)) w.setting w.pass.who (ap (λ (x : Seat). x.setting) seat) (ap (λ (x : Seat). x.who) seat) run)
  whole_here (Several t) changes_nothing seat run =
      whole_split hands s n t.last.app (own n t.last.pass.view.seen) (sym (ap (λ (x : Seat). x.alone) seat)) changes_nothing (past t seat run)
      (at_seat (λ x k. IsWholeSplitRun x.config t.last.app (own k t.last.pass.view.seen)) t.setting t.last.pass.who (ap (λ (x : Seat). x.setting) seat) (ap (λ (x : Seat). x.who) seat) run.whole)

  left_here : (m : Member WorkerShown TeamShown) (left : Option AnyWorker) → member_seat m ≡ seat_at hands s b n → MemberHasRun m → IsLeftOf m left
      → StandsLeft s n left (own n (pass_in m).view.seen)
  left_here (One w) None seat run is = absurd is
  left_here (One w) (Some machine) seat run is =
      at_seat (λ x k. Stands x k machine Ended (own k w.pass.view.seen)) w.setting w.pass.who (ap (λ (x : Seat). x.setting) seat) (ap (λ (x : Seat). x.who) seat) (is run)
  left_here (Several t) None seat run is = omega (arith, past t seat run)
  left_here (Several t) (Some machine) seat run is = absurd is

-- a member in its seat whose calls are whole is done
pub is_done : (b : Board) (hands : ℕ) (s : Setting) (n : ℕ) (m : Member WorkerShown TeamShown) → s.manner.mangle ≡ None → member_seat m ≡ seat_at hands s b n → MemberHasRun m → IsDone b hands s n (pass_in m) (IsLeftOf m)
is_done b hands s n m changes_nothing seat run = record {
  who = who_is b hands s n m seat;
  table = table_is b hands s n m seat;
  setup = setup_is b hands s n m seat;
  whole = whole_here b hands s n m changes_nothing seat run;
  left = λ left is. left_here b hands s n m left seat run is;
}

have_run : (b : Board) (hands : ℕ) (s : Setting) (n : ℕ) (ms : List (Member WorkerShown TeamShown)) → s.manner.mangle ≡ None → map member_seat ms ≡ map (seat_at hands s b) (range_with_len n (length ms))
    → All MemberHasRun ms → HaveRunFrom pass_in IsLeftOf b hands s n ms
have_run b hands s n [] changes_nothing seats whole = tt
have_run b hands s n (m ∷ ms) changes_nothing seats whole = (
  is_done b hands s n m changes_nothing (ap (λ (xs : List Seat). get_or xs 0 (member_seat m)) seats) (All-head MemberHasRun m ms whole),
  have_run b hands s (n + 1) ms changes_nothing (ap (drop 1) seats) (All-tail MemberHasRun m ms whole),
)

pub will_have_run : (b : Board) (hands : ℕ) (s : Setting) (seats : List Seat) → s.config ≡ b.setup.config → s.manner.mangle ≡ None
    → seats ≡ map (seat_at hands s b) (range_with_len 0 (callers_of b.setup.config)) → WillHaveRun pass_in IsLeftOf member_seat MemberHasRun b hands s seats
will_have_run b hands s seats config changes_nothing are ms same whole =
    let here : map member_seat ms ≡ map (seat_at hands s b) (range_with_len 0 (callers_of b.setup.config)) = same ∙ are in
    let count : length ms ≡ callers_of b.setup.config = seats_count b hands s ms here in
    record { config = config; count = count; run = have_run b hands s 0 ms changes_nothing (here ∙ ap (λ n. map (seat_at hands s b) (range_with_len 0 n)) (sym count)) whole }

-- there is room for what is kept of a driver
pub kept_few : {X : Type 0} (Is : ℕ → List Told → X → Type 0) (s : Setting) (n : ℕ) (passes : List (Option Holder)) (xs : List X) (left : Option AnyWorker) (l : List Told) → StandsLeft s n left l → AreKept Is s n passes xs
    → length xs + length (kept_left left) ≤ length s.config.pairs
kept_few Is s n passes xs None l past kept = omega (arith, kept.all past)
kept_few Is s n passes xs (Some (Driver d)) l stands kept = omega (arith, stands.known, kept.first (omega (arith, stands.known)))
kept_few Is s n passes xs (Some (App a)) l stands kept = omega (arith, kept.all (omega (arith, stands.caller)))

pub as_many : (classes : ℕ) (left : Option AnyWorker) → length (figures_left classes left) ≡ length (kept_left left)
as_many classes None = refl
as_many classes (Some (Driver d)) = refl
as_many classes (Some (App a)) = refl

-- there is room for what is left of a member
pub has_room : (s : Setting) (n : ℕ) (passes : List (Option Holder)) (kept : Collected) (classes : ℕ) (left : Option AnyWorker) (l : List Told) → StandsLeft s n left l
    → AreSent s n passes (map packets_in (vec_items kept.sent)) → AreFiguresOf s n passes (vec_items kept.figures)
    → length s.config.pairs ≤ vec_capacity kept.figures → length s.config.pairs ≤ vec_capacity kept.sent → HasRoomFor kept classes left
has_room s n passes kept classes left l stands sent figures for_figures for_sent = record {
  figures = omega (arith, kept_few (IsFiguresOf s) s n passes (vec_items kept.figures) left l stands figures, as_many classes left, for_figures, kept.figures.ok.0);
  sent = omega (arith, kept_few (IsSentOf s) s n passes (map packets_in (vec_items kept.sent)) left l stands sent, length-map (vec_items kept.sent) packets_in, for_sent, kept.sent.ok.0);
}

-- members in these seats are on the table
pub are_on : (b : Board) (hands : ℕ) (s : Setting) (n k : ℕ) (ms : List (Member WorkerShown TeamShown)) → map member_seat ms ≡ map (seat_at hands s b) (range_with_len n k) → All (λ m. IsSeatOn b (member_seat m)) ms
are_on b hands s n k ms seats =
    let count : length ms ≡ k = sym (length-map ms member_seat) ∙ ap (length {A = Seat}) seats ∙ length-map (range_with_len n k) (seat_at hands s b) ∙ length-range_with_len n k in
    λ i d below.
    let each : member_seat (get_or ms i d) ≡ seat_at hands s b (get_or (range_with_len n k) i 0) =
    sym (get_or-map member_seat ms i d (member_seat d) below) ∙ ap (λ (xs : List Seat). get_or xs i (member_seat d)) seats
    ∙ get_or-map (seat_at hands s b) (range_with_len n k) i 0 (member_seat d) (omega (arith, below, count, length-range_with_len n k)) in
    (ap (λ (x : Seat). x.table) each, ap (λ (x : Seat). x.setup) each)

-- the passes that were given back are there
pub are_there : (b : Board) (hands : ℕ) (s : Setting) (passes : List (Option Holder)) → AreGiven b hands s (callers_of b.setup.config) passes → AreThere b passes
are_there b hands s passes h = λ w below. let at = h.there w below in (at.0, at.1, record { table = at.2; setup = at.3 })

-- ---- the history of them all

abbrev figures_by_parts : ℕ → Wire → Bool → List DriverFigures → Figures
figures_by_parts calls wire mangled drivers = record { calls = calls; wire = wire; drivers = drivers; mangled = mangled }

-- in the history in which all passes end each caller's own calls and replies are a whole run, and what was kept as sent, as
-- figures and as the number of calls is what it should be there
module _ (b : Board) (hands : ℕ) (s : Setting) (frames : List Frame) (passes : List (Option Holder)) (lists : List (List (List ℕ))) (drivers : List DriverFigures) (calls : ℕ) (wire : Wire) (h : List Entry) (regular : IsRegular s.config)
    (config : s.config ≡ b.setup.config) (opened : b.setup.frames ≡ frames) (given : AreGiven b hands s (callers_of b.setup.config) passes) (sent : AreSent s (callers_of b.setup.config) passes lists)
    (figured : AreFiguresOf s (callers_of b.setup.config) passes drivers) (counted : calls ≡ capped (calls_in 0 passes)) (same_wire : wire ≡ s.wire) (none_changed : is_some s.manner.mangle ≡ false) (ends : EndsIn b passes h) where
  legal : IsHistory s.config frames h
  legal = subst (λ f. IsHistory s.config f h) opened (subst (λ c. IsHistory c b.setup.frames h) (sym config) ends.legal)

  known : (who : ℕ) → who < callers_of s.config → who < callers_of b.setup.config
  known who below = subst (λ (c : Config). who < callers_of c) config below

  whole : (who : ℕ) → who < callers_of s.config → IsWholeRunOf hands s who (own who h)
  whole who below =
      let at = given.there who (known who below) in
      subst (IsWholeRunOf hands s who) (sym (ends.of_each who at.0 (known who below) at.1)) at.4

  drivers_known : length s.config.pairs ≤ callers_of b.setup.config
  drivers_known = omega (arith, ap (λ (c : Config). callers_of c) config)

  -- what was kept of a driver is so in the history
  kept_is : {X : Type 0} (Is : ℕ → List Told → X → Type 0) (xs : List X) → AreKept Is s (callers_of b.setup.config) passes xs → (pair : ℕ) (none : X) → pair < length s.config.pairs → Is pair (own pair h) (get_or xs pair none)
  kept_is Is xs kept pair none below =
      let at = kept.each pair none (omega (arith, kept.all drivers_known, below)) in
      let who : pair < callers_of s.config = omega (arith, below) in
      let mine : own pair h ≡ own pair at.0.view.seen = ends.of_each pair at.0 (known pair who) at.1 in
      subst (λ l. Is pair l (get_or xs pair none)) (sym mine) at.2

  sent_is : (pair : ℕ) → pair < length s.config.pairs → get_or lists pair [] ≡ sent_of s h pair
  sent_is pair below = kept_is (IsSentOf s) lists sent pair [] below (are_within_by hands s frames h regular legal whole pair below)

  drivers_are : drivers ≡ map (driver_figures_of s h) (range_with_len 0 (length s.config.pairs))
  drivers_are =
      fill_by_all (driver_figures_of s h) drivers (length s.config.pairs) (driver_figures_of s h 0) (figured.all drivers_known)
      (λ k below. kept_is (IsFiguresOf s) drivers figured k (driver_figures_of s h 0) below (are_within_by hands s frames h regular legal whole k below))

  calls_is : calls ≡ capped (length h)
  calls_is =
      counted
      ∙ ap capped
      (calls_are b passes h given.length_is (λ w below. let at = given.there w below in (at.0, at.1)) ends
      (callers_exist b.setup.config b.setup.frames h ends.legal))

  abbrev figures : Figures
  figures = record { calls = calls; wire = wire; drivers = drivers; mangled = false }

  figures_are : figures ≡ figures_of s h
  figures_are =
      ap (λ (n : ℕ). figures_by_parts n wire false drivers) calls_is ∙ ap (λ (x : Wire). figures_by_parts (capped (length h)) x false drivers) same_wire
      ∙ ap (λ (b : Bool). figures_by_parts (capped (length h)) s.wire b drivers) (sym none_changed) ∙ ap (figures_by_parts (capped (length h)) s.wire (is_some s.manner.mangle)) drivers_are

  pub has_forwarded : HasForwarded hands s frames (record { history = h; sent = lists; figures = figures })
  has_forwarded = record {
    legal = legal;
    whole = whole;
    holders = λ past later split. one_holder s.config frames past later (subst (IsHistory s.config frames) split legal);
    sent = sent_is;
    figures = figures_are;
    woken = λ past later pair split below.
        ended_lose_no_wakes hands s frames past later pair regular (subst (IsHistory s.config frames) split legal)
        (subst (λ l. (who : ℕ) → who < callers_of s.config → IsWholeRunOf hands s who (own who l)) split whole) below;
  }

  pub pairs_are : length lists ≡ length s.config.pairs
  pairs_are = sent.all drivers_known
