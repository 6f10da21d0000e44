-- All frames of an application come home: at its end it has nothing, and each of its Submits is one on TX, or one on FILL of frames that
-- are at home there. On the lanes of a socket that is closed nothing is pending.
use Rattle.std.proofs.Common.{sum_by, ◌≡◌, ℕ, zero, suc, ◌+◌, ◌-◌, ◌/◌, ◌%◌, ◌<◌, ◌≤◌, ◌⊎◌, inl, inr, ⊎_elim, Bool, true, false, cond, eqb, eq-eqb, ne_eqb, Option, Some, None, List, [], ◌∷◌, ◌++◌, append-nil, append_assoc, length, map, flat_map, set, get_or, get_or-set_other, take, take_while, refl, sym, ap, ◌∙◌, subst, arith, one-add}
use Rattle.std.proofs.lemmas.Bool.{and_parts, eqb-true}
use Rattle.std.proofs.lemmas.List.Sums.{sum_by_push}
use Rattle.std.proofs.lemmas.Nat.{div-mul-add, mod-mul-add}
use Rattle.std.specs.List.{prefix_len}
use Rattle.xsk_umem.specs.Frame.{Frame}
use Rattle.xsk_model.specs.Homes.{home_pair}
use Rattle.xsk_model.specs.Entry.{own}
use Rattle.xsk_model.specs.History.{OwnGoesOn}
use Rattle.xsk_model.proofs.Theorems.{own_entries}
use Rattle.xsk_turns.proofs.Object.{Config, pool_of, batch_of, classes_of, caller_of, submitted, taken, times, numbers, had_of, home_item}
use Rattle.xsk_turns.proofs.Calls.{Item, Told, with_told, Fill, RxDone, Gone, Call, Submit, Swap, Look, Reply, Submitted, Items, Old}
use Rattle.xsk_model.specs.declared.call.Mark.TheVariants.{Kick, Cell, Closing}
use Rattle.xsk_turns.specs.Owned.{AllFit, frame_numbers}
use Rattle.xsk_turns.specs.Script.{Ends}
use Rattle.xsk_turns.specs.AppTurns.{AppKept, pair_of, side_socket, rx_of, tx_of, lanes_of, home_of, is_none, pending_at, with_pending, back_at, Shut, shut_of, lane_from, lane_to, is_closed, drains, may_close, with_begun, app_turn, app_start_by}
use Rattle.xsk_turns.specs.AppOwned.{IsApp}
use Rattle.xsk_turns.specs.declared.manner.Manner.{Manner}
use Rattle.xsk_turns.proofs.AppOwned.{AppHas, numbers-home, has_none, none_pending}
use Rattle.xsk_turns.proofs.AppPlaces.{rx_lane, tx_lane, classes_some}
use Rattle.xsk_turns.proofs.AppShut.{IsShut, shut_mine, shut_socket}
use Rattle.xsk_turns.proofs.Fitting.{fit_in_history}
use Rattle.xsk_turns.proofs.LegalCalls.{had_told}
use Rattle.xsk_turns.proofs.Walks.{Anything, meet_anything, meet_fitting}
use Rattle.xsk_turns.proofs.AppWalk as walk
use Rattle.xsk_turns.proofs.AppLanes as lanes
use Rattle.xsk_turns.proofs.AppLanes.{either}
use Rattle.xsk_turns.proofs.AppOwning as owning
use Rattle.xsk_laws.specs.Closed.{on_tx, on_home, times_taken, times_on_tx, times_home, AllComeHome}
use Rattle.xsk_laws.proofs.Closed.{app_of_whole}
use Rattle.xsk_laws.proofs.ClosedRing.{from_is}
use Rattle.xsk_laws.proofs.Places.{side_lane}

-- ---- lists

empty_of : {A : Type 0} (xs : List A) → is_none xs ≡ true → xs ≡ []
empty_of [] e = refl
empty_of (x ∷ xs) e = absurd (cc)

none_all : {A : Type 0} (f : List A → List ℕ) → f [] ≡ [] → (xs : List (List A)) → ((j : ℕ) → j < length xs → get_or xs j [] ≡ []) → flat_map f xs ≡ []
none_all f e [] each = refl
none_all f e (x ∷ xs) each =
    ap (λ y. f y ++ flat_map f xs) (each 0 (omega arith)) ∙ ap (λ y. y ++ flat_map f xs) e ∙ none_all f e xs (λ j h. each (suc j) (omega (arith, h)))

-- ---- what a list of calls and replies submits, and takes

abbrev times_out : ℕ → List Told → ℕ
times_out n l = sum_by (λ (t : Told). times n (numbers (submitted t.call))) l

abbrev IsBalanced : ℕ → List Told → Type 0
IsBalanced n l = times n (had_of l) + times_out n l ≡ times_taken n l

-- after legal calls it has what it took and didn't submit
balanced : (c : Config) (who n : ℕ) (past l : List Told) → OwnGoesOn c who past l → IsBalanced n past → IsBalanced n (past ++ l)
balanced c who n past [] goes h = subst (IsBalanced n) (sym (append-nil past)) h
balanced c who n past (t ∷ l) goes h =
    let here : times n (had_of (past ++ t ∷ [])) ≡ times n (had_of past) - times n (numbers (submitted t.call)) + times n (numbers (taken t.reply)) = had_told past t.call t.reply n in
    let out : times_out n (past ++ t ∷ []) ≡ times_out n past + times n (numbers (submitted t.call)) = sum_by_push (λ (x : Told). times n (numbers (submitted x.call))) past t in
    let into : times_taken n (past ++ t ∷ []) ≡ times_taken n past + times n (numbers (taken t.reply)) = sum_by_push (λ (x : Told). times n (numbers (taken x.reply))) past t in
    let mine : times n (numbers (submitted t.call)) ≤ times n (had_of past) = goes.0.frames n in
    subst (IsBalanced n) (append_assoc past (t ∷ []) l) (balanced c who n (past ++ t ∷ []) l goes.2 (omega (arith, h, here, out, into, mine)))

-- ---- where a call submits its frames

-- each on TX, or at home
abbrev OneWay : Config → Call → Type 0
OneWay c call = (n : ℕ) → times n (numbers (submitted call)) ≡ on_tx n call + on_home c n call

abbrev Splits : Config → List Told → Type 0
Splits c l = (n : ℕ) → times_out n l ≡ times_on_tx n l + times_home c n l

splits_push : (c : Config) (l : List Told) (call : Call) (reply : Reply) → Splits c l → OneWay c call → Splits c (with_told l call reply)
splits_push c l call reply h one n =
    let t : Told = record { call = call; reply = reply } in
    let out : times_out n (with_told l call reply) ≡ times_out n l + times n (numbers (submitted call)) = sum_by_push (λ (x : Told). times n (numbers (submitted x.call))) l t in
    let sent : times_on_tx n (with_told l call reply) ≡ times_on_tx n l + on_tx n call = sum_by_push (λ (x : Told). on_tx n x.call) l t in
    let home : times_home c n (with_told l call reply) ≡ times_home c n l + on_home c n call = sum_by_push (λ (x : Told). on_home c n x.call) l t in
    omega (arith, h n, one n, out, sent, home)

-- no frame from another pool stands in a front of frames with one home
no_other : (b : Bool) (m : ℕ) → b ≡ false → m ≡ 0 → cond b 1 0 + m ≡ 0
no_other true m e h = absurd (cc)
no_other false m e h = omega (arith, h)

none_of_home : (pool home n k : ℕ) (frames : List Frame) → (home ≡ n / pool → ⊥) → times n (frame_numbers (take k (take_while (λ (f : Frame). eqb (home_of pool f) home) frames))) ≡ 0
none_of_home pool home n zero frames other = refl
none_of_home pool home n (suc k) [] other = refl
none_of_home pool home n (suc k) (frame ∷ frames) other = by (eqb (home_of pool frame) home) refl (none_of_home pool home n k frames other)
  where
    m : ℕ
    m = prefix_len (λ (f : Frame). eqb (home_of pool f) home) frames

    by : (b : Bool) → eqb (home_of pool frame) home ≡ b → times n (frame_numbers (take k (take m frames))) ≡ 0 → times n (frame_numbers (take (suc k) (take (cond b (1 + m) 0) (frame ∷ frames)))) ≡ 0
    by true e later =
        let apart : eqb frame.number n ≡ false = ne_eqb frame.number n (λ (s : frame.number ≡ n). other (sym (eqb-true (home_of pool frame) home e) ∙ ap (λ (i : ℕ). i / pool) s)) in
        ap (λ (j : ℕ). times n (frame_numbers (take (suc k) (take j (frame ∷ frames))))) (one-add m)
        ∙ no_other (eqb frame.number n) (times n (frame_numbers (take k (take m frames)))) apart later
    by false e later = refl

all_or_none : (b : Bool) (m : ℕ) → (b ≡ false → m ≡ 0) → m ≡ 0 + cond b m 0
all_or_none true m h = omega arith
all_or_none false m h = omega (arith, h refl)

-- ---- the lanes of a socket that is closed

module _ (c : Config) (a : ℕ) (one : IsApp c a) (shut : Shut) (is : IsShut c a shut) where
  abbrev to : ℕ
  to = lane_to c shut

  class_low : shut.socket % classes_of c < classes_of c
  class_low = let some = classes_some c a one in omega (arith, some)

  side_low : 1 - shut.side < 2
  side_low = omega arith

  side_is : to / classes_of c ≡ 1 - shut.side
  side_is = div-mul-add (1 - shut.side) (classes_of c) (shut.socket % classes_of c) class_low

  class_is : to % classes_of c ≡ shut.socket % classes_of c
  class_is = mod-mul-add (1 - shut.side) (classes_of c) (shut.socket % classes_of c) class_low

  side_back : 1 - (1 - shut.side) ≡ shut.side
  side_back = omega (arith, is.side)

  to_is : tx_of c a to ≡ shut.socket
  to_is =
      ap (λ (n : ℕ). side_socket c a (1 - n) (to % classes_of c)) side_is ∙ ap (λ (n : ℕ). side_socket c a n (to % classes_of c)) side_back
      ∙ ap (side_socket c a shut.side) class_is ∙ shut_socket c a one shut is

  to_below : to < lanes_of c
  to_below = side_lane (1 - shut.side) (classes_of c) (shut.socket % classes_of c) side_low class_low

  -- it is one of them
  closed_lane : (lane : ℕ) → lane < lanes_of c → is_closed c a lane c.closing ≡ true → (lane ≡ lane_from c shut) ⊎ (lane ≡ to)
  closed_lane lane below on = ⊎_elim
      (λ (e : rx_of c a lane ≡ shut.socket). inl (rx_lane c a one lane (lane_from c shut) (e ∙ sym (from_is c a one shut is))))
      (λ (e : tx_of c a lane ≡ shut.socket). inr (tx_lane c a one lane to below to_below (e ∙ sym to_is)))
      (either (rx_of c a lane) (tx_of c a lane) shut.socket (sym (ap (is_closed c a lane) is.closing) ∙ on))

-- ---- the law

module _ (c : Config) (a : ℕ) (one : IsApp c a) where
  -- the socket whose cells are lowered there
  abbrev lowering : walk.Stage → Option Shut
  lowering (walk.Lowering shut index) = Some shut
  lowering (walk.Waking place need pair) = lowering place
  lowering (walk.Looked place need pair n) = lowering place
  lowering (walk.Kicking place pair) = lowering place
  lowering place = None

  -- nothing is pending on its lanes, and once it is closed on those that are given back
  abbrev IdleBy : Option Shut → AppKept → Type 0
  IdleBy None kept = Unit {0}
  IdleBy (Some shut) kept = (pending_at kept (lane_from c shut) ≡ []) × (pending_at kept (lane_to c shut) ≡ [])

  abbrev Idle : AppKept → Type 0
  Idle kept = (lane : ℕ) → lane < lanes_of c → drains c a lane kept ≡ true → pending_at kept lane ≡ []

  abbrev At : walk.Family
  At place noted kept l = Splits c l × Idle kept × IdleBy (lowering place) kept

  abbrev Asked : walk.Said
  Asked kept call l = OneWay c call

  abbrev Ended : AppKept → List Told → Type 0
  Ended kept l = Splits c l × Idle kept × (back_at kept 0 ≡ []) × (back_at kept 1 ≡ [])

  -- a group goes to its home
  group_home : (frame : Frame) (frames : List Frame) → OneWay c (Submit (Fill (home_of (pool_of c) frame)) (map (home_item c.geometry) (walk.group c frame frames)))
  group_home frame frames n =
      let pool = pool_of c in
      let home = home_of pool frame in
      let group = walk.group c frame frames in
      all_or_none (eqb home (home_pair c n)) (times n (numbers (map (home_item c.geometry) group)))
      (λ off. ap (times n) (numbers-home c.geometry group) ∙ none_of_home pool home n (batch_of c) (frame ∷ frames) (λ (e : home ≡ n / pool). absurd (let no : false ≡ true = sym off ∙ eq-eqb home (home_pair c n) e in cc)))

  calls : walk.AtCalls c a At Asked
  calls (walk.SubmitTx lane) noted kept l known h = λ n. omega arith
  calls (walk.SubmitFill side frame frames) noted kept l known h = group_home frame frames
  calls p noted kept l known h = λ n. refl

  -- other items of a lane that isn't given back
  idle_set : (kept : AppKept) (lane : ℕ) (items : List Item) → drains c a lane kept ≡ false → Idle kept → (j : ℕ) → j < lanes_of c → drains c a j kept ≡ true → pending_at (with_pending kept lane items) j ≡ []
  idle_set kept lane items off h j below on =
      get_or-set_other kept.pending lane j items [] (λ (e : j ≡ lane). absurd (let no : false ≡ true = sym off ∙ ap (λ i. drains c a i kept) (sym e) ∙ on in cc)) ∙ h j below on

  idle_first : (shut : Shut) (kept : AppKept) → may_close c shut kept ≡ true → IdleBy (Some shut) kept
  idle_first shut kept e = let none = and_parts _ _ (and_parts _ _ e).1 in (empty_of (pending_at kept (lane_from c shut)) none.0, empty_of (pending_at kept (lane_to c shut)) none.1)

  idle_begun : (shut : Shut) (kept : AppKept) → shut_of c a ≡ Some shut → IdleBy (Some shut) kept → Idle (with_begun kept)
  idle_begun shut kept e h lane below on = ⊎_elim (λ (f : lane ≡ lane_from c shut). ap (pending_at kept) f ∙ h.0) (λ (f : lane ≡ lane_to c shut). ap (pending_at kept) f ∙ h.1)
      (closed_lane c a one shut (shut_mine c a shut e) lane below on)

  entries : walk.AtEntries c a Anything At Asked
  entries (walk.rx_items lane items) noted kept l known h asked q = (splits_push c l (walk.call_at c a (walk.PeekRx lane) kept) (Items items) h.0 asked, idle_set kept lane items known.3 h.1, tt)
  entries (walk.tx_submitted lane) noted kept l known h asked q = (splits_push c l (walk.call_at c a (walk.SubmitTx lane) kept) Submitted h.0 asked, idle_set kept lane [] known.2 h.1, tt)
  entries (walk.looked_rx_done side n) noted kept l known h asked q = (splits_push c l (Look (RxDone (pair_of c a side))) (Old n) h.0 asked, by (eqb n 1), tt)
    where
      by : (b : Bool) → Idle (cond b (record kept { seen = set kept.seen side true }) kept)
      by true = h.1
      by false = h.1
  entries (walk.looked_gone side n) noted kept l known h asked q = (splits_push c l (Look (Gone (pair_of c a side))) (Old n) h.0 asked, by (eqb n 1), tt)
    where
      by : (b : Bool) → Idle (cond b (record kept { gone = set kept.gone side true }) kept)
      by true = h.1
      by false = h.1
  entries (walk.looked_need place need pair n) noted kept l known h asked q = (splits_push c l (Look need) (Old n) h.0 asked, h.1, h.2)
  entries (walk.kicked place pair n) noted kept l known h asked q = (splits_push c l (Swap (Kick pair) 1) (Old n) h.0 asked, h.1, h.2)
  entries (walk.lowered shut index n) noted kept l known h asked q = (splits_push c l (Swap (Cell (walk.shut_port c shut) index) 0) (Old n) h.0 asked, h.1, h.2)
  entries (walk.told_closing shut n) noted kept l known h asked q = (splits_push c l (Swap (Closing shut.socket) 1) (Old n) h.0 asked, idle_begun shut kept known.0 h.2, tt)
  entries e noted kept l known h asked q = (splits_push c l (walk.call_at c a (walk.point_of e) kept) (walk.reply_of e) h.0 asked, h.1, tt)

  silent : walk.AtSilent c a At
  silent (walk.closes shut) noted kept l = λ h e. (h.0, h.1, idle_first shut kept e.1)
  silent p noted kept l = λ h e. h

  law : walk.IsLaw c a Anything At Asked Ended
  law = record {
    calls = calls;
    entries = entries;
    silent = silent;
    ends = λ noted kept l done h.
        let over = and_parts _ _ done.1 in
        let first = and_parts _ _ over.0 in
        (h.0, h.1, empty_of (back_at kept 0) first.1, empty_of (back_at kept 1) over.1);
  }

  -- an open lane has nothing pending at the end
  abbrev Opened : AppKept → List Told → Type 0
  Opened kept l = (j : ℕ) → j < lanes_of c → drains c a j kept ≡ false → pending_at kept j ≡ []

  module _ (m : Manner) where
    opened : walk.IsLaw c a Anything (lanes.At m c a one) (lanes.Asked m c a one) Opened
    opened =
        let on = lanes.law m c a one in record { calls = on.calls; entries = on.entries; silent = on.silent; ends = λ noted kept l done h j below off. (h.over done.0 j below).0 off }

    -- ---- at the end

    module _ (l : List Told) (last : AppKept) (ends : Ends (app_turn c a) (app_start_by m c) l last) where
      ended : Ended last l
      ended =
          walk.at_end c a one Anything At Asked Ended law (app_start_by m c) (λ n. refl, λ lane below on. none_pending (lanes_of c) lane, tt) l
          (meet_anything (app_turn c a) (app_turn c a (app_start_by m c)) [] l) last ends

      open_lanes : Opened last l
      open_lanes =
          walk.at_end c a one Anything (lanes.At m c a one) (lanes.Asked m c a one) Opened opened (app_start_by m c) (lanes.first m c a one l) l
          (meet_anything (app_turn c a) (app_turn c a (app_start_by m c)) [] l) last ends

      none_pends : (j : ℕ) → j < lanes_of c → pending_at last j ≡ []
      none_pends j below = by (drains c a j last) refl
        where
          by : (b : Bool) → drains c a j last ≡ b → pending_at last j ≡ []
          by true e = ended.1 j below e
          by false e = open_lanes j below e

      none_back : (j : ℕ) → j < 2 → back_at last j ≡ []
      none_back zero h = ended.2
      none_back (suc zero) h = ended.3
      none_back (suc (suc j)) h = absurd (omega (arith, h))

      has_nothing : (n : ℕ) → AllFit c [] l → times n (had_of l) ≡ 0
      has_nothing n fit =
          let has : AppHas c last [] l =
          walk.at_end c a one (owning.Answers c a one) (owning.At c a one) (owning.Asked c a one) (owning.Has c a one) (owning.law c a one) (app_start_by m c) (has_none m c, tt) l
          (meet_fitting (app_turn c a) c (app_turn c a (app_start_by m c)) [] l fit) last ends in
          let items : flat_map numbers last.pending ≡ [] = none_all numbers refl last.pending (λ j h. none_pends j (omega (arith, h, has.lanes))) in
          let frames : flat_map frame_numbers last.back ≡ [] = none_all frame_numbers refl last.back (λ j h. none_back j (omega (arith, h, has.sides))) in
          omega (arith, has.counts n, ap (times n) items, ap (times n) frames)

pub all_come_home : AllComeHome
all_come_home m c a n frames h has =
    let who = caller_of c a in
    let mine = own who h in
    let one = app_of_whole m c a frames h has in
    let last = has.whole.0 in
    let ways = ended c a one m mine last has.whole.1 in
    let none = has_nothing c a one m mine last has.whole.1 n (fit_in_history c frames h who has.history) in
    let flow : IsBalanced n mine = balanced c who n [] mine (own_entries c frames h who has.history) refl in
    omega (arith, flow, ways.0 n, none)
