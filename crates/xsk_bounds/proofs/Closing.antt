-- What comes with a socket to close: its application lowers no more than 64 cells and closes it once, and its driver acknowledges
-- that once. No other application, and no other driver, does so.
use Rattle.std.proofs.Common.{◌≡◌, ◌≢◌, ℕ, zero, suc, ◌+◌, ◌-◌, ◌*◌, ◌/◌, ◌<◌, ◌≤◌, Bool, true, false, cond, eqb, Option, Some, None, List, [], length, set, refl, sym, ap, ◌∙◌, subst, ⊎_elim, arith, ne_eqb}
use Rattle.std.proofs.lemmas.Bool.{cases_eq}
use Rattle.xsk_model.specs.Config.{Config, IsConfig, IsMap, IsRegular, classes_of, map_of}
use Rattle.xsk_model.specs.Marks.{apps_of}
use Rattle.xsk_model.specs.Rings.{caller_of, app_of}
use Rattle.xsk_umem.specs.Geometry.{IsGeometry}
use Rattle.xsk_model.specs.Entry.{Told, with_told}
use Rattle.xsk_model.specs.declared.call.Ring.TheVariants.{Rx}
use Rattle.xsk_model.specs.declared.call.Mark.TheVariants.{Cell, Closing, RxDone, Gone}
use Rattle.xsk_model.specs.declared.call.Call.{Call}
use Rattle.xsk_model.specs.declared.call.Call.TheVariants.{Swap, Look}
use Rattle.xsk_model.specs.declared.call.Reply.{Reply}
use Rattle.xsk_model.specs.declared.call.Reply.TheVariants.{Old}
use Rattle.xsk_turns.specs.Turns.{Judged, Kept, seat_of, closing_on, start, turn, IsDriverRun}
use Rattle.xsk_turns.specs.AppTurns.{AppKept, Shut, shut_of, pair_of, app_turn, app_start_by, IsAppRunBy}
use Rattle.xsk_turns.specs.AppOwned.{IsApp}
use Rattle.xsk_turns.specs.declared.manner.Manner.{Manner}
use Rattle.xsk_turns.specs.declared.wire.Wire.{Wire}
use Rattle.xsk_turns.proofs.AppShut.{shut_mine, no_shut, shut_port_below, shut_app}
use Rattle.xsk_turns.proofs.Walks.{Anything, meet_anything}
use Rattle.xsk_turns.proofs.DriverStages as drive
use Rattle.xsk_turns.proofs.DriverWalk as along
use Rattle.xsk_turns.proofs.AppWalk.{Stage, Looking, Waking, Looked, Kicking, Lowering, Family, Said, TellClosing, shut_port, shut_cells, asked, leads, kept_before, call_at, point_of, reply_of, lowered, told_closing, looked_rx_done, looked_gone, closes, keeps_cell, AtCalls, AtEntries, AtSilent, IsLaw, of_run}
use Rattle.xsk_turns.specs.Totals.{total}
use Rattle.xsk_bounds.specs.Totals.{sum_below, number_of, cell_count, closing_count, cells_swapped, closings_told, closings_acked}
use Rattle.xsk_bounds.proofs.Totals.{total-push, sum-zero}

abbrev flag : Bool → ℕ
flag b = cond b 1 0

flag_few : (b : Bool) → flag b ≤ 1
flag_few true = omega arith
flag_few false = omega arith

-- ---- an application

-- the cells before the one at a place
abbrev low_at : Stage → ℕ
low_at (Lowering shut index) = index
low_at (Waking place need pair) = low_at place
low_at (Looked place need pair n) = low_at place
low_at (Kicking place pair) = low_at place
low_at place = 0

module _ (c : Config) (a : ℕ) (one : IsApp c a) where
  abbrev shuts : ℕ
  shuts = number_of (shut_of c a)

  one_shut : (shut : Shut) → shut_of c a ≡ Some shut → shuts ≡ 1
  one_shut shut e = ap (number_of {X = Shut}) e

  cells_few : (shut : Shut) → shut_of c a ≡ Some shut → length (shut_cells c shut) ≤ 64
  cells_few shut e =
      let below = shut_port_below c a one shut (shut_mine c a shut e) in
      let maps = one.config.maps in
      let map : IsMap (length c.sockets) (map_of c (shut_port c shut)) = one.config.cells (shut_port c shut) [] (omega (arith, below, maps)) in
      map.few

  abbrev Closes : Stage → AppKept → List Told → Type 0
  Closes place kept l = (total closings_told l ≤ flag kept.begun) × (flag kept.begun ≤ shuts) × (total cells_swapped l ≤ 64 * flag kept.begun + low_at place) × (total cells_swapped l ≤ 64 * shuts)

  abbrev At : Family
  At place noted kept l = Closes place kept l

  abbrev Few : List Told → Type 0
  Few l = (total closings_told l ≤ shuts) × (total cells_swapped l ≤ 64 * shuts)

  abbrev Asked : Said
  Asked kept call l = Few l

  calls : AtCalls c a At Asked
  calls (TellClosing shut) noted kept l known h = (omega (arith, h.0, h.1), h.3)
  calls p noted kept l known h = (omega (arith, h.0, h.1), h.3)

  -- a call that closes nothing
  stays : (place next : Stage) (kept now : AppKept) (l : List Told) (call : Call) (reply : Reply) → low_at next ≡ low_at place → now.begun ≡ kept.begun → closing_count call ≡ 0 → cell_count call ≡ 0
      → Closes place kept l → Closes next now (with_told l call reply)
  stays place next kept now l call reply low begun none nor h =
      let t : Told = record { call = call; reply = reply } in
      let closings : total closings_told (with_told l call reply) ≡ total closings_told l = omega (arith, total-push closings_told l t, none) in
      let cells : total cells_swapped (with_told l call reply) ≡ total cells_swapped l = omega (arith, total-push cells_swapped l t, nor) in
      let same = ap flag begun in (
        omega (arith, closings, same, h.0),
        omega (arith, same, h.1),
        omega (arith, cells, same, low, h.2),
        omega (arith, cells, h.3),
      )

  flag_same : {A : Type 0} (f : AppKept → A) (b : Bool) (now kept : AppKept) → f now ≡ f kept → f (cond b now kept) ≡ f kept
  flag_same f true now kept e = e
  flag_same f false now kept e = refl

  entries : AtEntries c a Anything At Asked
  entries (lowered shut index n) noted kept l known h said q =
      let t : Told = record { call = Swap (Cell (shut_port c shut) index) 0; reply = Old n } in
      let is = one_shut shut known.0 in
      let begun = ap flag known.1 in
      let few = cells_few shut known.0 in (
        omega (arith, total-push closings_told l t, h.0),
        h.1,
        omega (arith, total-push cells_swapped l t, h.2),
        omega (arith, total-push cells_swapped l t, h.2, is, begun, few, known.3),
      )
  entries (told_closing shut n) noted kept l known h said q =
      let t : Told = record { call = Swap (Closing shut.socket) 1; reply = Old n } in
      let is = one_shut shut known.0 in
      let begun = ap flag known.1 in (
        omega (arith, total-push closings_told l t, h.0, begun),
        omega (arith, is),
        omega (arith, total-push cells_swapped l t, h.3, is),
        omega (arith, total-push cells_swapped l t, h.3),
      )
  entries (looked_rx_done side n) noted kept l known h said q =
      let now : AppKept = record kept { seen = set kept.seen side true } in
      stays (Looking side) (Looking (side + 1)) kept (cond (eqb n 1) now kept) l (Look (RxDone (pair_of c a side))) (Old n) refl (flag_same (λ (k : AppKept). k.begun) (eqb n 1) now kept refl) refl refl h
  entries (looked_gone side n) noted kept l known h said q =
      let now : AppKept = record kept { gone = set kept.gone side true } in
      stays (Looking side) (Looking (side + 1)) kept (cond (eqb n 1) now kept) l (Look (Gone (pair_of c a side))) (Old n) refl (flag_same (λ (k : AppKept). k.begun) (eqb n 1) now kept refl) refl refl h
  entries e noted kept l known h said q =
      stays (asked c a (point_of e) kept).0 (leads c a e noted kept).0 (kept_before (point_of e) kept) (leads c a e noted kept).2 l (call_at c a (point_of e) kept) (reply_of e) refl refl refl refl h

  silent : AtSilent c a At
  silent (closes shut) noted kept l = λ h e. h
  silent (keeps_cell shut index) noted kept l = λ h e. (h.0, h.1, omega (arith, h.2), h.3)
  silent p noted kept l = λ h e. h

  law : IsLaw c a Anything At Asked (λ kept l. Few l)
  law = record { calls = calls; entries = entries; silent = silent; ends = λ noted kept l done h. (omega (arith, h.0, h.1), h.3) }

pub app_closes : (m : Manner) (c : Config) (a : ℕ) (one : IsApp c a) (l : List Told) → IsAppRunBy m c a l → Few c a one l
app_closes m c a one l run =
    of_run c a one Anything (At c a one) (Asked c a one) (λ kept l. Few c a one l) (law c a one) (app_start_by m c) (omega arith, omega arith, omega arith, omega arith) l (meet_anything (app_turn c a) (app_turn c a (app_start_by m c)) [] l)
    (Few c a one) (λ kept m h. (omega (arith, h.0, h.1), h.3)) (λ kept call m h. h) (λ kept m h. h) run

-- ---- a driver

module _ (wire : Wire) (c : Config) (d : ℕ) where
  abbrev closing : Option ℕ
  closing = closing_on d (classes_of c) c.closing

  abbrev AtDriver : drive.Family
  AtDriver place noted kept l = (total closings_acked l ≤ flag kept.acked) × (flag kept.acked ≤ number_of closing)

  abbrev Acks : List Told → Type 0
  Acks l = total closings_acked l ≤ number_of closing

  abbrev AskedDriver : drive.Said
  AskedDriver kept call l = Acks l

  driver_calls : drive.AtCalls (seat_of wire c d) Anything AtDriver AskedDriver
  driver_calls p noted kept l known h = omega (arith, h.0, h.1)

  driver_stays : (kept now : Kept) (l : List Told) (t : Told) → now.acked ≡ kept.acked → closings_acked t ≡ 0
      → (total closings_acked l ≤ flag kept.acked) × (flag kept.acked ≤ number_of closing) → (total closings_acked (with_told l t.call t.reply) ≤ flag now.acked) × (flag now.acked ≤ number_of closing)
  driver_stays kept now l t same none h = let is = ap flag same in (omega (arith, total-push closings_acked l t, none, is, h.0), omega (arith, is, h.1))

  driver_entries : drive.AtEntries (seat_of wire c d) Anything AtDriver AskedDriver
  driver_entries (drive.told_acked s n) noted kept l known found h a q =
      let t : Told = record { call = drive.call_at (seat_of wire c d) (drive.TellAcked s) kept; reply = Old n } in
      let off = ap flag known.1 in
      let on = ap (number_of {X = ℕ}) known.0 in
      (omega (arith, total-push closings_acked l t, off, h.0), omega (arith, on))
  driver_entries e noted kept l known found h a q =
      driver_stays kept (drive.leads (seat_of wire c d) e noted kept).2 l (record { call = drive.call_at (seat_of wire c d) (drive.point_of e) kept; reply = drive.reply_of e }) refl refl h

  driver_silent : drive.AtSilent (seat_of wire c d) Anything AtDriver
  driver_silent drive.none_comes noted kept l = λ h e. h
  driver_silent p noted kept l = λ h e. h

  driver_law : drive.IsLaw (seat_of wire c d) Anything AtDriver AskedDriver (λ kept l. Acks l)
  driver_law = record {
    calls = driver_calls;
    entries = driver_entries;
    silent = driver_silent;
    ends = λ noted kept l n known h a q. let t : Told = record { call = drive.call_at (seat_of wire c d) drive.TellGone kept; reply = Old n } in omega (arith, total-push closings_acked l t, a);
  }

pub driver_acks : (wire : Wire) (c : Config) (d : ℕ) (input : List Judged) (l : List Told) → IsDriverRun wire c d input l → Acks wire c d l
driver_acks wire c d input l run =
    along.of_run (seat_of wire c d) Anything (AtDriver wire c d) (AskedDriver wire c d) (λ kept l. Acks wire c d l) (driver_law wire c d) (start (classes_of c) input) (omega arith, omega arith) l
    (meet_anything (turn (seat_of wire c d)) (turn (seat_of wire c d) (start (classes_of c) input)) [] l)
    (Acks wire c d) (λ kept m h. begun kept.parked m (flag kept.acked) h) (λ kept call m h. h) (λ kept m h. h) run
  where
    begun : (o : Option Bool) (m : List Told) (n : ℕ) → (total closings_acked m ≤ n) × (n ≤ number_of (closing_on d (classes_of c) c.closing)) → total closings_acked m ≤ number_of (closing_on d (classes_of c) c.closing)
    begun o m n h = omega (arith, h.0, h.1)

-- ---- one of each

sum_one : (n i : ℕ) (f : ℕ → ℕ) → ((k : ℕ) → f k ≤ 1) → ((k : ℕ) → k < n → k ≢ i → f k ≡ 0) → sum_below n f ≤ 1
sum_one zero i f few none = omega arith
sum_one (suc n) i f few none = ⊎_elim
    (λ (is : n ≡ i). omega (arith, few n, sum-zero n f (λ k lt. none k (omega (arith, lt)) (λ same. omega (arith, lt, same, is)))))
    (λ (other : n ≡ i → ⊥). omega (arith, none n (omega arith) other, sum_one n i f few (λ k lt. none k (omega (arith, lt)))))
    (cases_eq n i)

number_few : {X : Type 0} (o : Option X) → number_of o ≤ 1
number_few None = omega arith
number_few (Some x) = omega arith

pub one_closes : (c : Config) → IsConfig c → IsRegular c → IsGeometry c.geometry → sum_below (apps_of c) (λ a. number_of (shut_of c a)) ≤ number_of c.closing
one_closes c config regular geometry = by c.closing refl
  where
    by : (o : Option ℕ) → c.closing ≡ o → sum_below (apps_of c) (λ a. number_of (shut_of c a)) ≤ number_of o
    by None e = omega (arith, sum-zero (apps_of c) (λ a. number_of (shut_of c a)) (λ a lt. ap (number_of {X = Shut}) (no_shut c a e)))
    by (Some s) e = sum_one (apps_of c) (app_of c (Rx s) - length c.pairs) (λ a. number_of (shut_of c a)) (λ a. number_few (shut_of c a)) (λ a lt other. none a lt other (shut_of c a) refl)
      where
        none : (a : ℕ) → a < apps_of c → a ≢ app_of c (Rx s) - length c.pairs → (o : Option Shut) → shut_of c a ≡ o → number_of o ≡ 0
        none a lt other None f = refl
        none a lt other (Some shut) f =
            let is = shut_mine c a shut f in
            let both : Some s ≡ Some shut.socket = sym e ∙ is.closing in
            let same : shut.socket ≡ s = cc in
            let at : caller_of c a ≡ app_of c (Rx s) =
            subst (λ k. caller_of c a ≡ app_of c (Rx k)) same (shut_app c a (record { config = config; regular = regular; geometry = geometry; known = lt }) shut is) in
            absurd (other (omega (arith, at)))

pub one_acks : (c : Config) → sum_below (length c.pairs) (λ d. number_of (closing_on d (classes_of c) c.closing)) ≤ number_of c.closing
one_acks c = by c.closing
  where
    by : (o : Option ℕ) → sum_below (length c.pairs) (λ d. number_of (closing_on d (classes_of c) o)) ≤ number_of o
    by None = omega (arith, sum-zero (length c.pairs) (λ d. 0) (λ d lt. refl))
    by (Some s) = sum_one (length c.pairs) (s / classes_of c) (λ d. number_of (closing_on d (classes_of c) (Some s))) (λ d. number_few (closing_on d (classes_of c) (Some s)))
        (λ d lt other. ap (λ b. number_of (cond b (Some s) None)) (ne_eqb (s / classes_of c) d (λ same. other (sym same))))
