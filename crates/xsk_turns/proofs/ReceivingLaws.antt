-- Nothing is submitted on RX once the driver told that no further packet comes, and in a whole run it told so.
use Rattle.std.proofs.Common.{◌≡◌, ℕ, Bool, true, false, ◌||◌, ◌&&◌, eqb, List, [], ◌∷◌, map, drop, refl, sym, ap, ◌∙◌, subst, eq-eqb}
use Rattle.std.proofs.lemmas.Bool.{or_from}
use Rattle.std.proofs.Math.Bool.{or-false, and-false}
use Rattle.std.proofs.lemmas.List.Sums.{fold_push}
use Rattle.xsk_turns.specs.Script.{Script, Asks}
use Rattle.xsk_turns.proofs.Calls.{Item, Told, with_told, Ring, Comp, Rx, Mark, NeedFill, NeedTx, Kick, RxDone, Gone, BouncedMark, Call, Submit, Swap, Reply, Submitted, Old}
use Rattle.xsk_model.specs.Marks.{is_mark}
use Rattle.xsk_turns.proofs.Object.{Config, classes_of, Telling, telling_after, telling_step, telling_of}
use Rattle.xsk_turns.specs.Turns.{Seat, Judged, Kept, seat_of, start, turn, returned, socket_of}
use Rattle.xsk_turns.specs.declared.wire.Wire.{Wire}
use Rattle.xsk_turns.specs.Law.{NothingReceivedLate, TellsRxDone}
use Rattle.xsk_turns.proofs.Walks.{Anything, meet_anything}
use Rattle.xsk_turns.proofs.DriverStages.{Family, Begins, TellRxDone, SubmitRx, call_at, told_rx_done, told_bounced, looked_none, looked_long, rx_submitted, comp_submitted, looked_tx_done, armed_fill, armed_tx, found_end, cleared_kick, disarmed_fill, disarmed_tx, point_of, reply_of, untried, drops_full, drops_frameless, Said, AtCalls, AtEntries, AtSilent, IsLaw, told_acked}
use Rattle.xsk_turns.proofs.DriverWalk.{at_call, at_end, of_run}
use Rattle.xsk_model.specs.declared.call.Mark.TheVariants.{Acked}

pub telling_told : (m : Mark) (r : Ring) (l : List Told) (call : Call) (reply : Reply) → telling_of m r (with_told l call reply) ≡ telling_after m r (telling_of m r l) call
telling_told m r l call reply = fold_push (telling_step m r) (record { told = false; late = false }) l (record { call = call; reply = reply })

-- what was told is what is kept, nothing was late, and no packet comes once it was told
pub record IsTold (d s : ℕ) (rx_done tx_done : Bool) (coming : List Judged) (l : List Told) : Type 0 where
  pub told : (telling_of (RxDone d) (Rx s) l).told ≡ rx_done
  pub late : (telling_of (RxDone d) (Rx s) l).late ≡ false
  pub none : rx_done ≡ true → coming ≡ []
  pub first : tx_done ≡ true → rx_done ≡ true

pub and_off : (x y : Bool) → x ≡ false → (x && y) ≡ false
and_off true y e = absurd (cc)
and_off false y e = refl

pub now_told : (x y : Bool) → y ≡ true → (x || (y && true)) ≡ true
now_told true y e = refl
now_told false true e = refl
now_told false false e = e

module _ (d s : ℕ) where
  still : (rx_done tx_done : Bool) (coming : List Judged) (l : List Told) (call : Call) (reply : Reply)
      → ((u : Telling) → telling_after (RxDone d) (Rx s) u call ≡ u) → IsTold d s rx_done tx_done coming l → IsTold d s rx_done tx_done coming (with_told l call reply)
  still rx_done tx_done coming l call reply e h =
      let same = telling_told (RxDone d) (Rx s) l call reply ∙ e (telling_of (RxDone d) (Rx s) l) in
      record { told = ap (λ u. u.told) same ∙ h.told; late = ap (λ u. u.late) same ∙ h.late; none = h.none; first = h.first }

  dropped : (rx_done tx_done : Bool) (coming : List Judged) (l : List Told) → IsTold d s rx_done tx_done coming l → IsTold d s rx_done tx_done (drop 1 coming) l
  dropped rx_done tx_done coming l h = record { told = h.told; late = h.late; none = λ e. ap (drop 1) (h.none e); first = h.first }

  not_told : (rx_done tx_done : Bool) (coming : List Judged) (l : List Told) (packet : Judged) (later : List Judged) → IsTold d s rx_done tx_done coming l
      → coming ≡ packet ∷ later → rx_done ≡ false
  not_told true tx_done coming l packet later h e = absurd (let no : [] ≡ packet ∷ later = sym (h.none refl) ∙ e in cc)
  not_told false tx_done coming l packet later h e = refl

  submits : (t : ℕ) (items : List Item) (tx_done : Bool) (coming : List Judged) (l : List Told) → IsTold d s false tx_done coming l
      → IsTold d s false tx_done coming (with_told l (Submit (Rx t) items) Submitted)
  submits t items tx_done coming l h =
      let u = telling_of (RxDone d) (Rx s) l in
      let same = telling_told (RxDone d) (Rx s) l (Submit (Rx t) items) Submitted in
      record {
        told = ap (λ u. u.told) same ∙ h.told;
        late = ap (λ u. u.late) same ∙ or_from u.late (u.told && eqb s t) h.late (and_off u.told (eqb s t) h.told);
        none = h.none;
        first = h.first;
      }

  comp : (rx_done tx_done : Bool) (coming : List Judged) (l : List Told) (pair : ℕ) (items : List Item) → IsTold d s rx_done tx_done coming l
      → IsTold d s rx_done tx_done coming (with_told l (Submit (Comp pair) items) Submitted)
  comp rx_done tx_done coming l pair items h =
      let u = telling_of (RxDone d) (Rx s) l in
      let same = telling_told (RxDone d) (Rx s) l (Submit (Comp pair) items) Submitted in
      record {
        told = ap (λ u. u.told) same ∙ h.told;
        late = ap (λ u. u.late) same ∙ or_from u.late (u.told && false) h.late (and-false u.told);
        none = h.none;
        first = h.first;
      }

  tells : (rx_done tx_done : Bool) (coming : List Judged) (l : List Told) (n : ℕ) → coming ≡ [] → IsTold d s rx_done tx_done coming l
      → IsTold d s true tx_done coming (with_told l (Swap (RxDone d) 1) (Old n))
  tells rx_done tx_done coming l n e h =
      let u = telling_of (RxDone d) (Rx s) l in
      let same = telling_told (RxDone d) (Rx s) l (Swap (RxDone d) 1) (Old n) in
      record {
        told = ap (λ u. u.told) same ∙ now_told u.told (eqb d d) (eq-eqb d d refl);
        late = ap (λ u. u.late) same ∙ h.late;
        none = λ f. e;
        first = λ f. refl;
      }

  -- another mark is swapped
  swaps : (rx_done tx_done : Bool) (coming : List Judged) (l : List Told) (m : Mark) (value n : ℕ) → is_mark (RxDone d) m ≡ false → IsTold d s rx_done tx_done coming l
      → IsTold d s rx_done tx_done coming (with_told l (Swap m value) (Old n))
  swaps rx_done tx_done coming l m value n other h =
      let u = telling_of (RxDone d) (Rx s) l in
      let same = telling_told (RxDone d) (Rx s) l (Swap m value) (Old n) ∙ ap (λ b. record u { told = u.told || (b && eqb value 1) }) other in
      record { told = ap (λ u. u.told) same ∙ or-false u.told ∙ h.told; late = ap (λ u. u.late) same ∙ h.late; none = h.none; first = h.first }

  abbrev At : Family
  At place noted kept l = IsTold d s kept.rx_done kept.tx_done kept.coming l

  abbrev OnTime : Said
  OnTime kept call l = IsTold d s kept.rx_done kept.tx_done kept.coming l

  abbrev Over : Kept → List Told → Type 0
  Over kept l = ((telling_of (RxDone d) (Rx s) l).late ≡ false) × ((telling_of (RxDone d) (Rx s) l).told ≡ true)

module _ (wire : Wire) (c : Config) (d s : ℕ) where
  abbrev seat : Seat
  seat = seat_of wire c d

  calls : AtCalls seat Anything (At d s) (OnTime d s)
  calls TellRxDone noted kept l known h = h
  calls p noted kept l known h = h

  entries : AtEntries seat Anything (At d s) (OnTime d s)
  entries (told_rx_done n) noted kept l known found h a q = tells d s kept.rx_done kept.tx_done kept.coming l n known.0 h
  entries (told_bounced packet n) noted kept l known found h a q =
      dropped d s kept.rx_done kept.tx_done kept.coming _ (swaps d s kept.rx_done kept.tx_done kept.coming l (BouncedMark d) _ n refl h)
  entries (looked_none packet n) noted kept l known found h a q = dropped d s kept.rx_done kept.tx_done kept.coming _ (still d s kept.rx_done kept.tx_done kept.coming l _ (Old n) (λ u. refl) h)
  entries (looked_long packet n t) noted kept l known found h a q = dropped d s kept.rx_done kept.tx_done kept.coming _ (still d s kept.rx_done kept.tx_done kept.coming l _ (Old n) (λ u. refl) h)
  entries (rx_submitted packet t) noted kept l known found h a q =
      let call = call_at seat (SubmitRx packet t) kept in
      let off = not_told d s kept.rx_done kept.tx_done kept.coming l packet known.0.next.later h known.0.next.is in
      let told = with_told l call Submitted in
      dropped d s kept.rx_done kept.tx_done kept.coming told
      (subst (λ b. IsTold d s b kept.tx_done kept.coming told) (sym off) (submits d s t _ kept.tx_done kept.coming l (subst (λ b. IsTold d s b kept.tx_done kept.coming l) off h)))
  entries (comp_submitted k packet later) noted kept l known found h a q = comp d s kept.rx_done kept.tx_done kept.coming l d (map returned packet) h
  entries (looked_tx_done n) noted kept l known found h a q =
      let now = still d s kept.rx_done kept.tx_done kept.coming l _ (Old n) (λ u. refl) h in record { told = now.told; late = now.late; none = now.none; first = λ g. known.0 }
  entries (found_end n) noted kept l known found h a q =
      let now = still d s kept.rx_done kept.tx_done kept.coming l _ (Old n) (λ u. refl) h in record { told = now.told; late = now.late; none = now.none; first = λ g. known.1 }
  entries (armed_fill n) noted kept l known found h a q = swaps d s kept.rx_done kept.tx_done kept.coming l (NeedFill d) 1 n refl h
  entries (armed_tx k n) noted kept l known found h a q = swaps d s kept.rx_done kept.tx_done kept.coming l (NeedTx (socket_of seat k)) 1 n refl h
  entries (cleared_kick frames n) noted kept l known found h a q = swaps d s kept.rx_done kept.tx_done kept.coming l (Kick d) 0 n refl h
  entries (disarmed_fill n) noted kept l known found h a q = swaps d s kept.rx_done kept.tx_done kept.coming l (NeedFill d) 0 n refl h
  entries (disarmed_tx k n) noted kept l known found h a q = swaps d s kept.rx_done kept.tx_done kept.coming l (NeedTx (socket_of seat k)) 0 n refl h
  entries (told_acked t n) noted kept l known found h a q = swaps d s kept.rx_done kept.tx_done kept.coming l (Acked t) 1 n refl h
  entries e noted kept l known found h a q = still d s kept.rx_done kept.tx_done kept.coming l (call_at seat (point_of e) kept) (reply_of e) (λ u. refl) h

  silent : AtSilent seat Anything (At d s)
  silent (untried packet later x) noted kept l = λ h e. dropped d s kept.rx_done kept.tx_done kept.coming l h
  silent (drops_full packet t) noted kept l = λ h e. dropped d s kept.rx_done kept.tx_done kept.coming l h
  silent (drops_frameless packet t) noted kept l = λ h e. dropped d s kept.rx_done kept.tx_done kept.coming l h
  silent p noted kept l = λ h e. h

  law : IsLaw seat Anything (At d s) (OnTime d s) (Over d s)
  law = record {
    calls = calls;
    entries = entries;
    silent = silent;
    ends = λ noted kept l n known h a q. let now = swaps d s kept.rx_done kept.tx_done kept.coming l (Gone d) 1 n refl h in (now.late, now.told ∙ now.first known.2);
  }

  first : (input : List Judged) → Begins (At d s) (start (classes_of c) input) []
  first input = record { told = refl; late = refl; none = λ e. absurd (cc); first = λ e. absurd (cc) }

pub nothing_received_late : NothingReceivedLate
nothing_received_late wire c d s input l run =
    of_run (seat_of wire c d) Anything (At d s) (OnTime d s) (Over d s) (law wire c d s) (start (classes_of c) input) (first wire c d s input) l (meet_anything (turn (seat_of wire c d)) _ [] l)
    (λ m. (telling_of (RxDone d) (Rx s) m).late ≡ false) (λ kept m h. h.late) (λ kept call m h. h.late) (λ kept m h. h.0) run

pub tells_rx_done : TellsRxDone
tells_rx_done wire c d s input l whole =
    (at_end (seat_of wire c d) Anything (At d s) (OnTime d s) (Over d s) (law wire c d s) (start (classes_of c) input) (first wire c d s input) l (meet_anything (turn (seat_of wire c d)) _ [] l) whole.0 whole.1).1

-- so it is at each call
pub told_at : (wire : Wire) (c : Config) (d s : ℕ) (input : List Judged) (l : List Told) (kept : Kept) (call : Call) (rest : Reply → Script Kept)
    → Asks (turn (seat_of wire c d)) (start (classes_of c) input) l kept call rest → IsTold d s kept.rx_done kept.tx_done kept.coming l
told_at wire c d s input l kept call rest asks =
    at_call (seat_of wire c d) Anything (At d s) (OnTime d s) (Over d s) (law wire c d s) (start (classes_of c) input) (first wire c d s input) l (meet_anything (turn (seat_of wire c d)) _ [] l) kept call rest asks
