-- At each of its calls an application has the frames that it peeked and didn't submit, and the call is legal where they are
-- at home with it.
use Rattle.std.proofs.Common.{◌≡◌, ℕ, ◌+◌, ◌-◌, ◌/◌, ◌<◌, ◌≤◌, true, false, eqb, inr, Option, Some, None, List, [], ◌∷◌, ◌++◌, append_assoc, append-nil, length, set, take, drop, map, All, refl, sym, ap, ◌∙◌, subst, arith, get_or-set_same, length-set, take_while}
use Rattle.std.proofs.lemmas.Bool.Decides.{nat_tests}
use Rattle.std.proofs.lemmas.List.{length-map, take_all}
use Rattle.std.proofs.lemmas.List.Elements.{All-nil, All-append, All-map, All-take, All-drop, All-weaker}
use Rattle.xsk_model.proofs.Counting.{times-flat_map-set, length-by_times}
use Rattle.xsk_turns.proofs.Object.{Frame, Config, pool_of, batch_of, classes_of, caller_of, app_of, producer, HasMark, is_on, room_step, held_step, times, numbers, submitted, taken, had_of, home_item, IsLegal, IsItemOn, Fits}
use Rattle.xsk_turns.proofs.Calls.{Item, Told, with_told, Ring, Fill, Comp, Rx, Tx, RxDone, Gone, TxDone, Call, Peek, Swap, Look, Reply, Granted, Submitted, Items, Released, Old}
use Rattle.xsk_model.specs.declared.call.Mark.TheVariants.{Kick, Cell, Closing, Acked}
use Rattle.xsk_model.proofs.Folds.{part_of-push_other}
use Rattle.xsk_turns.proofs.LegalCalls.{legal_reserve, legal_peek, legal_release, legal_look, legal_swap, had_told, room_told, held_told, IsDue}
use Rattle.xsk_turns.specs.Script.{Script, Asks}
use Rattle.xsk_turns.specs.Turns.{frames_in}
use Rattle.xsk_turns.specs.Owned.{AllFit, frame_numbers}
use Rattle.xsk_turns.specs.AppTurns.{AppKept, pair_of, rx_of, tx_of, lanes_of, home_of, pending_at, with_pending, given_on, passed_on, back_at, with_back, received, drained, with_begun, with_acked, app_turn, app_start, app_start_by}
use Rattle.xsk_turns.specs.Mangling.{plain, frames_taken, mangled, given_by, back_by, number_by}
use Rattle.xsk_turns.specs.declared.manner.Manner.{Manner}
use Rattle.xsk_turns.specs.AppOwned.{IsApp, HasOwnFrames, AppKeepsFrames, AppCallsLegal, AppKeepsFramesAtEnd}
use Rattle.xsk_turns.proofs.AppGroups.{with_back-again, group_some, group_front, group_few}
use Rattle.xsk_turns.proofs.AppOwned.{AppHas, IsBackFrame, rx_to_tx, tx_to_tx, back_frames, fill_item, numbers-home, times-app_numbers, app_owned, app_told, has_pending, has_back, has_flags, has_none}
use Rattle.xsk_turns.proofs.AppPlaces.{AppSeats, app_seats, side_below}
use Rattle.xsk_turns.proofs.AppShut.{shut_mine, shut_app, shut_below, shut_port_below}
use Rattle.xsk_turns.proofs.AppClosing.{IsClear, clear_at}
use Rattle.std.proofs.lemmas.Bool.{eqb-true}
use Rattle.xsk_model.specs.Marks.{HoldsClosing}
use Rattle.xsk_turns.proofs.Mangling.{length-given, given_lawful, taken_frames, times-frames, times-mangled}
use Rattle.xsk_turns.proofs.Legality.{times-front}
use Rattle.xsk_turns.proofs.Owned.{frame_numbers-in}
use Rattle.xsk_turns.proofs.Rooms.{IsOwnFrame, below-frames}
use Rattle.xsk_turns.proofs.Walks.{Premise, Due, nothing_due, submit_due, release_due, MeetAlong, Fitting, meet_fitting}
use Rattle.xsk_turns.proofs.AppWalk.{Stage, Lanes, Lane, Sides, Side, Ending, Looking, Waking, Looked, Kicking, TxTold, Lowering, Shutting, Draining, Family, LowerCell, TellClosing, PeekDrain, ReleaseDrain, LookAcked, shut_port, told_closing, looked_acked, drain_items, closed_kicks, PeekRx, ReleaseRx, ReserveTx, SubmitTx, PeekComp, ReleaseComp, ReserveFill, SubmitFill, LookRxDone, TellTxDone, LookGone, LookNeed, KickDriver, group, call_at, kept_before, rx_items, rx_released, tx_granted, tx_submitted, comp_items, fill_granted, fill_submitted, looked_rx_done, told_tx_done, looked_gone, looked_need, kicked, point_of, reply_of, has_items, without_need, needs_none, needs_kick, told_both, AtCalls, AtEntries, AtSilent, IsLaw, at_call, at_end}

times-here : (n : ℕ) (xs : List ℕ) → 1 ≤ times n (n ∷ xs)
times-here n xs = grind (arith, nat_tests)

-- ---- the law

module _ (c : Config) (a : ℕ) (one : IsApp c a) where
  abbrev pub who : ℕ
  who = caller_of c a

  seats : AppSeats c a
  seats = app_seats c a one

  abbrev pub Has : AppKept → List Told → Type 0
  Has kept l = AppHas c kept [] l

  abbrev pub Answers : Premise AppKept
  Answers kept l call reply = Fitting c kept l call reply

  abbrev pub Asked : AppKept → Call → List Told → Type 0
  Asked kept call l = AppHas c kept (numbers (submitted call)) l × (HasOwnFrames c a l → IsClear c l call → IsLegal c l who call)

  -- a driver that it may wake, where all frames that it has had are at home with it
  abbrev pub MayWake : ℕ → List Told → Type 0
  MayWake pair l = (pair < length c.pairs) × (HasOwnFrames c a l → who ≡ app_of c (Fill pair))

  -- what is due, that a lane has items to pass on, and that the flag is one that there is
  abbrev pub Beside : Stage → AppKept → List Told → Type 0
  Beside (Lane lane due) kept l = (1 ≤ length (pending_at kept lane)) × IsDue due l
  Beside (Side side due) kept l = IsDue due l
  Beside (Draining lane due) kept l = IsDue due l
  Beside (Waking place need pair) kept l = Beside place kept l × HasMark c need × MayWake pair l
  Beside (Looked place need pair n) kept l = Beside place kept l × MayWake pair l
  Beside (Kicking place pair) kept l = Beside place kept l × MayWake pair l
  Beside place kept l = Unit {0}

  abbrev pub At : Family
  At place noted kept l = Has kept l × Beside place kept l

  own_first : (l m : List Told) → HasOwnFrames c a (l ++ m) → HasOwnFrames c a l
  own_first l m own first later n e had = own first (later ++ m) n (sym (append_assoc first later m) ∙ ap (λ xs. xs ++ m) e) had

  wakes_on : (pair : ℕ) (l m : List Told) → MayWake pair l → MayWake pair (l ++ m)
  wakes_on pair l m h = (h.0, λ own. h.1 (own_first l m own))

  due_on : (due : Due) (l : List Told) (call : Call) (reply : Reply) → ((r : Ring) → is_on r call ≡ false) → IsDue due l → IsDue due (with_told l call reply)
  due_on nothing_due l call reply off h = tt
  due_on (submit_due r n) l call reply off h = let e = part_of-push_other room_step r 0 l (record { call = call; reply = reply }) (off r) in omega (arith, h, e)
  due_on (release_due r n) l call reply off h = let e = part_of-push_other held_step r 0 l (record { call = call; reply = reply }) (off r) in (h.0, h.1, omega (arith, h.2, e))

  beside_on : (place : Stage) (kept : AppKept) (l : List Told) (call : Call) (reply : Reply) → ((r : Ring) → is_on r call ≡ false) → Beside place kept l → Beside place kept (with_told l call reply)
  beside_on (Lane lane due) kept l call reply off h = (h.0, due_on due l call reply off h.1)
  beside_on (Side side due) kept l call reply off h = due_on due l call reply off h
  beside_on (Waking place need pair) kept l call reply off h = (beside_on place kept l call reply off h.0, h.1, wakes_on pair l _ h.2)
  beside_on (Looked place need pair n) kept l call reply off h = (beside_on place kept l call reply off h.0, wakes_on pair l _ h.1)
  beside_on (Kicking place pair) kept l call reply off h = (beside_on place kept l call reply off h.0, wakes_on pair l _ h.1)
  beside_on (Lanes lane) kept l call reply off h = tt
  beside_on (Sides side) kept l call reply off h = tt
  beside_on Ending kept l call reply off h = tt
  beside_on (Looking side) kept l call reply off h = tt
  beside_on TxTold kept l call reply off h = tt
  beside_on (Lowering shut index) kept l call reply off h = tt
  beside_on (Shutting shut) kept l call reply off h = tt
  beside_on (Draining lane due) kept l call reply off h = due_on due l call reply off h

  quiet : (kept : AppKept) (call : Call) (l : List Told) → submitted call ≡ [] → Has kept l → IsLegal c l who call → Asked kept call l
  quiet kept call l none has legal = (subst (λ xs. AppHas c kept (numbers xs) l) (sym none) has, λ own clear. legal)

  told : (kept : AppKept) (call : Call) (reply : Reply) (l : List Told) → submitted call ≡ [] → taken reply ≡ [] → Has kept l → Has kept (with_told l call reply)
  told kept call reply l none nothing has = app_told c kept call reply l nothing (subst (λ xs. AppHas c kept (numbers xs) l) (sym none) has)

  -- the items of a lane that are submitted, and the frames of a side
  leaves : (lane : ℕ) (kept : AppKept) (l : List Told) → lane < lanes_of c → Has kept l → AppHas c (with_pending kept lane []) (numbers (pending_at kept lane)) l
  leaves lane kept l below has =
      has_pending c kept [] (numbers (pending_at kept lane)) l l lane [] below (All-nil (IsItemOn c.geometry (Tx 0))) (omega arith) (λ m. omega arith) has.once has

  -- distinct frames of the UMEM are no more than it has
  all_few : (frames : List Frame) → All (IsBackFrame c.geometry) frames → ((m : ℕ) → times m (frame_numbers frames) ≤ 1) → length frames ≤ 4096
  all_few frames own once =
      let mine = All-weaker (IsBackFrame c.geometry) (IsOwnFrame c.geometry) (λ f b. b.own) frames own in
      let few : length (frame_numbers frames) ≤ c.geometry.frames =
      length-by_times c.geometry.frames (frame_numbers frames) once (λ m beyond. below-frames c.geometry m frames beyond mine) in
      omega (arith, few, one.geometry.few, length-map frames (λ (f : Frame). f.number))

  -- they are as they are, or changed, and then the frames that are taken stay with the side
  sends : (lane : ℕ) (kept : AppKept) (l : List Told) → lane < lanes_of c → Has kept l → AppHas c (passed_on c lane kept) (numbers (given_on c lane kept)) l
  sends lane kept l below has = by kept.manner.mangle
    where
      items : List Item
      items = pending_at kept lane

      side : ℕ
      side = lane / classes_of c

      n : ℕ
      n = kept.number

      by : (mangle : Option ℕ) → AppHas c (record kept { pending = set kept.pending lane []; back = back_by mangle n items side kept.back; number = number_by mangle n (length items) }) (numbers (given_by c.geometry mangle n items)) l
      by None = leaves lane kept l below has
      by (Some every) =
          let g = c.geometry in
          let out = mangled g every n items in
          let taken = frames_taken every n items in
          let old = back_at kept side in
          let all = old ++ taken in
          let within : side < 2 = side_below (classes_of c) lane one.regular.classes below in
          let back : All (IsBackFrame g) all = All-append (IsBackFrame g) old taken (has.frames side) (taken_frames g 0 every n items (has.items lane)) in
          let counts : (m : ℕ) → times m (frame_numbers all) + times m (numbers out) ≡ times m (frame_numbers old) + times m (numbers items) =
          λ m. omega (arith, times-frames m old taken, times-mangled g m every n items) in
          let few = all_few all back (λ m.
          omega (
            arith,
            counts m,
            has.counts m,
            has.once m,
            times-flat_map-set m frame_numbers kept.back side [] [] (omega (arith, within, has.sides)),
            times-flat_map-set m numbers kept.pending lane [] [] (omega (arith, below, has.lanes)),
          )) in
          let whole : take 4096 all ≡ all = take_all 4096 all few in
          let now = has_back c (with_pending kept lane []) (numbers items) (numbers out) l l side (take 4096 all) within (subst (All (IsBackFrame g)) (sym whole) back)
          (λ m. omega (arith, counts m, ap (λ (fs : List Frame). times m (frame_numbers fs)) whole)) has.once (leaves lane kept l below has) in
          record { lanes = now.lanes; sides = now.sides; items = now.items; few = now.few; frames = now.frames; once = now.once; counts = now.counts }

  module _ (side : ℕ) (frame : Frame) (frames : List Frame) (kept : AppKept) (l : List Told) (below : side < 2) (has : Has (with_back kept side (frame ∷ frames)) l) where
    abbrev now : AppKept
    now = with_back kept side (frame ∷ frames)

    abbrev n : ℕ
    n = length (group c frame frames)

    abbrev items : List Item
    items = map (home_item c.geometry) (group c frame frames)

    here : back_at now side ≡ frame ∷ frames
    here = get_or-set_same kept.back side (frame ∷ frames) [] (omega (arith, has.sides, length-set kept.back side (frame ∷ frames), below))

    own : All (IsBackFrame c.geometry) (frame ∷ frames)
    own = subst (All (IsBackFrame c.geometry)) here (has.frames side)

    home_below : home_of (pool_of c) frame < length c.pairs
    home_below = let first : IsBackFrame c.geometry frame = own 0 frame (omega arith) in seats.home frame.number first.own.number

    -- the first frame is had, so it is at home with the application where all that are had are
    had : 1 ≤ times frame.number (had_of l)
    had =
        let back = now.back in
        let swapped = times-flat_map-set frame.number frame_numbers back side [] [] (omega (arith, has.sides, below)) in
        let first : 1 ≤ times frame.number (frame_numbers (frame ∷ frames)) = times-here frame.number (frame_numbers frames) in
        let mine : times frame.number (frame_numbers (back_at now side)) ≡ times frame.number (frame_numbers (frame ∷ frames)) = ap (λ fs. times frame.number (frame_numbers fs)) here in
        omega (arith, has.counts frame.number, swapped, first, mine)

    home_seat : HasOwnFrames c a l → who ≡ producer c (Fill (home_of (pool_of c) frame))
    home_seat own = sym (own l [] frame.number (append-nil l) had)

    some : 1 ≤ n
    some = group_some (pool_of c) (batch_of c) frame frames seats.batch_some

    few : n ≤ 32
    few = omega (arith, group_few (batch_of c) (take_while (λ (f : Frame). eqb (home_of (pool_of c) f) (home_of (pool_of c) frame)) (frame ∷ frames)), seats.batch_few)

    counted : length items ≡ n
    counted = length-map (group c frame frames) (home_item c.geometry)

    front : take n (frame ∷ frames) ≡ group c frame frames
    front = group_front (pool_of c) (batch_of c) frame frames

    lawful : All (IsItemOn c.geometry (Fill (home_of (pool_of c) frame))) items
    lawful =
        let g = c.geometry in
        let home = home_of (pool_of c) frame in
        let mine : All (IsBackFrame g) (group c frame frames) = subst (All (IsBackFrame g)) front (All-take (IsBackFrame g) n (frame ∷ frames) own) in
        All-map (IsItemOn g (Fill home)) (home_item g) (group c frame frames) (All-weaker (IsBackFrame g) (λ (f : Frame). IsItemOn g (Fill home) (home_item g f)) (fill_item g home) (group c frame frames) mine)

    gives : AppHas c (with_back kept side (drop n (frame ∷ frames))) (numbers items) l
    gives =
        let all = frame ∷ frames in
        let numbered : (m : ℕ) → times m (numbers items) ≡ times m (frame_numbers (take n all)) = λ m. ap (times m) (numbers-home c.geometry (group c frame frames) ∙ ap frame_numbers (sym front)) in
        let whole : (m : ℕ) → times m (frame_numbers (back_at now side)) ≡ times m (frame_numbers all) = λ m. ap (λ fs. times m (frame_numbers fs)) here in
        subst (λ k. AppHas c k (numbers items) l) (with_back-again kept side all (drop n all))
        (has_back c now [] (numbers items) l l side (drop n all) below (All-drop (IsBackFrame c.geometry) n all own) (λ m. omega (arith, numbered m, whole m, times-front m n all)) has.once has)

  -- items that are given back
  drains_items : (lane : ℕ) (items : List Item) (kept : AppKept) (l : List Told) → lane < lanes_of c → Has kept l → Fits c l (Peek (Rx (rx_of c a lane)) (batch_of c)) (Items items)
      → Has (drained c lane kept items) (with_told l (Peek (Rx (rx_of c a lane)) (batch_of c)) (Items items))
      × IsDue (release_due (Rx (rx_of c a lane)) (length items)) (with_told l (Peek (Rx (rx_of c a lane)) (batch_of c)) (Items items))
  drains_items lane items kept l below has fresh =
      let r = Rx (rx_of c a lane) in
      let call = Peek r (batch_of c) in
      let m = with_told l call (Items items) in
      let side = lane / classes_of c in
      let old = back_at kept side in
      let all = old ++ frames_in items in
      let within : side < 2 = side_below (classes_of c) lane one.regular.classes below in
      let few : length items ≤ 32 = omega (arith, fresh.few, seats.batch_few) in
      let back : All (IsBackFrame c.geometry) all = All-append (IsBackFrame c.geometry) old (frames_in items) (has.frames side) (back_frames c.geometry r items fresh.lawful) in
      let same : (k : ℕ) → times k (frame_numbers (frames_in items)) ≡ times k (numbers items) = λ k. ap (times k) (frame_numbers-in items) in
      let once : (k : ℕ) → times k (had_of m) ≤ 1 = λ k. omega (arith, had_told l call (Items items) k, fresh.fresh k) in
      let counts : (k : ℕ) → times k (frame_numbers all) ≡ times k (frame_numbers old) + times k (numbers items) = λ k. omega (arith, times-frames k old (frames_in items), same k) in
      let most = all_few all back (λ k.
      omega (
        arith,
        counts k,
        has.counts k,
        once k,
        had_told l call (Items items) k,
        times-flat_map-set k frame_numbers kept.back side [] [] (omega (arith, within, has.sides)),
      )) in
      let whole : take 4096 all ≡ all = take_all 4096 all most in (
        has_back c kept [] [] l m side (take 4096 all) within (subst (All (IsBackFrame c.geometry)) (sym whole) back)
            (λ k. omega (arith, counts k, had_told l call (Items items) k, ap (λ (fs : List Frame). times k (frame_numbers fs)) whole)) once has,
        (fresh.some, few, held_told l r (batch_of c) items),
      )

  calls : AtCalls c a At Asked
  calls (PeekRx lane) noted kept l known h = let seat = seats.rx lane known.0 in quiet kept _ l refl h.0 (legal_peek c who l seats.caller (Rx (rx_of c a lane)) (batch_of c) seat.0 seat.1 seats.batch_some seats.batch_few)
  calls (ReleaseRx lane n) noted kept l known h = let seat = seats.rx lane known.0 in quiet kept _ l refl h.0 (legal_release c who l seats.caller (Rx (rx_of c a lane)) n seat.0 seat.1 h.1.1.0 h.1.1.1 h.1.1.2)
  calls (ReserveTx lane) noted kept l known h = let seat = seats.tx lane known.0 in (h.0, λ own clear. legal_reserve c who l seats.caller (Tx (tx_of c a lane)) _ seat.0 seat.1 h.1.0 (h.0.few lane) clear.0)
  calls (SubmitTx lane) noted kept l known h =
      let t = tx_of c a lane in
      let seat = seats.tx lane known.0 in
      let out = sends lane kept l known.0 h.0 in
      let lawful = All-weaker (IsItemOn c.geometry (Tx 0)) (IsItemOn c.geometry (Tx t)) (tx_to_tx c.geometry 0 t) (given_on c lane kept)
      (given_lawful c.geometry 0 kept.manner.mangle kept.number (pending_at kept lane) one.geometry (h.0.items lane)) in
      let count = length-given c.geometry kept.manner.mangle kept.number (pending_at kept lane) in (
        out,
        λ own clear. record { caller = seats.caller; known = seat.0; role = seat.1; counted = (omega (arith, count, h.1.0), omega (arith, count, h.0.few lane), omega (arith, count, h.1.1)); frames = λ m. omega (arith, out.counts m); items = lawful; packets = tt; feeds = clear.0 },
      )
  calls (PeekComp side) noted kept l known h = let seat = seats.comp side known.0 in quiet kept _ l refl h.0 (legal_peek c who l seats.caller (Comp (pair_of c a side)) (batch_of c) seat.0 seat.1 seats.batch_some seats.batch_few)
  calls (ReleaseComp side n) noted kept l known h = let seat = seats.comp side known in quiet kept _ l refl h.0 (legal_release c who l seats.caller (Comp (pair_of c a side)) n seat.0 seat.1 h.1.0 h.1.1 h.1.2)
  calls (ReserveFill side frame frames) noted kept l known h =
      let below = home_below side frame frames kept l known h.0 in (
        h.0,
        λ own clear. legal_reserve c who l seats.caller _ _ below (home_seat side frame frames kept l known h.0 own) (some side frame frames kept l known h.0) (few side frame frames kept l known h.0) tt,
      )
  calls (SubmitFill side frame frames) noted kept l known h =
      let below = home_below side frame frames kept l known h.0 in
      let out = gives side frame frames kept l known h.0 in
      let counted = counted side frame frames kept l known h.0 in (
        out,
        λ own clear. record {
          caller = seats.caller;
          known = below;
          role = home_seat side frame frames kept l known h.0 own;
          counted = (omega (arith, counted, some side frame frames kept l known h.0), omega (arith, counted, few side frame frames kept l known h.0), omega (arith, counted, h.1));
          frames = λ m. omega (arith, out.counts m);
          items = lawful side frame frames kept l known h.0;
          packets = tt;
          feeds = tt;
        },
      )
  calls (LookRxDone side) noted kept l known h = quiet kept _ l refl h.0 (legal_look c who l seats.caller (RxDone (pair_of c a side)) (seats.comp side known.0).0)
  calls TellTxDone noted kept l known h = quiet kept _ l refl h.0 (legal_swap c who l seats.caller (TxDone a) 1 seats.known (refl, tt) (omega arith))
  calls (LookGone side) noted kept l known h = quiet kept _ l refl h.0 (legal_look c who l seats.caller (Gone (pair_of c a side)) (seats.comp side known.0).0)
  calls (LookNeed place need pair) noted kept l known h = quiet kept _ l refl h.0 (legal_look c who l seats.caller need h.1.1)
  calls (KickDriver place pair) noted kept l known h =
      (h.0, λ own clear. legal_swap c who l seats.caller (Kick pair) 1 h.1.1.0 (inr (h.1.1.1 own), tt) (omega arith))
  calls (LowerCell shut index) noted kept l known h =
      let is = shut_mine c a shut known.0 in
      let holds : HoldsClosing c (shut_port c shut) index shut.socket = (is.closing, eqb-true _ _ known.4) in
      quiet kept _ l refl h.0 (legal_swap c who l seats.caller (Cell (shut_port c shut) index) 0 (shut_port_below c a one shut is, known.3) ((shut.socket, holds, shut_app c a one shut is), refl) (inr (refl, shut.socket, holds)))
  calls (TellClosing shut) noted kept l known h =
      let is = shut_mine c a shut known.0 in
      (h.0, λ own clear. legal_swap c who l seats.caller (Closing shut.socket) 1 (shut_below c a one shut is) ((is.closing, shut_app c a one shut is), (refl, clear.1)) (omega arith))
  calls (PeekDrain lane) noted kept l known h = let seat = seats.rx lane known.0 in quiet kept _ l refl h.0 (legal_peek c who l seats.caller (Rx (rx_of c a lane)) (batch_of c) seat.0 seat.1 seats.batch_some seats.batch_few)
  calls (ReleaseDrain lane n) noted kept l known h = let seat = seats.rx lane known.0 in quiet kept _ l refl h.0 (legal_release c who l seats.caller (Rx (rx_of c a lane)) n seat.0 seat.1 h.1.0 h.1.1 h.1.2)
  calls (LookAcked shut) noted kept l known h = quiet kept _ l refl h.0 (legal_look c who l seats.caller (Acked shut.socket) (shut_below c a one shut (shut_mine c a shut known.0)))

  entries : AtEntries c a Answers At Asked
  entries (rx_items lane items) noted kept l known h asked fresh =
      let r = Rx (rx_of c a lane) in
      let few : length items ≤ 32 = omega (arith, fresh.few, seats.batch_few) in
      let lawful = All-weaker (IsItemOn c.geometry r) (IsItemOn c.geometry (Tx 0)) (rx_to_tx c.geometry (rx_of c a lane) 0) items fresh.lawful in
      let none : (m : ℕ) → times m (numbers (pending_at kept lane)) ≡ 0 = λ m. ap (λ xs. times m (numbers xs)) known.2 in
      let here : pending_at (with_pending kept lane items) lane ≡ items = get_or-set_same kept.pending lane items [] (omega (arith, h.0.lanes, known.0)) in (
        has_flags c (with_pending kept lane items) (received c a lane kept items) _ true refl refl (has_pending c kept [] [] l _ lane items known.0 lawful few (λ m. omega (arith, had_told l (Peek r (batch_of c)) (Items items) m, none m)) (λ m. omega (arith, had_told l (Peek r (batch_of c)) (Items items) m, fresh.fresh m)) h.0),
        (omega (arith, ap length here, fresh.some), (fresh.some, few, held_told l r (batch_of c) items)),
      )
  entries (rx_released lane n) noted kept l known h asked q = (told kept _ Released l refl refl h.0, (h.1.0, tt))
  entries (tx_granted lane) noted kept l known h asked q = (told kept _ Granted l refl refl h.0, (h.1.0, room_told l (Tx (tx_of c a lane)) (length (pending_at kept lane))))
  entries (tx_submitted lane) noted kept l known h asked q =
      let pair = seats.comp (1 - lane / classes_of c) (omega arith) in
      (app_told c (passed_on c lane kept) _ Submitted l refl (sends lane kept l known.0 h.0), (tt, (seats.tx lane known.0).0, (pair.0, λ own. pair.1)))
  entries (comp_items side items) noted kept l known h asked fresh =
      let r = Comp (pair_of c a side) in
      let few : length items ≤ 32 = omega (arith, fresh.few, seats.batch_few) in
      let none : (m : ℕ) → times m (frame_numbers (back_at kept side)) ≡ 0 = λ m. ap (λ fs. times m (frame_numbers fs)) known.1 in
      let same : (m : ℕ) → times m (frame_numbers (frames_in items)) ≡ times m (numbers items) = λ m. ap (times m) (frame_numbers-in items) in (
        has_back c kept [] [] l _ side (frames_in items) known.0 (back_frames c.geometry r items fresh.lawful) (λ m. omega (arith, had_told l (Peek r (batch_of c)) (Items items) m, none m, same m)) (λ m. omega (arith, had_told l (Peek r (batch_of c)) (Items items) m, fresh.fresh m)) h.0,
        (fresh.some, few, held_told l r (batch_of c) items),
      )
  entries (fill_granted side frame frames) noted kept l known h asked q = (told (with_back kept side (frame ∷ frames)) _ Granted l refl refl h.0, room_told l (Fill (home_of (pool_of c) frame)) (length (group c frame frames)))
  entries (fill_submitted side frame frames) noted kept l known h asked q =
      let below = home_below side frame frames kept l known h.0 in (
        app_told c (with_back kept side (drop (length (group c frame frames)) (frame ∷ frames))) _ Submitted l refl (gives side frame frames kept l known h.0),
        (tt, below, (below, λ own. home_seat side frame frames kept l known h.0 (own_first l _ own))),
      )
  entries (looked_rx_done side n) noted kept l known h asked q = (has_flags c kept (record kept { seen = set kept.seen side true }) _ (eqb n 1) refl refl (told kept _ (Old n) l refl refl h.0), tt)
  entries (told_tx_done n) noted kept l known h asked q = (has_flags c kept (record kept { tx_done = true }) _ true refl refl (told kept _ (Old n) l refl refl h.0), tt)
  entries (looked_gone side n) noted kept l known h asked q = (has_flags c kept (record kept { gone = set kept.gone side true }) _ (eqb n 1) refl refl (told kept _ (Old n) l refl refl h.0), tt)
  entries (looked_need place need pair n) noted kept l known h asked q =
      (told kept _ (Old n) l refl refl h.0, (beside_on place kept l (Look need) (Old n) (λ r. refl) h.1.0, wakes_on pair l _ h.1.2))
  entries (kicked place pair n) noted kept l known h asked q = (told kept _ (Old n) l refl refl h.0, beside_on place kept l (Swap (Kick pair) 1) (Old n) (λ r. refl) h.1.0)
  entries (told_closing shut n) noted kept l known h asked q = (has_flags c kept (with_begun kept) _ true refl refl (told kept _ (Old n) l refl refl h.0), tt)
  entries (looked_acked shut n) noted kept l known h asked q = (has_flags c kept (with_acked kept n) _ true refl refl (told kept _ (Old n) l refl refl h.0), tt)
  entries (drain_items lane items) noted kept l known h asked fresh = drains_items lane items kept l known.0 h.0 fresh
  entries e noted kept l known h asked q = (told (kept_before (point_of e) kept) (call_at c a (point_of e) kept) (reply_of e) l refl refl h.0, tt)

  silent : AtSilent c a At
  silent (has_items lane item items) noted kept l = λ h e. (h.0, (omega (arith, ap length e), tt))
  silent (without_need place need pair) noted kept l = λ h e. (h.0, h.1.0)
  silent (needs_none place need pair n) noted kept l = λ h e. (h.0, h.1.0)
  silent (needs_kick place need pair n) noted kept l = λ h e. h
  silent told_both noted kept l = λ h e.
      let first = seats.comp 0 (omega arith) in
      let second = seats.comp 1 (omega arith) in
      (h.0, ((tt, (second.0, λ own. second.1)), (first.0, λ own. first.1)))
  silent (closed_kicks shut) noted kept l = λ h e.
      let pair = seats.comp shut.side (shut_mine c a shut e.1).side in
      (h.0, (tt, (pair.0, λ own. pair.1)))
  silent p noted kept l = λ h e. (h.0, tt)

  pub law : IsLaw c a Answers At Asked Has
  law = record { calls = calls; entries = entries; silent = silent; ends = λ noted kept l done h. h.0 }

-- ---- the laws

module _ (m : Manner) (c : Config) (a : ℕ) (one : IsApp c a) (l : List Told) (fit : AllFit c [] l) where
  fits : MeetAlong (app_turn c a) (Answers c a one) (app_turn c a (app_start_by m c)) [] l
  fits = meet_fitting (app_turn c a) c (app_turn c a (app_start_by m c)) [] l fit

  asked_at : (kept : AppKept) (call : Call) (rest : Reply → Script AppKept) → Asks (app_turn c a) (app_start_by m c) l kept call rest → Asked c a one kept call l
  asked_at = at_call c a one (Answers c a one) (At c a one) (Asked c a one) (Has c a one) (law c a one) (app_start_by m c) (has_none m c, tt) l fits

-- what it has at each call
pub has_at : (c : Config) (a : ℕ) (l : List Told) (kept : AppKept) (call : Call) (rest : Reply → Script AppKept) → IsApp c a → AllFit c [] l
    → Asks (app_turn c a) (app_start c) l kept call rest → AppHas c kept (numbers (submitted call)) l
has_at c a l kept call rest one fit asks = (asked_at plain c a one l fit kept call rest asks).0

pub app_keeps_frames : AppKeepsFrames
app_keeps_frames m c a l kept call rest one fit asks = app_owned c kept call l (asked_at m c a one l fit kept call rest asks).0

pub app_calls_legal : AppCallsLegal
app_calls_legal m c a l kept call rest one own fit asks = (asked_at m c a one l fit kept call rest asks).1 own (clear_at m c a one l kept call rest asks)

pub app_keeps_frames_at_end : AppKeepsFramesAtEnd
app_keeps_frames_at_end m c a l kept one fit ends =
    let has = at_end c a one (Answers c a one) (At c a one) (Asked c a one) (Has c a one) (law c a one) (app_start_by m c) (has_none m c, tt) l (fits m c a one l fit) kept ends in
    λ n. omega (arith, has.counts n, times-app_numbers n kept)
