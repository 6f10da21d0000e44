-- Where there is ample room and further calls change nothing, all workers have ended: an application that hadn't would be told that
-- its drivers have ended, or that they have no further packet, and each of them would have all frames of its pool.
use Rattle.std.proofs.Common.{◌≡◌, ◌≢◌, ◌⊎◌, inl, inr, ℕ, zero, suc, ◌+◌, ◌-◌, ◌*◌, ◌/◌, ◌%◌, ◌<◌, ◌≤◌, Bool, true, false, cond, is_some, All, List, [], ◌∷◌, ◌++◌, length, get_or, flat_map, refl, sym, ap, ◌∙◌, subst, ⊎_elim, arith, append-nil, lt-ltb, le-ltb, mul-le-mul_right}
use Rattle.std.proofs.lemmas.Bool.{cases_eq, cases_lt, cases_Bool, or_left, or_right}
use Rattle.std.proofs.lemmas.List.{length-map}
use Rattle.std.proofs.lemmas.List.Elements.{All-head, All-tail, All-weaker}
use Rattle.std.proofs.lemmas.Nat.{div-add-mod'}
use Rattle.std.proofs.Math.Nat.{div-eq_of_lt-le}
use Rattle.xsk_umem.specs.Frame.{Frame}
use Rattle.xsk_turns.proofs.Object.{Config, HasRing, pool_of, classes_of, caller_of, app_of, producer, consumer, apps_of, times, numbers, had_of, packets, rest, peeked_of, submitted_of, telling_of}
use Rattle.xsk_turns.proofs.Calls.{Item, Fill, Comp, Rx, Tx, NeedFill, Kick, RxDone, Gone, TxDone, Swap, Look}
use Rattle.xsk_model.specs.Config.{pair_at}
use Rattle.xsk_model.specs.Entry.{Entry, own}
use Rattle.xsk_model.specs.Ends.{draining_of}
use Rattle.xsk_model.specs.Holders.{out_numbers}
use Rattle.xsk_model.specs.Homes.{home_app, serves}
use Rattle.xsk_model.specs.Marks.{is_mark}
use Rattle.xsk_model.specs.Object.{State, ring_at, mark_at}
use Rattle.xsk_model.specs.Rings.{queue_of}
use Rattle.xsk_model.specs.Steering.{packet_limit}
use Rattle.xsk_model.specs.declared.call.Ring.{Ring}
use Rattle.xsk_model.proofs.Closings.{is_mark-self}
use Rattle.xsk_model.proofs.Distinct.{elsewhere}
use Rattle.xsk_model.proofs.FrameTheorems.{frames_stay}
use Rattle.xsk_model.proofs.MarkNumbers.{opening_mark_is}
use Rattle.xsk_turns.specs.AppTurns.{pair_of, side_socket, rx_of, tx_of, lanes_of, pending_at, IsWholeAppRun, IsWholeAppRunBy}
use Rattle.xsk_turns.specs.AppOwned.{IsApp}
use Rattle.xsk_turns.specs.Law.{IsSized}
use Rattle.xsk_turns.specs.Owned.{IsSeat, IsSpare, IsHere, socket_at_class, frame_numbers}
use Rattle.xsk_turns.specs.Turns.{seat_of, pieces_of, bad_ones, IsWholeDriverRun}
use Rattle.xsk_turns.specs.Wakes.{IsParked, app_for, owes_end}
use Rattle.xsk_turns.specs.Mangling.{plain}
use Rattle.xsk_turns.specs.Workers.{Setting, input_of}
use Rattle.xsk_turns.proofs.AppLanes.{nothing_sent_late}
use Rattle.xsk_turns.proofs.AppPaying.{pays_end_at_once}
use Rattle.xsk_turns.proofs.AppPlaces.{side_below, class_below, socket_driver}
use Rattle.xsk_turns.proofs.Draining.{drains_tx}
use Rattle.xsk_turns.proofs.Owned.{times-kept}
use Rattle.xsk_turns.proofs.Owning.{redirect_here}
use Rattle.xsk_turns.proofs.Places.{app_known, class_here, rx_ring, tx_ring}
use Rattle.xsk_turns.proofs.ReceivingLaws.{nothing_received_late}
use Rattle.xsk_laws.specs.Woken.{AreWorkerRuns}
use Rattle.xsk_laws.proofs.Emptied.{has_mark, holds_after}
use Rattle.xsk_still.specs.Still.{HasAmpleRoom, IsEmpty, LacksRoom, IsHeldUp, StaysBy}
use Rattle.xsk_still.specs.Own.{IsPlain, HasNothingDue}
use Rattle.xsk_still.specs.Laws.{IsStretch, NoStretch}
use Rattle.xsk_still.proofs.Holding.{holder, pair_side, socket_of_side, lane_at}
use Rattle.xsk_still.proofs.Keeping.{keeps_rx_told, keeps_tx_told, has_pending, pending_few, lays_out}
use Rattle.xsk_laws.proofs.Laid.{laid_packets}
use Rattle.xsk_still.proofs.Losing.{loses_none}
use Rattle.xsk_still.proofs.Pools.{many_of_pool, home_numbers, only_homes, spare_home}
use Rattle.xsk_still.proofs.Resting.{pieces_within}
use Rattle.xsk_still.proofs.Telling.{tells_gone_last, sees_gone}
use Rattle.xsk_still.proofs.Emptying.{free_none, none_or_some}
use Rattle.xsk_still.proofs.Emptying as empty
use Rattle.xsk_still.proofs.Standing.{one_if, plain_free}
use Rattle.xsk_still.proofs.Standing as stand

-- joined lists of which each is empty
all_none : {X : Type 0} (f : List X → List ℕ) (xs : List (List X)) → f [] ≡ [] → ((k : ℕ) → k < length xs → get_or xs k [] ≡ []) → flat_map f xs ≡ []
all_none f [] e none = refl
all_none f (x ∷ xs) e none =
    let first : x ≡ [] = none 0 (omega arith) in
    ap (λ ys. f ys ++ flat_map f xs) first ∙ ap (λ zs. zs ++ flat_map f xs) e ∙ all_none f xs e (λ k below. none (suc k) (omega (arith, below)))

two_sides : (i : ℕ) → i < 2 → (i ≡ 0) ⊎ (i ≡ 1)
two_sides zero h = inl refl
two_sides (suc zero) h = inr refl
two_sides (suc (suc i)) h = absurd (omega (arith, h))

not_false : (b : Bool) → b ≡ true → b ≡ false → ⊥
not_false true e f = absurd (cc)
not_false false e f = absurd (cc)

module _ (s : Setting) (frames : List Frame) (past es : List Entry) (are : AreWorkerRuns s frames (past ++ es)) (ample : HasAmpleRoom s.config) (st : IsStretch s frames past es) where
  -- frames that are spare with a driver are of its pool
  spare_homes : (d n : ℕ) (fs : List Frame) → d < length s.config.pairs → All (IsSpare s.config (own d (past ++ es))) fs → 1 ≤ times n (frame_numbers fs) → n / pool_of s.config ≡ d
  spare_homes d n [] below all some = absurd (omega (arith, some))
  spare_homes d n (frame ∷ fs) below all some = ⊎_elim
      (λ (e : frame.number ≡ n). subst (λ k. k / pool_of s.config ≡ d) e (spare_home s frames (past ++ es) d frame st.unchanged are below (All-head (IsSpare s.config (own d (past ++ es))) frame fs all)))
      (λ (e : frame.number ≡ n → ⊥). spare_homes d n fs below (All-tail (IsSpare s.config (own d (past ++ es))) frame fs all) (omega (arith, some, elsewhere frame.number n e)))
      (cases_eq frame.number n)

  module _ (a : ℕ) (known : a < apps_of s.config) (w : stand.OpenApp s frames past es are ample st a) where
    abbrev c : Config
    c = s.config

    abbrev h : List Entry
    h = past ++ es

    abbrev x : State
    x = stand.x s frames past es are ample st

    abbrev who : ℕ
    who = caller_of c a

    abbrev d : ℕ → ℕ
    d i = pair_of c a i

    abbrev Open : ℕ → Type 0
    Open i = stand.OpenDriver s frames past es are ample st (d i)

    abbrev IsWholeDriver : ℕ → Type 0
    IsWholeDriver i = IsWholeDriverRun s.wire c (d i) (input_of s (d i)) (own (d i) h)

    one : IsApp c a
    one = empty.one s frames past es are ample st a known w

    below : (i : ℕ) → i < 2 → d i < length c.pairs
    below i side = empty.below s frames past es are ample st a known w i side

    served : (i : ℕ) → i < 2 → app_of c (Fill (d i)) ≡ who
    served i side = empty.served s frames past es are ample st a known w i side

    app_is : (i : ℕ) → i < 2 → app_for c (d i) ≡ a
    app_is i side = empty.app_is s frames past es are ample st a known w i side

    seat : (i : ℕ) → i < 2 → IsSeat c (d i)
    seat i side = empty.seat s frames past es are ample st a known w i side

    some_class : 1 ≤ classes_of c
    some_class = let classes = are.steady.regular.classes in omega (arith, classes)

    -- ---- the rings of a lane

    rx_has : (lane : ℕ) → lane < lanes_of c → HasRing c (Rx (rx_of c a lane)) × (who ≡ consumer c (Rx (rx_of c a lane)))
    rx_has lane within = (empty.seats s frames past es are ample st a known w).rx lane within

    tx_has : (lane : ℕ) → lane < lanes_of c → HasRing c (Tx (tx_of c a lane)) × (who ≡ producer c (Tx (tx_of c a lane)))
    tx_has lane within = (empty.seats s frames past es are ample st a known w).tx lane within

    rx_by : (lane : ℕ) → lane < lanes_of c → producer c (Rx (rx_of c a lane)) ≡ d (lane / classes_of c)
    rx_by lane within = socket_driver c a one (lane / classes_of c) (lane % classes_of c) (side_below (classes_of c) lane are.steady.regular.classes within) (class_below c a one lane)

    -- the RX ring of a side's class
    rx_socket : (i k : ℕ) (side : i < 2) (within : k < classes_of c) → rx_of c a (lane_at c a one i k side within).0 ≡ side_socket c a i k
    rx_socket i k side within =
        let lane = lane_at c a one i k side within in
        ap (λ n. side_socket c a n (lane.0 % classes_of c)) lane.2 ∙ ap (λ n. side_socket c a i n) lane.3

    -- the lane to it
    tx_socket : (i k : ℕ) (side : i < 2) (other : 1 - i < 2) (within : k < classes_of c) → tx_of c a (lane_at c a one (1 - i) k other within).0 ≡ socket_at_class c (d i) k
    tx_socket i k side other within =
        let lane = lane_at c a one (1 - i) k other within in
        let back : 1 - (1 - i) ≡ i = omega (arith, side) in
        ap (λ n. side_socket c a (1 - n) (lane.0 % classes_of c)) lane.2 ∙ ap (λ n. side_socket c a (1 - (1 - i)) n) lane.3 ∙ ap (λ n. side_socket c a n k) back

    -- ---- where it told that it sends nothing more

    listed : (i : ℕ) → i < 2 → has_mark (RxDone (d i)) (RxDone (d 0) ∷ RxDone (d 1) ∷ []) ≡ true
    listed i side = ⊎_elim
        (λ (z : i ≡ 0). subst (λ n. has_mark (RxDone (d n)) (RxDone (d 0) ∷ RxDone (d 1) ∷ []) ≡ true) (sym z) (or_left (is_mark (RxDone (d 0)) (RxDone (d 0))) _ (is_mark-self (RxDone (d 0)))))
        (λ (z : i ≡ 1). subst (λ n. has_mark (RxDone (d n)) (RxDone (d 0) ∷ RxDone (d 1) ∷ []) ≡ true) (sym z)
        (or_right (is_mark (RxDone (d 1)) (RxDone (d 0))) _ (or_left (is_mark (RxDone (d 1)) (RxDone (d 1))) _ (is_mark-self (RxDone (d 1))))))
        (two_sides i side)

    rx_told : w.kept.tx_done ≡ true → (i : ℕ) → i < 2 → (telling_of (RxDone (d i)) (Rx (side_socket c a i 0)) (own (d i) h)).told ≡ true
    rx_told done i side =
        let lane = lane_at c a one i 0 side some_class in
        let ms = RxDone (d 0) ∷ RxDone (d 1) ∷ [] in
        let r = rx_of c a lane.0 in
        let has = rx_has lane.0 lane.1 in
        let by : producer c (Rx r) ≡ d i = rx_by lane.0 lane.1 ∙ ap d lane.2 in
        let late = nothing_received_late s.wire c (d i) r (input_of s (d i)) (own (d i) h) (stand.driver_run s frames past es are ample st (d i) (below i side)) in
        let keeps = keeps_tx_told c a 0 (own who h) w.kept w.call w.rest one are.steady.closes w.asks in
        let holds = holds_after c frames ms (RxDone (d i)) (Rx r) (stand.config s frames past es are ample st) has.0 (below i side) (λ k e. e ∙ sym by) h are.history (listed i side)
        (opening_mark_is c frames (RxDone (d i)) (stand.config s frames past es are ample st) (below i side))
        (subst (λ n. (telling_of (RxDone (d i)) (Rx r) (own n h)).late ≡ false) (sym by) late) in
        let found = holds.found_empty (subst (λ n. (draining_of ms (Rx r) (own n h)).empty ≡ true) has.1 (keeps.1 done lane.0 lane.1)) in
        subst (λ t. (telling_of (RxDone (d i)) (Rx t) (own (d i) h)).told ≡ true) (rx_socket i 0 side some_class)
        (subst (λ n. (telling_of (RxDone (d i)) (Rx r) (own n h)).told ≡ true) by found.1)

    tx_is_told : w.kept.tx_done ≡ true → mark_at c x (TxDone a) ≡ 1
    tx_is_told done =
        let keeps = keeps_tx_told c a 0 (own who h) w.kept w.call w.rest one are.steady.closes w.asks in
        stand.tx_marked s frames past es are ample st a 0 known ∙ one_if _ (keeps.0 ∙ done)

    told_whole : w.kept.tx_done ≡ true → (i : ℕ) → i < 2 → IsWholeDriver i
    told_whole done i side = ⊎_elim
        (λ (whole : IsWholeDriver i). whole)
        (λ (o : Open i).
        let told = rx_told done i side in
        let keeps = keeps_rx_told s.wire c (d i) (side_socket c a i 0) (input_of s (d i)) (own (d i) h) o.kept o.call o.rest o.asks in
        let coming : o.kept.coming ≡ [] = keeps.1 (sym keeps.0 ∙ told) in
        let marked : mark_at c x (TxDone (app_for c (d i))) ≡ 1 = ap (λ n. mark_at c x (TxDone n)) (app_is i side) ∙ tx_is_told done in
        ⊎_elim
        (λ (p : IsParked (d i) (own (d i) h) × (is_some o.kept.parked ≡ true)).
        let r = (empty.rests s frames past es are ample st a known w i side o p.0 p.1).1 in
        let owed = stand.end_owed s frames past es are ample st (d i) (below i side) o p.0 (stand.rx_marked s frames past es are ample st (d i) (side_socket c a i 0) (below i side) ∙ one_if _ told) marked in
        let pays = pays_end_at_once plain c a (own who h) w.kept w.call w.rest i one r.flagged side w.asks
        (subst (λ n. owes_end (d i) (TxDone n) (own who h) ≡ true) (app_is i side) (subst (λ n. owes_end (d i) (TxDone (app_for c (d i))) (own n h) ≡ true) (served i side) owed)) in
        let kick : IsPlain (Swap (Kick (d pays.0)) 1) = subst IsPlain pays.2 w.plain in
        absurd kick)
        (λ (stays : StaysBy (seat_of s.wire c (d i)) x o.kept). absurd (stays.waits coming (empty.sent s frames past es are ample st a known w i side o).0 marked))
        o.stays)
        (stand.driver_state s frames past es are ample st (d i) (below i side))

    gone_told : (i : ℕ) → i < 2 → IsWholeDriver i → mark_at c x (Gone (d i)) ≡ 1
    gone_told i side whole =
        let tells = tells_gone_last s.wire c (d i) 0 (input_of s (d i)) (own (d i) h) (stand.driver_run s frames past es are ample st (d i) (below i side)) in
        stand.gone_marked s frames past es are ample st (d i) 0 (below i side)
        ∙ one_if _ (⊎_elim (λ (yes : IsWholeDriver i × ((telling_of (Gone (d i)) (Comp 0) (own (d i) h)).told ≡ true)). yes.1)
        (λ (other : (IsWholeDriver i → ⊥) × ((telling_of (Gone (d i)) (Comp 0) (own (d i) h)).told ≡ false)). absurd (other.0 whole)) tells.1)

    not_done : w.kept.tx_done ≡ true → ⊥
    not_done done =
        w.stays.unended done (λ i side. gone_told i side (told_whole done i side)) (λ i side. (empty.back_none s frames past es are ample st a known w i side).0)

    -- ---- where it didn't

    module _ (goes : w.kept.tx_done ≡ false) where
      none_whole : (i : ℕ) → i < 2 → IsWholeDriver i → ⊥
      none_whole i side whole =
          let t = socket_at_class c (d i) 0 in
          let other : 1 - i < 2 = omega arith in
          let lane = lane_at c a one (1 - i) 0 other some_class in
          let same = tx_socket i 0 side other some_class in
          let ring = tx_ring c (d i) (seat i side) t (class_here c (d i) (seat i side) 0 some_class) in
          let fed : who ≡ producer c (Tx t) = subst (λ n. who ≡ producer c (Tx n)) same (tx_has lane.0 lane.1).1 in
          let drained = drains_tx s.wire c (d i) 0 (input_of s (d i)) (own (d i) h) whole some_class in
          let late = nothing_sent_late plain c a t (own who h) one (stand.app_run s frames past es are ample st a known) in
          let holds = holds_after c frames (TxDone a ∷ []) (TxDone a) (Tx t) (stand.config s frames past es are ample st) ring.0 known (λ k e. e ∙ fed) h are.history
          (or_left (is_mark (TxDone a) (TxDone a)) false (is_mark-self (TxDone a)))
          (opening_mark_is c frames (TxDone a) (stand.config s frames past es are ample st) known)
          (subst (λ n. (telling_of (TxDone a) (Tx t) (own n h)).late ≡ false) fed late) in
          let found = holds.found_empty (subst (λ n. (draining_of (TxDone a ∷ []) (Tx t) (own n h)).empty ≡ true) ring.1
          (subst (λ n. (draining_of (TxDone n ∷ []) (Tx t) (own (d i) h)).empty ≡ true) (app_is i side) drained)) in
          let told : (telling_of (TxDone a) (Tx t) (own who h)).told ≡ true = subst (λ n. (telling_of (TxDone a) (Tx t) (own n h)).told ≡ true) (sym fed) found.1 in
          not_false w.kept.tx_done (sym (keeps_tx_told c a t (own who h) w.kept w.call w.rest one are.steady.closes w.asks).0 ∙ told) goes

      open_at : (i : ℕ) → i < 2 → Open i
      open_at i side = ⊎_elim (λ (whole : IsWholeDriver i). absurd (none_whole i side whole)) (λ (o : Open i). o) (stand.driver_state s frames past es are ample st (d i) (below i side))

      all_sent : (i : ℕ) → i < 2 → (k : ℕ) → k < classes_of c → IsEmpty c x (Tx (socket_at_class c (d i) k))
      all_sent i side k within = (empty.sent s frames past es are ample st a known w i side (open_at i side)).1 k within

      -- each lane is empty
      lane_none : (lane : ℕ) → lane < lanes_of c → (pending_at w.kept lane ≡ []) × IsEmpty c x (Rx (rx_of c a lane))
      lane_none lane within = ⊎_elim
          (λ (none : (pending_at w.kept lane ≡ []) × IsEmpty c x (Rx (rx_of c a lane))). none)
          (λ (full : (pending_at w.kept lane ≢ []) × LacksRoom c x (Tx (tx_of c a lane)) (length (pending_at w.kept lane))).
          let j = 1 - lane / classes_of c in
          let k = lane % classes_of c in
          let side : j < 2 = omega arith in
          let class = class_below c a one lane in
          let ring = tx_has lane within in
          let by = socket_driver c a one j k side class in
          let none : length (ring_at c x (Tx (tx_of c a lane))).out ≡ 0 = ap length (all_sent j side k class) in
          let few = pending_few c a (own who h) lane w.kept w.call w.rest one (stand.fit s frames past es are ample st who) w.asks in
          absurd (stand.has_room s frames past es are ample st (Tx (tx_of c a lane)) (length (pending_at w.kept lane)) ring.0
          (empty.due_by s frames past es are ample st a known w (producer c (Tx (tx_of c a lane))) ring.1)
          (subst (λ n. HasNothingDue (own n h)) (sym by) (empty.driver_due s frames past es are ample st a known w (d j) (below j side)))
          (omega (arith, none, few, ample.rings (Tx (tx_of c a lane)) ring.0)) full.1))
          (w.stays.lanes goes lane within)

      -- ---- no packet is bad or unfinished

      passed : (i : ℕ) (side : i < 2) (other : 1 - i < 2) (k : ℕ) (within : k < classes_of c)
          → peeked_of (Tx (socket_at_class c (d i) k)) (own (d i) h) ≡ submitted_of (Rx (rx_of c a (lane_at c a one (1 - i) k other within).0)) (own (d (1 - i)) h)
      passed i side other k within =
          let lane = lane_at c a one (1 - i) k other within in
          let t = socket_at_class c (d i) k in
          let r = rx_of c a lane.0 in
          let same = tx_socket i k side other within in
          let ring = tx_ring c (d i) (seat i side) t (class_here c (d i) (seat i side) k within) in
          let rx = rx_has lane.0 lane.1 in
          let by : producer c (Rx r) ≡ d (1 - i) = rx_by lane.0 lane.1 ∙ ap d lane.2 in
          let none = lane_none lane.0 lane.1 in
          let order = has_pending c a (own who h) lane.0 w.kept w.call w.rest one are.steady.closes w.asks (plain_free s frames past es are ample st w.call w.plain) lane.1 in
          ap (λ n. peeked_of (Tx t) (own n h)) ring.1
          ∙ stand.passed_on s frames past es are ample st (Tx t) ring.0 refl (all_sent i side k within)
          ∙ ap (λ n. submitted_of (Tx n) (own (producer c (Tx n)) h)) (sym same)
          ∙ ap (λ n. submitted_of (Tx (tx_of c a lane.0)) (own n h)) (sym (tx_has lane.0 lane.1).1)
          ∙ sym (append-nil (submitted_of (Tx (tx_of c a lane.0)) (own who h)))
          ∙ ap (λ items. submitted_of (Tx (tx_of c a lane.0)) (own who h) ++ items) (sym none.0)
          ∙ order
          ∙ ap (λ n. peeked_of (Rx r) (own n h)) rx.1
          ∙ stand.passed_on s frames past es are ample st (Rx r) rx.0 refl none.1
          ∙ ap (λ n. submitted_of (Rx r) (own n h)) by

      whole_packets : (i : ℕ) (side : i < 2) (k : ℕ) (within : k < classes_of c)
          → (bad_ones (packets c.geometry c.sg (peeked_of (Tx (socket_at_class c (d i) k)) (own (d i) h))) ≡ []) × (rest c.geometry c.sg (peeked_of (Tx (socket_at_class c (d i) k)) (own (d i) h)) ≡ [])
      whole_packets i side k within =
          let other : 1 - i < 2 = omega arith in
          let lane = lane_at c a one (1 - i) k other within in
          let r = rx_of c a lane.0 in
          let o = open_at (1 - i) other in
          let laid = lays_out s.wire c (d (1 - i)) r (input_of s (d (1 - i))) (own (d (1 - i)) h) o.kept o.call o.rest (seat (1 - i) other) (stand.fit s frames past es are ample st (d (1 - i))) o.asks in
          let short = All-weaker (IsSized c) (λ (p : List ℕ). length p ≤ packet_limit c) (λ p sized. sized.few) laid.0 laid.2 in
          let made = laid_packets c.geometry c.sg are.history.opened.geometry laid.0 (submitted_of (Rx r) (own (d (1 - i)) h)) laid.1 short in
          let same = passed i side other k within in
          (ap (λ items. bad_ones (packets c.geometry c.sg items)) same ∙ made.0, ap (rest c.geometry c.sg) same ∙ made.1)

      -- ---- where the frames are

      -- a driver has its spare frames alone
      only_spare : (i : ℕ) (side : i < 2) (n : ℕ) → 1 ≤ times n (had_of (own (d i) h)) → 1 ≤ times n (frame_numbers (open_at i side).kept.spare)
      only_spare i side n some =
          let o = open_at i side in
          let owned = empty.owned s frames past es are ample st a known w i side o in
          let groups : flat_map numbers o.kept.groups ≡ [] =
          all_none numbers o.kept.groups refl (λ k within. let class : k < classes_of c = omega (arith, within, owned.classes) in owned.groups k class ∙ (whole_packets i side k class).1) in
          let lost : o.kept.lost ≡ [] =
          loses_none s.wire c (d i) (input_of s (d i)) (own (d i) h) o.kept o.call o.rest (seat i side) (stand.fit s frames past es are ample st (d i)) o.asks (λ k within. (whole_packets i side k within).0) in
          let sent = (empty.sent s frames past es are ample st a known w i side o).0 in
          omega (
            arith,
            some,
            owned.frames n,
            times-kept n o.kept,
            ap (λ (items : List Item). times n (numbers items)) (free_none o.call o.free),
            ap (times n) groups,
            ap (λ (ps : List (List Item)). times n (flat_map numbers ps)) sent,
            ap (λ (fs : List Frame). times n (frame_numbers fs)) lost,
          )

      -- the application has none
      none_had : (n : ℕ) → 1 ≤ times n (had_of (own who h)) → ⊥
      none_had n some =
          let has = empty.has s frames past es are ample st a known w in
          let pending : flat_map numbers w.kept.pending ≡ [] = all_none numbers w.kept.pending refl (λ k within. (lane_none k (omega (arith, within, has.lanes))).0) in
          let back : flat_map frame_numbers w.kept.back ≡ [] =
          all_none frame_numbers w.kept.back refl (λ k within. (empty.back_none s frames past es are ample st a known w k (omega (arith, within, has.sides))).0) in
          omega (arith, some, empty.counts s frames past es are ample st a known w n, ap (times n) pending, ap (times n) back)

      -- nor is one in a ring but FILL
      none_out : (n : ℕ) (r : Ring) → HasRing c r → app_of c r ≡ who → 1 ≤ times n (out_numbers (ring_at c x r)) → (r ≡ Fill (n / pool_of c))
      none_out n (Fill e) ring mine some =
          let home = home_numbers c e n (ring_at c x (Fill e)).out (only_homes s frames h e st.unchanged are ring) some in ap Fill (sym home)
      none_out n (Comp e) ring mine some =
          let side = pair_side c a one e ring mine in
          let none = (empty.back_none s frames past es are ample st a known w side.0 side.1).1 in
          absurd (omega (arith, some, ap (λ items. times n (numbers items)) none, ap (λ k. times n (numbers (ring_at c x (Comp k)).out)) side.2))
      none_out n (Rx t) ring mine some =
          let at = socket_of_side c a one t ring.0 mine in
          let lane = lane_at c a one at.0 at.1 at.2 at.3 in
          let same : t ≡ rx_of c a lane.0 = at.4 ∙ sym (rx_socket at.0 at.1 at.2 at.3) in
          absurd (omega (arith, some, ap (λ items. times n (numbers items)) (lane_none lane.0 lane.1).1, ap (λ k. times n (numbers (ring_at c x (Rx k)).out)) same))
      none_out n (Tx t) ring mine some =
          let at = socket_of_side c a one t ring.0 mine in
          absurd (omega (arith, some, ap (λ items. times n (numbers items)) (all_sent at.0 at.2 at.1 at.3), ap (λ k. times n (numbers (ring_at c x (Tx k)).out)) at.4))

      -- so where FILL is empty, all frames of the pool are spare
      in_spare : (i : ℕ) (side : i < 2) → IsEmpty c x (Fill (d i)) → (n : ℕ) → n < c.geometry.frames → n / pool_of c ≡ d i → 1 ≤ times n (frame_numbers (open_at i side).kept.spare)
      in_spare i side none n within home =
          let stay = frames_stay c frames h n are.history in
          let mine : home_app c n ≡ who = ap (λ e. app_of c (Fill e)) home ∙ served i side in
          ⊎_elim
          (λ (caller : (k : ℕ) × (1 ≤ times n (had_of (own k h)))).
          let k = caller.0 in
          let serving : serves c k ≡ who = stay.0 k caller.1 ∙ mine in
          ⊎_elim
          (λ (low : k < length c.pairs).
          let as_driver : app_of c (Fill k) ≡ who = sym (ap (λ b. cond b (app_of c (Fill k)) k) (lt-ltb k (length c.pairs) low)) ∙ serving in
          let at = pair_side c a one k low as_driver in
          let had : 1 ≤ times n (had_of (own (d at.0) h)) = subst (λ e. 1 ≤ times n (had_of (own e h))) at.2 caller.1 in
          let spare = only_spare at.0 at.1 n had in
          let owned = empty.owned s frames past es are ample st a known w at.0 at.1 (open_at at.0 at.1) in
          let there = spare_homes (d at.0) n (open_at at.0 at.1).kept.spare (below at.0 at.1) owned.spare spare in
          only_spare i side n (subst (λ e. 1 ≤ times n (had_of (own e h))) (sym there ∙ home) had))
          (λ (high : length c.pairs ≤ k).
          let itself : k ≡ who = sym (ap (λ b. cond b (app_of c (Fill k)) k) (le-ltb k (length c.pairs) high)) ∙ serving in
          absurd (none_had n (subst (λ e. 1 ≤ times n (had_of (own e h))) itself caller.1)))
          (cases_lt k (length c.pairs)))
          (λ (ring : (r : Ring) × HasRing c r × (1 ≤ times n (out_numbers (ring_at c x r)))).
          let is : ring.0 ≡ Fill (d i) = none_out n ring.0 ring.1 (stay.1 ring.0 ring.1 ring.2 ∙ mine) ring.2 ∙ ap Fill home in
          absurd (omega (arith, ring.2, ap (λ items. times n (numbers items)) none, ap (λ r. times n (numbers (ring_at c x r).out)) is)))
          (holder c are.steady.regular frames h n are.history within)

      spare_many : (i : ℕ) (side : i < 2) → IsEmpty c x (Fill (d i)) → 18 ≤ length (open_at i side).kept.spare
      spare_many i side none =
          let pool = pool_of c in
          let spare = (open_at i side).kept.spare in
          let next : (d i + 1) * pool ≡ d i * pool + pool = grind arith in
          let most : (d i + 1) * pool ≤ length c.pairs * pool = mul-le-mul_right pool (let low = below i side in omega (arith, low)) in
          let whole = div-add-mod' c.geometry.frames (length c.pairs) in
          let turned : c.geometry.frames / length c.pairs * length c.pairs ≡ length c.pairs * pool = grind arith in
          let few = many_of_pool (d i * pool) pool (frame_numbers spare)
          (λ n low high. in_spare i side none n (omega (arith, high, next, most, whole, turned, are.steady.regular.lawful.divides)) (div-eq_of_lt-le pool low (omega (arith, high, next)))) in
          omega (arith, few, length-map spare (λ (f : Frame). f.number), ample.pool)

      -- ---- so each driver has received all

      room_on_rx : (i : ℕ) (side : i < 2) (held : IsHeldUp (seat_of s.wire c (d i)) x (open_at i side).kept) → LacksRoom c x (Rx held.socket) (pieces_of (seat_of s.wire c (d i)) held.packet.bytes) → ⊥
      room_on_rx i side held lacks =
          let t = held.socket in
          let at : IsHere c (d i) t = redirect_here c (d i) _ t held.target in
          let ring = rx_ring c (d i) (seat i side) t at in
          let app : app_of c (Rx t) ≡ who =
          ap (λ (n : ℕ). caller_of c ((n / 2) * c.queues + queue_of c (Rx t))) at.port ∙ ap (λ (n : ℕ). caller_of c (((pair_at c.pairs (d i)).port / 2) * c.queues + n)) at.queue ∙ served i side in
          let place = socket_of_side c a one t at.known app in
          let lane = lane_at c a one place.0 place.1 place.2 place.3 in
          let same : t ≡ rx_of c a lane.0 = place.4 ∙ sym (rx_socket place.0 place.1 place.2 place.3) in
          let none : length (ring_at c x (Rx t)).out ≡ 0 = ap (λ k. length (ring_at c x (Rx k)).out) same ∙ ap length (lane_none lane.0 lane.1).1 in
          let few = pieces_within s.wire c (d i) (seat i side) held.packet.bytes held.fits in
          stand.has_room s frames past es are ample st (Rx t) (pieces_of (seat_of s.wire c (d i)) held.packet.bytes) ring.0
          (subst (λ n. HasNothingDue (own n h)) ring.1 (empty.driver_due s frames past es are ample st a known w (d i) (below i side)))
          (empty.due_by s frames past es are ample st a known w (consumer c (Rx t)) (sym app))
          (omega (arith, none, few, ample.rings (Rx t) ring.0)) lacks

      received : (i : ℕ) (side : i < 2) → (open_at i side).kept.rx_done ≡ true
      received i side =
          let o = open_at i side in
          ⊎_elim
          (λ (p : IsParked (d i) (own (d i) h) × (is_some o.kept.parked ≡ true)).
          let r = empty.rests s frames past es are ample st a known w i side o p.0 p.1 in
          ⊎_elim
          (λ (on : r.0 ≡ true).
          let lacks = r.1.lacks on in
          let none = none_or_some (ring_at c x (Fill (d i))).out
          (λ waits. empty.not_owed s frames past es are ample st a known w i side o (Fill (d i)) (NeedFill (d i)) r.1.flagged (refl, refl)
          (λ looks. let look : IsPlain (Look (NeedFill (d i))) = subst IsPlain looks w.plain in look)
          (stand.fill_owed s frames past es are ample st (d i) (below i side) o p.0 (r.1.fill ∙ on) waits)) in
          absurd (omega (arith, lacks.3, spare_many i side none)))
          (λ (off : r.0 ≡ false). (r.1.none off).1)
          (cases_Bool r.0))
          (λ (stays : StaysBy (seat_of s.wire c (d i)) x o.kept). ⊎_elim
          (λ (all : (o.kept.coming ≡ []) × (o.kept.rx_done ≡ true)). all.1)
          (λ (held : IsHeldUp (seat_of s.wire c (d i)) x o.kept). ⊎_elim
          (λ (lacks : LacksRoom c x (Rx held.socket) (pieces_of (seat_of s.wire c (d i)) held.packet.bytes)). absurd (room_on_rx i side held lacks))
          (λ (few : (length o.kept.spare < pieces_of (seat_of s.wire c (d i)) held.packet.bytes) × IsEmpty c x (Fill (d i))).
          absurd (omega (arith, few.0, pieces_within s.wire c (d i) (seat i side) held.packet.bytes held.fits, spare_many i side few.1)))
          held.why)
          stays.receives)
          o.stays

      rx_is_told : (i : ℕ) → i < 2 → mark_at c x (RxDone (d i)) ≡ 1
      rx_is_told i side =
          let o = open_at i side in
          let keeps = keeps_rx_told s.wire c (d i) 0 (input_of s (d i)) (own (d i) h) o.kept o.call o.rest o.asks in
          stand.rx_marked s frames past es are ample st (d i) 0 (below i side) ∙ one_if _ (keeps.0 ∙ received i side)

      not_going : ⊥
      not_going = w.stays.untold goes rx_is_told (λ lane within. (lane_none lane within).0)

    pub none_open : ⊥
    none_open = ⊎_elim (λ (done : w.kept.tx_done ≡ true). not_done done) (λ (goes : w.kept.tx_done ≡ false). not_going goes) (cases_Bool w.kept.tx_done)

  -- ---- all have ended

  app_whole : (a : ℕ) → a < apps_of s.config → IsWholeAppRun s.config a (own (caller_of s.config a) (past ++ es))
  app_whole a known = ⊎_elim
      (λ (whole : IsWholeAppRun s.config a (own (caller_of s.config a) (past ++ es))). whole)
      (λ (w : stand.OpenApp s frames past es are ample st a). absurd (none_open a known w))
      (stand.app_state s frames past es are ample st a known)

  driver_whole : (d : ℕ) → d < length s.config.pairs → IsWholeDriverRun s.wire s.config d (input_of s d) (own d (past ++ es))
  driver_whole d below =
      let c = s.config in
      let h = past ++ es in
      let a = app_for c d in
      let known = app_known c d (stand.seat s frames past es are ample st d below) in
      let one = stand.one_app s frames past es are ample st a known in
      let side = pair_side c a one d below refl in
      let seen = subst (λ e. (draining_of (Gone e ∷ []) (Comp e) (own (caller_of c a) h)).unseen ≡ []) (sym side.2) (sees_gone c a side.0 (own (caller_of c a) h) one (app_whole a known) side.1) in
      let tells = tells_gone_last s.wire c d d (input_of s d) (own d h) (stand.driver_run s frames past es are ample st d below) in
      let config = stand.config s frames past es are ample st in
      let holds = holds_after c frames (Gone d ∷ []) (Gone d) (Comp d) config below below (λ k e. e) h are.history (or_left (is_mark (Gone d) (Gone d)) false (is_mark-self (Gone d)))
      (opening_mark_is c frames (Gone d) config below) tells.0 in
      let told : (telling_of (Gone d) (Comp d) (own d h)).told ≡ true =
      ⊎_elim (λ (left : has_mark (Gone d) (draining_of (Gone d ∷ []) (Comp d) (own (caller_of c a) h)).unseen ≡ true). absurd (let off : false ≡ true = sym (ap (has_mark (Gone d)) seen) ∙ left in cc))
      (λ (told : (telling_of (Gone d) (Comp d) (own d h)).told ≡ true). told) holds.seen in
      ⊎_elim
      (λ (yes : IsWholeDriverRun s.wire c d (input_of s d) (own d h) × ((telling_of (Gone d) (Comp d) (own d h)).told ≡ true)). yes.0)
      (λ (other : (IsWholeDriverRun s.wire c d (input_of s d) (own d h) → ⊥) × ((telling_of (Gone d) (Comp d) (own d h)).told ≡ false)). absurd (not_false _ told other.1))
      tells.1

pub no_stretch : NoStretch
no_stretch s frames past es are ample st who known = record {
  driver = λ low. driver_whole s frames past es are ample st who low;
  app = λ a e.
      subst (λ m. IsWholeAppRunBy m s.config a (own who (past ++ es))) (sym st.unchanged)
      (subst (λ k. IsWholeAppRun s.config a (own k (past ++ es))) (sym e) (app_whole s frames past es are ample st a (omega (arith, e, known))));
}
