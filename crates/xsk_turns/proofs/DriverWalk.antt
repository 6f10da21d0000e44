-- The one walk along a driver's turns. A law of its runs says what holds at each place of a turn, and what each entry of the
-- list, a call with its reply, makes of it; then it holds along every run.
use Rattle.std.proofs.Common.{◌≡◌, inl, inr, ℕ, zero, suc, ◌+◌, ◌-◌, ◌%◌, ◌<◌, Bool, true, false, cond, ◌||◌, nat_lt, nat_le, eqb, Option, Some, None, List, [], ◌∷◌, length, map, take, drop, refl, sym, ap, ◌∙◌, subst, arith}
use Rattle.std.proofs.lemmas.Bool.{or_parts}
use Rattle.xsk_turns.proofs.Calls.{Item, Told, with_told, Fill, Comp, Rx, Tx, NeedFill, NeedTx, Kick, RxDone, Gone, TxDone, Cell, BouncedMark, Call, Reserve, Submit, Peek, Release, Swap, Look, Reply, Granted, Full, Submitted, Items, Empty, Released, Old}
use Rattle.xsk_turns.specs.Script.{Script, ask, again, ended, on_submitted, on_released, on_old, Asks, Ends, IsRun, Leaves}
use Rattle.xsk_turns.specs.Turns.{Seat, Judged, Kept, Noted, fresh, awaits, drops, moved, stopped, lacks, settled, settled_or, dropped, disposal_untried, supplied, with_rx_full, with_fill_empty, with_tx_empty, no_frames, no_room, visit_from, socket_of, application_of, bounces, bounced_among, bounce, cell_of, redirect_to, limit_of, pieces_of, laid_out, returned, gathered, flag_tx, flag_from, flag_all, disarm, park, woken, peek_fill, peek_tx, look_kick, settle, look_tx, look_from, look_again, idle, complete, complete_all, visit, transmit, deliver, reserve, go_on, find_spare, direct, receive, turn_by, turn, closing_of, with_acked, look_closing}
use Rattle.xsk_model.specs.declared.call.Mark.TheVariants.{Closing, Acked}
use Rattle.xsk_turns.specs.declared.disposal.Disposal.TheVariants.{Delivered, NoFrames, RxFull, TooLong, Missed, Bounced}
use Rattle.xsk_turns.proofs.Walks.{Premise, Law, nothing_due, Holds, MeetAlong, at_reserve, at_submit, at_peek, at_release, at_old, by_case, by_option, says_left, says_run, meets_law}
use Rattle.xsk_turns.proofs.DriverStages.{HasTaken, tried_long, untried, tried_cell, Which, Turning, Again, receives, visited, looks, Stage, Starting, Receiving, Trying, Lacking, Sending, Idling, Arming, Parked, Disarming, Family, first_place, Begins, LookClosing, TellAcked, TellRxDone, TellBounced, LookCell, PeekFill, ReleaseFill, ReserveRx, SubmitRx, ReserveComp, SubmitComp, PeekTx, ReleaseTx, LookTxDone, TellGone, ArmFill, ArmTx, LookEnd, LookKick, ClearKick, DisarmFill, DisarmTx, IsBouncing, IsNext, IsTried, IsLacking, waits, saw_fed, saw_closed, told_acked, told_rx_done, told_bounced, looked_none, looked_long, looked_some, fill_empty, fill_items, fill_released, rx_granted, rx_full, rx_submitted, comp_granted, comp_full, comp_submitted, tx_empty, tx_items, tx_released, looked_tx_done, armed_fill, armed_tx, found_end, found_none, kicked, not_kicked, cleared_kick, disarmed, disarmed_fill, disarmed_tx, finds, none_comes, too_few, drops_full, drops_frameless, idles, arms, seeks, sought, misses, parks, Said, IsLaw}

module _ (seat : Seat) (Q : Premise Kept) (At : Family) (A : Said) (E : Kept → List Told → Type 0) (is : IsLaw seat Q At A E) where
  abbrev law : Law Kept
  law = record { begins = λ kept l. Begins At kept l; asks = A; ends = E }

  abbrev Along : Script Kept → List Told → Type 0
  Along s l = Holds Q law s l

  -- it isn't parked, and where it awaits frames, its next packet lacks them
  abbrev Steady : Noted → Kept → Type 0
  Steady noted kept = (kept.parked ≡ None) × (awaits noted ≡ true → IsLacking seat Q noted.lacking kept.coming kept.spare)

  -- it awaits none
  abbrev Awake : Noted → Kept → Type 0
  Awake noted kept = (kept.parked ≡ None) × (noted.lacking ≡ 0)

  steady : (noted : Noted) (kept : Kept) → Awake noted kept → Steady noted kept
  steady noted kept w = (w.0, λ e. absurd (let no : false ≡ true = sym (ap (nat_lt 0) w.1) ∙ e in cc))

  begins_awake : (kept : Kept) (l : List Told) → kept.parked ≡ None → At Starting fresh kept l → Begins At kept l
  begins_awake kept l e h = subst (λ o. At (first_place o) fresh kept l) (sym e) h

  begins_parked : (frames : Bool) (kept : Kept) (l : List Told) → kept.parked ≡ Some frames → At (Parked frames) fresh kept l → Begins At kept l
  begins_parked frames kept l e h = subst (λ o. At (first_place o) fresh kept l) (sym e) h

  -- ---- flags

  go_disarm_tx : (more k : ℕ) (noted : Noted) (kept : Kept) (l : List Told) → k + more ≡ seat.classes → kept.parked ≡ None → At (Disarming false k) noted kept l
      → Along (flag_tx seat 0 more k kept (again kept)) l
  go_disarm_tx zero k noted kept l e up h =
      let all : k ≡ seat.classes = omega arith in begins_awake kept l up (is.silent disarmed noted kept l (subst (λ j. At (Disarming false j) noted kept l) all h) up)
  go_disarm_tx (suc more) k noted kept l e up h =
      let call = Swap (NeedTx (socket_of seat k)) 0 in
      let below : k < seat.classes = omega arith in
      let on : (k + 1) + more ≡ seat.classes = omega arith in
      let asked = is.calls (DisarmTx k) noted kept l (up, below) h in (
        asked,
        at_old Q law kept call l (λ _. flag_tx seat 0 more (k + 1) kept (again kept))
            (λ n q. go_disarm_tx more (k + 1) noted kept (with_told l call (Old n)) on up (is.entries (disarmed_tx k n) noted kept l (up, below) tt h asked q)),
      )

  go_disarm : (frames : Bool) (noted : Noted) (kept : Kept) (l : List Told) → kept.parked ≡ None → At (Disarming frames 0) noted kept l → Along (disarm seat frames kept) l
  go_disarm false noted kept l up h = go_disarm_tx (seat.classes - 0) 0 noted kept l (omega arith) up h
  go_disarm true noted kept l up h =
      let call = Swap (NeedFill seat.pair) 0 in
      let asked = is.calls DisarmFill noted kept l up h in (
        asked,
        at_old Q law kept call l (λ _. flag_from seat 0 0 kept (again kept))
            (λ n q. go_disarm_tx (seat.classes - 0) 0 noted kept (with_told l call (Old n)) (omega arith) up (is.entries (disarmed_fill n) noted kept l up tt h asked q)),
      )

  go_parked : (frames : Bool) (kept : Kept) (l : List Told) → kept.parked ≡ Some frames → At (Parked frames) fresh kept l → Along (look_kick seat frames kept) l
  go_parked frames kept l e h =
      let call = Look (Kick seat.pair) in
      let clear = Swap (Kick seat.pair) 0 in
      let up = woken kept in
      let asked = is.calls (LookKick frames) fresh kept l e h in (
        asked,
        at_old Q law kept call l (λ n. cond (eqb n 1) (ask up clear (on_old (λ _. disarm seat frames up))) (again kept))
            (λ n q.
            let looked = with_told l call (Old n) in
            by_case Q law (eqb n 1) _ _ looked
            (λ f.
            let now = is.entries (kicked frames n) fresh kept l e f h asked q in
            let gives = is.calls (ClearKick frames) fresh up looked refl now in (
              gives,
              at_old Q law up clear looked (λ _. disarm seat frames up)
                  (λ m r. go_disarm frames fresh up (with_told looked clear (Old m)) refl (is.entries (cleared_kick frames m) fresh up looked refl tt now gives r)),
            ))
            (λ f. begins_parked frames kept looked e (is.entries (not_kicked frames n) fresh kept l e f h asked q))),
      )

  go_settle : (noted : Noted) (kept : Kept) (l : List Told) → kept.parked ≡ None → At (Sending Again seat.classes nothing_due) noted kept l → Along (settle seat noted kept) l
  go_settle noted kept l up h =
      let call = Look (TxDone (application_of seat)) in
      let ending : Kept = record kept { tx_done = true } in
      by_case Q law noted.progress _ _ l (λ e. go_disarm (awaits noted) noted kept l up (is.silent finds noted kept l h e))
      (λ e. by_case Q law kept.rx_done _ _ l
      (λ done.
      let asked = is.calls LookEnd noted kept l (e, done) h in (
        asked,
        at_old Q law kept call l (λ n. cond (eqb n 1) (disarm seat (awaits noted) ending) (park (awaits noted) kept))
            (λ n q.
            let looked = with_told l call (Old n) in
            by_case Q law (eqb n 1) _ _ looked (λ f. go_disarm (awaits noted) noted ending looked up (is.entries (found_end n) noted kept l (e, done) f h asked q))
            (λ f. is.entries (found_none n) noted kept l (e, done) f h asked q)),
      ))
      (λ f. is.silent parks noted kept l h (e, f)))

  -- ---- a Peek

  -- wherever it goes on behind a Peek of FILL, and of the TX ring of a class
  abbrev Follows : Stage → (Noted → Kept → Script Kept) → Noted → Kept → List Told → Type 0
  Follows place next noted kept l = At place noted kept l → Along (next noted kept) l

  module _ (look : Which) (noted : Noted) (kept : Kept) (l : List Told) (next : Noted → Kept → Script Kept) where
    go_peek_fill : (packet : Judged) (s : ℕ) → IsTried seat Q kept.coming packet s → nat_le (pieces_of seat packet.bytes) (length kept.spare) ≡ false → At (Trying look packet s nothing_due) noted kept l
        → ((items : List Item) (m : List Told) → Follows (Trying look packet s nothing_due) next (moved noted) (supplied seat kept items) (with_told m (Release (Fill seat.pair) (length items)) Released))
        → ((m : List Told) → Follows (Lacking look packet s false) next noted (with_fill_empty kept) m)
        → Along (peek_fill seat (pieces_of seat packet.bytes - length kept.spare) noted kept next) l
    go_peek_fill packet s tried few h some none =
        let call = Peek (Fill seat.pair) (pieces_of seat packet.bytes - length kept.spare) in
        let asked = is.calls (PeekFill look packet s) noted kept l (tried, few) h in (
          asked,
          at_peek Q law kept call l (λ items. ask (supplied seat kept items) (Release (Fill seat.pair) (length items)) (on_released (next (moved noted) (supplied seat kept items)))) (next noted (with_fill_empty kept))
              (λ items q.
              let peeked = with_told l call (Items items) in
              let give = Release (Fill seat.pair) (length items) in
              let more : Kept = supplied seat kept items in
              let now = is.entries (fill_items look packet s items) noted kept l (tried, few) tt h asked q in
              let gives = is.calls (ReleaseFill look packet s (length items)) (moved noted) more peeked tried now in (
                gives,
                at_release Q law more give peeked (next (moved noted) more)
                    (λ r. some items peeked (is.entries (fill_released look packet s (length items)) (moved noted) more peeked tried tt now gives r)),
              ))
              (λ q. none (with_told l call Empty) (is.entries (fill_empty look packet s) noted kept l (tried, few) tt h asked q)),
        )

    go_peek_tx : (k : ℕ) → (k < seat.classes) × (look ≡ Turning → kept.finished ≡ []) → At (Sending look k nothing_due) noted kept l
        → ((items : List Item) (m : List Told) → Follows (Sending look (k + 1) nothing_due) next (moved noted) (gathered seat k kept items) m)
        → ((m : List Told) → Follows (Sending look (k + 1) nothing_due) next noted (with_tx_empty k kept) m)
        → Along (peek_tx seat k noted kept next) l
    go_peek_tx k known h some none =
        let call = Peek (Tx (socket_of seat k)) seat.batch in
        let asked = is.calls (PeekTx look k) noted kept l known h in (
          asked,
          at_peek Q law kept call l (λ items. ask (gathered seat k kept items) (Release (Tx (socket_of seat k)) (length items)) (on_released (next (moved noted) (gathered seat k kept items)))) (next noted (with_tx_empty k kept))
              (λ items q.
              let peeked = with_told l call (Items items) in
              let give = Release (Tx (socket_of seat k)) (length items) in
              let got = gathered seat k kept items in
              let now = is.entries (tx_items look k items) noted kept l known tt h asked q in
              let gives = is.calls (ReleaseTx look k (length items)) (moved noted) got peeked known.0 now in (
                gives,
                at_release Q law got give peeked (next (moved noted) got)
                    (λ r. some items (with_told peeked give Released) (is.entries (tx_released look k (length items)) (moved noted) got peeked known.0 tt now gives r)),
              ))
              (λ q. none (with_told l call Empty) (is.entries (tx_empty look k) noted kept l known tt h asked q)),
        )

  -- ---- the second look

  go_look_tx : (more k : ℕ) (noted : Noted) (kept : Kept) (l : List Told) → k + more ≡ seat.classes → kept.parked ≡ None → At (Sending Again k nothing_due) noted kept l
      → Along (look_tx seat more k noted kept) l
  go_look_tx zero k noted kept l e up h =
      let all : k ≡ seat.classes = omega arith in go_settle noted kept l up (subst (λ j. At (Sending Again j nothing_due) noted kept l) all h)
  go_look_tx (suc more) k noted kept l e up h =
      let on : (k + 1) + more ≡ seat.classes = omega arith in
      go_peek_tx Again noted kept l (look_tx seat more (k + 1)) k (omega arith, λ e. absurd (cc)) h
      (λ items m h. go_look_tx more (k + 1) (moved noted) (gathered seat k kept items) m on up h) (λ m h. go_look_tx more (k + 1) noted (with_tx_empty k kept) m on up h)

  go_look_from : (noted : Noted) (kept : Kept) (l : List Told) → kept.parked ≡ None → At (Sending Again 0 nothing_due) noted kept l → Along (look_from seat 0 noted kept) l
  go_look_from noted kept l up h = go_look_tx (seat.classes - 0) 0 noted kept l (omega arith) up h

  go_look_again : (noted : Noted) (kept : Kept) (l : List Told) → Steady noted kept → At (Arming seat.classes) noted kept l → Along (look_again seat noted kept) l
  go_look_again noted kept l st h =
      by_case Q law (awaits noted) _ _ l
      (λ e.
      let lacking = st.1 e in
      let packet = lacking.packet in
      let s = lacking.socket in
      subst (λ n. Along (peek_fill seat n noted kept (look_from seat 0)) l) (sym lacking.is)
      (go_peek_fill Again noted kept l (look_from seat 0) packet s lacking.tried lacking.few (is.silent (seeks packet s) noted kept l h (lacking.tried, e))
      (λ items m h.
      let taken = with_told m (Release (Fill seat.pair) (length items)) Released in
      go_look_from (moved noted) (supplied seat kept items) taken st.0 (is.silent (sought packet s) (moved noted) (supplied seat kept items) taken h (e, refl)))
      (λ m h. go_look_from noted (with_fill_empty kept) m st.0 (is.silent (misses packet s) noted (with_fill_empty kept) m h e))))
      (λ e. go_look_from noted kept l st.0 (is.silent looks noted kept l h e))

  go_arm_tx : (more k : ℕ) (noted : Noted) (kept : Kept) (l : List Told) → k + more ≡ seat.classes → Steady noted kept → At (Arming k) noted kept l
      → Along (flag_tx seat 1 more k kept (look_again seat noted kept)) l
  go_arm_tx zero k noted kept l e st h =
      let all : k ≡ seat.classes = omega arith in go_look_again noted kept l st (subst (λ j. At (Arming j) noted kept l) all h)
  go_arm_tx (suc more) k noted kept l e st h =
      let call = Swap (NeedTx (socket_of seat k)) 1 in
      let below : k < seat.classes = omega arith in
      let on : (k + 1) + more ≡ seat.classes = omega arith in
      let asked = is.calls (ArmTx k) noted kept l below h in (
        asked,
        at_old Q law kept call l (λ _. flag_tx seat 1 more (k + 1) kept (look_again seat noted kept))
            (λ n q. go_arm_tx more (k + 1) noted kept (with_told l call (Old n)) on st (is.entries (armed_tx k n) noted kept l below tt h asked q)),
      )

  go_arm : (noted : Noted) (kept : Kept) (l : List Told) → Steady noted kept → noted.full ≡ false → kept.tx_done ≡ false → noted.progress ≡ false → seat.config.wakeup ≡ true → At Idling noted kept l → Along (flag_all seat (awaits noted) 1 kept (look_again seat noted kept)) l
  go_arm noted kept l st full sends none on h =
      let call = Swap (NeedFill seat.pair) 1 in
      let all = λ (m : List Told). go_arm_tx (seat.classes - 0) 0 noted kept m (omega arith) st in
      by_case Q law (awaits noted) _ _ l
      (λ e.
      let asked = is.calls ArmFill noted kept l (full, e, sends, none, on) h in (
        asked,
        at_old Q law kept call l (λ _. flag_from seat 1 0 kept (look_again seat noted kept)) (λ n q. all (with_told l call (Old n)) (is.entries (armed_fill n) noted kept l (full, e, sends, none, on) tt h asked q)),
      ))
      (λ e. all l (is.silent arms noted kept l h (full, e, sends, none, on)))

  go_idle : (noted : Noted) (kept : Kept) (l : List Told) → Steady noted kept → At Idling noted kept l → Along (idle seat noted kept) l
  go_idle noted kept l st h =
      let look = Look (TxDone (application_of seat)) in
      let leave = Swap (Gone seat.pair) 1 in
      by_case Q law (noted.progress || noted.full) _ _ l (λ e. begins_awake kept l st.0 (is.silent idles noted kept l h (inl e)))
      (λ e.
      let off = or_parts noted.progress noted.full e in
      by_case Q law kept.tx_done _ _ l
      (λ done.
      let gives = is.calls TellGone noted kept l (off.0, off.1, done) h in
      (gives, at_old Q law kept leave l (λ n. ended kept) (λ n q. is.ends noted kept l n (off.0, off.1, done) h gives q)))
      (λ f. by_case Q law seat.config.wakeup _ _ l (λ w. go_arm noted kept l st off.1 f off.0 w h)
      (λ w. by_case Q law kept.rx_done _ _ l
      (λ done.
      let gives = is.calls LookTxDone noted kept l (done, f) h in
      let looked : ℕ → Kept = λ n. record kept { tx_done = kept.tx_done || eqb n 1 } in (
        gives,
        at_old Q law kept look l (λ n. again (looked n)) (λ n q. begins_awake (looked n) (with_told l look (Old n)) st.0 (is.entries (looked_tx_done n) noted kept l (done, f) tt h gives q)),
      ))
      (λ g. begins_awake kept l st.0 (is.silent idles noted kept l h (inr (f, w, g)))))))

  -- wherever a class's packets are all completed
  abbrev Visiting : (Noted → Kept → Script Kept) → ℕ → Type 0
  Visiting next k = (noted : Noted) (kept : Kept) (l : List Told) → Steady noted kept → At (Sending Turning k nothing_due) noted kept l → kept.finished ≡ [] → Along (next noted kept) l

  go_complete : (k : ℕ) (packets : List (List Item)) (noted : Noted) (kept : Kept) (next : Noted → Kept → Script Kept) (l : List Told) → Steady noted kept → At (Sending Turning k nothing_due) noted kept l
      → kept.finished ≡ packets → Visiting next k → Along (complete seat packets noted kept next) l
  go_complete k [] noted kept next l st h e go = go noted kept l st h e
  go_complete k (packet ∷ later) noted kept next l st h e go =
      let call = Reserve (Comp seat.pair) (length packet) in
      let give = Submit (Comp seat.pair) (map returned packet) in
      let granted = with_told l call Granted in
      let left : Kept = record kept { finished = later } in
      let asked = is.calls (ReserveComp k packet later) noted kept l e h in (
        asked,
        at_reserve Q law kept call l (ask left give (on_submitted (complete seat later (moved noted) left next))) (idle seat (stopped noted) kept)
            (λ q.
            let now = is.entries (comp_granted k packet later) noted kept l e tt h asked q in
            let gives = is.calls (SubmitComp k packet later) noted kept granted e now in (
              gives,
              at_submit Q law left give granted (complete seat later (moved noted) left next)
                  (λ r. go_complete k later (moved noted) left next (with_told granted give Submitted) st (is.entries (comp_submitted k packet later) noted kept granted e tt now gives r) refl go),
            ))
            (λ free q. go_idle (stopped noted) kept (with_told l call (Full free)) st (is.entries (comp_full k packet later free) noted kept l e tt h asked q)),
      )

  go_visit : (more k : ℕ) (noted : Noted) (kept : Kept) (l : List Told) → k + more ≡ seat.classes → Steady noted kept → At (Sending Turning k nothing_due) noted kept l → kept.finished ≡ []
      → Along (visit seat more k noted kept) l
  go_visit zero k noted kept l e st h none =
      let all : k ≡ seat.classes = omega arith in
      go_idle noted kept l st (is.silent visited noted kept l (subst (λ j. At (Sending Turning j nothing_due) noted kept l) all h) none)
  go_visit (suc more) k noted kept l e st h none =
      let on : (k + 1) + more ≡ seat.classes = omega arith in
      let next = visit seat more (k + 1) in
      let all = λ (noted : Noted) (kept : Kept) (m : List Told) (st : Steady noted kept) (h : At (Sending Turning (k + 1) nothing_due) noted kept m).
      go_complete (k + 1) kept.finished noted kept next m st h refl (λ noted kept m st h none. go_visit more (k + 1) noted kept m on st h none) in
      go_peek_tx Turning noted kept l (complete_all seat next) k (omega arith, λ e. none) h
      (λ items m h. all (moved noted) (gathered seat k kept items) m st h) (λ m h. all noted (with_tx_empty k kept) m st h)

  go_transmit : (noted : Noted) (kept : Kept) (l : List Told) → Steady noted kept → At (Sending Turning 0 nothing_due) noted kept l → Along (transmit seat noted kept) l
  go_transmit noted kept l st h =
      go_complete 0 kept.finished noted kept (visit_from seat 0) l st h refl (λ noted kept l st h none. go_visit (seat.classes - 0) 0 noted kept l (omega arith) st h none)

  -- ---- a packet that is tried

  module _ (packet : Judged) (s : ℕ) where
    go_no_frames : (noted : Noted) (kept : Kept) (l : List Told) → Awake noted kept → At (Lacking Turning packet s false) noted kept l → IsTried seat Q kept.coming packet s
        → nat_le (pieces_of seat packet.bytes) (length kept.spare) ≡ false → Along (no_frames seat packet.bytes noted kept) l
    go_no_frames noted kept l up h tried few =
        by_case Q law (drops seat.wire) _ _ l (λ e. go_transmit (moved noted) (dropped kept NoFrames) l (steady (moved noted) (dropped kept NoFrames) up) (is.silent (drops_frameless packet s) noted kept l h (tried, e, few)))
        (λ e. go_transmit (lacks (pieces_of seat packet.bytes - length kept.spare) noted) kept l
        (up.0, λ f. record { packet = packet; socket = s; tried = tried; few = few; is = refl }) (is.silent (waits packet s false) noted kept l h (tried, e)))

    go_no_room : (noted : Noted) (kept : Kept) (l : List Told) → Awake noted kept → At (Lacking Turning packet s true) noted kept l → IsTried seat Q kept.coming packet s → Along (no_room seat noted kept) l
    go_no_room noted kept l up h tried =
        by_case Q law (drops seat.wire) _ _ l (λ e. go_transmit (moved noted) (settled kept RxFull) l (steady (moved noted) (settled kept RxFull) up) (is.silent (drops_full packet s) noted kept l h (tried, e)))
        (λ e. go_transmit (stopped noted) kept l (steady (stopped noted) kept up) (is.silent (waits packet s true) noted kept l h (tried, e)))

    go_reserve : (noted : Noted) (kept : Kept) (l : List Told) → Awake noted kept → At (Trying Turning packet s nothing_due) noted kept l → IsTried seat Q kept.coming packet s
        → nat_le (pieces_of seat packet.bytes) (length kept.spare) ≡ true → Along (reserve seat packet.bytes s noted kept) l
    go_reserve noted kept l up h tried enough =
        let n = pieces_of seat packet.bytes in
        let call = Reserve (Rx s) n in
        let give = Submit (Rx s) (laid_out seat.config.geometry packet.bytes (take n kept.spare)) in
        let granted = with_told l call Granted in
        let fewer : Kept = record kept { spare = drop n kept.spare } in
        let left : Kept = settled fewer (Delivered s) in
        let full : Kept = with_rx_full (s % seat.classes) kept in
        let asked = is.calls (ReserveRx packet s) noted kept l (tried, enough) h in (
          asked,
          at_reserve Q law kept call l (deliver seat packet.bytes s (moved noted) kept) (no_room seat noted full)
              (λ q.
              let now = is.entries (rx_granted packet s) noted kept l (tried, enough) tt h asked q in
              let gives = is.calls (SubmitRx packet s) (moved noted) kept granted (tried, enough) now in (
                gives,
                at_submit Q law fewer give granted (transmit seat (moved (moved noted)) left)
                    (λ r. go_transmit (moved (moved noted)) left (with_told granted give Submitted) (steady (moved (moved noted)) left up) (is.entries (rx_submitted packet s) (moved noted) kept granted (tried, enough) tt now gives r)),
              ))
              (λ free q. go_no_room noted full (with_told l call (Full free)) up (is.entries (rx_full packet s free) noted kept l (tried, enough) tt h asked q) tried),
        )

    go_more : (noted : Noted) (kept : Kept) (l : List Told) → noted.progress ≡ true → HasTaken seat l → Awake noted kept → At (Trying Turning packet s nothing_due) noted kept l → IsTried seat Q kept.coming packet s → Along (go_on seat packet.bytes s noted kept) l
    go_more noted kept l on taken up h tried =
        by_case Q law (nat_le (pieces_of seat packet.bytes) (length kept.spare)) _ _ l (go_reserve noted kept l up h tried) (λ e. go_no_frames noted kept l up (is.silent (too_few packet s) noted kept l h (tried, on, e, taken)) tried e)

    go_find : (noted : Noted) (kept : Kept) (l : List Told) → Awake noted kept → At (Trying Turning packet s nothing_due) noted kept l → IsTried seat Q kept.coming packet s → Along (find_spare seat packet.bytes s noted kept) l
    go_find noted kept l up h tried =
        by_case Q law (nat_le (pieces_of seat packet.bytes) (length kept.spare)) _ _ l (go_reserve noted kept l up h tried)
        (λ e. go_peek_fill Turning noted kept l (go_on seat packet.bytes s) packet s tried e h (λ items m h. go_more (moved noted) (supplied seat kept items) (with_told m (Release (Fill seat.pair) (length items)) Released) refl (m, length items, refl) up h tried)
        (λ m h. subst (λ b. Along (cond b (reserve seat packet.bytes s noted (with_fill_empty kept)) (no_frames seat packet.bytes noted (with_fill_empty kept))) m) (sym e)
        (go_no_frames noted (with_fill_empty kept) m up h tried e)))

  -- ---- receiving

  go_bounce : (packet : Judged) (noted : Noted) (kept : Kept) (l : List Told) → Awake noted kept → At Receiving noted kept l → IsBouncing seat kept.coming packet → Along (bounce seat noted kept) l
  go_bounce packet noted kept l up h next =
      let call = Swap (BouncedMark seat.pair) (suc (bounced_among kept.disposals)) in
      let left : Kept = settled kept Bounced in
      let gives = is.calls (TellBounced packet) noted kept l next h in (
        gives,
        at_old Q law kept call l (λ n. transmit seat (moved noted) left)
            (λ n q. go_transmit (moved noted) left (with_told l call (Old n)) (steady (moved noted) left up) (is.entries (told_bounced packet n) noted kept l next tt h gives q)),
      )

  go_receive : (coming : List Judged) (noted : Noted) (kept : Kept) (l : List Told) → Awake noted kept → At Receiving noted kept l → kept.coming ≡ coming → Along (receive seat coming noted kept) l
  go_receive [] noted kept l up h e =
      let call = Swap (RxDone seat.pair) 1 in
      let left : Kept = record kept { rx_done = true } in
      by_case Q law kept.rx_done _ _ l (λ f. go_transmit noted kept l (steady noted kept up) (is.silent none_comes noted kept l h (e, f)))
      (λ f.
      let gives = is.calls TellRxDone noted kept l (e, f) h in (
        gives,
        at_old Q law kept call l (λ n. transmit seat (moved noted) left)
            (λ n q. go_transmit (moved noted) left (with_told l call (Old n)) (steady (moved noted) left up) (is.entries (told_rx_done n) noted kept l (e, f) tt h gives q)),
      ))
  go_receive (packet ∷ later) noted kept l up h e =
      let call = Look (Cell seat.port (cell_of packet.verdict)) in
      let to = λ (n : ℕ). redirect_to seat.config seat.port seat.queue n in
      let rest : drop 1 kept.coming ≡ later = ap (drop 1) e in
      let look : Script Kept = ask kept call (on_old (λ n. direct seat packet.bytes noted kept (to n))) in
      by_option (disposal_untried seat packet) (λ o. Along (settled_or o (λ d. receive seat later (moved noted) (settled kept d)) (cond (bounces packet.verdict) (bounce seat noted kept) look)) l)
      (λ none. by_case Q law (bounces packet.verdict) _ _ l
      (λ b. go_bounce packet noted kept l up h (record { later = later; is = e; none = none; long = tried_long seat packet none; bounces = b }))
      (λ stays.
      let next : IsNext seat kept.coming packet = record { later = later; is = e; none = none; stays = stays; long = tried_long seat packet none; cell = tried_cell seat packet none stays } in
      let gives = is.calls (LookCell packet) noted kept l next h in (
        gives,
        at_old Q law kept call l (λ n. direct seat packet.bytes noted kept (to n))
            (λ n q.
            let told = with_told l call (Old n) in
            by_option (to n) (λ o. Along (direct seat packet.bytes noted kept o) told)
            (λ none. go_transmit (moved noted) (settled kept Missed) told (steady (moved noted) (settled kept Missed) up) (is.entries (looked_none packet n) noted kept l next none h gives q))
            (λ s some. by_case Q law (nat_lt (limit_of seat) (length packet.bytes)) _ _ told
            (λ long. go_transmit (moved noted) (dropped kept TooLong) told (steady (moved noted) (dropped kept TooLong) up) (is.entries (looked_long packet n s) noted kept l next (some, long) h gives q))
            (λ fits. go_find packet s noted kept told up (is.entries (looked_some packet n s) noted kept l next (some, fits) h gives q) (record { next = next; number = n; looked = (kept, l, q); target = some; fits = fits })))),
      )))
      (λ d some. go_receive later (moved noted) (settled kept d) l up (is.silent (untried packet later d) noted kept l h (e, some)) rest)

  -- ---- a socket that is closed

  go_closing : (o : Option ℕ) (kept : Kept) (l : List Told) → closing_of seat ≡ o → kept.parked ≡ None → At Starting fresh kept l → Along (look_closing seat o kept) l
  go_closing None kept l e up h = go_receive kept.coming fresh kept l (up, refl) (is.silent receives fresh kept l h (inl e)) refl
  go_closing (Some s) kept l e up h =
      let look = Look (Closing s) in
      let give = Swap (Acked s) 1 in
      let now = with_acked kept in
      by_case Q law kept.acked _ _ l (λ f. go_receive kept.coming fresh kept l (up, refl) (is.silent receives fresh kept l h (inr f)) refl)
      (λ f.
      let asked = is.calls (LookClosing s) fresh kept l (e, f) h in (
        asked,
        at_old Q law kept look l (λ n. cond (eqb n 1) (ask kept give (on_old (λ _. receive seat kept.coming fresh now))) (receive seat kept.coming fresh kept))
            (λ n q.
            let looked = with_told l look (Old n) in
            by_case Q law (eqb n 1) _ _ looked
            (λ g.
            let seen = is.entries (saw_closed s n) fresh kept l (e, f) g h asked q in
            let gives = is.calls (TellAcked s) fresh kept looked (e, f) seen in (
              gives,
              at_old Q law kept give looked (λ _. receive seat kept.coming fresh now)
                  (λ m r. go_receive now.coming fresh now (with_told looked give (Old m)) (up, refl) (is.entries (told_acked s m) fresh kept looked (e, f) tt seen gives r) refl),
            ))
            (λ g. go_receive kept.coming fresh kept looked (up, refl) (is.entries (saw_fed s n) fresh kept l (e, f) g h asked q) refl)),
      ))

  go_by : (o : Option Bool) (kept : Kept) (l : List Told) → kept.parked ≡ o → At (first_place o) fresh kept l → Along (turn_by seat kept o) l
  go_by None kept l e h = go_closing (closing_of seat) kept l refl e h
  go_by (Some frames) kept l e h = go_parked frames kept l e h

  pub go_turn : (kept : Kept) (l : List Told) → Begins At kept l → Along (turn seat kept) l
  go_turn kept l h = go_by kept.parked kept l refl h

  -- ---- runs

  module _ (begins : Kept) (first : Begins At begins []) (l : List Told) (meets : MeetAlong (turn seat) Q (turn seat begins) [] l) where
    -- what it says where a list stops
    pub at_call : (kept : Kept) (call : Call) (rest : Reply → Script Kept) → Asks (turn seat) begins l kept call rest → A kept call l
    at_call kept call rest asks = says_left Q law (turn seat) go_turn begins l (ask kept call rest) first meets asks

    pub at_end : (kept : Kept) → Ends (turn seat) begins l kept → E kept l
    at_end kept ends = says_left Q law (turn seat) go_turn begins l (ended kept) first meets ends

    -- a law may stand on what this one says at each call
    pub meets_said : (left : Script Kept) → Leaves (turn seat) (turn seat begins) l left → MeetAlong (turn seat) (λ kept m call reply. A kept call m × Q kept m call reply) (turn seat begins) [] l
    meets_said left leaves = meets_law Q law (turn seat) go_turn begins l left first meets leaves

    -- what it says of each run
    pub of_run : (I : List Told → Type 0) → ((kept : Kept) (m : List Told) → Begins At kept m → I m) → ((kept : Kept) (call : Call) (m : List Told) → A kept call m → I m) → ((kept : Kept) (m : List Told) → E kept m → I m)
        → IsRun (turn seat) begins l → I l
    of_run I x y z run = says_run Q law (turn seat) go_turn I x y z begins l first meets run
