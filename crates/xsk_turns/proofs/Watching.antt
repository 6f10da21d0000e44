-- A driver that is parked watches each ring whose flag it has set, and its end; and it keeps that it is parked exactly where it
-- looks at its kick.
use Rattle.std.proofs.Common.{◌≡◌, ℕ, ◌-◌, ◌<◌, length, Bool, true, false, cond, not, eqb, ◌&&◌, Option, None, Some, List, [], ◌∷◌, refl, sym, ap, ◌∙◌, subst, ⊎_elim, eq-eqb, arith}
use Rattle.std.proofs.lemmas.Bool.{and_from}
use Rattle.std.proofs.lemmas.List.Sums.{fold_push}
use Rattle.xsk_turns.proofs.Calls.{Told, with_told, Ring, Fill, Tx, Mark, NeedFill, NeedTx, Kick, RxDone, TxDone, Call, Peek, Swap, Look, Reply, Items, Empty, Released, Old}
use Rattle.xsk_model.specs.Config.{Config, classes_of}
use Rattle.xsk_model.specs.Marks.{is_mark}
use Rattle.xsk_model.specs.Swaps.{set_after, set_step, last_set}
use Rattle.xsk_model.specs.declared.call.Mark.TheVariants.{Closing, Acked}
use Rattle.xsk_turns.specs.Script.{Leaves}
use Rattle.xsk_turns.specs.Turns.{Seat, Judged, Kept, awaits, pieces_of, seat_of, start, turn, socket_of, application_of, closing_of, IsDriverRun}
use Rattle.xsk_turns.specs.Watching.{Watching, peeked, watching_after, watching_step, watching_of, ending_after, ending_step, ending_of, closing_after, closing_step, watches_closing, IsWatched, ParkedWatches}
use Rattle.xsk_turns.specs.declared.wire.Wire.{Wire}
use Rattle.xsk_turns.proofs.ScriptLemmas.{leaves_front, asked_last}
use Rattle.xsk_turns.proofs.Walks.{Anything, meet_anything}
use Rattle.xsk_turns.proofs.DriverStages.{Family, Begins, Starting, Acking, Arming, Again, Trying, Lacking, Sending, Parked, Woken, Disarming, LookKick, saw_fed, saw_closed, told_acked, told_rx_done, fill_empty, fill_items, fill_released, tx_empty, tx_items, tx_released, looked_tx_done, armed_fill, armed_tx, found_end, found_none, kicked, not_kicked, cleared_kick, disarmed_fill, disarmed_tx, receives, idles, arms, seeks, sought, misses, looks, finds, parks, disarmed, call_at, point_of, reply_of, Said, AtCalls, AtEntries, AtSilent, IsLaw}
use Rattle.xsk_turns.proofs.DriverWalk.{at_call}

-- ---- the folds

pub watching_told : (flag : Mark) (r : Ring) (kick : Mark) (l : List Told) (call : Call) (reply : Reply)
    → watching_of flag r kick (with_told l call reply) ≡ watching_after flag r kick (watching_of flag r kick l) call reply
watching_told flag r kick l call reply = fold_push (watching_step flag r kick) (record { set = false; watched = false }) l (record { call = call; reply = reply })

ending_told : (told done kick : Mark) (l : List Told) (call : Call) (reply : Reply)
    → ending_of told done kick (with_told l call reply) ≡ ending_after told done kick (ending_of told done kick l) call reply
ending_told told done kick l call reply = fold_push (ending_step told done kick) (record { set = false; watched = false }) l (record { call = call; reply = reply })

-- whether a call swaps a flag: no other sets it or clears it
abbrev pub swaps : Mark → Call → Bool
swaps flag (Swap m value) = is_mark flag m
swaps flag call = false

same_set : (b w : Bool) (s : Watching) → (cond b (record s { watched = w }) s).set ≡ s.set
same_set true w s = refl
same_set false w s = refl

other_swap : (flag same : Bool) (s t : Watching) → flag ≡ false → (cond flag t (cond same (record s { watched = false }) s)).set ≡ s.set
other_swap true same s t e = absurd (cc)
other_swap false same s t e = same_set same false s

peek_set : (b : Bool) (r : Ring) (s : Watching) (q : Ring) (reply : Reply) → (peeked r s q reply).set ≡ s.set
peek_set b r s q (Items items) = same_set _ false s
peek_set b r s q Empty = same_set _ s.set s
peek_set b r s q reply = refl

pub set_stays : (flag : Mark) (r : Ring) (kick : Mark) (s : Watching) (call : Call) (reply : Reply) → swaps flag call ≡ false → (watching_after flag r kick s call reply).set ≡ s.set
set_stays flag r kick s (Peek q n) reply e = peek_set true r s q reply
set_stays flag r kick s (Swap m value) reply e = other_swap (is_mark flag m) (is_mark kick m) s _ e
set_stays flag r kick s call reply e = refl

look_set : (done : Mark) (s : Watching) (m : Mark) (reply : Reply) → (ending_after done done done s (Look m) reply).set ≡ s.set
look_set done s m (Old number) = same_set (is_mark done m) (s.set && not (eqb number 1)) s
look_set done s m reply = refl

end_stays : (told done kick : Mark) (s : Watching) (call : Call) (reply : Reply) → swaps told call ≡ false → (ending_after told done kick s call reply).set ≡ s.set
end_stays told done kick s (Swap m value) reply e = other_swap (is_mark told m) (is_mark kick m) s _ e
end_stays told done kick s (Look m) reply e = look_set done s m reply
end_stays told done kick s call reply e = refl

-- a swap of the flag
pub set_now : (b : Bool) (s t : Watching) → b ≡ true → (cond b s t).set ≡ s.set
set_now true s t e = refl
set_now false s t e = absurd (cc)

-- a ring that is found empty is watched
found_empty : (b : Bool) (s : Watching) → (b ≡ false → IsWatched s) → IsWatched (cond b (record s { watched = s.set }) s)
found_empty true s h = λ e. e
found_empty false s h = h refl

pub is_true : (b : Bool) → b ≡ true → b ≡ false → ⊥
is_true true e f = absurd (cc)
is_true false e f = absurd (cc)

found_other : (b : Bool) (s : Watching) (n : ℕ) → b ≡ true → eqb n 1 ≡ false → IsWatched (cond b (record s { watched = s.set && not (eqb n 1) }) s)
found_other true s n e f = λ g. and_from s.set (not (eqb n 1)) g (ap not f)
found_other false s n e f = absurd (cc)

-- what holds of a call that is the look at a kick
abbrev AtKick : Type 0 → Call → Type 0
AtKick P (Look (Kick d)) = P
AtKick P call = Unit {0}

abbrev Nothing : Kept → List Told → Type 0
Nothing kept l = Unit {0}

-- ---- FILL

module _ (seat : Seat) where
  abbrev fill : List Told → Watching
  fill l = watching_of (NeedFill seat.pair) (Fill seat.pair) (Kick seat.pair) l

  abbrev IsClear : List Told → Type 0
  IsClear l = (fill l).set ≡ false

  abbrev FillAt : Family
  FillAt (Arming k) noted kept l = awaits noted ≡ false → IsClear l
  FillAt (Trying Again packet s due) noted kept l = Unit {0}
  FillAt (Lacking Again packet s full) noted kept l = IsWatched (fill l)
  FillAt (Sending Again k due) noted kept l = (awaits noted ≡ false → IsClear l) × (noted.progress ≡ false → IsWatched (fill l))
  FillAt (Parked frames) noted kept l = (frames ≡ false → IsClear l) × IsWatched (fill l)
  FillAt (Woken frames) noted kept l = frames ≡ false → IsClear l
  FillAt (Disarming frames k) noted kept l = frames ≡ false → IsClear l
  FillAt place noted kept l = IsClear l

  abbrev FillAsked : Said
  FillAsked kept call l = AtKick (IsWatched (fill l)) call

  still_clear : (l : List Told) (call : Call) (reply : Reply) → swaps (NeedFill seat.pair) call ≡ false → IsClear l → IsClear (with_told l call reply)
  still_clear l call reply e h =
      ap (λ (s : Watching). s.set) (watching_told (NeedFill seat.pair) (Fill seat.pair) (Kick seat.pair) l call reply)
      ∙ set_stays (NeedFill seat.pair) (Fill seat.pair) (Kick seat.pair) (fill l) call reply e ∙ h

  -- a call that the watch isn't about
  still_fill : (l : List Told) (call : Call) (reply : Reply) → watching_after (NeedFill seat.pair) (Fill seat.pair) (Kick seat.pair) (fill l) call reply ≡ fill l
      → IsWatched (fill l) → IsWatched (fill (with_told l call reply))
  still_fill l call reply e h = subst IsWatched (sym (watching_told (NeedFill seat.pair) (Fill seat.pair) (Kick seat.pair) l call reply ∙ e)) h

  fill_empty_now : (l : List Told) (n : ℕ) → IsWatched (fill (with_told l (Peek (Fill seat.pair) n) Empty))
  fill_empty_now l n =
      subst IsWatched (sym (watching_told (NeedFill seat.pair) (Fill seat.pair) (Kick seat.pair) l (Peek (Fill seat.pair) n) Empty))
      (found_empty (eqb seat.pair seat.pair) (fill l) (λ e. absurd (is_true (eqb seat.pair seat.pair) (eq-eqb seat.pair seat.pair refl) e)))

  fill_calls : AtCalls seat Anything FillAt FillAsked
  fill_calls (LookKick frames) noted kept l known h = h.1
  fill_calls p noted kept l known h = tt

  fill_entries : AtEntries seat Anything FillAt FillAsked
  fill_entries (armed_fill n) noted kept l known found h a q = λ e. absurd (is_true (awaits noted) known.1 e)
  fill_entries (armed_tx k n) noted kept l known found h a q = λ e. still_clear l _ (Old n) refl (h e)
  fill_entries (fill_empty Again packet s) noted kept l known found h a q = fill_empty_now l (pieces_of seat packet.bytes - length kept.spare)
  fill_entries (fill_items Again packet s items) noted kept l known found h a q = tt
  fill_entries (fill_released Again packet s n) noted kept l known found h a q = tt
  fill_entries (tx_empty Again k) noted kept l known found h a q = ((λ e. still_clear l _ Empty refl (h.0 e)), λ p. still_fill l _ Empty refl (h.1 p))
  fill_entries (tx_items Again k items) noted kept l known found h a q = ((λ e. still_clear l _ (Items items) refl (h.0 e)), λ p. absurd (cc))
  fill_entries (tx_released Again k n) noted kept l known found h a q = ((λ e. still_clear l _ Released refl (h.0 e)), λ p. still_fill l _ Released refl (h.1 p))
  fill_entries (found_end n) noted kept l known found h a q = λ e. still_clear l _ (Old n) refl (h.0 e)
  fill_entries (found_none n) noted kept l known found h a q = ((λ e. still_clear l _ (Old n) refl (h.0 e)), still_fill l _ (Old n) refl (h.1 known.0))
  fill_entries (kicked frames n) noted kept l known found h a q = λ e. still_clear l _ (Old n) refl (h.0 e)
  fill_entries (not_kicked frames n) noted kept l known found h a q = ((λ e. still_clear l _ (Old n) refl (h.0 e)), still_fill l _ (Old n) refl h.1)
  fill_entries (cleared_kick frames n) noted kept l known found h a q = λ e. still_clear l _ (Old n) refl (h e)
  fill_entries (disarmed_fill n) noted kept l known found h a q = λ e.
      ap (λ (s : Watching). s.set) (watching_told (NeedFill seat.pair) (Fill seat.pair) (Kick seat.pair) l (Swap (NeedFill seat.pair) 0) (Old n))
      ∙ set_now (eqb seat.pair seat.pair) (record { set = false; watched = false }) _ (eq-eqb seat.pair seat.pair refl)
  fill_entries (disarmed_tx k n) noted kept l known found h a q = λ e. still_clear l _ (Old n) refl (h e)
  fill_entries e noted kept l known found h a q = still_clear l (call_at seat (point_of e) kept) (reply_of e) refl h

  fill_silent : AtSilent seat Anything FillAt
  fill_silent arms noted kept l = λ h e f. h
  fill_silent (seeks packet s) noted kept l = λ h e. tt
  fill_silent (sought packet s) noted kept l = λ h e. ((λ f. absurd (is_true (awaits noted) e.0 f)), λ f. absurd (is_true noted.progress e.1 f))
  fill_silent (misses packet s) noted kept l = λ h e. ((λ f. absurd (is_true (awaits noted) e f)), λ f. h)
  fill_silent looks noted kept l = λ h e. (h, λ p f. absurd (is_true (fill l).set f (h e)))
  fill_silent finds noted kept l = λ h e. h.0
  fill_silent parks noted kept l = λ h e. (h.0, h.1 e.0)
  fill_silent disarmed noted kept l = λ h e. h refl
  fill_silent p noted kept l = λ h e. h

  fill_law : IsLaw seat Anything FillAt FillAsked Nothing
  fill_law = record { calls = fill_calls; entries = fill_entries; silent = fill_silent; ends = λ noted kept l n known h a q. tt }

-- ---- the TX ring of a class

module _ (seat : Seat) (class : ℕ) (below : class < seat.classes) where
  abbrev socket : ℕ
  socket = socket_of seat class

  abbrev tx : List Told → Watching
  tx l = watching_of (NeedTx socket) (Tx socket) (Kick seat.pair) l

  abbrev TxAt : Family
  TxAt (Sending Again k due) noted kept l = class < k → noted.progress ≡ false → IsWatched (tx l)
  TxAt (Parked frames) noted kept l = IsWatched (tx l)
  TxAt place noted kept l = Unit {0}

  abbrev TxAsked : Said
  TxAsked kept call l = AtKick (IsWatched (tx l)) call

  still_tx : (l : List Told) (call : Call) (reply : Reply) → watching_after (NeedTx socket) (Tx socket) (Kick seat.pair) (tx l) call reply ≡ tx l
      → IsWatched (tx l) → IsWatched (tx (with_told l call reply))
  still_tx l call reply e h = subst IsWatched (sym (watching_told (NeedTx socket) (Tx socket) (Kick seat.pair) l call reply ∙ e)) h

  tx_empty_now : (l : List Told) (k n : ℕ) → ((class ≡ k → ⊥) → IsWatched (tx l)) → IsWatched (tx (with_told l (Peek (Tx (socket_of seat k)) n) Empty))
  tx_empty_now l k n h =
      let same : class ≡ k → eqb socket (socket_of seat k) ≡ true = λ e. eq-eqb socket (socket_of seat k) (ap (socket_of seat) e) in
      subst IsWatched (sym (watching_told (NeedTx socket) (Tx socket) (Kick seat.pair) l (Peek (Tx (socket_of seat k)) n) Empty))
      (found_empty (eqb socket (socket_of seat k)) (tx l) (λ off. h (λ e. is_true _ (same e) off)))

  tx_calls : AtCalls seat Anything TxAt TxAsked
  tx_calls (LookKick frames) noted kept l known h = h
  tx_calls p noted kept l known h = tt

  tx_entries : AtEntries seat Anything TxAt TxAsked
  tx_entries (tx_empty Again k) noted kept l known found h a q = λ past p. tx_empty_now l k seat.batch (λ apart. h (omega (arith, past, apart)) p)
  tx_entries (tx_items Again k items) noted kept l known found h a q = λ past p. absurd (cc)
  tx_entries (tx_released Again k n) noted kept l known found h a q = λ past p. still_tx l _ Released refl (h past p)
  tx_entries (found_none n) noted kept l known found h a q = still_tx l _ (Old n) refl (h below known.0)
  tx_entries (not_kicked frames n) noted kept l known found h a q = still_tx l _ (Old n) refl h
  tx_entries e noted kept l known found h a q = tt

  tx_silent : AtSilent seat Anything TxAt
  tx_silent (sought packet s) noted kept l = λ h e none p. absurd (omega (arith, none))
  tx_silent (misses packet s) noted kept l = λ h e none p. absurd (omega (arith, none))
  tx_silent looks noted kept l = λ h e none p. absurd (omega (arith, none))
  tx_silent finds noted kept l = λ h e. tt
  tx_silent parks noted kept l = λ h e. h below e.0
  tx_silent p noted kept l = λ h e. h

  tx_law : IsLaw seat Anything TxAt TxAsked Nothing
  tx_law = record { calls = tx_calls; entries = tx_entries; silent = tx_silent; ends = λ noted kept l n known h a q. tt }

-- ---- the end

module _ (seat : Seat) where
  abbrev done : ℕ
  done = application_of seat

  abbrev end : List Told → Watching
  end l = ending_of (RxDone seat.pair) (TxDone done) (Kick seat.pair) l

  abbrev EndAt : Family
  EndAt (Parked frames) noted kept l = ((end l).set ≡ kept.rx_done) × IsWatched (end l)
  EndAt place noted kept l = (end l).set ≡ kept.rx_done

  abbrev EndAsked : Said
  EndAsked kept call l = AtKick (IsWatched (end l)) call

  still_told : (told : Bool) (l : List Told) (call : Call) (reply : Reply) → swaps (RxDone seat.pair) call ≡ false → (end l).set ≡ told → (end (with_told l call reply)).set ≡ told
  still_told told l call reply e h =
      ap (λ (s : Watching). s.set) (ending_told (RxDone seat.pair) (TxDone done) (Kick seat.pair) l call reply)
      ∙ end_stays (RxDone seat.pair) (TxDone done) (Kick seat.pair) (end l) call reply e ∙ h

  end_calls : AtCalls seat Anything EndAt EndAsked
  end_calls (LookKick frames) noted kept l known h = h.1
  end_calls p noted kept l known h = tt

  end_entries : AtEntries seat Anything EndAt EndAsked
  end_entries (told_rx_done n) noted kept l known found h a q =
      ap (λ (s : Watching). s.set) (ending_told (RxDone seat.pair) (TxDone done) (Kick seat.pair) l (Swap (RxDone seat.pair) 1) (Old n))
      ∙ set_now (eqb seat.pair seat.pair) (record { set = true; watched = false }) _ (eq-eqb seat.pair seat.pair refl)
  end_entries (found_none n) noted kept l known found h a q = (
    still_told kept.rx_done l _ (Old n) refl h,
    subst IsWatched (sym (ending_told (RxDone seat.pair) (TxDone done) (Kick seat.pair) l (Look (TxDone done)) (Old n))) (found_other (eqb done done) (end l) n (eq-eqb done done refl) found),
  )
  end_entries (kicked frames n) noted kept l known found h a q = still_told kept.rx_done l _ (Old n) refl h.0
  end_entries (not_kicked frames n) noted kept l known found h a q = (
    still_told kept.rx_done l _ (Old n) refl h.0,
    subst IsWatched (sym (ending_told (RxDone seat.pair) (TxDone done) (Kick seat.pair) l (Look (Kick seat.pair)) (Old n))) h.1,
  )
  end_entries e noted kept l known found h a q = still_told kept.rx_done l (call_at seat (point_of e) kept) (reply_of e) refl h

  end_silent : AtSilent seat Anything EndAt
  end_silent parks noted kept l = λ h e. (h, λ f. absurd (is_true (end l).set f (h ∙ e.1)))
  end_silent p noted kept l = λ h e. h

  end_law : IsLaw seat Anything EndAt EndAsked Nothing
  end_law = record { calls = end_calls; entries = end_entries; silent = end_silent; ends = λ noted kept l n known h a q. tt }

-- ---- a socket that is closed

module _ (seat : Seat) (s : ℕ) (mine : closing_of seat ≡ Some s) where
  abbrev sees : List Told → Bool
  sees l = watches_closing (Closing s) (Kick seat.pair) l

  abbrev acked_in : List Told → Option ℕ
  acked_in l = last_set (Acked s) l

  -- what it told of the socket, and that it watches it until then
  abbrev Acks : Bool → List Told → Type 0
  Acks b l = b ≡ true → acked_in l ≡ Some 1

  abbrev Sees : Bool → List Told → Type 0
  Sees b l = Acks b l × (b ≡ false → sees l ≡ true)

  abbrev ClosingAt : Family
  ClosingAt Starting noted kept l = Acks kept.acked l
  ClosingAt Acking noted kept l = Acks kept.acked l
  ClosingAt (Woken frames) noted kept l = Acks kept.acked l
  ClosingAt (Disarming frames k) noted kept l = Acks kept.acked l
  ClosingAt place noted kept l = Sees kept.acked l

  abbrev IsSeen : List Told → Type 0
  IsSeen l = (acked_in l ≡ Some 1 → ⊥) → sees l ≡ true

  abbrev ClosingAsked : Said
  ClosingAsked kept call l = AtKick (IsSeen l) call

  acked_told : (l : List Told) (call : Call) (reply : Reply) → acked_in (with_told l call reply) ≡ set_after (Acked s) (acked_in l) call
  acked_told l call reply = fold_push (set_step (Acked s)) None l (record { call = call; reply = reply })

  sees_told : (l : List Told) (call : Call) (reply : Reply) → sees (with_told l call reply) ≡ closing_after (Closing s) (Kick seat.pair) (sees l) call reply
  sees_told l call reply = fold_push (closing_step (Closing s) (Kick seat.pair)) false l (record { call = call; reply = reply })

  -- a call that acknowledges nothing, and one that isn't seen either
  still_acks : (b : Bool) (l : List Told) (call : Call) (reply : Reply) → ((o : Option ℕ) → set_after (Acked s) o call ≡ o) → Acks b l → Acks b (with_told l call reply)
  still_acks b l call reply e h = λ f. acked_told l call reply ∙ e (acked_in l) ∙ h f

  still_sees : (b : Bool) (l : List Told) (call : Call) (reply : Reply) → ((o : Option ℕ) → set_after (Acked s) o call ≡ o) → ((x : Bool) → closing_after (Closing s) (Kick seat.pair) x call reply ≡ x)
      → Sees b l → Sees b (with_told l call reply)
  still_sees b l call reply e f h = (still_acks b l call reply e h.0, λ g. sees_told l call reply ∙ f (sees l) ∙ h.1 g)

  -- its socket is the one of which it tells
  same_socket : (t : ℕ) → closing_of seat ≡ Some t → s ≡ t
  same_socket t e = let two : Some s ≡ Some t = sym mine ∙ e in cc

  seen_by : (b : Bool) (l : List Told) → Sees b l → IsSeen l
  seen_by true l h none = absurd (none (h.0 refl))
  seen_by false l h none = h.1 refl

  closing_calls : AtCalls seat Anything ClosingAt ClosingAsked
  closing_calls (LookKick frames) noted kept l known h = seen_by kept.acked l h
  closing_calls p noted kept l known h = tt

  closing_entries : AtEntries seat Anything ClosingAt ClosingAsked
  closing_entries (saw_fed t n) noted kept l known found h a q = (
    still_acks kept.acked l (Look (Closing t)) (Old n) (λ o. refl) h,
    λ f. sees_told l (Look (Closing t)) (Old n) ∙ ap (λ b. cond b (not (eqb n 1)) (sees l)) (eq-eqb s t (same_socket t known.0)) ∙ ap not found,
  )
  closing_entries (saw_closed t n) noted kept l known found h a q = still_acks kept.acked l (Look (Closing t)) (Old n) (λ o. refl) h
  closing_entries (told_acked t n) noted kept l known found h a q = (
    λ f. acked_told l (Swap (Acked t) 1) (Old n) ∙ ap (λ b. cond b (Some 1) (acked_in l)) (eq-eqb s t (same_socket t known.0)),
    λ f. absurd (cc),
  )
  closing_entries (looked_tx_done n) noted kept l known found h a q = still_acks kept.acked l (Look (TxDone (application_of seat))) (Old n) (λ o. refl) h.0
  closing_entries (found_end n) noted kept l known found h a q = still_acks kept.acked l (Look (TxDone (application_of seat))) (Old n) (λ o. refl) h.0
  closing_entries (kicked frames n) noted kept l known found h a q = still_acks kept.acked l (Look (Kick seat.pair)) (Old n) (λ o. refl) h.0
  closing_entries (cleared_kick frames n) noted kept l known found h a q = still_acks kept.acked l (Swap (Kick seat.pair) 0) (Old n) (λ o. refl) h
  closing_entries (disarmed_fill n) noted kept l known found h a q = still_acks kept.acked l (Swap (NeedFill seat.pair) 0) (Old n) (λ o. refl) h
  closing_entries (disarmed_tx k n) noted kept l known found h a q = still_acks kept.acked l (Swap (NeedTx (socket_of seat k)) 0) (Old n) (λ o. refl) h
  closing_entries e noted kept l known found h a q = still_sees kept.acked l (call_at seat (point_of e) kept) (reply_of e) (λ o. refl) (λ x. refl) h

  closing_silent : AtSilent seat Anything ClosingAt
  closing_silent receives noted kept l = λ h e. (
    h,
    λ f. ⊎_elim (λ (none : closing_of seat ≡ None). absurd (let two : None ≡ Some s = sym none ∙ mine in cc))
        (λ (told : kept.acked ≡ true). absurd (is_true kept.acked told f))
        e,
  )
  closing_silent idles noted kept l = λ h e. h.0
  closing_silent finds noted kept l = λ h e. h.0
  closing_silent p noted kept l = λ h e. h

  closing_law : IsLaw seat Anything ClosingAt ClosingAsked Nothing
  closing_law = record { calls = closing_calls; entries = closing_entries; silent = closing_silent; ends = λ noted kept l n known h a q. tt }

-- ---- the laws

module _ (wire : Wire) (c : Config) (d : ℕ) (input : List Judged) (l : List Told) (run : IsDriverRun wire c d input (with_told l (Look (Kick d)) (Old 0))) where
  abbrev seat : Seat
  seat = seat_of wire c d

  abbrev begins : Kept
  begins = start (classes_of c) input

  -- at the look at its kick
  at_kick : (At : Family) (P : List Told → Type 0) → IsLaw seat Anything At (λ kept call m. AtKick (P m) call) Nothing → Begins At begins [] → P l
  at_kick At P law first =
      let t : Told = record { call = Look (Kick d); reply = Old 0 } in
      let on = leaves_front (turn seat) (turn seat begins) l (t ∷ []) run.0 run.1 in
      let last = asked_last (turn seat) on.0 t run.0 on.2 in
      at_call seat Anything At (λ kept call m. AtKick (P m) call) Nothing law begins first l (meet_anything (turn seat) (turn seat begins) [] l) last.0 (Look (Kick d)) last.1
      (subst (Leaves (turn seat) (turn seat begins) l) last.2 on.1)

pub parked_watches : ParkedWatches
parked_watches wire c d input l run =
    let s = seat_of wire c d in
    record {
      fill = still_fill s l (Look (Kick d)) (Old 0) refl (at_kick wire c d input l run (FillAt s) (λ m. IsWatched (fill s m)) (fill_law s) refl);
      tx = λ class below. still_tx s class below l (Look (Kick d)) (Old 0) refl (at_kick wire c d input l run (TxAt s class below) (λ m. IsWatched (tx s class below m)) (tx_law s class below) tt);
      ends = subst IsWatched (sym (ending_told (RxDone d) (TxDone (done s)) (Kick d) l (Look (Kick d)) (Old 0))) (at_kick wire c d input l run (EndAt s) (λ m. IsWatched (end s m)) (end_law s) refl);
      closing = λ x mine none.
          let seen : IsSeen s x mine l = at_kick wire c d input l run (ClosingAt s x mine) (IsSeen s x mine) (closing_law s x mine) (λ e. absurd (cc)) in
          sees_told s x mine l (Look (Kick d)) (Old 0) ∙ seen (λ e. none (acked_told s x mine l (Look (Kick d)) (Old 0) ∙ e));
    }
