-- What a driver puts into rings is paid by its packets and by what it took from TX, and it swaps marks no more often than it
-- finds items, or its kick set, or its end, lets it, once for each packet that bounces, and where it acknowledges that its socket is closed.
use Rattle.std.proofs.Common.{◌≡◌, ℕ, zero, suc, ◌+◌, ◌*◌, ◌%◌, ◌≤◌, Bool, true, false, cond, not, ◌||◌, ◌&&◌, eqb, nat_le, Option, Some, None, is_some, option_to_list, List, [], ◌∷◌, ◌++◌, length, take, drop, map, replicate, refl, ap, subst, ◌∙◌, arith, length-append, length-take, length-drop, eq-eqb, ltb-false}
use Rattle.std.specs.Int.{div_ceil}
use Rattle.std.proofs.lemmas.List.{length-map}
use Rattle.xsk_umem.specs.Geometry.{Geometry, IsGeometry, payload_of}
use Rattle.xsk_umem.specs.declared.batch.Item.{Item}
use Rattle.xsk_model.specs.Limits.{most_fragments}
use Rattle.xsk_model.specs.Descriptor.{is_valid}
use Rattle.xsk_model.specs.Packets.{Packet, whole, bad, ended_by, group_after, packets_from, rest_from, whole_packets}
use Rattle.xsk_model.specs.Config.{Config, classes_of}
use Rattle.xsk_model.specs.Steering.{packet_limit}
use Rattle.xsk_model.specs.Entry.{Told, with_told}
use Rattle.xsk_model.specs.History.{OwnGoesOn}
use Rattle.xsk_model.specs.declared.call.Ring.TheVariants.{Fill, Comp, Rx, Tx}
use Rattle.xsk_model.specs.declared.call.Mark.{Mark}
use Rattle.xsk_model.specs.declared.call.Mark.TheVariants.{NeedFill, NeedTx, Kick, RxDone, Gone, TxDone, Acked, Bounced as BouncedMark}
use Rattle.xsk_model.specs.declared.call.Call.{Call}
use Rattle.xsk_model.specs.declared.call.Call.TheVariants.{Submit, Peek, Swap, Look}
use Rattle.xsk_model.specs.declared.call.Reply.{Reply}
use Rattle.xsk_model.specs.declared.call.Reply.TheVariants.{Granted, Full, Submitted, Items, Empty, Released, Old}
use Rattle.xsk_turns.specs.Turns.{Seat, Judged, Kept, fresh, awaits, bounced_among, settled, dropped, supplied, with_rx_full, with_fill_empty, with_tx_empty, gathered, woken, pieces_of, limit_of, laid_out, application_of, group_at, returned, seat_of, socket_of, with_acked, start, turn, IsDriverRun}
use Rattle.xsk_turns.specs.declared.wire.Wire.{Wire}
use Rattle.xsk_turns.specs.declared.disposal.Disposal.{Disposal}
use Rattle.xsk_turns.specs.declared.disposal.Disposal.TheVariants.{Delivered, NoFrames, RxFull, TooLong, Missed, Bounced}
use Rattle.xsk_turns.proofs.Layouts.{few_pieces, length-laid_out}
use Rattle.xsk_turns.proofs.Walks.{nothing_due, submit_due, release_due}
use Rattle.xsk_turns.proofs.DriverStages.{Stage, Starting, Acking, Receiving, Trying, Lacking, Sending, Idling, Arming, Which, Turning, Again, Parked, Woken, Disarming, Family, first_place, Begins, asked, PeekFill, ReleaseFill, PeekTx, ReleaseTx, ArmTx, DisarmTx, SubmitRx, call_at, saw_fed, saw_closed, told_acked, told_rx_done, told_bounced, looked_none, looked_long, looked_some, fill_empty, fill_items, fill_released, rx_granted, rx_full, rx_submitted, comp_granted, comp_full, comp_submitted, tx_empty, tx_items, tx_released, looked_tx_done, armed_fill, armed_tx, found_end, found_none, kicked, not_kicked, cleared_kick, disarmed_fill, disarmed_tx, receives, untried, none_comes, too_few, waits, drops_full, drops_frameless, visited, idles, arms, seeks, sought, misses, looks, finds, parks, disarmed, Said, AtCalls, AtEntries, AtSilent, IsLaw}
use Rattle.xsk_turns.proofs.DriverWalk.{of_run}
use Rattle.xsk_turns.specs.Totals.{total}
use Rattle.xsk_bounds.specs.Totals.{put, steps_put, steps_taken, swapped, took, kick_swaps, closings_acked}
use Rattle.xsk_turns.proofs.Totals.{total-append}
use Rattle.xsk_bounds.proofs.Totals.{total-push}
use Rattle.xsk_bounds.proofs.Sums.{Spends, Drives}
use Rattle.xsk_bounds.proofs.AppSpending.{Lawful, meet_lawful, total_put}

-- ---- what is gathered

abbrev pub all_of : List (List Item) → ℕ
all_of groups = total (λ (items : List Item). length items) groups

-- what a driver has of items that are read: its rest and its whole packets
abbrev had : Geometry → Bool → List Item → List Item → ℕ
had g sg group items = length (rest_from g sg group items) + all_of (whole_packets (packets_from g sg group items))

whole-append : (ps qs : List Packet) → all_of (whole_packets (ps ++ qs)) ≡ all_of (whole_packets ps) + all_of (whole_packets qs)
whole-append [] qs = omega arith
whole-append (whole items ∷ ps) qs = omega (arith, whole-append ps qs)
whole-append (bad items ∷ ps) qs = whole-append ps qs

-- what one item ends has no more than the group and the item
ended_few : (group : List Item) (item : Item) (long broken more : Bool)
    → let end : Option Packet = cond long (Some (bad (group ++ item ∷ []))) (cond broken (Some (bad (group ++ item ∷ []))) (cond more None (Some (whole (group ++ item ∷ []))))) in
    all_of (whole_packets (option_to_list end)) + length (cond (is_some end) [] (group ++ item ∷ [])) ≤ length group + 1
ended_few group item true broken more = omega arith
ended_few group item false true more = omega arith
ended_few group item false false true = omega (arith, length-append group (item ∷ []))
ended_few group item false false false = omega (arith, length-append group (item ∷ []))

pub gathered_few : (g : Geometry) (sg : Bool) (group items : List Item) → had g sg group items ≤ length group + length items
gathered_few g sg group [] = omega arith
gathered_few g sg group (item ∷ items) =
    omega (
      arith,
      whole-append (option_to_list (ended_by g sg group item)) (packets_from g sg (group_after g sg group item) items),
      ended_few group item (nat_le most_fragments (length group)) (not (is_valid g sg item.desc)) (eqb item.desc.options 1),
      gathered_few g sg (group_after g sg group item) items,
    )

-- ---- what is kept

abbrev held : Kept → ℕ
held kept = all_of kept.groups + all_of kept.finished

abbrev flag : Bool → ℕ
flag b = cond b 1 0

abbrev eleven : Bool → ℕ
eleven b = cond b 11 0

-- how often the marks may have been swapped, by what the driver found
abbrev base : ℕ → Bool → Bool → List Told → ℕ
base d rx_done tx_done l = 11 * (total took l + total (kick_swaps d 0) l + flag tx_done) + flag rx_done + total closings_acked l

-- at a place there are more Swaps by so many, or fewer by so many
abbrev more_in : Which → ℕ
more_in Turning = 0
more_in Again = 5

abbrev more_at : Stage → ℕ
more_at (Trying look packet s due) = more_in look
more_at (Lacking look packet s full) = more_in look
more_at (Sending look k due) = more_in look
more_at (Arming k) = 1 + k
more_at (Parked frames) = 5
more_at (Woken frames) = 5
more_at (Disarming frames k) = cond frames 0 (1 + k)
more_at place = 0

abbrev fewer_in : Which → Bool → ℕ
fewer_in Turning progress = 0
fewer_in Again progress = eleven progress

abbrev fewer_at : Stage → Bool → ℕ
fewer_at (Trying look packet s due) progress = fewer_in look progress
fewer_at (Lacking look packet s full) progress = fewer_in look progress
fewer_at (Sending look k due) progress = fewer_in look progress
fewer_at (Disarming frames k) progress = 5
fewer_at place progress = 0

-- while it sets its flags and looks again nothing has moved, and it isn't at its end
abbrev QuietIn : Which → Bool → Type 0
QuietIn Turning tx_done = Unit {0}
QuietIn Again tx_done = tx_done ≡ false

abbrev IsQuiet : Stage → Bool → Bool → Type 0
IsQuiet (Arming k) progress tx_done = (progress ≡ false) × (tx_done ≡ false)
IsQuiet (Trying look packet s due) progress tx_done = QuietIn look tx_done
IsQuiet (Lacking look packet s full) progress tx_done = QuietIn look tx_done
IsQuiet (Sending look k due) progress tx_done = QuietIn look tx_done
IsQuiet place progress tx_done = Unit {0}

pub record Pays (d packets : ℕ) (place : Stage) (progress : Bool) (kept : Kept) (l : List Told) : Type 0 where
  pub spends : total put l + total steps_put l + 2 * held kept ≤ total steps_taken l + 90 * length kept.disposals
  pub count : length kept.disposals + length kept.coming ≡ packets
  pub swaps : total swapped l + fewer_at place progress ≤ base d kept.rx_done kept.tx_done l + more_at place + length kept.disposals
  pub quiet : IsQuiet place progress kept.tx_done
  pub kicks : (e : ℕ) → total (kick_swaps e 1) l ≡ 0

more_few : (look : Which) → more_in look ≤ 5
more_few Turning = omega arith
more_few Again = omega arith

fewer_few : (look : Which) (progress : Bool) → fewer_in look true ≤ fewer_in look progress + 11
fewer_few Turning progress = omega arith
fewer_few Again progress = omega arith

flag_few : (b : Bool) → flag b ≤ 1
flag_few true = omega arith
flag_few false = omega arith

-- what such calls come to
pub record Spent (d packets : ℕ) (l : List Told) : Type 0 where
  pub spends : Spends l packets
  pub swaps : total swapped l ≤ 11 * (total took l + total (kick_swaps d 0) l + 2) + 2 + packets + total closings_acked l
  pub kicks : (e : ℕ) → total (kick_swaps e 1) l ≡ 0

-- a packet has no more pieces than 18
pieces_few : (c : Config) → IsGeometry c.geometry → (packet : List ℕ) → length packet ≤ packet_limit c → div_ceil (length packet) (payload_of c.geometry) ≤ 18
pieces_few c geometry packet short = by c.sg refl
  where
    by : (b : Bool) → c.sg ≡ b → div_ceil (length packet) (payload_of c.geometry) ≤ 18
    by true e = few_pieces c.geometry geometry 18 packet (subst (λ (x : Bool). length packet ≤ cond x 18 1 * payload_of c.geometry) e short)
    by false e = let one = few_pieces c.geometry geometry 1 packet (subst (λ (x : Bool). length packet ≤ cond x 18 1 * payload_of c.geometry) e short) in omega (arith, one)

module _ (wire : Wire) (c : Config) (d packets : ℕ) (few : classes_of c ≤ 4) (geometry : IsGeometry c.geometry) where
  abbrev seat : Seat
  seat = seat_of wire c d

  abbrev At : Family
  At place noted kept l = Pays d packets place noted.progress kept l

  abbrev Asked : Said
  Asked kept call l = Spent d packets l

  spent : (place : Stage) (progress : Bool) (kept : Kept) (l : List Told) → more_at place ≤ 5 + fewer_at place progress → Pays d packets place progress kept l → Spent d packets l
  spent place progress kept l small h =
      record {
        spends = omega (arith, h.spends, h.count);
        swaps = omega (arith, h.swaps, h.count, small, flag_few kept.rx_done, flag_few kept.tx_done);
        kicks = h.kicks;
      }

  -- one call more
  abbrev Costs : Kept → Kept → Told → Type 0
  Costs kept now t = put t + steps_put t + 2 * held now + 90 * length kept.disposals ≤ 2 * held kept + steps_taken t + 90 * length now.disposals

  abbrev Counts : Stage → Stage → Bool → Bool → Kept → Kept → Told → Type 0
  Counts place next progress after kept now t =
      swapped t + fewer_at next after + more_at place + 11 * flag kept.tx_done + flag kept.rx_done + length kept.disposals
      ≤ fewer_at place progress + more_at next + 11 * took t + 11 * kick_swaps d 0 t + 11 * flag now.tx_done + flag now.rx_done + length now.disposals + closings_acked t

  step : (place next : Stage) (progress after : Bool) (kept now : Kept) (l : List Told) (call : Call) (reply : Reply)
      → (let t : Told = record { call = call; reply = reply } in Costs kept now t × Counts place next progress after kept now t × ((e : ℕ) → kick_swaps e 1 t ≡ 0))
      → length now.disposals + length now.coming ≡ length kept.disposals + length kept.coming → IsQuiet next after now.tx_done
      → Pays d packets place progress kept l → Pays d packets next after now (with_told l call reply)
  step place next progress after kept now l call reply is same quiet h =
      let t : Told = record { call = call; reply = reply } in
      record {
        spends = omega (arith, h.spends, is.0, total-push put l t, total-push steps_put l t, total-push steps_taken l t);
        count = same ∙ h.count;
        swaps = omega (arith, h.swaps, is.1, total-push swapped l t, total-push took l t, total-push (kick_swaps d 0) l t, total-push closings_acked l t);
        quiet = quiet;
        kicks = λ e. omega (arith, h.kicks e, is.2 e, total-push (kick_swaps e 1) l t);
      }

  -- a call that moves no frame and swaps no mark
  still : (place next : Stage) (progress after : Bool) (kept now : Kept) (l : List Told) (call : Call) (reply : Reply)
      → (let t : Told = record { call = call; reply = reply } in (put t ≡ 0) × (steps_put t ≡ 0) × (swapped t ≡ 0) × ((e : ℕ) → kick_swaps e 1 t ≡ 0))
      → held now ≡ held kept → length kept.disposals ≤ length now.disposals → length now.disposals + length now.coming ≡ length kept.disposals + length kept.coming
      → now.rx_done ≡ kept.rx_done → flag kept.tx_done ≤ flag now.tx_done → fewer_at next after + more_at place ≤ fewer_at place progress + more_at next → IsQuiet next after now.tx_done
      → Pays d packets place progress kept l → Pays d packets next after now (with_told l call reply)
  still place next progress after kept now l call reply none same more count rx tx credit quiet h =
      step place next progress after kept now l call reply
      (omega (arith, none.0, none.1, same, more), omega (arith, none.2, ap flag rx, tx, credit, more), none.3) count quiet h

  nothing : {A : Type 0} (x : A) → flag false ≤ flag false
  nothing x = omega arith

  -- items of a TX ring
  group_few : (kept : Kept) (class : ℕ) (items : List Item) → held (gathered seat class kept items) ≤ held kept + length items
  group_few kept class items =
      let group = group_at kept class in
      let rest = rest_from c.geometry c.sg group items in
      let packets = whole_packets (packets_from c.geometry c.sg group items) in
      omega (
        arith,
        gathered_few c.geometry c.sg group items,
        total_put kept.groups class rest,
        total-append (λ (xs : List Item). length xs) kept.finished packets,
      )

  takes_tx : (place next : Stage) (progress after : Bool) (kept : Kept) (l : List Told) (class s n : ℕ) (items : List Item)
      → fewer_at next after + more_at place ≤ fewer_at place progress + more_at next + 11 * length items → IsQuiet next after kept.tx_done
      → Pays d packets place progress kept l → Pays d packets next after (gathered seat class kept items) (with_told l (Peek (Tx s) n) (Items items))
  takes_tx place next progress after kept l class s n items credit quiet h =
      step place next progress after kept (gathered seat class kept items) l (Peek (Tx s) n) (Items items)
      (omega (arith, group_few kept class items), omega (arith, credit), λ e. refl) refl quiet h

  takes_fill : (place next : Stage) (progress after : Bool) (kept : Kept) (l : List Told) (n : ℕ) (items : List Item)
      → fewer_at next after + more_at place ≤ fewer_at place progress + more_at next + 11 * length items → IsQuiet next after kept.tx_done
      → Pays d packets place progress kept l → Pays d packets next after (supplied seat kept items) (with_told l (Peek (Fill d) n) (Items items))
  takes_fill place next progress after kept l n items credit quiet h =
      step place next progress after kept (supplied seat kept items) l (Peek (Fill d) n) (Items items)
      (omega arith, omega (arith, credit), λ e. refl) refl quiet h

  -- the next packet has its disposal
  one_fewer : (disposals : List Disposal) (x : Disposal) (coming : List Judged) (packet : Judged) (later : List Judged) → coming ≡ packet ∷ later
      → length (disposals ++ x ∷ []) + length (drop 1 coming) ≡ length disposals + length coming
  one_fewer disposals x coming packet later e = omega (arith, length-append disposals (x ∷ []), length-drop 1 coming, ap length e)

  settles : (place next : Stage) (progress after : Bool) (kept now : Kept) (l : List Told) (call : Call) (reply : Reply) (x : Disposal)
      → (let t : Told = record { call = call; reply = reply } in (put t ≡ 0) × (steps_put t ≡ 0) × (swapped t ≡ 0) × ((e : ℕ) → kick_swaps e 1 t ≡ 0))
      → held now ≡ held kept → now.disposals ≡ kept.disposals ++ x ∷ [] → length now.disposals + length now.coming ≡ length kept.disposals + length kept.coming
      → now.rx_done ≡ kept.rx_done → now.tx_done ≡ kept.tx_done → fewer_at next after + more_at place ≤ fewer_at place progress + more_at next → IsQuiet next after now.tx_done
      → Pays d packets place progress kept l → Pays d packets next after now (with_told l call reply)
  settles place next progress after kept now l call reply x none same more count rx tx credit quiet h =
      still place next progress after kept now l call reply none same (omega (arith, ap length more, length-append kept.disposals (x ∷ []))) count rx (omega (arith, ap flag tx)) credit quiet h

  or_more : (a b : Bool) → flag a ≤ flag (a || b)
  or_more true b = omega arith
  or_more false b = omega arith

  and_false : (b : Bool) → flag (b && false) ≡ 0
  and_false true = refl
  and_false false = refl

  -- a Swap of a mark that is no kick
  swaps_mark : (place next : Stage) (progress after : Bool) (kept now : Kept) (l : List Told) (m : Mark) (value n : ℕ)
      → ((e v : ℕ) → kick_swaps e v (record { call = Swap m value; reply = Old n }) ≡ 0)
      → held now ≡ held kept → now.disposals ≡ kept.disposals → now.coming ≡ kept.coming → now.tx_done ≡ kept.tx_done
      → 1 + fewer_at next after + more_at place + flag kept.rx_done ≤ fewer_at place progress + more_at next + flag now.rx_done → IsQuiet next after now.tx_done
      → Pays d packets place progress kept l → Pays d packets next after now (with_told l (Swap m value) (Old n))
  swaps_mark place next progress after kept now l m value n none same more coming tx credit quiet h =
      step place next progress after kept now l (Swap m value) (Old n)
      (omega (arith, same, ap length more), omega (arith, credit, ap flag tx, none d 0, ap length more), λ e. none e 1) (omega (arith, ap length more, ap length coming)) quiet h

  calls : AtCalls seat (Lawful c d) At Asked
  calls (ArmTx k) noted kept l known h = spent (Arming k) noted.progress kept l (omega (arith, known, few)) h
  calls (PeekFill look packet s) noted kept l known h = spent (Trying look packet s nothing_due) noted.progress kept l (omega (arith, more_few look)) h
  calls (ReleaseFill look packet s n) noted kept l known h = spent (Trying look packet s (release_due (Fill d) n)) noted.progress kept l (omega (arith, more_few look)) h
  calls (PeekTx look k) noted kept l known h = spent (Sending look k nothing_due) noted.progress kept l (omega (arith, more_few look)) h
  calls (ReleaseTx look k n) noted kept l known h = spent (Sending look (k + 1) (release_due (Tx (socket_of seat k)) n)) noted.progress kept l (omega (arith, more_few look)) h
  calls (DisarmTx k) noted kept l known h = spent (Disarming false k) noted.progress kept l (omega arith) h
  calls p noted kept l known h = spent (asked seat p kept).0 noted.progress kept l (omega arith) h

  entries : AtEntries seat (Lawful c d) At Asked
  entries (saw_fed s n) noted kept l known found h a q =
      still Starting Receiving noted.progress noted.progress kept kept l _ (Old n) (refl, refl, refl, λ e. refl) refl (omega arith) refl refl (omega arith) (omega arith) tt h
  entries (saw_closed s n) noted kept l known found h a q =
      still Starting Acking noted.progress noted.progress kept kept l _ (Old n) (refl, refl, refl, λ e. refl) refl (omega arith) refl refl (omega arith) (omega arith) tt h
  entries (told_acked s n) noted kept l known found h a q =
      step Acking Receiving noted.progress noted.progress kept (with_acked kept) l (Swap (Acked s) 1) (Old n) (omega arith, omega arith, λ e. refl) refl tt h
  entries (told_rx_done n) noted kept l known found h a q =
      swaps_mark Receiving (Sending Turning 0 nothing_due) noted.progress true kept (record kept { rx_done = true }) l (RxDone d) 1 n (λ e v. refl) refl refl refl refl (omega (arith, ap flag known.1)) tt h
  entries (told_bounced packet n) noted kept l known found h a q =
      let more = length-append kept.disposals (Bounced ∷ []) in
      step Receiving (Sending Turning 0 nothing_due) noted.progress true kept (settled kept Bounced) l (Swap (BouncedMark d) (suc (bounced_among kept.disposals))) (Old n)
      (omega (arith, more), omega (arith, more), λ e. refl) (one_fewer kept.disposals Bounced kept.coming packet known.later known.is) tt h
  entries (looked_none packet n) noted kept l known found h a q =
      settles Receiving (Sending Turning 0 nothing_due) noted.progress true kept (settled kept Missed) l _ (Old n) Missed (refl, refl, refl, λ e. refl) refl refl (one_fewer kept.disposals Missed kept.coming packet known.later known.is) refl refl (omega arith) tt h
  entries (looked_long packet n s) noted kept l known found h a q =
      settles Receiving (Sending Turning 0 nothing_due) noted.progress true kept (dropped kept TooLong) l _ (Old n) TooLong (refl, refl, refl, λ e. refl) refl refl (one_fewer kept.disposals TooLong kept.coming packet known.later known.is) refl refl (omega arith) tt h
  entries (looked_some packet n s) noted kept l known found h a q =
      still Receiving (Trying Turning packet s nothing_due) noted.progress noted.progress kept kept l _ (Old n) (refl, refl, refl, λ e. refl) refl (omega arith) refl refl (omega arith) (omega arith) tt h
  entries (fill_empty look packet s) noted kept l known found h a q =
      still (Trying look packet s nothing_due) (Lacking look packet s false) noted.progress noted.progress kept (with_fill_empty kept) l _ Empty (refl, refl, refl, λ e. refl) refl (omega arith) refl refl (omega arith) (omega arith) h.quiet h
  entries (fill_items look packet s items) noted kept l known found h a q =
      takes_fill (Trying look packet s nothing_due) (Trying look packet s (release_due (Fill d) (length items))) noted.progress true kept l _ items (omega (arith, q.1.some, fewer_few look noted.progress)) h.quiet h
  entries (fill_released look packet s n) noted kept l known found h a q =
      still (Trying look packet s (release_due (Fill d) n)) (Trying look packet s nothing_due) noted.progress noted.progress kept kept l _ Released (refl, refl, refl, λ e. refl) refl (omega arith) refl refl (omega arith) (omega arith) h.quiet h
  entries (tx_empty look k) noted kept l known found h a q =
      still (Sending look k nothing_due) (Sending look (k + 1) nothing_due) noted.progress noted.progress kept (with_tx_empty k kept) l _ Empty (refl, refl, refl, λ e. refl) refl (omega arith) refl refl (omega arith) (omega arith) h.quiet h
  entries (tx_items look k items) noted kept l known found h a q =
      takes_tx (Sending look k nothing_due) (Sending look (k + 1) (release_due (Tx (socket_of seat k)) (length items))) noted.progress true kept l k _ _ items (omega (arith, q.1.some, fewer_few look noted.progress)) h.quiet h
  entries (tx_released look k n) noted kept l known found h a q =
      still (Sending look (k + 1) (release_due (Tx (socket_of seat k)) n)) (Sending look (k + 1) nothing_due) noted.progress noted.progress kept kept l _ Released (refl, refl, refl, λ e. refl) refl (omega arith) refl refl (omega arith) (omega arith) h.quiet h
  entries (rx_granted packet s) noted kept l known found h a q =
      still (Trying Turning packet s nothing_due) (Trying Turning packet s (submit_due (Rx s) (pieces_of seat packet.bytes))) noted.progress true kept kept l _ Granted (refl, refl, refl, λ e. refl) refl (omega arith) refl refl (omega arith) (omega arith) tt h
  entries (rx_full packet s free) noted kept l known found h a q =
      still (Trying Turning packet s nothing_due) (Lacking Turning packet s true) noted.progress noted.progress kept (with_rx_full (s % seat.classes) kept) l _ (Full free) (refl, refl, refl, λ e. refl) refl (omega arith) refl refl (omega arith) (omega arith) tt h
  entries (rx_submitted packet s) noted kept l known found h a q =
      let give = call_at seat (SubmitRx packet s) kept in
      let items : length (laid_out c.geometry packet.bytes (take (pieces_of seat packet.bytes) kept.spare)) ≤ 18 =
      omega (
        arith,
        length-laid_out c.geometry packet.bytes (take (pieces_of seat packet.bytes) kept.spare),
        length-take (pieces_of seat packet.bytes) kept.spare,
        pieces_few c geometry packet.bytes (ltb-false (limit_of seat) (length packet.bytes) known.0.fits),
      ) in
      step (Trying Turning packet s (submit_due (Rx s) (pieces_of seat packet.bytes))) (Sending Turning 0 nothing_due) noted.progress true kept _ l give Submitted
      (omega (arith, items, length-append kept.disposals (Delivered s ∷ [])), omega (arith, length-append kept.disposals (Delivered s ∷ [])), λ e. refl)
      (one_fewer kept.disposals (Delivered s) kept.coming packet known.0.next.later known.0.next.is) tt h
  entries (comp_granted k packet later) noted kept l known found h a q =
      still (Sending Turning k nothing_due) (Sending Turning k (submit_due (Comp d) (length packet))) noted.progress noted.progress kept kept l _ Granted (refl, refl, refl, λ e. refl) refl (omega arith) refl refl (omega arith) (omega arith) tt h
  entries (comp_full k packet later free) noted kept l known found h a q =
      still (Sending Turning k nothing_due) Idling noted.progress noted.progress kept kept l _ (Full free) (refl, refl, refl, λ e. refl) refl (omega arith) refl refl (omega arith) (omega arith) tt h
  entries (comp_submitted k packet later) noted kept l known found h a q =
      step (Sending Turning k (submit_due (Comp d) (length packet))) (Sending Turning k nothing_due) noted.progress true kept (record kept { finished = later }) l (Submit (Comp d) (map returned packet)) Submitted
      (omega (arith, ap all_of known, length-map packet returned), omega arith, λ e. refl) refl tt h
  entries (looked_tx_done n) noted kept l known found h a q =
      still Idling Starting noted.progress false kept (record kept { tx_done = kept.tx_done || eqb n 1 }) l _ (Old n) (refl, refl, refl, λ e. refl) refl (omega arith) refl refl (or_more kept.tx_done (eqb n 1)) (omega arith) tt h
  entries (armed_fill n) noted kept l known found h a q =
      swaps_mark Idling (Arming 0) noted.progress noted.progress kept kept l (NeedFill d) 1 n (λ e v. refl) refl refl refl refl (omega arith) (known.3, known.2) h
  entries (armed_tx k n) noted kept l known found h a q =
      swaps_mark (Arming k) (Arming (k + 1)) noted.progress noted.progress kept kept l (NeedTx (socket_of seat k)) 1 n (λ e v. refl) refl refl refl refl (omega arith) h.quiet h
  entries (found_end n) noted kept l known found h a q =
      step (Sending Again seat.classes nothing_due) (Disarming (awaits noted) 0) noted.progress noted.progress kept (record kept { tx_done = true }) l (Look (TxDone (application_of seat))) (Old n)
      (omega arith, omega (arith, ap flag h.quiet), λ e. refl) refl tt h
  entries (found_none n) noted kept l known found h a q =
      still (Sending Again seat.classes nothing_due) (Parked (awaits noted)) noted.progress false kept (record kept { parked = Some (awaits noted) }) l _ (Old n) (refl, refl, refl, λ e. refl) refl (omega arith) refl refl (omega arith) (omega arith) tt h
  entries (kicked frames n) noted kept l known found h a q =
      still (Parked frames) (Woken frames) noted.progress noted.progress kept (woken kept) l _ (Old n) (refl, refl, refl, λ e. refl) refl (omega arith) refl refl (omega arith) (omega arith) tt h
  entries (not_kicked frames n) noted kept l known found h a q =
      still (Parked frames) (Parked frames) noted.progress false kept kept l _ (Old n) (refl, refl, refl, λ e. refl) refl (omega arith) refl refl (omega arith) (omega arith) tt h
  entries (cleared_kick frames n) noted kept l known found h a q =
      step (Woken frames) (Disarming frames 0) noted.progress noted.progress kept kept l (Swap (Kick d) 0) (Old n)
      (omega arith, omega (arith, ap (λ b. flag (b && true)) (eq-eqb d d refl)), λ e. and_false (eqb e d)) refl tt h
  entries (disarmed_fill n) noted kept l known found h a q =
      swaps_mark (Disarming true 0) (Disarming false 0) noted.progress noted.progress kept kept l (NeedFill d) 0 n (λ e v. refl) refl refl refl refl (omega arith) tt h
  entries (disarmed_tx k n) noted kept l known found h a q =
      swaps_mark (Disarming false k) (Disarming false (k + 1)) noted.progress noted.progress kept kept l (NeedTx (socket_of seat k)) 0 n (λ e v. refl) refl refl refl refl (omega arith) tt h

  go_to : (place next : Stage) (progress after : Bool) (kept now : Kept) (l : List Told) → held now ≡ held kept → length kept.disposals ≤ length now.disposals
      → length now.disposals + length now.coming ≡ length kept.disposals + length kept.coming → now.rx_done ≡ kept.rx_done → now.tx_done ≡ kept.tx_done
      → fewer_at next after + more_at place ≤ fewer_at place progress + more_at next → IsQuiet next after now.tx_done
      → Pays d packets place progress kept l → Pays d packets next after now l
  go_to place next progress after kept now l same more count rx tx credit quiet h =
      record {
        spends = omega (arith, h.spends, same, more);
        count = count ∙ h.count;
        swaps = omega (arith, h.swaps, ap flag rx, ap flag tx, credit, more);
        quiet = quiet;
        kicks = h.kicks;
      }

  settles_so : (kept now : Kept) (x : Disposal) → now.disposals ≡ kept.disposals ++ x ∷ [] → length kept.disposals ≤ length now.disposals
  settles_so kept now x more = omega (arith, ap length more, length-append kept.disposals (x ∷ []))

  silent : AtSilent seat (Lawful c d) At
  silent receives noted kept l = λ h e. go_to Starting Receiving noted.progress noted.progress kept kept l refl (omega arith) refl refl refl (omega arith) tt h
  silent (untried packet later x) noted kept l = λ h e.
      go_to Receiving Receiving noted.progress true kept (settled kept x) l refl (settles_so kept (settled kept x) x refl) (one_fewer kept.disposals x kept.coming packet later e.0) refl refl (omega arith) tt h
  silent none_comes noted kept l = λ h e. go_to _ _ noted.progress noted.progress kept kept l refl (omega arith) refl refl refl (omega arith) tt h
  silent (too_few packet s) noted kept l = λ h e. go_to _ _ noted.progress noted.progress kept kept l refl (omega arith) refl refl refl (omega arith) tt h
  silent (waits packet s full) noted kept l = λ h e. go_to (Lacking Turning packet s full) (Sending Turning 0 nothing_due) noted.progress _ kept kept l refl (omega arith) refl refl refl (omega arith) tt h
  silent (drops_full packet s) noted kept l = λ h e.
      go_to (Lacking Turning packet s true) (Sending Turning 0 nothing_due) noted.progress true kept (settled kept RxFull) l refl (settles_so kept (settled kept RxFull) RxFull refl) (one_fewer kept.disposals RxFull kept.coming packet e.0.next.later e.0.next.is) refl refl (omega arith) tt h
  silent (drops_frameless packet s) noted kept l = λ h e.
      go_to (Lacking Turning packet s false) (Sending Turning 0 nothing_due) noted.progress true kept (dropped kept NoFrames) l refl (settles_so kept (dropped kept NoFrames) NoFrames refl) (one_fewer kept.disposals NoFrames kept.coming packet e.0.next.later e.0.next.is) refl refl (omega arith) tt h
  silent visited noted kept l = λ h e. go_to (Sending Turning seat.classes nothing_due) Idling noted.progress noted.progress kept kept l refl (omega arith) refl refl refl (omega arith) tt h
  silent idles noted kept l = λ h e. go_to Idling Starting noted.progress false kept kept l refl (omega arith) refl refl refl (omega arith) tt h
  silent arms noted kept l = λ h e. go_to Idling (Arming 0) noted.progress noted.progress kept kept l refl (omega arith) refl refl refl (omega arith) (e.3, e.2) h
  silent (seeks packet s) noted kept l = λ h e.
      go_to (Arming seat.classes) (Trying Again packet s nothing_due) noted.progress noted.progress kept kept l refl (omega arith) refl refl refl (omega (arith, few, ap eleven h.quiet.0)) h.quiet.1 h
  silent (sought packet s) noted kept l = λ h e. go_to (Trying Again packet s nothing_due) (Sending Again 0 nothing_due) noted.progress noted.progress kept kept l refl (omega arith) refl refl refl (omega arith) h.quiet h
  silent (misses packet s) noted kept l = λ h e. go_to (Lacking Again packet s false) (Sending Again 0 nothing_due) noted.progress noted.progress kept kept l refl (omega arith) refl refl refl (omega arith) h.quiet h
  silent looks noted kept l = λ h e.
      go_to (Arming seat.classes) (Sending Again 0 nothing_due) noted.progress noted.progress kept kept l refl (omega arith) refl refl refl (omega (arith, few, ap eleven h.quiet.0)) h.quiet.1 h
  silent finds noted kept l = λ h e.
      go_to (Sending Again seat.classes nothing_due) (Disarming (awaits noted) 0) noted.progress noted.progress kept kept l refl (omega arith) refl refl refl (omega (arith, ap eleven e)) tt h
  silent parks noted kept l = λ h e.
      go_to (Sending Again seat.classes nothing_due) (Parked (awaits noted)) noted.progress false kept (record kept { parked = Some (awaits noted) }) l refl (omega arith) refl refl refl (omega arith) tt h
  silent disarmed noted kept l = λ h e. go_to (Disarming false seat.classes) Starting noted.progress false kept kept l refl (omega arith) refl refl refl (omega (arith, few)) tt h

  law : IsLaw seat (Lawful c d) At Asked (λ kept l. Spent d packets l)
  law = record {
    calls = calls;
    entries = entries;
    silent = silent;
    ends = λ noted kept l n known h a q.
        let t : Told = record { call = Swap (Gone d) 1; reply = Old n } in
        record {
          spends = omega (arith, a.spends, total-push put l t, total-push steps_put l t, total-push steps_taken l t);
          swaps = omega (arith, h.swaps, h.count, flag_few kept.rx_done, flag_few kept.tx_done, total-push swapped l t, total-push took l t, total-push (kick_swaps d 0) l t, total-push closings_acked l t);
          kicks = λ e. omega (arith, a.kicks e, total-push (kick_swaps e 1) l t);
        };
  }

pub driver_drives : (wire : Wire) (c : Config) (d : ℕ) (input : List Judged) (l : List Told) → classes_of c ≤ 4 → IsGeometry c.geometry → OwnGoesOn c d [] l → IsDriverRun wire c d input l
    → Drives d (length input) l
driver_drives wire c d input l few geometry legal run =
    let is : Spent d (length input) l =
    of_run (seat_of wire c d) (Lawful c d) (At wire c d (length input) few geometry) (Asked wire c d (length input) few geometry) (λ kept l. Spent d (length input) l) (law wire c d (length input) few geometry) (start (classes_of c) input) first l
    (meet_lawful (turn (seat_of wire c d)) c d (turn (seat_of wire c d) (start (classes_of c) input)) [] l legal)
    (Spent d (length input)) begun (λ kept call m h. h) (λ kept m h. h) run in
    record { spends = is.spends; swaps = is.swaps; kicks = is.kicks }
  where
    none : (n : ℕ) → all_of (replicate n []) ≡ 0
    none zero = refl
    none (suc n) = omega (arith, none n)

    first : Begins (At wire c d (length input) few geometry) (start (classes_of c) input) []
    first = record { spends = omega (arith, none (classes_of c)); count = omega arith; swaps = omega arith; quiet = tt; kicks = λ e. refl }

    begun_by : (o : Option Bool) (kept : Kept) (m : List Told) → At wire c d (length input) few geometry (first_place o) fresh kept m → Spent d (length input) m
    begun_by None kept m h = spent wire c d (length input) few geometry Starting false kept m (omega arith) h
    begun_by (Some frames) kept m h = spent wire c d (length input) few geometry (Parked frames) false kept m (omega arith) h

    begun : (kept : Kept) (m : List Told) → Begins (At wire c d (length input) few geometry) kept m → Spent d (length input) m
    begun kept m h = begun_by kept.parked kept m h
