-- What an application puts into rings it took from rings that come before them, and it swaps no more marks than it puts items,
-- but for three at its end, and for those of the socket that it closes.
use Rattle.std.proofs.Common.{◌≡◌, ℕ, zero, suc, ◌+◌, ◌*◌, ◌/◌, ◌<◌, ◌≤◌, Bool, true, false, cond, eqb, Option, Some, None, List, [], ◌∷◌, ◌++◌, length, get_or, set, take, drop, map, replicate, refl, sym, ap, ◌∙◌, arith, length-append, length-take, length-drop, length-set}
use Rattle.std.proofs.lemmas.List.{length-map}
use Rattle.xsk_umem.specs.Frame.{Frame}
use Rattle.xsk_umem.specs.declared.batch.Item.{Item}
use Rattle.xsk_model.specs.Config.{Config, pool_of, batch_of, classes_of}
use Rattle.xsk_model.specs.Opening.{home_item}
use Rattle.xsk_model.specs.Entry.{Told, with_told}
use Rattle.xsk_model.specs.Legal.{IsLegal}
use Rattle.xsk_model.specs.History.{Fits, OwnGoesOn}
use Rattle.xsk_model.specs.declared.call.Ring.TheVariants.{Fill, Comp, Rx, Tx}
use Rattle.xsk_model.specs.declared.call.Mark.TheVariants.{Kick, TxDone, Cell, Closing}
use Rattle.xsk_model.specs.declared.call.Call.{Call}
use Rattle.xsk_model.specs.declared.call.Call.TheVariants.{Submit, Peek, Swap}
use Rattle.xsk_model.specs.declared.call.Reply.{Reply}
use Rattle.xsk_model.specs.declared.call.Reply.TheVariants.{Granted, Full, Submitted, Items, Empty, Released, Old}
use Rattle.xsk_turns.specs.Script.{Script, ask, begun}
use Rattle.xsk_turns.specs.Turns.{frame_in, frames_in}
use Rattle.xsk_turns.specs.AppTurns.{AppKept, lanes_of, group_of, pair_of, pending_at, back_at, received, drained, with_acked, given_on, passed_on, with_back, app_turn, app_start_by, IsAppRunBy}
use Rattle.xsk_turns.specs.Mangling.{change_at, taken_by, frames_taken, back_by}
use Rattle.xsk_turns.specs.declared.manner.Manner.{Manner}
use Rattle.xsk_turns.specs.declared.manner.Change.{Change}
use Rattle.xsk_turns.specs.declared.manner.Change.TheVariants.{NoBytes, WholeChunk, UnknownOption, Outside, GoesOn}
use Rattle.xsk_turns.proofs.Mangling.{length-given, back_sides}
use Rattle.xsk_turns.specs.AppOwned.{IsApp}
use Rattle.xsk_turns.proofs.AppGroups.{group_front}
use Rattle.xsk_turns.proofs.Walks.{Premise, MeetAlong}
use Rattle.xsk_turns.proofs.AppWalk.{shut_port, shut_cells, Stage, Lanes, Ending, Looking, Waking, Looked, Kicking, TxTold, Lowering, Shutting, Family, Said, rx_empty, rx_items, rx_released, tx_granted, tx_full, tx_submitted, comp_empty, comp_items, comp_released, fill_granted, fill_full, fill_submitted, looked_rx_done, told_tx_done, looked_gone, looked_need, kicked, lowered, told_closing, drain_empty, drain_items, drain_released, looked_acked, no_lanes, has_items, lanes_done, has_frames, all_given, sides_done, looks, rests, skips, begins, without_need, needs_none, needs_kick, told_quietly, told_both, closes, keeps_cell, closed_quietly, closed_kicks, AtCalls, AtEntries, AtSilent, IsLaw, of_run}
use Rattle.xsk_turns.proofs.Owned.{frames_few}
use Rattle.xsk_turns.specs.Totals.{total}
use Rattle.xsk_bounds.specs.Totals.{put, steps_put, steps_taken, swapped, cells_swapped, closings_told}
use Rattle.xsk_bounds.proofs.Totals.{total-push}
use Rattle.xsk_bounds.proofs.Sums.{Applies}

-- ---- legal calls with fitting replies

abbrev pub Lawful : {K : Type 0} → Config → ℕ → Premise K
Lawful c who kept past call reply = IsLegal c past who call × Fits c past call reply

pub meet_lawful : {K : Type 0} (turn : K → Script K) (c : Config) (who : ℕ) (s : Script K) (past l : List Told) → OwnGoesOn c who past l → MeetAlong turn (Lawful c who) s past l
meet_lawful turn c who (ask kept call rest) past [] h = tt
meet_lawful turn c who (ask kept call rest) past (t ∷ l) h = ((h.0, h.1), meet_lawful turn c who (begun turn (rest t.reply)) (past ++ t ∷ []) l h.2)
meet_lawful turn c who script past l h = tt

-- ---- lists of lists

pub total_put : {X : Type 0} (xss : List (List X)) (i : ℕ) (xs : List X)
    → total (λ (ys : List X). length ys) (set xss i xs) + length (get_or xss i []) ≤ total (λ (ys : List X). length ys) xss + length xs
total_put [] i xs = omega arith
total_put (ys ∷ xss) zero xs = omega arith
total_put (ys ∷ xss) (suc i) xs = omega (arith, total_put xss i xs)

total_set : {X : Type 0} (xss : List (List X)) (i : ℕ) (xs : List X) → i < length xss
    → total (λ (ys : List X). length ys) (set xss i xs) + length (get_or xss i []) ≡ total (λ (ys : List X). length ys) xss + length xs
total_set [] i xs lt = absurd (omega (arith, lt))
total_set (ys ∷ xss) zero xs lt = omega arith
total_set (ys ∷ xss) (suc i) xs lt = omega (arith, total_set xss i xs (omega (arith, lt)))

-- frames that are taken from items are no more than the items
few_by : (change : Option Change) (item : Item) → length (taken_by change item) ≤ 1
few_by None item = omega arith
few_by (Some NoBytes) item = omega arith
few_by (Some WholeChunk) item = omega arith
few_by (Some UnknownOption) item = omega arith
few_by (Some Outside) item = one item.frame
  where
    one : (frame : Option Frame) → length (frame_in frame) ≤ 1
    one (Some frame) = omega arith
    one None = omega arith
few_by (Some GoesOn) item = omega arith

few_taken : (every n : ℕ) (items : List Item) → length (frames_taken every n items) ≤ length items
few_taken every n [] = omega arith
few_taken every n (item ∷ items) =
    omega (arith, few_by (change_at every n) item, few_taken every (n + 1) items, length-append (taken_by (change_at every n) item) (frames_taken every (n + 1) items))

back_put : (mangle : Option ℕ) (n : ℕ) (items : List Item) (side : ℕ) (back : List (List Frame))
    → total (λ (frames : List Frame). length frames) (back_by mangle n items side back) ≤ total (λ (frames : List Frame). length frames) back + length items
back_put None n items side back = omega arith
back_put (Some every) n items side back =
    let all = get_or back side [] ++ frames_taken every n items in
    omega (arith, total_put back side (take 4096 all), length-take 4096 all, length-append (get_or back side []) (frames_taken every n items), few_taken every n items)

-- ---- what is kept

abbrev pending : AppKept → ℕ
pending kept = total (λ (items : List Item). length items) kept.pending

abbrev back : AppKept → ℕ
back kept = total (λ (frames : List Frame). length frames) kept.back

abbrev done : Bool → ℕ
done b = cond b 3 0

-- the Swaps that are still to come at a place
abbrev owed : Stage → ℕ
owed (Waking place need pair) = 1 + owed place
owed (Looked place need pair n) = 1 + owed place
owed (Kicking place pair) = 1 + owed place
owed TxTold = 2
owed (Shutting shut) = 1
owed place = 0

pub record Pays (place : Stage) (kept : AppKept) (l : List Told) : Type 0 where
  pub spends : total put l + total steps_put l + 4 * pending kept + back kept ≤ total steps_taken l
  pub swaps : total swapped l + owed place ≤ total put l + done kept.tx_done + total cells_swapped l + 2 * total closings_told l
  pub sides : length kept.back ≡ 2

applies : (place : Stage) (kept : AppKept) (l : List Told) → Pays place kept l → Applies l
applies place kept l h = record { spends = omega (arith, h.spends); swaps = omega (arith, h.swaps, few kept.tx_done) }
  where
    few : (b : Bool) → done b ≤ 3
    few true = omega arith
    few false = omega arith

-- ---- the law

module _ (c : Config) (a who : ℕ) where
  abbrev At : Family
  At place noted kept l = Pays place kept l

  abbrev Asked : Said
  Asked kept call l = Applies l

  -- a call that puts nothing into a ring, takes nothing and swaps no mark
  still : (place next : Stage) (kept now : AppKept) (l : List Told) (call : Call) (reply : Reply) → owed next ≡ owed place → pending now ≡ pending kept → back now ≡ back kept
      → length now.back ≡ length kept.back → now.tx_done ≡ kept.tx_done
      → (let t : Told = record { call = call; reply = reply } in (put t ≡ 0) × (steps_put t ≡ 0) × (swapped t ≡ 0)) → Pays place kept l → Pays next now (with_told l call reply)
  still place next kept now l call reply same e f sides g none h =
      let t : Told = record { call = call; reply = reply } in
      record {
        spends = omega (arith, h.spends, e, f, none.0, none.1, total-push put l t, total-push steps_put l t, total-push steps_taken l t);
        swaps = omega (arith, h.swaps, same, ap done g, none.0, none.2, total-push put l t, total-push swapped l t, total-push cells_swapped l t, total-push closings_told l t);
        sides = sides ∙ h.sides;
      }

  calls : AtCalls c a At Asked
  calls p noted kept l known h = applies _ _ l h

  rx_taken : (lane : ℕ) (r : ℕ) (n : ℕ) (kept : AppKept) (l : List Told) (items : List Item) (place next : Stage) → owed next ≡ owed place
      → Pays place kept l → Pays next (received c a lane kept items) (with_told l (Peek (Rx r) n) (Items items))
  rx_taken lane r n kept l items place next same h =
      let t : Told = record { call = Peek (Rx r) n; reply = Items items } in
      record {
        spends = omega (arith, h.spends, total_put kept.pending lane items, total-push put l t, total-push steps_put l t, total-push steps_taken l t);
        swaps = omega (arith, h.swaps, same, total-push put l t, total-push swapped l t, total-push cells_swapped l t, total-push closings_told l t);
        sides = h.sides;
      }

  comp_taken : (side : ℕ) (r : ℕ) (n : ℕ) (kept : AppKept) (l : List Told) (items : List Item) (place next : Stage) → owed next ≡ owed place
      → Pays place kept l → Pays next (with_back kept side (frames_in items)) (with_told l (Peek (Comp r) n) (Items items))
  comp_taken side r n kept l items place next same h =
      let t : Told = record { call = Peek (Comp r) n; reply = Items items } in
      record {
        spends = omega (arith, h.spends, frames_few items, total_put kept.back side (frames_in items), total-push put l t, total-push steps_put l t, total-push steps_taken l t);
        swaps = omega (arith, h.swaps, same, total-push put l t, total-push swapped l t, total-push cells_swapped l t, total-push closings_told l t);
        sides = length-set kept.back side (frames_in items) ∙ h.sides;
      }

  -- what a closed lane gives goes back
  drain_taken : (lane : ℕ) (r : ℕ) (n : ℕ) (kept : AppKept) (l : List Told) (items : List Item) (place next : Stage) → owed next ≡ owed place
      → Pays place kept l → Pays next (drained c lane kept items) (with_told l (Peek (Rx r) n) (Items items))
  drain_taken lane r n kept l items place next same h =
      let t : Told = record { call = Peek (Rx r) n; reply = Items items } in
      let side = lane / classes_of c in
      let all = back_at kept side ++ frames_in items in
      record {
        spends = omega (
          arith,
          h.spends,
          frames_few items,
          total_put kept.back side (take 4096 all),
          length-take 4096 all,
          length-append (back_at kept side) (frames_in items),
          total-push put l t,
          total-push steps_put l t,
          total-push steps_taken l t,
        );
        swaps = omega (arith, h.swaps, same, total-push put l t, total-push swapped l t, total-push cells_swapped l t, total-push closings_told l t);
        sides = length-set kept.back side (take 4096 all) ∙ h.sides;
      }

  -- a Swap that lowers a cell or closes a socket
  closes_more : (place next : Stage) (kept : AppKept) (begun : Bool) (l : List Told) (call : Call) (n : ℕ)
      → (let t : Told = record { call = call; reply = Old n } in (put t ≡ 0) × (steps_put t ≡ 0)) → owed place ≡ 0 → (let t : Told = record { call = call; reply = Old n } in swapped t + owed next ≤ cells_swapped t + 2 * closings_told t)
      → Pays place kept l → Pays next (record kept { begun = begun }) (with_told l call (Old n))
  closes_more place next kept begun l call n none here more h =
      let t : Told = record { call = call; reply = Old n } in
      record {
        spends = omega (arith, h.spends, none.0, none.1, total-push put l t, total-push steps_put l t, total-push steps_taken l t);
        swaps = omega (arith, h.swaps, here, more, none.0, total-push put l t, total-push swapped l t, total-push cells_swapped l t, total-push closings_told l t);
        sides = h.sides;
      }

  tx_put : (lane : ℕ) (r : ℕ) (kept : AppKept) (l : List Told) (place next : Stage) → owed next ≤ owed place + length (pending_at kept lane)
      → Pays place kept l → Pays next (passed_on c lane kept) (with_told l (Submit (Tx r) (given_on c lane kept)) Submitted)
  tx_put lane r kept l place next some h =
      let t : Told = record { call = Submit (Tx r) (given_on c lane kept); reply = Submitted } in
      let count = length-given c.geometry kept.manner.mangle kept.number (pending_at kept lane) in
      record {
        spends = omega (arith, h.spends, total_put kept.pending lane [], back_put kept.manner.mangle kept.number (pending_at kept lane) (lane / classes_of c) kept.back, count, total-push put l t, total-push steps_put l t, total-push steps_taken l t);
        swaps = omega (arith, h.swaps, some, count, total-push put l t, total-push swapped l t, total-push cells_swapped l t, total-push closings_told l t);
        sides = back_sides kept.manner.mangle kept.number (pending_at kept lane) (lane / classes_of c) kept.back ∙ h.sides;
      }

  fill_put : (side : ℕ) (r n : ℕ) (kept : AppKept) (l : List Told) (items : List Item) (frames : List Frame) (place next : Stage) → side < 2 → length items ≤ length frames → n ≡ length items
      → owed next ≤ owed place + length items
      → Pays place (with_back kept side frames) l → Pays next (with_back kept side (drop n frames)) (with_told l (Submit (Fill r) items) Submitted)
  fill_put side r n kept l items frames place next below few is some h =
      let t : Told = record { call = Submit (Fill r) items; reply = Submitted } in
      let sides : length kept.back ≡ 2 = sym (length-set kept.back side frames) ∙ h.sides in
      let within : side < length kept.back = omega (arith, below, sides) in
      let fewer : back (with_back kept side (drop n frames)) + length items ≡ back (with_back kept side frames) =
      omega (arith, few, is, length-drop n frames, total_set kept.back side (drop n frames) within, total_set kept.back side frames within) in
      record {
        spends = omega (arith, h.spends, fewer, total-push put l t, total-push steps_put l t, total-push steps_taken l t);
        swaps = omega (arith, h.swaps, some, total-push put l t, total-push swapped l t, total-push cells_swapped l t, total-push closings_told l t);
        sides = length-set kept.back side (drop n frames) ∙ sides;
      }

  flag_same : {A : Type 0} (f : AppKept → A) (b : Bool) (now kept : AppKept) → f now ≡ f kept → f (cond b now kept) ≡ f kept
  flag_same f true now kept e = e
  flag_same f false now kept e = refl

  entries : AtEntries c a (Lawful c who) At Asked
  entries (rx_empty lane) noted kept l known h asked q = still (Lanes lane) (Lanes (lane + 1)) kept kept l _ Empty refl refl refl refl refl (refl, refl, refl) h
  entries (rx_items lane items) noted kept l known h asked q = rx_taken lane _ _ kept l items _ _ refl h
  entries (rx_released lane n) noted kept l known h asked q = still _ _ kept kept l _ Released refl refl refl refl refl (refl, refl, refl) h
  entries (tx_granted lane) noted kept l known h asked q = still _ _ kept kept l _ Granted refl refl refl refl refl (refl, refl, refl) h
  entries (tx_full lane free) noted kept l known h asked q = still _ _ kept kept l _ (Full free) refl refl refl refl refl (refl, refl, refl) h
  entries (tx_submitted lane) noted kept l known h asked q = tx_put lane _ kept l _ _ (let some = q.0.counted.0 in omega (arith, some, length-given c.geometry kept.manner.mangle kept.number (pending_at kept lane))) h
  entries (comp_empty side) noted kept l known h asked q = still _ _ kept kept l _ Empty refl refl refl refl refl (refl, refl, refl) h
  entries (comp_items side items) noted kept l known h asked q = comp_taken side _ _ kept l items _ _ refl h
  entries (comp_released side n) noted kept l known h asked q = still _ _ kept kept l _ Released refl refl refl refl refl (refl, refl, refl) h
  entries (fill_granted side frame frames) noted kept l known h asked q = still _ _ (with_back kept side (frame ∷ frames)) (with_back kept side (frame ∷ frames)) l _ Granted refl refl refl refl refl (refl, refl, refl) h
  entries (fill_full side frame frames free) noted kept l known h asked q = still _ _ (with_back kept side (frame ∷ frames)) (with_back kept side (frame ∷ frames)) l _ (Full free) refl refl refl refl refl (refl, refl, refl) h
  entries (fill_submitted side frame frames) noted kept l known h asked q =
      let group = group_of (pool_of c) (batch_of c) frame frames in
      let few : length group ≤ length (frame ∷ frames) =
      omega (arith, ap length (group_front (pool_of c) (batch_of c) frame frames), length-take (length group) (frame ∷ frames)) in
      let same : length group ≡ length (map (home_item c.geometry) group) = sym (length-map group (home_item c.geometry)) in
      let some = q.0.counted.0 in
      fill_put side _ (length group) kept l (map (home_item c.geometry) group) (frame ∷ frames) _ _ known (omega (arith, few, same)) same (omega (arith, some)) h
  entries (looked_rx_done side n) noted kept l known h asked q =
      let now : AppKept = record kept { seen = set kept.seen side true } in
      still _ _ kept (cond (eqb n 1) now kept) l _ (Old n) refl (flag_same pending (eqb n 1) now kept refl) (flag_same back (eqb n 1) now kept refl)
      (flag_same (λ (k : AppKept). length k.back) (eqb n 1) now kept refl) (flag_same (λ (k : AppKept). k.tx_done) (eqb n 1) now kept refl) (refl, refl, refl) h
  entries (told_tx_done n) noted kept l known h asked q =
      let t : Told = record { call = Swap (TxDone a) 1; reply = Old n } in
      record {
        spends = omega (arith, h.spends, total-push put l t, total-push steps_put l t, total-push steps_taken l t);
        swaps = omega (arith, h.swaps, ap done known.0, total-push put l t, total-push swapped l t, total-push cells_swapped l t, total-push closings_told l t);
        sides = h.sides;
      }
  entries (looked_gone side n) noted kept l known h asked q =
      let now : AppKept = record kept { gone = set kept.gone side true } in
      still _ _ kept (cond (eqb n 1) now kept) l _ (Old n) refl (flag_same pending (eqb n 1) now kept refl) (flag_same back (eqb n 1) now kept refl)
      (flag_same (λ (k : AppKept). length k.back) (eqb n 1) now kept refl) (flag_same (λ (k : AppKept). k.tx_done) (eqb n 1) now kept refl) (refl, refl, refl) h
  entries (looked_need place need pair n) noted kept l known h asked q = still _ _ kept kept l _ (Old n) refl refl refl refl refl (refl, refl, refl) h
  entries (kicked place pair n) noted kept l known h asked q =
      let t : Told = record { call = Swap (Kick pair) 1; reply = Old n } in
      record {
        spends = omega (arith, h.spends, total-push put l t, total-push steps_put l t, total-push steps_taken l t);
        swaps = omega (arith, h.swaps, total-push put l t, total-push swapped l t, total-push cells_swapped l t, total-push closings_told l t);
        sides = h.sides;
      }
  entries (lowered shut index n) noted kept l known h asked q = closes_more (Lowering shut index) (Lowering shut (index + 1)) kept kept.begun l (Swap (Cell (shut_port c shut) index) 0) n (refl, refl) refl (omega arith) h
  entries (told_closing shut n) noted kept l known h asked q = closes_more (Lowering shut (length (shut_cells c shut))) (Shutting shut) kept true l (Swap (Closing shut.socket) 1) n (refl, refl) refl (omega arith) h
  entries (drain_empty lane) noted kept l known h asked q = still _ _ kept kept l _ Empty refl refl refl refl refl (refl, refl, refl) h
  entries (drain_items lane items) noted kept l known h asked q = drain_taken lane _ _ kept l items _ _ refl h
  entries (drain_released lane n) noted kept l known h asked q = still _ _ kept kept l _ Released refl refl refl refl refl (refl, refl, refl) h
  entries (looked_acked shut n) noted kept l known h asked q = still Ending Ending kept (with_acked kept n) l _ (Old n) refl refl refl refl refl (refl, refl, refl) h

  go_to : (place next : Stage) (kept : AppKept) (l : List Told) → owed next ≤ owed place → Pays place kept l → Pays next kept l
  go_to place next kept l fewer h = record { spends = h.spends; swaps = omega (arith, h.swaps, fewer); sides = h.sides }

  silent : AtSilent c a At
  silent (without_need place need pair) noted kept l = λ h off. go_to (Waking place need pair) place kept l (omega arith) h
  silent (needs_none place need pair n) noted kept l = λ h none. go_to (Looked place need pair n) place kept l (omega arith) h
  silent (needs_kick place need pair n) noted kept l = λ h one. go_to (Looked place need pair n) (Kicking place pair) kept l (omega arith) h
  silent told_quietly noted kept l = λ h off. go_to TxTold (Looking 2) kept l (omega arith) h
  silent told_both noted kept l = λ h on. go_to TxTold _ kept l (omega arith) h
  silent no_lanes noted kept l = λ h e. go_to _ _ kept l (omega arith) h
  silent (has_items lane item items) noted kept l = λ h e. go_to _ _ kept l (omega arith) h
  silent lanes_done noted kept l = λ h e. go_to _ _ kept l (omega arith) h
  silent (has_frames side frame frames) noted kept l = λ h e. go_to _ _ kept l (omega arith) h
  silent (all_given side) noted kept l = λ h e. go_to _ _ (with_back kept side []) l (omega arith) h
  silent sides_done noted kept l = λ h e. go_to _ _ kept l (omega arith) h
  silent looks noted kept l = λ h e. go_to _ _ kept l (omega arith) h
  silent rests noted kept l = λ h e. go_to _ _ kept l (omega arith) h
  silent (skips side) noted kept l = λ h e. go_to _ _ kept l (omega arith) h
  silent begins noted kept l = λ h e. go_to _ _ kept l (omega arith) h
  silent (closes shut) noted kept l = λ h e. go_to (Lanes 0) (Lowering shut 0) kept l (omega arith) h
  silent (keeps_cell shut index) noted kept l = λ h e. go_to (Lowering shut index) (Lowering shut (index + 1)) kept l (omega arith) h
  silent (closed_quietly shut) noted kept l = λ h e. go_to (Shutting shut) (Lanes 0) kept l (omega arith) h
  silent (closed_kicks shut) noted kept l = λ h e. go_to (Shutting shut) (Kicking (Lanes 0) (pair_of c a shut.side)) kept l (omega arith) h

  law : IsLaw c a (Lawful c who) At Asked (λ kept l. Applies l)
  law = record { calls = calls; entries = entries; silent = silent; ends = λ noted kept l done h. applies Ending kept l h }

pub app_applies : (m : Manner) (c : Config) (a who : ℕ) (l : List Told) → IsApp c a → OwnGoesOn c who [] l → IsAppRunBy m c a l → Applies l
app_applies m c a who l one legal run =
    of_run c a one (Lawful c who) (At c a who) (Asked c a who) (λ kept l. Applies l) (law c a who) (app_start_by m c) first l (meet_lawful (app_turn c a) c who (app_turn c a (app_start_by m c)) [] l legal)
    Applies (λ kept m h. applies (Lanes 0) kept m h) (λ kept call m h. h) (λ kept m h. h) run
  where
    first : Pays (Lanes 0) (app_start_by m c) []
    first = record { spends = omega (arith, none (lanes_of c)); swaps = omega arith; sides = refl }
      where
        none : (n : ℕ) → total (λ (items : List Item). length items) (replicate n []) ≡ 0
        none zero = refl
        none (suc n) = omega (arith, none n)
