-- On each lane the items submitted are the first of those peeked, and at the end all of them; and there its RX ring was
-- found empty, after both drivers had told that they have no further packet.
use Rattle.std.proofs.Common.{◌≡◌, ℕ, ◌+◌, ◌<◌, ◌⊎◌, inl, inr, Bool, true, false, cond, ◌&&◌, ◌||◌, eqb, Option, None, List, [], ◌∷◌, ◌++◌, length, map, drop, set, refl, sym, ap, ◌∙◌, subst, ⊎_elim, arith, append-nil, append_assoc, eq-eqb, ne_eqb, get_or, get_or-set_same, get_or-set_other, length-set}
use Rattle.std.proofs.Math.Bool.{and-false}
use Rattle.std.proofs.lemmas.Bool.{cases_eq, and_parts, eqb-true}
use Rattle.std.proofs.lemmas.List.{length-replicate}
use Rattle.xsk_turns.proofs.Object.{Geometry, Frame, Config, pool_of, batch_of, submitted, taken, is_on, submitted_of, peeked_of, submitted_step, peeked_step, home_item, Telling, telling_after, telling_of, Draining, are_none, unseen_after, draining_after}
use Rattle.xsk_turns.proofs.Calls.{Item, Told, with_told, Ring, Fill, Comp, Rx, Tx, Mark, RxDone, Gone, TxDone, Call, Submit, Peek, Swap, Look, Reply, Granted, Full, Submitted, Items, Empty, Released, Old}
use Rattle.xsk_model.proofs.Folds.{part_of-push_same, part_of-push_other}
use Rattle.xsk_model.specs.declared.call.Mark.TheVariants.{Kick, Closing, Acked}
use Rattle.xsk_turns.specs.Script.{Script, Asks}
use Rattle.xsk_turns.specs.Turns.{frames_in}
use Rattle.xsk_turns.proofs.AppShut.{none_drains}
use Rattle.xsk_turns.proofs.AppClosing.{HasSet, set_at_end}
use Rattle.xsk_model.specs.Marks.{is_mark}
use Rattle.xsk_turns.specs.AppLaw.{StaysOpen, AreAltered, LanesInOrder, LanesPassedOn, LanesAltered, NothingSentLate, DrainsRx}
use Rattle.xsk_turns.specs.declared.manner.Manner.{Manner}
use Rattle.xsk_turns.specs.Mangling.{plain}
use Rattle.xsk_turns.proofs.Mangling.{given_altered, altered_append, altered_same}
use Rattle.xsk_turns.specs.AppOwned.{IsApp}
use Rattle.xsk_turns.specs.AppTurns.{AppKept, AppNoted, pair_of, rx_of, tx_of, lanes_of, home_of, both, is_set, pending_at, with_pending, given_on, passed_on, with_back, with_seen, with_gone, received, drained, drains, is_closed, may_tell, with_begun, noted_first, app_turn, app_start, app_start_by, IsAppRunBy, IsWholeAppRunBy}
use Rattle.xsk_turns.proofs.AppMarks.{side_marks, draining, unseen_sides, none_unseen, other_mark, other_acked, other_need, side_seen, side_unseen}
use Rattle.xsk_turns.proofs.AppOwned.{none_pending}
use Rattle.xsk_turns.proofs.AppPlaces.{rx_lane, tx_lane}
use Rattle.xsk_turns.proofs.Draining.{draining_told, same_unseen, when_found, found_here}
use Rattle.xsk_turns.proofs.Owned.{peeked_none, none_submitted, other_submitted}
use Rattle.xsk_turns.proofs.ReceivingLaws.{telling_told, and_off, now_told}
use Rattle.xsk_turns.proofs.Walks.{Anything, meet_anything}
use Rattle.xsk_turns.proofs.AppWalk.{Stage, Lanes, Lane, Sides, Side, Ending, Looking, Waking, Looked, Kicking, TxTold, Draining as Drained, Lowering, Shutting, Family, lowered, told_closing, drain_empty, drain_items, drain_released, looked_acked, is_need, busy_lane, busy_side, ReleaseRx, ReserveTx, SubmitTx, LookNeed, KickDriver, group, asked, call_at, kept_before, rx_empty, rx_items, rx_released, tx_granted, tx_full, tx_submitted, comp_items, fill_submitted, looked_rx_done, told_tx_done, looked_gone, looked_need, kicked, point_of, reply_of, no_lanes, has_items, has_frames, looks, rests, begins, Said, AtCalls, AtEntries, AtSilent, IsLaw, at_call, at_end, of_run}

-- ---- what an entry leaves of a ring's items

other_peeked : (r : Ring) (l : List Told) (call : Call) (reply : Reply) → is_on r call ≡ false → peeked_of r (with_told l call reply) ≡ peeked_of r l
other_peeked r l call reply e = part_of-push_other peeked_step r [] l (record { call = call; reply = reply }) e

now_submitted : (t : ℕ) (l : List Told) (items : List Item) → submitted_of (Tx t) (with_told l (Submit (Tx t) items) Submitted) ≡ submitted_of (Tx t) l ++ items
now_submitted t l items = part_of-push_same submitted_step (Tx t) [] l (record { call = Submit (Tx t) items; reply = Submitted }) (eq-eqb t t refl)

now_peeked : (s n : ℕ) (l : List Told) (items : List Item) → peeked_of (Rx s) (with_told l (Peek (Rx s) n) (Items items)) ≡ peeked_of (Rx s) l ++ items
now_peeked s n l items = part_of-push_same peeked_step (Rx s) [] l (record { call = Peek (Rx s) n; reply = Items items }) (eq-eqb s s refl)

-- ---- what holds all along

abbrev pub IsTelling : ℕ → Bool → List Told → Type 0
IsTelling a told l = (t : ℕ) → telling_of (TxDone a) (Tx t) l ≡ (let s : Telling = record { told = told; late = false } in s)

-- what was submitted on a lane is what was peeked there, but for what is pending, each item as it was or changed
pub record Follows (g : Geometry) (mangle : Option ℕ) (out pending all : List Item) : Type 0 where
  pub front : List Item
  pub whole : front ++ pending ≡ all
  pub altered : AreAltered g mangle front out

follows : (g : Geometry) (mangle : Option ℕ) (out out' pending all all' : List Item) → out' ≡ out → all' ≡ all → Follows g mangle out pending all → Follows g mangle out' pending all'
follows g mangle out out' pending all all' e f h = record { front = h.front; whole = h.whole ∙ sym f; altered = subst (λ xs. AreAltered g mangle h.front xs) (sym e) h.altered }

-- so it is on a lane, where that is not given back; where it is, what was submitted is the first of what was peeked
abbrev pub OnLane : Geometry → Option ℕ → Bool → List Item → List Item → List Item → Type 0
OnLane g mangle closed pending out all = (rest : List Item) × Follows g mangle out rest all × (closed ≡ false → rest ≡ pending)

pub on_lane : (g : Geometry) (mangle : Option ℕ) (closed : Bool) (out out' pending all all' : List Item) → out' ≡ out → all' ≡ all → OnLane g mangle closed pending out all → OnLane g mangle closed pending out' all'
on_lane g mangle closed out out' pending all all' e f h = (h.0, follows g mangle out out' h.0 all all' e f h.1, h.2)

-- where it isn't
pub open_lane : (g : Geometry) (mangle : Option ℕ) (closed : Bool) (out pending all : List Item) → closed ≡ false → OnLane g mangle closed pending out all → Follows g mangle out pending all
open_lane g mangle closed out pending all e h = subst (λ xs. Follows g mangle out xs all) (h.2 e) h.1

-- The lanes before one were found empty in this turn,
-- as long as each was, and their RX rings too where both drivers had told; all were, before it told that it sends nothing more.
pub record InOrder (manner : Manner) (c : Config) (a : ℕ) (noted : AppNoted) (upto : ℕ) (kept : AppKept) (l : List Told) : Type 0 where
  pub keeps : kept.manner ≡ manner
  pub lanes : length kept.pending ≡ lanes_of c
  pub order : (lane : ℕ) → lane < lanes_of c → OnLane c.geometry manner.mangle (drains c a lane kept) (pending_at kept lane) (submitted_of (Tx (tx_of c a lane)) l) (peeked_of (Rx (rx_of c a lane)) l)
  pub telling : IsTelling a kept.tx_done l
  pub sides : length kept.seen ≡ 2
  pub known : noted.seen ≡ true → both kept.seen ≡ true
  pub unseen : (lane : ℕ) → (draining c a lane l).unseen ≡ unseen_sides c a kept.seen
  pub found : noted.lanes_empty ≡ true → kept.tx_done ≡ false → (j : ℕ) → j < upto → (drains c a j kept ≡ false → pending_at kept j ≡ []) × (noted.seen ≡ true → (draining c a j l).empty ≡ true)
  pub over : kept.tx_done ≡ true → (j : ℕ) → j < lanes_of c → (drains c a j kept ≡ false → pending_at kept j ≡ []) × ((draining c a j l).empty ≡ true)

-- between two turns nothing is noted
abbrev pub none_noted : AppNoted
none_noted = record { seen = false; gone = false; lanes_empty = false; sides_empty = false; acked = false }

abbrev pub Begins : Manner → Config → ℕ → AppKept → List Told → Type 0
Begins manner c a kept l = InOrder manner c a none_noted 0 kept l

-- what holds at each call, and at the end
pub record Lawful (manner : Manner) (c : Config) (a : ℕ) (l : List Told) : Type 0 where
  pub fronts : (lane : ℕ) → lane < lanes_of c → (pending : List Item) × Follows c.geometry manner.mangle (submitted_of (Tx (tx_of c a lane)) l) pending (peeked_of (Rx (rx_of c a lane)) l)
  pub late : (t : ℕ) → (telling_of (TxDone a) (Tx t) l).late ≡ false

pub record AtEnd (manner : Manner) (c : Config) (a : ℕ) (kept : AppKept) (l : List Told) : Type 0 where
  pub lawful : Lawful manner c a l
  pub all : (lane : ℕ) → lane < lanes_of c → drains c a lane kept ≡ false → AreAltered c.geometry manner.mangle (peeked_of (Rx (rx_of c a lane)) l) (submitted_of (Tx (tx_of c a lane)) l)
  pub drained : (lane : ℕ) → lane < lanes_of c → (draining c a lane l).empty ≡ true

-- at each call also what was told, and, where it submits nothing, that what is pending is the rest of what was peeked
abbrev pub SubmitsNone : Call → Type 0
SubmitsNone (Submit r items) = ⊥
SubmitsNone call = Unit {0}

pub record AtCallBy (manner : Manner) (c : Config) (a : ℕ) (pending : List (List Item)) (tx_done : Bool) (call : Call) (l : List Told) : Type 0 where
  pub lawful : Lawful manner c a l
  pub told : (t : ℕ) → (telling_of (TxDone a) (Tx t) l).told ≡ tx_done
  pub drained : tx_done ≡ true → (lane : ℕ) → lane < lanes_of c → (draining c a lane l).empty ≡ true
  pub order : c.closing ≡ None → SubmitsNone call → (lane : ℕ) → lane < lanes_of c
      → Follows c.geometry manner.mangle (submitted_of (Tx (tx_of c a lane)) l) (get_or pending lane []) (peeked_of (Rx (rx_of c a lane)) l)

-- without changes
pub record AtCall (c : Config) (a : ℕ) (pending : List (List Item)) (tx_done : Bool) (call : Call) (l : List Told) : Type 0 where
  pub told : (t : ℕ) → (telling_of (TxDone a) (Tx t) l).told ≡ tx_done
  pub drained : tx_done ≡ true → (lane : ℕ) → lane < lanes_of c → (draining c a lane l).empty ≡ true
  pub order : SubmitsNone call → (lane : ℕ) → lane < lanes_of c → submitted_of (Tx (tx_of c a lane)) l ++ get_or pending lane [] ≡ peeked_of (Rx (rx_of c a lane)) l

lawful : (manner : Manner) (c : Config) (a : ℕ) (noted : AppNoted) (upto : ℕ) (kept : AppKept) (l : List Told) → InOrder manner c a noted upto kept l → Lawful manner c a l
lawful manner c a noted upto kept l h = record { fronts = λ lane k. ((h.order lane k).0, (h.order lane k).1); late = λ t. ap (λ s. s.late) (h.telling t) }

at_call_of : (manner : Manner) (c : Config) (a : ℕ) (noted : AppNoted) (upto : ℕ) (kept : AppKept) (call : Call) (l : List Told) → InOrder manner c a noted upto kept l
    → AtCallBy manner c a kept.pending kept.tx_done call l
at_call_of manner c a noted upto kept call l h = record {
  lawful = lawful manner c a noted upto kept l h;
  told = λ t. ap (λ s. s.told) (h.telling t);
  drained = λ done lane k. (h.over done lane k).1;
  order = λ closes none lane k. open_lane c.geometry manner.mangle (drains c a lane kept) _ _ _ (none_drains c a lane kept closes) (h.order lane k);
}

at_last : (manner : Manner) (c : Config) (a : ℕ) (noted : AppNoted) (upto : ℕ) (kept : AppKept) (l : List Told) → kept.tx_done ≡ true → InOrder manner c a noted upto kept l → AtEnd manner c a kept l
at_last manner c a noted upto kept l done h = record {
  lawful = lawful manner c a noted upto kept l h;
  all = λ lane k off.
      let order = open_lane c.geometry manner.mangle (drains c a lane kept) _ _ _ off (h.order lane k) in
      let front : order.front ≡ peeked_of (Rx (rx_of c a lane)) l = sym (append-nil order.front) ∙ ap (λ xs. order.front ++ xs) (sym ((h.over done lane k).0 off)) ∙ order.whole in
      subst (λ xs. AreAltered c.geometry manner.mangle xs (submitted_of (Tx (tx_of c a lane)) l)) front order.altered;
  drained = λ lane k. (h.over done lane k).1;
}

pub either : (r t s : ℕ) → (eqb r s || eqb t s) ≡ true → (r ≡ s) ⊎ (t ≡ s)
either r t s e = by (eqb r s) (eqb t s) refl refl e
  where
    by : (x y : Bool) → eqb r s ≡ x → eqb t s ≡ y → (x || y) ≡ true → (r ≡ s) ⊎ (t ≡ s)
    by true y f g e = inl (eqb-true r s f)
    by false true f g e = inr (eqb-true t s g)
    by false false f g e = absurd (cc)

-- ---- entries that change nothing

now_told_off : (b : Bool) → (b || false) ≡ b
now_told_off true = refl
now_told_off false = refl

module _ (manner : Manner) (c : Config) (a : ℕ) (noted : AppNoted) (upto : ℕ) (kept : AppKept) (l : List Told) (h : InOrder manner c a noted upto kept l) where
  -- an entry that changes nothing of the lanes' items, of what was told, and of what was found
  unmoved : (call : Call) (reply : Reply) → ((t : ℕ) → submitted_of (Tx t) (with_told l call reply) ≡ submitted_of (Tx t) l) → ((s : ℕ) → peeked_of (Rx s) (with_told l call reply) ≡ peeked_of (Rx s) l)
      → IsTelling a kept.tx_done (with_told l call reply) → ((lane : ℕ) → draining_after (Rx (rx_of c a lane)) (draining c a lane l) call reply ≡ draining c a lane l)
      → InOrder manner c a noted upto kept (with_told l call reply)
  unmoved call reply e f g k =
      let same : (lane : ℕ) → draining c a lane (with_told l call reply) ≡ draining c a lane l =
      λ lane. draining_told (side_marks c a) (Rx (rx_of c a lane)) l call reply ∙ k lane in
      record {
        keeps = h.keeps;
        lanes = h.lanes;
        order = λ lane within. on_lane c.geometry manner.mangle (drains c a lane kept) _ _ _ _ _ (e (tx_of c a lane)) (f (rx_of c a lane)) (h.order lane within);
        telling = g;
        sides = h.sides;
        known = h.known;
        unseen = λ lane. ap (λ s. s.unseen) (same lane) ∙ h.unseen lane;
        found = λ n sends j within. ((h.found n sends j within).0, λ began. ap (λ s. s.empty) (same j) ∙ (h.found n sends j within).1 began);
        over = λ n j within. ((h.over n j within).0, ap (λ s. s.empty) (same j) ∙ (h.over n j within).1);
      }

  -- one that moves no item
  still : (call : Call) (reply : Reply) → submitted call ≡ [] → taken reply ≡ [] → ((t : ℕ) (s : Telling) → telling_after (TxDone a) (Tx t) s call ≡ s)
      → ((s : ℕ) (u : Draining) → draining_after (Rx s) u call reply ≡ u) → InOrder manner c a noted upto kept (with_told l call reply)
  still call reply e f g k =
      unmoved call reply (λ t. none_submitted (Tx t) l call reply e) (λ s. peeked_none (Rx s) l call reply f)
      (λ t. telling_told (TxDone a) (Tx t) l call reply ∙ g t (telling_of (TxDone a) (Tx t) l) ∙ h.telling t) (λ lane. k (rx_of c a lane) (draining c a lane l))

  -- a need-wakeup flag is looked at, and a driver is woken
  looked_flag : (need : Mark) (n : ℕ) → is_need need ≡ true → InOrder manner c a noted upto kept (with_told l (Look need) (Old n))
  looked_flag need n flag =
      let call = Look need in
      unmoved call (Old n) (λ t. none_submitted (Tx t) l call (Old n) refl) (λ s. peeked_none (Rx s) l call (Old n) refl)
      (λ t. telling_told (TxDone a) (Tx t) l call (Old n) ∙ h.telling t)
      (λ lane.
      let same : unseen_after (draining c a lane l).unseen need n ≡ (draining c a lane l).unseen =
      ap (λ ms. unseen_after ms need n) (h.unseen lane) ∙ other_need (pair_of c a 0) (pair_of c a 1) need n (is_set kept.seen 0) (is_set kept.seen 1) flag ∙ sym (h.unseen lane) in
      ap (λ ms. let s : Draining = record { unseen = ms; empty = (draining c a lane l).empty } in s) same)

  swapped : (m : Mark) (value n : ℕ) → is_mark (TxDone a) m ≡ false → InOrder manner c a noted upto kept (with_told l (Swap m value) (Old n))
  swapped m value n other =
      let call = Swap m value in
      unmoved call (Old n) (λ t. none_submitted (Tx t) l call (Old n) refl) (λ s. peeked_none (Rx s) l call (Old n) refl)
      (λ t.
      telling_told (TxDone a) (Tx t) l call (Old n) ∙ ap (λ s. telling_after (TxDone a) (Tx t) s call) (h.telling t)
      ∙ ap (λ b. let s : Telling = record { told = b; late = false } in s) (ap (λ b. kept.tx_done || (b && eqb value 1)) other ∙ now_told_off kept.tx_done)) (λ lane. refl)

  woken : (pair n : ℕ) → InOrder manner c a noted upto kept (with_told l (Swap (Kick pair) 1) (Old n))
  woken pair n = swapped (Kick pair) 1 n refl

  -- it looks whether the closing is acknowledged
  looked_ack : (s n : ℕ) → InOrder manner c a noted upto kept (with_told l (Look (Acked s)) (Old n))
  looked_ack s n =
      let call = Look (Acked s) in
      unmoved call (Old n) (λ t. none_submitted (Tx t) l call (Old n) refl) (λ s. peeked_none (Rx s) l call (Old n) refl)
      (λ t. telling_told (TxDone a) (Tx t) l call (Old n) ∙ h.telling t)
      (λ lane.
      let same : unseen_after (draining c a lane l).unseen (Acked s) n ≡ (draining c a lane l).unseen =
      ap (λ ms. unseen_after ms (Acked s) n) (h.unseen lane) ∙ other_acked (pair_of c a 0) (pair_of c a 1) s n (is_set kept.seen 0) (is_set kept.seen 1) ∙ sym (h.unseen lane) in
      ap (λ ms. let s : Draining = record { unseen = ms; empty = (draining c a lane l).empty } in s) same)

  acked_so : (acked : Bool) → InOrder manner c a noted upto (record kept { acked = acked }) l
  acked_so acked =
      record { keeps = h.keeps; lanes = h.lanes; order = h.order; telling = h.telling; sides = h.sides; known = h.known; unseen = h.unseen; found = h.found; over = h.over }

  -- the socket is closed from now on
  closed_now : InOrder manner c a noted upto (with_begun kept) l
  closed_now =
      let open_still = λ (j : ℕ) (off : drains c a j (with_begun kept) ≡ false). ap (λ b. kept.begun && b) off ∙ and-false kept.begun in
      record {
        keeps = h.keeps;
        lanes = h.lanes;
        order = λ j k. ((h.order j k).0, (h.order j k).1, λ off. (h.order j k).2 (open_still j off));
        telling = h.telling;
        sides = h.sides;
        known = h.known;
        unseen = h.unseen;
        found = λ e sends j k. (λ off. (h.found e sends j k).0 (open_still j off), (h.found e sends j k).1);
        over = λ e j k. (λ off. (h.over e j k).0 (open_still j off), (h.over e j k).1);
      }

  -- frames that go back
  gives : (home : ℕ) (items : List Item) → InOrder manner c a noted upto kept (with_told l (Submit (Fill home) items) Submitted)
  gives home items =
      let call = Submit (Fill home) items in
      unmoved call Submitted (λ t. other_submitted (Tx t) l call Submitted refl) (λ s. other_peeked (Rx s) l call Submitted refl)
      (λ t.
      telling_told (TxDone a) (Tx t) l call Submitted ∙ ap (λ s. telling_after (TxDone a) (Tx t) s call) (h.telling t)
      ∙ ap (λ b. let s : Telling = record { told = kept.tx_done; late = b } in s) (and-false kept.tx_done)) (λ lane. refl)

  -- frames that were sent
  completed : (d n : ℕ) (items : List Item) → InOrder manner c a noted upto kept (with_told l (Peek (Comp d) n) (Items items))
  completed d n items =
      let call = Peek (Comp d) n in
      unmoved call (Items items) (λ t. other_submitted (Tx t) l call (Items items) refl) (λ s. other_peeked (Rx s) l call (Items items) refl)
      (λ t. telling_told (TxDone a) (Tx t) l call (Items items) ∙ h.telling t) (λ lane. refl)

  -- what else is kept, and noted
  beside : (back : List (List Frame)) (gone : List Bool) → InOrder manner c a noted upto (record kept { back = back; gone = gone }) l
  beside back gone =
      record { keeps = h.keeps; lanes = h.lanes; order = h.order; telling = h.telling; sides = h.sides; known = h.known; unseen = h.unseen; found = h.found; over = h.over }

  pub renoted : (more : AppNoted) (k : ℕ) → (more.seen ≡ true → both kept.seen ≡ true)
      → (more.lanes_empty ≡ true → kept.tx_done ≡ false → (j : ℕ) → j < k → (drains c a j kept ≡ false → pending_at kept j ≡ []) × (more.seen ≡ true → (draining c a j l).empty ≡ true)) → InOrder manner c a more k kept l
  renoted more k known found =
      record { keeps = h.keeps; lanes = h.lanes; order = h.order; telling = h.telling; sides = h.sides; known = known; unseen = h.unseen; found = found; over = h.over }

  pub over_turn : Begins manner c a kept l
  over_turn = renoted none_noted 0 (λ e. absurd (cc)) (λ e. absurd (cc))

-- ---- a lane's entries

-- other items of a lane, and the same of the others
order_set : (g : Geometry) (mangle : Option ℕ) (closed : ℕ → Bool) (kept : AppKept) (lane n : ℕ) (items : List Item) (out all out' all' : ℕ → List Item) → lane < length kept.pending
    → ((j : ℕ) → j < n → OnLane g mangle (closed j) (pending_at kept j) (out j) (all j)) → Follows g mangle (out' lane) items (all' lane)
    → ((j : ℕ) → j < n → (j ≡ lane → ⊥) → (out' j ≡ out j) × (all' j ≡ all j)) → (j : ℕ) → j < n → OnLane g mangle (closed j) (pending_at (with_pending kept lane items) j) (out' j) (all' j)
order_set g mangle closed kept lane n items out all out' all' within order here other j k = ⊎_elim
    (λ (e : j ≡ lane). subst (λ i. OnLane g mangle (closed i) (pending_at (with_pending kept lane items) i) (out' i) (all' i)) (sym e)
    (items, here, λ off. sym (get_or-set_same kept.pending lane items [] within)))
    (λ (e : j ≡ lane → ⊥).
    subst (λ xs. OnLane g mangle (closed j) xs (out' j) (all' j)) (sym (get_or-set_other kept.pending lane j items [] e))
    (on_lane g mangle (closed j) (out j) (out' j) (pending_at kept j) (all j) (all' j) (other j k e).0 (other j k e).1 (order j k)))
    (cases_eq j lane)

module _ (manner : Manner) (c : Config) (a : ℕ) (one : IsApp c a) (noted : AppNoted) (upto : ℕ) (kept : AppKept) (l : List Told) (sends : kept.tx_done ≡ false) (h : InOrder manner c a noted upto kept l) (lane : ℕ) (below : lane < lanes_of c) (off : drains c a lane kept ≡ false) where
  still_sends : kept.tx_done ≡ true → ⊥
  still_sends told = absurd (let e : false ≡ true = sym sends ∙ told in cc)

  sent : noted.lanes_empty ≡ false → InOrder manner c a noted upto (passed_on c lane kept) (with_told l (Submit (Tx (tx_of c a lane)) (given_on c lane kept)) Submitted)
  sent busy =
      let before = pending_at kept lane in
      let items = given_on c lane kept in
      let call = Submit (Tx (tx_of c a lane)) items in
      let old = open_lane c.geometry manner.mangle (drains c a lane kept) _ _ _ off (h.order lane below) in
      let changed = subst (λ (x : Manner). AreAltered c.geometry x.mangle before items) h.keeps (given_altered c.geometry kept.manner.mangle kept.number before) in
      let m = with_told l call Submitted in
      record {
        keeps = h.keeps;
        lanes = length-set kept.pending lane [] ∙ h.lanes;
        order = order_set c.geometry manner.mangle (λ j. drains c a j kept) kept lane (lanes_of c) [] (λ j. submitted_of (Tx (tx_of c a j)) l) (λ j. peeked_of (Rx (rx_of c a j)) l)
            (λ j. submitted_of (Tx (tx_of c a j)) m) (λ j. peeked_of (Rx (rx_of c a j)) m) (omega (arith, h.lanes)) h.order
            (record {
              front = old.front ++ before;
              whole = append-nil (old.front ++ before) ∙ old.whole ∙ sym (peeked_none (Rx (rx_of c a lane)) l call Submitted refl);
              altered = subst (λ xs. AreAltered c.geometry manner.mangle (old.front ++ before) xs) (sym (now_submitted (tx_of c a lane) l items))
                  (altered_append c.geometry manner.mangle old.front (submitted_of (Tx (tx_of c a lane)) l) before items old.altered changed);
            })
            (λ j k e. (
              other_submitted (Tx (tx_of c a j)) l call Submitted (ne_eqb (tx_of c a j) (tx_of c a lane) (λ s. e (tx_lane c a one j lane k below s))),
              peeked_none (Rx (rx_of c a j)) l call Submitted refl,
            ));
        telling = λ t.
            telling_told (TxDone a) (Tx t) l call Submitted ∙ ap (λ s. telling_after (TxDone a) (Tx t) s call) (h.telling t)
            ∙ ap (λ b. let s : Telling = record { told = kept.tx_done; late = b } in s) (and_off kept.tx_done (eqb t (tx_of c a lane)) sends);
        sides = h.sides;
        known = h.known;
        unseen = λ j. ap (λ s. s.unseen) (draining_told (side_marks c a) (Rx (rx_of c a j)) l call Submitted) ∙ h.unseen j;
        found = λ e. absurd (let no : false ≡ true = sym busy ∙ e in cc);
        over = λ told. absurd (still_sends told);
      }

  takes : (items : List Item) → pending_at kept lane ≡ []
      → InOrder manner c a (busy_lane noted) upto (received c a lane kept items) (with_told l (Peek (Rx (rx_of c a lane)) (batch_of c)) (Items items))
  takes items empty =
      let s = rx_of c a lane in
      let call = Peek (Rx s) (batch_of c) in
      let m = with_told l call (Items items) in
      let old = open_lane c.geometry manner.mangle (drains c a lane kept) _ _ _ off (h.order lane below) in
      record {
        keeps = h.keeps;
        lanes = length-set kept.pending lane items ∙ h.lanes;
        order = order_set c.geometry manner.mangle (λ j. drains c a j kept) kept lane (lanes_of c) items (λ j. submitted_of (Tx (tx_of c a j)) l) (λ j. peeked_of (Rx (rx_of c a j)) l)
            (λ j. submitted_of (Tx (tx_of c a j)) m) (λ j. peeked_of (Rx (rx_of c a j)) m) (omega (arith, h.lanes)) h.order
            (record {
              front = old.front;
              whole = ap (λ xs. xs ++ items) (sym (append-nil old.front) ∙ ap (λ xs. old.front ++ xs) (sym empty) ∙ old.whole) ∙ sym (now_peeked s (batch_of c) l items);
              altered = subst (λ xs. AreAltered c.geometry manner.mangle old.front xs) (sym (none_submitted (Tx (tx_of c a lane)) l call (Items items) refl)) old.altered;
            })
            (λ j k e. (
              none_submitted (Tx (tx_of c a j)) l call (Items items) refl,
              other_peeked (Rx (rx_of c a j)) l call (Items items) (ne_eqb (rx_of c a j) s (λ t. e (rx_lane c a one j lane t))),
            ));
        telling = λ t. telling_told (TxDone a) (Tx t) l call (Items items) ∙ h.telling t;
        sides = h.sides;
        known = h.known;
        unseen = λ j.
            ap (λ s. s.unseen) (draining_told (side_marks c a) (Rx (rx_of c a j)) l call (Items items))
            ∙ same_unseen (eqb (rx_of c a j) s) (draining c a j l) false ∙ h.unseen j;
        found = λ e. absurd (cc);
        over = λ told. absurd (still_sends told);
      }

-- a lane's items that are given back
gives_away : (manner : Manner) (c : Config) (a : ℕ) (one : IsApp c a) (noted : AppNoted) (upto : ℕ) (kept : AppKept) (l : List Told) (lane : ℕ) (items : List Item) → kept.tx_done ≡ false → drains c a lane kept ≡ true
    → InOrder manner c a noted upto kept l → InOrder manner c a (busy_lane noted) upto (drained c lane kept items) (with_told l (Peek (Rx (rx_of c a lane)) (batch_of c)) (Items items))
gives_away manner c a one noted upto kept l lane items sends closed h =
    let s = rx_of c a lane in
    let call = Peek (Rx s) (batch_of c) in
    let m = with_told l call (Items items) in
    record {
      keeps = h.keeps;
      lanes = h.lanes;
      order = λ j k. ⊎_elim
          (λ (e : j ≡ lane).
          let old = h.order j k in
          let same : rx_of c a j ≡ s = ap (rx_of c a) e in
          let mine : peeked_of (Rx (rx_of c a j)) m ≡ peeked_of (Rx (rx_of c a j)) l ++ items =
          subst (λ (i : ℕ). peeked_of (Rx i) m ≡ peeked_of (Rx i) l ++ items) (sym same) (now_peeked s (batch_of c) l items) in (
            old.0 ++ items,
            record {
              front = old.1.front;
              whole = sym (append_assoc old.1.front old.0 items) ∙ ap (λ xs. xs ++ items) old.1.whole ∙ sym mine;
              altered = subst (λ xs. AreAltered c.geometry manner.mangle old.1.front xs) (sym (none_submitted (Tx (tx_of c a j)) l call (Items items) refl)) old.1.altered;
            },
            λ off. absurd (let no : true ≡ false = sym closed ∙ ap (λ i. drains c a i kept) (sym e) ∙ off in cc),
          ))
          (λ (e : j ≡ lane → ⊥).
          on_lane c.geometry manner.mangle (drains c a j kept) _ _ _ _ _ (none_submitted (Tx (tx_of c a j)) l call (Items items) refl)
          (other_peeked (Rx (rx_of c a j)) l call (Items items) (ne_eqb (rx_of c a j) s (λ t. e (rx_lane c a one j lane t)))) (h.order j k))
          (cases_eq j lane);
      telling = λ t. telling_told (TxDone a) (Tx t) l call (Items items) ∙ h.telling t;
      sides = h.sides;
      known = h.known;
      unseen = λ j.
          ap (λ s. s.unseen) (draining_told (side_marks c a) (Rx (rx_of c a j)) l call (Items items))
          ∙ same_unseen (eqb (rx_of c a j) s) (draining c a j l) false ∙ h.unseen j;
      found = λ e. absurd (cc);
      over = λ told. absurd (let no : false ≡ true = sym sends ∙ told in cc);
    }

-- the next lane is found empty
found_empty : (manner : Manner) (c : Config) (a : ℕ) (noted : AppNoted) (kept : AppKept) (l : List Told) (lane n : ℕ) → kept.tx_done ≡ false → (drains c a lane kept ≡ false → pending_at kept lane ≡ []) → InOrder manner c a noted lane kept l
    → InOrder manner c a noted (lane + 1) kept (with_told l (Peek (Rx (rx_of c a lane)) n) Empty)
found_empty manner c a noted kept l lane n sends empty h =
    let s = rx_of c a lane in
    let call = Peek (Rx s) n in
    let after = λ (j : ℕ). draining_told (side_marks c a) (Rx (rx_of c a j)) l call Empty in
    let none = λ (j : ℕ) (began : noted.seen ≡ true). h.unseen j ∙ none_unseen (pair_of c a 0) (pair_of c a 1) (is_set kept.seen 0) (is_set kept.seen 1) (h.known began) in
    record {
      keeps = h.keeps;
      lanes = h.lanes;
      order = λ j k. on_lane c.geometry manner.mangle (drains c a j kept) _ _ _ _ _ (none_submitted (Tx (tx_of c a j)) l call Empty refl) (peeked_none (Rx (rx_of c a j)) l call Empty refl) (h.order j k);
      telling = λ t. telling_told (TxDone a) (Tx t) l call Empty ∙ h.telling t;
      sides = h.sides;
      known = h.known;
      unseen = λ j. ap (λ s. s.unseen) (after j) ∙ same_unseen (eqb (rx_of c a j) s) (draining c a j l) (are_none (draining c a j l).unseen) ∙ h.unseen j;
      found = λ e sends j k. ⊎_elim
          (λ (same : j ≡ lane). (
            λ off. ap (pending_at kept) same ∙ empty (ap (λ i. drains c a i kept) (sym same) ∙ off),
            λ began. ap (λ s. s.empty) (after j) ∙ found_here (eqb (rx_of c a j) s) (draining c a j l) (eq-eqb (rx_of c a j) s (ap (rx_of c a) same)) (none j began),
          ))
          (λ (other : j ≡ lane → ⊥).
          let earlier = h.found e sends j (before j lane k other) in (
            earlier.0,
            λ began. ap (λ s. s.empty) (after j) ∙ when_found (eqb (rx_of c a j) s) (draining c a j l) (none j began) (earlier.1 began),
          ))
          (cases_eq j lane);
      over = λ told. absurd (let e : false ≡ true = sym sends ∙ told in cc);
    }
  where
    before : (j lane : ℕ) → j < lane + 1 → (j ≡ lane → ⊥) → j < lane
    before j lane h k = omega arith

-- ---- the entries of a turn's end

-- it tells that it sends nothing more, once each lane was found empty
told_over : (manner : Manner) (c : Config) (a : ℕ) (noted : AppNoted) (kept : AppKept) (l : List Told) (n : ℕ) → kept.tx_done ≡ false → may_tell noted kept ≡ true → InOrder manner c a noted (lanes_of c) kept l
    → Begins manner c a (record kept { tx_done = true }) (with_told l (Swap (TxDone a) 1) (Old n))
told_over manner c a noted kept l n sends e h =
    let call = Swap (TxDone a) 1 in
    let parts = and_parts noted.seen noted.lanes_empty (and_parts (noted.seen && noted.lanes_empty) _ e).0 in
    let after = λ (j : ℕ). draining_told (side_marks c a) (Rx (rx_of c a j)) l call (Old n) in
    record {
      keeps = h.keeps;
      lanes = h.lanes;
      order = λ j k. on_lane c.geometry manner.mangle (drains c a j kept) _ _ _ _ _ (none_submitted (Tx (tx_of c a j)) l call (Old n) refl) (peeked_none (Rx (rx_of c a j)) l call (Old n) refl) (h.order j k);
      telling = λ t.
          telling_told (TxDone a) (Tx t) l call (Old n) ∙ ap (λ s. telling_after (TxDone a) (Tx t) s call) (h.telling t)
          ∙ ap (λ b. let s : Telling = record { told = b; late = false } in s) (now_told kept.tx_done (eqb a a) (eq-eqb a a refl));
      sides = h.sides;
      known = λ f. absurd (cc);
      unseen = λ j. ap (λ s. s.unseen) (after j) ∙ h.unseen j;
      found = λ f. absurd (cc);
      over = λ f j k. let earlier = h.found parts.1 sends j k in (earlier.0, ap (λ s. s.empty) (after j) ∙ earlier.1 parts.0);
    }

-- a look at a mark, by which these sides are seen
looked : (manner : Manner) (c : Config) (a : ℕ) (kept : AppKept) (flags : List Bool) (l : List Told) (m : Mark) (n : ℕ) → length flags ≡ 2 → unseen_after (unseen_sides c a kept.seen) m n ≡ unseen_sides c a flags
    → Begins manner c a kept l → Begins manner c a (record kept { seen = flags }) (with_told l (Look m) (Old n))
looked manner c a kept flags l m n size e h =
    let call = Look m in
    let after = λ (j : ℕ). draining_told (side_marks c a) (Rx (rx_of c a j)) l call (Old n) in
    record {
      keeps = h.keeps;
      lanes = h.lanes;
      order = λ j k. on_lane c.geometry manner.mangle (drains c a j kept) _ _ _ _ _ (none_submitted (Tx (tx_of c a j)) l call (Old n) refl) (peeked_none (Rx (rx_of c a j)) l call (Old n) refl) (h.order j k);
      telling = λ t. telling_told (TxDone a) (Tx t) l call (Old n) ∙ h.telling t;
      sides = size;
      known = λ f. absurd (cc);
      unseen = λ j. ap (λ s. s.unseen) (after j) ∙ ap (λ ms. unseen_after ms m n) (h.unseen j) ∙ e;
      found = λ f. absurd (cc);
      over = λ f j k. let earlier = h.over f j k in (earlier.0, ap (λ s. s.empty) (after j) ∙ earlier.1);
    }

looked_seen : (manner : Manner) (c : Config) (a : ℕ) (one : IsApp c a) (kept : AppKept) (l : List Told) (side n : ℕ) → side < 2 → is_set kept.seen side ≡ false → Begins manner c a kept l
    → Begins manner c a (with_seen kept side n) (with_told l (Look (RxDone (pair_of c a side))) (Old n))
looked_seen manner c a one kept l side n below e h = by (eqb n 1) refl
  where
    by : (b : Bool) → eqb n 1 ≡ b → Begins manner c a (cond b (record kept { seen = set kept.seen side true }) kept) (with_told l (Look (RxDone (pair_of c a side))) (Old n))
    by true f = looked manner c a kept (set kept.seen side true) l (RxDone (pair_of c a side)) n (length-set kept.seen side true ∙ h.sides) (side_seen c a one kept.seen n h.sides side below e f) h
    by false f = looked manner c a kept kept.seen l (RxDone (pair_of c a side)) n h.sides (side_unseen c a one kept.seen n h.sides side below e f) h

looked_gone_mark : (manner : Manner) (c : Config) (a : ℕ) (kept : AppKept) (l : List Told) (side n : ℕ) → Begins manner c a kept l → Begins manner c a (with_gone kept side n) (with_told l (Look (Gone (pair_of c a side))) (Old n))
looked_gone_mark manner c a kept l side n h = by (eqb n 1)
  where
    g : ℕ
    g = pair_of c a side

    now : Begins manner c a kept (with_told l (Look (Gone g)) (Old n))
    now = looked manner c a kept kept.seen l (Gone g) n h.sides (other_mark (pair_of c a 0) (pair_of c a 1) g n (is_set kept.seen 0) (is_set kept.seen 1)) h

    by : (b : Bool) → Begins manner c a (cond b (record kept { gone = set kept.gone side true }) kept) (with_told l (Look (Gone g)) (Old n))
    by true = beside manner c a none_noted 0 kept (with_told l (Look (Gone g)) (Old n)) now kept.back (set kept.gone side true)
    by false = now

-- ---- along the turns

module _ (manner : Manner) (c : Config) (a : ℕ) (one : IsApp c a) where
  abbrev pub At : Family
  At (Lanes lane) noted kept l = InOrder manner c a noted lane kept l
  At (Lane lane due) noted kept l = InOrder manner c a noted (lane + 1) kept l × (noted.lanes_empty ≡ false)
  At (Drained lane due) noted kept l = InOrder manner c a noted (lane + 1) kept l
  At (Lowering shut index) noted kept l = InOrder manner c a noted 0 kept l
  At (Shutting shut) noted kept l = InOrder manner c a noted 0 kept l
  At (Looking side) noted kept l = Begins manner c a kept l
  At TxTold noted kept l = Begins manner c a kept l
  At (Waking place need pair) noted kept l = At place noted kept l
  At (Looked place need pair n) noted kept l = At place noted kept l
  At (Kicking place pair) noted kept l = At place noted kept l
  At place noted kept l = InOrder manner c a noted (lanes_of c) kept l

  abbrev pub Asked : Said
  Asked kept call l = AtCallBy manner c a kept.pending kept.tx_done call l

  abbrev pub Ended : AppKept → List Told → Type 0
  Ended kept l = AtEnd manner c a kept l

  -- so at each place of a turn, and it stays so as drivers are woken
  asked_at : (place : Stage) (noted : AppNoted) (kept : AppKept) (call : Call) (l : List Told) → At place noted kept l → Asked kept call l
  asked_at (Lanes lane) noted kept call l h = at_call_of manner c a noted lane kept call l h
  asked_at (Lane lane due) noted kept call l h = at_call_of manner c a noted (lane + 1) kept call l h.0
  asked_at (Sides side) noted kept call l h = at_call_of manner c a noted (lanes_of c) kept call l h
  asked_at (Side side due) noted kept call l h = at_call_of manner c a noted (lanes_of c) kept call l h
  asked_at Ending noted kept call l h = at_call_of manner c a noted (lanes_of c) kept call l h
  asked_at (Looking side) noted kept call l h = at_call_of manner c a none_noted 0 kept call l h
  asked_at (Drained lane due) noted kept call l h = at_call_of manner c a noted (lane + 1) kept call l h
  asked_at (Lowering shut index) noted kept call l h = at_call_of manner c a noted 0 kept call l h
  asked_at (Shutting shut) noted kept call l h = at_call_of manner c a noted 0 kept call l h
  asked_at TxTold noted kept call l h = at_call_of manner c a none_noted 0 kept call l h
  asked_at (Waking place need pair) noted kept call l h = asked_at place noted kept call l h
  asked_at (Looked place need pair n) noted kept call l h = asked_at place noted kept call l h
  asked_at (Kicking place pair) noted kept call l h = asked_at place noted kept call l h

  abbrev Stays : List Told → List Told → Type 0
  Stays l m = (noted : AppNoted) (upto : ℕ) (kept : AppKept) → InOrder manner c a noted upto kept l → InOrder manner c a noted upto kept m

  stays : (place : Stage) (noted : AppNoted) (kept : AppKept) (l m : List Told) → Stays l m → At place noted kept l → At place noted kept m
  stays (Lanes lane) noted kept l m on h = on noted lane kept h
  stays (Lane lane due) noted kept l m on h = (on noted (lane + 1) kept h.0, h.1)
  stays (Sides side) noted kept l m on h = on noted (lanes_of c) kept h
  stays (Side side due) noted kept l m on h = on noted (lanes_of c) kept h
  stays Ending noted kept l m on h = on noted (lanes_of c) kept h
  stays (Looking side) noted kept l m on h = on none_noted 0 kept h
  stays (Drained lane due) noted kept l m on h = on noted (lane + 1) kept h
  stays (Lowering shut index) noted kept l m on h = on noted 0 kept h
  stays (Shutting shut) noted kept l m on h = on noted 0 kept h
  stays TxTold noted kept l m on h = on none_noted 0 kept h
  stays (Waking place need pair) noted kept l m on h = stays place noted kept l m on h
  stays (Looked place need pair n) noted kept l m on h = stays place noted kept l m on h
  stays (Kicking place pair) noted kept l m on h = stays place noted kept l m on h

  calls : AtCalls c a At Asked
  calls (ReleaseRx lane n) noted kept l known h = at_call_of manner c a noted (lane + 1) kept _ l h.0
  calls (ReserveTx lane) noted kept l known h = at_call_of manner c a noted (lane + 1) kept _ l h.0
  calls (SubmitTx lane) noted kept l known h =
      let now = at_call_of manner c a noted (lane + 1) kept (call_at c a (SubmitTx lane) kept) l h.0 in
      record { lawful = now.lawful; told = now.told; drained = now.drained; order = λ closes none. absurd none }
  calls (LookNeed place need pair) noted kept l known h = asked_at place noted kept _ l h
  calls (KickDriver place pair) noted kept l known h = asked_at place noted kept _ l h
  calls p noted kept l known h = asked_at (asked c a p kept).0 noted (kept_before p kept) (call_at c a p kept) l h

  entries : AtEntries c a Anything At Asked
  entries (rx_empty lane) noted kept l known h asked q = found_empty manner c a noted kept l lane (batch_of c) known.1 (λ off. known.2) h
  entries (rx_items lane items) noted kept l known h asked q =
      let now = takes manner c a one noted lane kept l known.1 h lane known.0 known.3 items known.2 in
      (renoted manner c a (busy_lane noted) lane _ _ now (busy_lane noted) (lane + 1) h.known (λ e. absurd (cc)), refl)
  entries (rx_released lane n) noted kept l known h asked q = (still manner c a noted (lane + 1) kept l h.0 _ Released refl refl (λ t s. refl) (λ s u. refl), h.1)
  entries (tx_granted lane) noted kept l known h asked q = (still manner c a noted (lane + 1) kept l h.0 _ Granted refl refl (λ t s. refl) (λ s u. refl), h.1)
  entries (tx_full lane free) noted kept l known h asked q = still manner c a noted (lane + 1) kept l h.0 _ (Full free) refl refl (λ t s. refl) (λ s u. refl)
  entries (tx_submitted lane) noted kept l known h asked q = sent manner c a one noted (lane + 1) kept l known.1 h.0 lane known.0 known.2 h.1
  entries (comp_items side items) noted kept l known h asked q =
      let now = beside manner c a noted (lanes_of c) kept _ (completed manner c a noted (lanes_of c) kept l h (pair_of c a side) (batch_of c) items) (set kept.back side (frames_in items)) kept.gone in
      renoted manner c a noted (lanes_of c) _ _ now (busy_side noted) (lanes_of c) now.known now.found
  entries (fill_submitted side frame frames) noted kept l known h asked q =
      let now = with_back kept side (frame ∷ frames) in
      let given = gives manner c a noted (lanes_of c) now l h (home_of (pool_of c) frame) (map (home_item c.geometry) (group c frame frames)) in
      beside manner c a noted (lanes_of c) now _ given (set kept.back side (drop (length (group c frame frames)) (frame ∷ frames))) kept.gone
  entries (looked_rx_done side n) noted kept l known h asked q = looked_seen manner c a one kept l side n known.0 known.1 h
  entries (told_tx_done n) noted kept l known h asked q = told_over manner c a noted kept l n known.0 known.1 h
  entries (looked_gone side n) noted kept l known h asked q = looked_gone_mark manner c a kept l side n h
  entries (looked_need place need pair n) noted kept l known h asked q = stays place noted kept l _ (λ more upto k now. looked_flag manner c a more upto k l now need n known.1) h
  entries (kicked place pair n) noted kept l known h asked q = stays place noted kept l _ (λ more upto k now. woken manner c a more upto k l now pair n) h
  entries (lowered shut index n) noted kept l known h asked q = swapped manner c a noted 0 kept l h _ 0 n refl
  entries (told_closing shut n) noted kept l known h asked q =
      closed_now manner c a noted 0 kept (with_told l (Swap (Closing shut.socket) 1) (Old n)) (swapped manner c a noted 0 kept l h (Closing shut.socket) 1 n refl)
  entries (drain_empty lane) noted kept l known h asked q =
      found_empty manner c a noted kept l lane (batch_of c) known.1 (λ off. absurd (let no : true ≡ false = sym known.2 ∙ off in cc)) h
  entries (drain_items lane items) noted kept l known h asked q =
      let now = gives_away manner c a one noted lane kept l lane items known.1 known.2 h in
      renoted manner c a (busy_lane noted) lane _ _ now (busy_lane noted) (lane + 1) h.known (λ e. absurd (cc))
  entries (drain_released lane n) noted kept l known h asked q = still manner c a noted (lane + 1) kept l h _ Released refl refl (λ t s. refl) (λ s u. refl)
  entries (looked_acked shut n) noted kept l known h asked q =
      acked_so manner c a noted (lanes_of c) kept (with_told l (Look (Acked shut.socket)) (Old n)) (looked_ack manner c a noted (lanes_of c) kept l h shut.socket n) (eqb n 1)
  entries e noted kept l known h asked q =
      still manner c a noted (lanes_of c) (kept_before (point_of e) kept) l h (call_at c a (point_of e) kept) (reply_of e) refl refl (λ t s. refl) (λ s u. refl)

  silent : AtSilent c a At
  silent no_lanes noted kept l = λ h done. renoted manner c a noted 0 kept l h noted (lanes_of c) h.known (λ e sends. absurd (let no : true ≡ false = sym done ∙ sends in cc))
  silent (has_items lane item items) noted kept l = λ h e. (renoted manner c a noted lane kept l h (busy_lane noted) (lane + 1) h.known (λ e. absurd (cc)), refl)
  silent (has_frames side frame frames) noted kept l = λ h e. renoted manner c a noted (lanes_of c) kept l h (busy_side noted) (lanes_of c) h.known h.found
  silent looks noted kept l = λ h e. over_turn manner c a noted (lanes_of c) kept l h
  silent rests noted kept l = λ h e. over_turn manner c a noted (lanes_of c) kept l h
  silent begins noted kept l = λ h e. renoted manner c a none_noted 0 kept l h (noted_first kept) 0 (λ e. e) (λ e sends j k. absurd (omega arith))
  silent p noted kept l = λ h e. h

  pub law : IsLaw c a Anything At Asked Ended
  law = record { calls = calls; entries = entries; silent = silent; ends = λ noted kept l done h. at_last manner c a noted (lanes_of c) kept l done.0 h }

-- ---- the laws

module _ (manner : Manner) (c : Config) (a : ℕ) (one : IsApp c a) (l : List Told) where
  pub first : At manner c a one (Lanes 0) (noted_first (app_start_by manner c)) (app_start_by manner c) []
  first = record {
    keeps = refl;
    lanes = length-replicate (lanes_of c) [];
    order = λ lane h. (pending_at (app_start_by manner c) lane, record { front = []; whole = none_pending (lanes_of c) lane; altered = tt }, λ off. refl);
    telling = λ t. refl;
    sides = refl;
    known = λ e. absurd (cc);
    unseen = λ lane. refl;
    found = λ e sends j h. absurd (omega arith);
    over = λ e. absurd (cc);
  }

  along : IsAppRunBy manner c a l → Lawful manner c a l
  along run =
      of_run c a one Anything (At manner c a one) (Asked manner c a one) (Ended manner c a one) (law manner c a one) (app_start_by manner c) first l (meet_anything (app_turn c a) (app_turn c a (app_start_by manner c)) [] l) (Lawful manner c a)
      (λ kept m h. lawful manner c a (noted_first kept) 0 kept m h) (λ kept call m h. h.lawful) (λ kept m h. h.lawful) run

  at_calls : (kept : AppKept) (call : Call) (rest : Reply → Script AppKept) → Asks (app_turn c a) (app_start_by manner c) l kept call rest → AtCallBy manner c a kept.pending kept.tx_done call l
  at_calls = at_call c a one Anything (At manner c a one) (Asked manner c a one) (Ended manner c a one) (law manner c a one) (app_start_by manner c) first l (meet_anything (app_turn c a) (app_turn c a (app_start_by manner c)) [] l)

  whole : (run : IsWholeAppRunBy manner c a l) → AtEnd manner c a run.0 l
  whole run = at_end c a one Anything (At manner c a one) (Asked manner c a one) (Ended manner c a one) (law manner c a one) (app_start_by manner c) first l (meet_anything (app_turn c a) (app_turn c a (app_start_by manner c)) [] l) run.0 run.1

pub lanes_in_order : LanesInOrder
lanes_in_order manner c a l lane none one run h =
    let front = (along manner c a one l run).fronts lane h in
    let out = submitted_of (Tx (tx_of c a lane)) l in
    let same : out ≡ front.1.front = altered_same c.geometry front.1.front out (subst (λ mangle. AreAltered c.geometry mangle front.1.front out) none front.1.altered) in
    (front.0, ap (λ xs. xs ++ front.0) same ∙ front.1.whole)

pub nothing_sent_late : NothingSentLate
nothing_sent_late manner c a t l one run = (along manner c a one l run).late t

-- a lane that stays open isn't given back
is_open : (manner : Manner) (c : Config) (a : ℕ) (one : IsApp c a) (l : List Told) (lane : ℕ) (run : IsWholeAppRunBy manner c a l) → StaysOpen c a lane l → drains c a lane run.0 ≡ false
is_open manner c a one l lane run stays = by run.0.begun (is_closed c a lane c.closing) refl refl
  where
    has : HasSet c a run.0.begun l
    has = set_at_end manner c a one l run.0 run.1

    by : (begun closed : Bool) → run.0.begun ≡ begun → is_closed c a lane c.closing ≡ closed → (begun && closed) ≡ false
    by false closed e f = refl
    by true false e f = refl
    by true true e f =
        let now = has.closed e in
        let here : (rx_of c a lane ≡ now.0.socket) ⊎ (tx_of c a lane ≡ now.0.socket) = either (rx_of c a lane) (tx_of c a lane) now.0.socket (sym (ap (is_closed c a lane) now.1.closing) ∙ f) in
        absurd (stays now.0.socket now.1.closing here now.2)

pub lanes_altered : LanesAltered
lanes_altered manner c a l lane one run h stays = (whole manner c a one l run).all lane h (is_open manner c a one l lane run stays)

pub lanes_passed_on : LanesPassedOn
lanes_passed_on manner c a l lane none one run h stays =
    let all = peeked_of (Rx (rx_of c a lane)) l in
    let out = submitted_of (Tx (tx_of c a lane)) l in
    altered_same c.geometry all out (subst (λ mangle. AreAltered c.geometry mangle all out) none ((whole manner c a one l run).all lane h (is_open manner c a one l lane run stays)))

pub drains_rx : DrainsRx
drains_rx manner c a l lane one run h = (whole manner c a one l run).drained lane h

-- what holds at each call without changes
pub lanes_at : (c : Config) (a : ℕ) (l : List Told) (kept : AppKept) (call : Call) (rest : Reply → Script AppKept) → IsApp c a → c.closing ≡ None
    → Asks (app_turn c a) (app_start c) l kept call rest → AtCall c a kept.pending kept.tx_done call l
lanes_at c a l kept call rest one closes asks =
    let now = at_calls plain c a one l kept call rest asks in
    record {
      told = now.told;
      drained = now.drained;
      order = λ none lane k.
          let order = now.order closes none lane k in
          let same : submitted_of (Tx (tx_of c a lane)) l ≡ order.front = altered_same c.geometry order.front (submitted_of (Tx (tx_of c a lane)) l) order.altered in
          ap (λ xs. xs ++ get_or kept.pending lane []) same ∙ order.whole;
    }
