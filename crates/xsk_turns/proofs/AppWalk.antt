-- The one walk along an application's turns. A law of its runs says what holds at each place of a turn, and what each entry
-- of the list, a call with its reply, makes of it; then it holds along every run.
use Rattle.std.proofs.Common.{◌≡◌, ◌⊎◌, inl, inr, ℕ, zero, suc, ◌+◌, ◌-◌, ◌<◌, Bool, true, false, cond, ◌&&◌, not, eqb, slice_index, Some, None, Option, List, [], ◌∷◌, length, drop, map, set, refl, sym, ap, ◌∙◌, subst, arith}
use Rattle.std.proofs.lemmas.Bool.{and_parts}
use Rattle.xsk_turns.proofs.Object.{Frame, Config, pool_of, batch_of, home_item}
use Rattle.xsk_turns.proofs.Calls.{Item, Told, with_told, Fill, Comp, Rx, Tx, Mark, RxDone, Gone, TxDone, Call, Reserve, Submit, Peek, Release, Swap, Look, Reply, Granted, Full, Submitted, Items, Empty, Released, Old}
use Rattle.xsk_model.specs.declared.call.Mark.TheVariants.{NeedFill, NeedTx, Kick, Cell, Closing, Acked}
use Rattle.xsk_model.specs.Config.{map_of}
use Rattle.xsk_model.specs.Rings.{port_of}
use Rattle.xsk_turns.specs.Script.{Script, ask, again, ended, on_submitted, on_released, Asks, Ends, IsRun}
use Rattle.xsk_turns.specs.Turns.{frames_in}
use Rattle.xsk_turns.specs.AppTurns.{AppKept, AppNoted, pair_of, rx_of, tx_of, tx_pair, lanes_of, home_of, group_of, both, is_set, is_none, pending_at, back_at, with_back, kick, wake, wake_both, given_on, passed_on, pass_on, receive_lane, visit_lane, visit_lanes, give_back, complete_side, visit_side, visit_sides, with_seen, with_gone, look_marks, look_rx_done, look_gone, may_tell, look_acked, end_by, end_turn, turn_sides, Shut, shut_of, drains, received, drained, may_close, with_begun, with_acked, drain_lane, lower_cells, wake_closed, tell_closing, close_first, turn_lanes, noted_first, app_turn}
use Rattle.xsk_turns.specs.AppOwned.{IsApp}
use Rattle.xsk_turns.proofs.AppGroups.{with_back-again, with_back-same, group_some, shorter}
use Rattle.xsk_turns.proofs.Places.{batch_some}
use Rattle.xsk_turns.proofs.Walks.{Premise, Law, Due, nothing_due, submit_due, release_due, Holds, MeetAlong, at_reserve, at_submit, at_peek, at_release, at_old, by_case, says_left, says_run}

-- ---- the places of a turn, and its calls

-- An application comes to a lane or to a side, is at one, is at the end of its turn, or looks at marks there. Before it goes on
-- to a place it may have to look at a ring's need-wakeup flag, has looked at it, with this number, or has to wake a driver; and
-- it has told that it sends nothing more. It lowers the cells of the socket that it closes, from this one on, has closed it, and
-- is at a lane whose items it gives back.
pub data Stage : Type 0 where
  Lanes : ℕ → Stage
  Lane : ℕ → Due → Stage
  Sides : ℕ → Stage
  Side : ℕ → Due → Stage
  Ending : Stage
  Looking : ℕ → Stage
  Waking : Stage → Mark → ℕ → Stage
  Looked : Stage → Mark → ℕ → ℕ → Stage
  Kicking : Stage → ℕ → Stage
  TxTold : Stage
  Lowering : Shut → ℕ → Stage
  Shutting : Shut → Stage
  Draining : ℕ → Due → Stage

abbrev pub is_need : Mark → Bool
is_need (NeedFill d) = true
is_need (NeedTx s) = true
is_need mark = false

-- the place after a Submit on TX, and after one on FILL
abbrev pub tx_filled : Config → ℕ → ℕ → Stage
tx_filled c a lane = Waking (Lanes (lane + 1)) (NeedTx (tx_of c a lane)) (tx_pair c a lane)

abbrev pub fill_filled : ℕ → ℕ → Stage
fill_filled side home = Waking (Side side nothing_due) (NeedFill home) home

abbrev pub Family : Type 1
Family = Stage → AppNoted → AppKept → List Told → Type 0

-- a lane or a side wasn't empty
abbrev pub busy_lane : AppNoted → AppNoted
busy_lane noted = record noted { lanes_empty = false }

abbrev pub busy_side : AppNoted → AppNoted
busy_side noted = record noted { sides_empty = false }

-- a call, by the lane, or by the side and the frames that it has yet to give back; or by the place to which it goes on
-- afterwards
pub data Point : Type 0 where
  PeekRx : ℕ → Point
  ReleaseRx : ℕ → ℕ → Point
  ReserveTx : ℕ → Point
  SubmitTx : ℕ → Point
  PeekComp : ℕ → Point
  ReleaseComp : ℕ → ℕ → Point
  ReserveFill : ℕ → Frame → List Frame → Point
  SubmitFill : ℕ → Frame → List Frame → Point
  LookRxDone : ℕ → Point
  TellTxDone : Point
  LookGone : ℕ → Point
  LookNeed : Stage → Mark → ℕ → Point
  KickDriver : Stage → ℕ → Point
  LowerCell : Shut → ℕ → Point
  TellClosing : Shut → Point
  PeekDrain : ℕ → Point
  ReleaseDrain : ℕ → ℕ → Point
  LookAcked : Shut → Point

-- the port of the socket, and its cells
abbrev pub shut_port : Config → Shut → ℕ
shut_port c shut = port_of c (Rx shut.socket)

abbrev pub shut_cells : Config → Shut → List ℕ
shut_cells c shut = map_of c (shut_port c shut)

abbrev pub group : Config → Frame → List Frame → List Frame
group c frame frames = group_of (pool_of c) (batch_of c) frame frames

-- where each call is given, the call, and what is kept once it is given: a Submit takes its items along
abbrev pub asked : Config → ℕ → Point → AppKept → Stage × Call × AppKept
asked c a (PeekRx lane) kept = (Lanes lane, Peek (Rx (rx_of c a lane)) (batch_of c), kept)
asked c a (ReleaseRx lane n) kept = (Lane lane (release_due (Rx (rx_of c a lane)) n), Release (Rx (rx_of c a lane)) n, kept)
asked c a (ReserveTx lane) kept = (Lane lane nothing_due, Reserve (Tx (tx_of c a lane)) (length (pending_at kept lane)), kept)
asked c a (SubmitTx lane) kept = (Lane lane (submit_due (Tx (tx_of c a lane)) (length (pending_at kept lane))), Submit (Tx (tx_of c a lane)) (given_on c lane kept), passed_on c lane kept)
asked c a (PeekComp side) kept = (Sides side, Peek (Comp (pair_of c a side)) (batch_of c), kept)
asked c a (ReleaseComp side n) kept = (Side side (release_due (Comp (pair_of c a side)) n), Release (Comp (pair_of c a side)) n, kept)
asked c a (ReserveFill side frame frames) kept = (Side side nothing_due, Reserve (Fill (home_of (pool_of c) frame)) (length (group c frame frames)), with_back kept side (frame ∷ frames))
asked c a (SubmitFill side frame frames) kept = (Side side (submit_due (Fill (home_of (pool_of c) frame)) (length (group c frame frames))), Submit (Fill (home_of (pool_of c) frame)) (map (home_item c.geometry) (group c frame frames)), with_back kept side (drop (length (group c frame frames)) (frame ∷ frames)))
asked c a (LookRxDone side) kept = (Looking side, Look (RxDone (pair_of c a side)), kept)
asked c a TellTxDone kept = (Ending, Swap (TxDone a) 1, kept)
asked c a (LookGone side) kept = (Looking side, Look (Gone (pair_of c a side)), kept)
asked c a (LookNeed place need pair) kept = (Waking place need pair, Look need, kept)
asked c a (KickDriver place pair) kept = (Kicking place pair, Swap (Kick pair) 1, kept)
asked c a (LowerCell shut index) kept = (Lowering shut index, Swap (Cell (shut_port c shut) index) 0, kept)
asked c a (TellClosing shut) kept = (Lowering shut (length (shut_cells c shut)), Swap (Closing shut.socket) 1, kept)
asked c a (PeekDrain lane) kept = (Lanes lane, Peek (Rx (rx_of c a lane)) (batch_of c), kept)
asked c a (ReleaseDrain lane n) kept = (Draining lane (release_due (Rx (rx_of c a lane)) n), Release (Rx (rx_of c a lane)) n, kept)
asked c a (LookAcked shut) kept = (Ending, Look (Acked shut.socket), kept)

abbrev pub call_at : Config → ℕ → Point → AppKept → Call
call_at c a p kept = (asked c a p kept).1

abbrev pub kept_at : Config → ℕ → Point → AppKept → AppKept
kept_at c a p kept = (asked c a p kept).2

-- what is kept before it
abbrev pub kept_before : Point → AppKept → AppKept
kept_before (ReserveFill side frame frames) kept = with_back kept side (frame ∷ frames)
kept_before (SubmitFill side frame frames) kept = with_back kept side (frame ∷ frames)
kept_before point kept = kept

-- what is known where a call is given
abbrev pub Known : Config → ℕ → Point → AppNoted → AppKept → Type 0
Known c a (PeekRx lane) noted kept = (lane < lanes_of c) × (kept.tx_done ≡ false) × (pending_at kept lane ≡ []) × (drains c a lane kept ≡ false)
Known c a (ReleaseRx lane n) noted kept = (lane < lanes_of c) × (kept.tx_done ≡ false) × (drains c a lane kept ≡ false)
Known c a (ReserveTx lane) noted kept = (lane < lanes_of c) × (kept.tx_done ≡ false) × (drains c a lane kept ≡ false)
Known c a (SubmitTx lane) noted kept = (lane < lanes_of c) × (kept.tx_done ≡ false) × (drains c a lane kept ≡ false)
Known c a (PeekComp side) noted kept = (side < 2) × (back_at kept side ≡ [])
Known c a (LookRxDone side) noted kept = (side < 2) × (is_set kept.seen side ≡ false) × (kept.tx_done ≡ false)
Known c a TellTxDone noted kept = (kept.tx_done ≡ false) × (may_tell noted kept ≡ true)
Known c a (ReleaseComp side n) noted kept = side < 2
Known c a (ReserveFill side frame frames) noted kept = side < 2
Known c a (SubmitFill side frame frames) noted kept = side < 2
Known c a (LookGone side) noted kept = (side < 2) × (is_set kept.gone side ≡ false) × (kept.tx_done ≡ true)
Known c a (LookNeed place need pair) noted kept = (c.wakeup ≡ true) × (is_need need ≡ true)
Known c a (KickDriver place pair) noted kept = c.wakeup ≡ true
Known c a (LowerCell shut index) noted kept = (shut_of c a ≡ Some shut) × (kept.begun ≡ false) × (kept.tx_done ≡ false) × (index < length (shut_cells c shut)) × (eqb (slice_index (shut_cells c shut) index) (suc shut.socket) ≡ true)
Known c a (TellClosing shut) noted kept = (shut_of c a ≡ Some shut) × (kept.begun ≡ false) × (kept.tx_done ≡ false)
Known c a (PeekDrain lane) noted kept = (lane < lanes_of c) × (kept.tx_done ≡ false) × (drains c a lane kept ≡ true)
Known c a (ReleaseDrain lane n) noted kept = (lane < lanes_of c) × (kept.tx_done ≡ false) × (drains c a lane kept ≡ true)
Known c a (LookAcked shut) noted kept = (shut_of c a ≡ Some shut) × (kept.begun ≡ true) × (kept.acked ≡ false)

-- ---- what each reply makes of it

pub data Entry : Type 0 where
  rx_empty : ℕ → Entry
  rx_items : ℕ → List Item → Entry
  rx_released : ℕ → ℕ → Entry
  tx_granted : ℕ → Entry
  tx_full : ℕ → ℕ → Entry
  tx_submitted : ℕ → Entry
  comp_empty : ℕ → Entry
  comp_items : ℕ → List Item → Entry
  comp_released : ℕ → ℕ → Entry
  fill_granted : ℕ → Frame → List Frame → Entry
  fill_full : ℕ → Frame → List Frame → ℕ → Entry
  fill_submitted : ℕ → Frame → List Frame → Entry
  looked_rx_done : ℕ → ℕ → Entry
  told_tx_done : ℕ → Entry
  looked_gone : ℕ → ℕ → Entry
  looked_need : Stage → Mark → ℕ → ℕ → Entry
  kicked : Stage → ℕ → ℕ → Entry
  lowered : Shut → ℕ → ℕ → Entry
  told_closing : Shut → ℕ → Entry
  drain_empty : ℕ → Entry
  drain_items : ℕ → List Item → Entry
  drain_released : ℕ → ℕ → Entry
  looked_acked : Shut → ℕ → Entry

abbrev pub told : Entry → Point × Reply
told (rx_empty lane) = (PeekRx lane, Empty)
told (rx_items lane items) = (PeekRx lane, Items items)
told (rx_released lane n) = (ReleaseRx lane n, Released)
told (tx_granted lane) = (ReserveTx lane, Granted)
told (tx_full lane free) = (ReserveTx lane, Full free)
told (tx_submitted lane) = (SubmitTx lane, Submitted)
told (comp_empty side) = (PeekComp side, Empty)
told (comp_items side items) = (PeekComp side, Items items)
told (comp_released side n) = (ReleaseComp side n, Released)
told (fill_granted side frame frames) = (ReserveFill side frame frames, Granted)
told (fill_full side frame frames free) = (ReserveFill side frame frames, Full free)
told (fill_submitted side frame frames) = (SubmitFill side frame frames, Submitted)
told (looked_rx_done side n) = (LookRxDone side, Old n)
told (told_tx_done n) = (TellTxDone, Old n)
told (looked_gone side n) = (LookGone side, Old n)
told (looked_need place need pair n) = (LookNeed place need pair, Old n)
told (kicked place pair n) = (KickDriver place pair, Old n)
told (lowered shut index n) = (LowerCell shut index, Old n)
told (told_closing shut n) = (TellClosing shut, Old n)
told (drain_empty lane) = (PeekDrain lane, Empty)
told (drain_items lane items) = (PeekDrain lane, Items items)
told (drain_released lane n) = (ReleaseDrain lane n, Released)
told (looked_acked shut n) = (LookAcked shut, Old n)

abbrev pub point_of : Entry → Point
point_of e = (told e).0

abbrev pub reply_of : Entry → Reply
reply_of e = (told e).1

-- where each leads, with what is noted and kept there
abbrev pub leads : Config → ℕ → Entry → AppNoted → AppKept → Stage × AppNoted × AppKept
leads c a (rx_empty lane) noted kept = (Lanes (lane + 1), noted, kept)
leads c a (rx_items lane items) noted kept = (Lane lane (release_due (Rx (rx_of c a lane)) (length items)), busy_lane noted, received c a lane kept items)
leads c a (rx_released lane n) noted kept = (Lane lane nothing_due, noted, kept)
leads c a (tx_granted lane) noted kept = (Lane lane (submit_due (Tx (tx_of c a lane)) (length (pending_at kept lane))), noted, kept)
leads c a (tx_full lane free) noted kept = (Lanes (lane + 1), noted, kept)
leads c a (tx_submitted lane) noted kept = (tx_filled c a lane, noted, passed_on c lane kept)
leads c a (comp_empty side) noted kept = (Sides (side + 1), noted, kept)
leads c a (comp_items side items) noted kept = (Side side (release_due (Comp (pair_of c a side)) (length items)), busy_side noted, with_back kept side (frames_in items))
leads c a (comp_released side n) noted kept = (Side side nothing_due, noted, kept)
leads c a (fill_granted side frame frames) noted kept = (Side side (submit_due (Fill (home_of (pool_of c) frame)) (length (group c frame frames))), noted, with_back kept side (frame ∷ frames))
leads c a (fill_full side frame frames free) noted kept = (Sides (side + 1), noted, with_back kept side (frame ∷ frames))
leads c a (fill_submitted side frame frames) noted kept = (fill_filled side (home_of (pool_of c) frame), noted, with_back kept side (drop (length (group c frame frames)) (frame ∷ frames)))
leads c a (looked_rx_done side n) noted kept = (Looking (side + 1), noted, with_seen kept side n)
leads c a (told_tx_done n) noted kept = (TxTold, noted, record kept { tx_done = true })
leads c a (looked_gone side n) noted kept = (Looking (side + 1), noted, with_gone kept side n)
leads c a (looked_need place need pair n) noted kept = (Looked place need pair n, noted, kept)
leads c a (kicked place pair n) noted kept = (place, noted, kept)
leads c a (lowered shut index n) noted kept = (Lowering shut (index + 1), noted, kept)
leads c a (told_closing shut n) noted kept = (Shutting shut, noted, with_begun kept)
leads c a (drain_empty lane) noted kept = (Lanes (lane + 1), noted, kept)
leads c a (drain_items lane items) noted kept = (Draining lane (release_due (Rx (rx_of c a lane)) (length items)), busy_lane noted, drained c lane kept items)
leads c a (drain_released lane n) noted kept = (Lanes (lane + 1), noted, kept)
leads c a (looked_acked shut n) noted kept = (Ending, noted, with_acked kept n)

-- ---- what goes on without a call

pub data Silent : Type 0 where
  no_lanes : Silent
  has_items : ℕ → Item → List Item → Silent
  lanes_done : Silent
  has_frames : ℕ → Frame → List Frame → Silent
  all_given : ℕ → Silent
  sides_done : Silent
  looks : Silent
  rests : Silent
  skips : ℕ → Silent
  begins : Silent
  without_need : Stage → Mark → ℕ → Silent
  needs_none : Stage → Mark → ℕ → ℕ → Silent
  needs_kick : Stage → Mark → ℕ → ℕ → Silent
  told_quietly : Silent
  told_both : Silent
  closes : Shut → Silent
  keeps_cell : Shut → ℕ → Silent
  closed_quietly : Shut → Silent
  closed_kicks : Shut → Silent

-- whether it has ended, by what it noted and keeps
abbrev pub is_over : AppNoted → AppKept → Bool
is_over noted kept = noted.gone && noted.sides_empty && is_none (back_at kept 0) && is_none (back_at kept 1)

-- it looks at marks where a side isn't seen yet, or, once it told that it sends nothing more, where it hasn't ended
abbrev pub Looks : AppNoted → AppKept → Type 0
Looks noted kept = ((kept.tx_done ≡ false) × (both kept.seen ≡ false)) ⊎ ((kept.tx_done ≡ true) × (is_over noted kept ≡ false))

-- by these flags
abbrev pub flags_of : AppKept → List Bool
flags_of kept = cond kept.tx_done kept.gone kept.seen

abbrev pub LeadsOn : Config → ℕ → Family → Silent → AppNoted → AppKept → List Told → Type 0
LeadsOn c a At no_lanes noted kept l = At (Lanes 0) noted kept l → kept.tx_done ≡ true → At (Sides 0) noted kept l
LeadsOn c a At (has_items lane item items) noted kept l = At (Lanes lane) noted kept l → pending_at kept lane ≡ item ∷ items → At (Lane lane nothing_due) (busy_lane noted) kept l
LeadsOn c a At lanes_done noted kept l = At (Lanes (lanes_of c)) noted kept l → kept.tx_done ≡ false → At (Sides 0) noted kept l
LeadsOn c a At (has_frames side frame frames) noted kept l = At (Sides side) noted kept l → back_at kept side ≡ frame ∷ frames → At (Side side nothing_due) (busy_side noted) kept l
LeadsOn c a At (all_given side) noted kept l = At (Side side nothing_due) noted (with_back kept side []) l → Unit {0} → At (Sides (side + 1)) noted (with_back kept side []) l
LeadsOn c a At sides_done noted kept l = At (Sides 2) noted kept l → Unit {0} → At Ending noted kept l
LeadsOn c a At looks noted kept l = At Ending noted kept l → Looks noted kept → At (Looking 0) noted kept l
LeadsOn c a At rests noted kept l =
    At Ending noted kept l → (kept.tx_done ≡ false) × (both kept.seen ≡ true) × (may_tell noted kept ≡ false) → At (Looking 2) noted kept l
LeadsOn c a At (skips side) noted kept l = At (Looking side) noted kept l → is_set (flags_of kept) side ≡ true → At (Looking (side + 1)) noted kept l
LeadsOn c a At begins noted kept l = At (Looking 2) noted kept l → Unit {0} → At (Lanes 0) (noted_first kept) kept l
LeadsOn c a At (without_need place need pair) noted kept l = At (Waking place need pair) noted kept l → c.wakeup ≡ false → At place noted kept l
LeadsOn c a At (needs_none place need pair n) noted kept l = At (Looked place need pair n) noted kept l → eqb n 1 ≡ false → At place noted kept l
LeadsOn c a At (needs_kick place need pair n) noted kept l = At (Looked place need pair n) noted kept l → eqb n 1 ≡ true → At (Kicking place pair) noted kept l
LeadsOn c a At told_quietly noted kept l = At TxTold noted kept l → c.wakeup ≡ false → At (Looking 2) noted kept l
LeadsOn c a At told_both noted kept l = At TxTold noted kept l → c.wakeup ≡ true → At (Kicking (Kicking (Looking 2) (pair_of c a 1)) (pair_of c a 0)) noted kept l
LeadsOn c a At (closes shut) noted kept l = At (Lanes 0) noted kept l → (shut_of c a ≡ Some shut) × (may_close c shut kept ≡ true) × (kept.tx_done ≡ false) → At (Lowering shut 0) noted kept l
LeadsOn c a At (keeps_cell shut index) noted kept l =
    At (Lowering shut index) noted kept l → (index < length (shut_cells c shut)) × (eqb (slice_index (shut_cells c shut) index) (suc shut.socket) ≡ false) → At (Lowering shut (index + 1)) noted kept l
LeadsOn c a At (closed_quietly shut) noted kept l = At (Shutting shut) noted kept l → c.wakeup ≡ false → At (Lanes 0) noted kept l
LeadsOn c a At (closed_kicks shut) noted kept l = At (Shutting shut) noted kept l → (c.wakeup ≡ true) × (shut_of c a ≡ Some shut) → At (Kicking (Lanes 0) (pair_of c a shut.side)) noted kept l

-- where a socket may be closed, it isn't
not_true : (b : Bool) → not b ≡ true → b ≡ false
not_true true e = absurd (cc)
not_true false e = refl

is_fed : (c : Config) (shut : Shut) (kept : AppKept) → may_close c shut kept ≡ true → kept.begun ≡ false
is_fed c shut kept e =
    let first = (and_parts _ _ e).0 in
    let open_still = (and_parts _ _ first).0 in
    not_true kept.begun (and_parts _ _ open_still).0

-- ---- a law

-- what is said at each call, and at the end
abbrev pub Said : Type 1
Said = AppKept → Call → List Told → Type 0

abbrev pub AtCalls : Config → ℕ → Family → Said → Type 0
AtCalls c a At A = (p : Point) (noted : AppNoted) (kept : AppKept) (l : List Told) → Known c a p noted kept → At (asked c a p kept).0 noted (kept_before p kept) l → A (kept_at c a p kept) (call_at c a p kept) l

abbrev pub AtEntries : Config → ℕ → Premise AppKept → Family → Said → Type 0
AtEntries c a Q At A = (e : Entry) (noted : AppNoted) (kept : AppKept) (l : List Told) → Known c a (point_of e) noted kept
    → At (asked c a (point_of e) kept).0 noted (kept_before (point_of e) kept) l → A (kept_at c a (point_of e) kept) (call_at c a (point_of e) kept) l
    → Q (kept_at c a (point_of e) kept) l (call_at c a (point_of e) kept) (reply_of e)
    → At (leads c a e noted kept).0 (leads c a e noted kept).1 (leads c a e noted kept).2 (with_told l (call_at c a (point_of e) kept) (reply_of e))

abbrev pub AtSilent : Config → ℕ → Family → Type 0
AtSilent c a At = (p : Silent) (noted : AppNoted) (kept : AppKept) (l : List Told) → LeadsOn c a At p noted kept l

pub record IsLaw (c : Config) (a : ℕ) (Q : Premise AppKept) (At : Family) (A : Said) (E : AppKept → List Told → Type 0) : Type 0 where
  pub calls : AtCalls c a At A
  pub entries : AtEntries c a Q At A
  pub silent : AtSilent c a At
  pub ends : (noted : AppNoted) (kept : AppKept) (l : List Told) → (kept.tx_done ≡ true) × (is_over noted kept ≡ true) → At Ending noted kept l → E kept l

module _ (c : Config) (a : ℕ) (one : IsApp c a) (Q : Premise AppKept) (At : Family) (A : Said) (E : AppKept → List Told → Type 0) (is : IsLaw c a Q At A E) where
  abbrev pub law : Law AppKept
  law = record { begins = λ kept l. At (Lanes 0) (noted_first kept) kept l; asks = A; ends = E }

  abbrev pub Along : Script AppKept → List Told → Type 0
  Along s l = Holds Q law s l

  abbrev pub Continues : Stage → (AppNoted → AppKept → Script AppKept) → Type 0
  Continues place next = (noted : AppNoted) (kept : AppKept) (l : List Told) → At place noted kept l → Along (next noted kept) l

  -- while it still sends
  abbrev pub Sends : ℕ → AppNoted → (AppKept → Script AppKept) → Type 0
  Sends lane noted next = (kept : AppKept) (l : List Told) → kept.tx_done ≡ false → At (Lanes lane) noted kept l → Along (next kept) l

  -- ---- need-wakeup

  go_kick : (place : Stage) (pair : ℕ) (noted : AppNoted) (kept : AppKept) (next : Script AppKept) (l : List Told) → c.wakeup ≡ true → At (Kicking place pair) noted kept l
      → ((m : List Told) → At place noted kept m → Along next m) → Along (kick pair kept next) l
  go_kick place pair noted kept next l on h go =
      let call = Swap (Kick pair) 1 in
      let asked = is.calls (KickDriver place pair) noted kept l on h in
      (asked, at_old Q law kept call l (λ old. next) (λ n q. go (with_told l call (Old n)) (is.entries (kicked place pair n) noted kept l on h asked q)))

  go_wake : (place : Stage) (need : Mark) (pair : ℕ) (noted : AppNoted) (kept : AppKept) (next : Script AppKept) (l : List Told) → is_need need ≡ true
      → At (Waking place need pair) noted kept l → ((m : List Told) → At place noted kept m → Along next m) → Along (wake c need pair kept next) l
  go_wake place need pair noted kept next l flag h go = by_case Q law c.wakeup _ _ l
      (λ on.
      let call = Look need in
      let asked = is.calls (LookNeed place need pair) noted kept l (on, flag) h in (
        asked,
        at_old Q law kept call l (λ n. cond (eqb n 1) (kick pair kept next) next)
            (λ n q.
            let m = with_told l call (Old n) in
            let now = is.entries (looked_need place need pair n) noted kept l (on, flag) h asked q in
            by_case Q law (eqb n 1) _ _ m (λ e. go_kick place pair noted kept next m on (is.silent (needs_kick place need pair n) noted kept m now e) go)
            (λ e. go m (is.silent (needs_none place need pair n) noted kept m now e))),
      ))
      (λ off. go l (is.silent (without_need place need pair) noted kept l h off))

  -- ---- the lanes

  go_pass_on : (lane : ℕ) (noted : AppNoted) (kept : AppKept) (next : AppKept → Script AppKept) (l : List Told) → (lane < lanes_of c) × (kept.tx_done ≡ false) × (drains c a lane kept ≡ false)
      → At (Lane lane nothing_due) noted kept l → Sends (lane + 1) noted next → Along (pass_on c a lane kept next) l
  go_pass_on lane noted kept next l known h go =
      let items = pending_at kept lane in
      let call = Reserve (Tx (tx_of c a lane)) (length items) in
      let give = Submit (Tx (tx_of c a lane)) (given_on c lane kept) in
      let granted = with_told l call Granted in
      let left = passed_on c lane kept in
      let asked = is.calls (ReserveTx lane) noted kept l known h in (
        asked,
        at_reserve Q law kept call l (ask left give (on_submitted (wake c (NeedTx (tx_of c a lane)) (tx_pair c a lane) left (next left)))) (next kept)
            (λ q.
            let now = is.entries (tx_granted lane) noted kept l known h asked q in
            let gives = is.calls (SubmitTx lane) noted kept granted known now in (
              gives,
              at_submit Q law left give granted (wake c (NeedTx (tx_of c a lane)) (tx_pair c a lane) left (next left))
                  (λ r. go_wake (Lanes (lane + 1)) (NeedTx (tx_of c a lane)) (tx_pair c a lane) noted left (next left) (with_told granted give Submitted) refl
                  (is.entries (tx_submitted lane) noted kept granted known now gives r) (λ m now. go left m known.1 now)),
            ))
            (λ free q. go kept (with_told l call (Full free)) known.1 (is.entries (tx_full lane free) noted kept l known h asked q)),
      )

  pub go_lane : (lane : ℕ) (items : List Item) (noted : AppNoted) (kept : AppKept) (next : AppNoted → AppKept → Script AppKept) (l : List Told) → (lane < lanes_of c) × (kept.tx_done ≡ false) × (drains c a lane kept ≡ false)
      → pending_at kept lane ≡ items → At (Lanes lane) noted kept l → ((noted : AppNoted) → Sends (lane + 1) noted (next noted)) → Along (visit_lane c a lane items noted kept next) l
  go_lane lane [] noted kept next l known e h go =
      let r = Rx (rx_of c a lane) in
      let call = Peek r (batch_of c) in
      let full = busy_lane noted in
      let asked = is.calls (PeekRx lane) noted kept l (known.0, known.1, e, known.2) h in (
        asked,
        at_peek Q law kept call l (receive_lane c a lane kept (next full)) (next noted kept)
            (λ items q.
            let more = received c a lane kept items in
            let give = Release r (length items) in
            let peeked = with_told l call (Items items) in
            let now = is.entries (rx_items lane items) noted kept l (known.0, known.1, e, known.2) h asked q in
            let gives = is.calls (ReleaseRx lane (length items)) full more peeked known now in (
              gives,
              at_release Q law more give peeked (pass_on c a lane more (next full))
                  (λ r. go_pass_on lane full more (next full) (with_told peeked give Released) known (is.entries (rx_released lane (length items)) full more peeked known now gives r) (go full)),
            ))
            (λ q. go noted kept (with_told l call Empty) known.1 (is.entries (rx_empty lane) noted kept l (known.0, known.1, e, known.2) h asked q)),
      )
  go_lane lane (item ∷ items) noted kept next l known e h go =
      go_pass_on lane (busy_lane noted) kept (next (busy_lane noted)) l known (is.silent (has_items lane item items) noted kept l h e) (go (busy_lane noted))

  go_drain : (lane : ℕ) (noted : AppNoted) (kept : AppKept) (next : AppNoted → AppKept → Script AppKept) (l : List Told) → (lane < lanes_of c) × (kept.tx_done ≡ false) × (drains c a lane kept ≡ true)
      → At (Lanes lane) noted kept l → ((noted : AppNoted) → Sends (lane + 1) noted (next noted)) → Along (drain_lane c a lane noted kept next) l
  go_drain lane noted kept next l known h go =
      let r = Rx (rx_of c a lane) in
      let call = Peek r (batch_of c) in
      let full = busy_lane noted in
      let asked = is.calls (PeekDrain lane) noted kept l known h in (
        asked,
        at_peek Q law kept call l (λ items. ask (drained c lane kept items) (Release r (length items)) (on_released (next full (drained c lane kept items)))) (next noted kept)
            (λ items q.
            let more = drained c lane kept items in
            let give = Release r (length items) in
            let peeked = with_told l call (Items items) in
            let now = is.entries (drain_items lane items) noted kept l known h asked q in
            let gives = is.calls (ReleaseDrain lane (length items)) full more peeked known now in (
              gives,
              at_release Q law more give peeked (next full more)
                  (λ r. go full more (with_told peeked give Released) known.1 (is.entries (drain_released lane (length items)) full more peeked known now gives r)),
            ))
            (λ q. go noted kept (with_told l call Empty) known.1 (is.entries (drain_empty lane) noted kept l known h asked q)),
      )

  go_lanes : (more lane : ℕ) (noted : AppNoted) (kept : AppKept) (next : AppNoted → AppKept → Script AppKept) (l : List Told) → lane + more ≡ lanes_of c → kept.tx_done ≡ false
      → At (Lanes lane) noted kept l → Continues (Sides 0) next → Along (visit_lanes c a more lane noted kept next) l
  go_lanes zero lane noted kept next l e sends h go =
      let all : lane ≡ lanes_of c = omega (arith, e) in go noted kept l (is.silent lanes_done noted kept l (subst (λ k. At (Lanes k) noted kept l) all h) sends)
  go_lanes (suc more) lane noted kept next l e sends h go =
      let rest = λ (noted : AppNoted) (kept : AppKept) (l : List Told) (sends : kept.tx_done ≡ false) (h : At (Lanes (lane + 1)) noted kept l). go_lanes more (lane + 1) noted kept next l (omega (arith, e)) sends h go in
      by_case Q law (drains c a lane kept) _ _ l
      (λ f. go_drain lane noted kept (λ noted kept. visit_lanes c a more (lane + 1) noted kept next) l (omega (arith, e), sends, f) h rest)
      (λ f. go_lane lane (pending_at kept lane) noted kept (λ noted kept. visit_lanes c a more (lane + 1) noted kept next) l (omega (arith, e), sends, f) refl h rest)

  -- ---- the sides

  go_give : (side done : ℕ) (frames : List Frame) (noted : AppNoted) (kept : AppKept) (next : AppNoted → AppKept → Script AppKept) (l : List Told) → side < 2
      → At (Side side nothing_due) noted (with_back kept side (drop done frames)) l → Continues (Sides (side + 1)) next → Along (give_back c side done frames kept (next noted)) l
  go_give side zero [] noted kept next l below h go = go noted (with_back kept side []) l (is.silent (all_given side) noted kept l h tt)
  go_give side (suc done) [] noted kept next l below h go = go noted (with_back kept side []) l (is.silent (all_given side) noted kept l h tt)
  go_give side (suc done) (frame ∷ frames) noted kept next l below h go = go_give side done frames noted kept next l below h go
  go_give side zero (frame ∷ frames) noted kept next l below h go =
      let n = length (group c frame frames) in
      let home = home_of (pool_of c) frame in
      let now = with_back kept side (frame ∷ frames) in
      let left = with_back kept side (drop n (frame ∷ frames)) in
      let call = Reserve (Fill home) n in
      let give = Submit (Fill home) (map (home_item c.geometry) (group c frame frames)) in
      let granted = with_told l call Granted in
      let fewer = shorter n frame frames (group_some (pool_of c) (batch_of c) frame frames (batch_some c one.config)) in
      let asked = is.calls (ReserveFill side frame frames) noted kept l below h in (
        asked,
        at_reserve Q law now call l (ask left give (on_submitted (wake c (NeedFill home) home left (give_back c side (n - 1) frames kept (next noted))))) (next noted now)
            (λ q.
            let has = is.entries (fill_granted side frame frames) noted kept l below h asked q in
            let gives = is.calls (SubmitFill side frame frames) noted kept granted below has in (
              gives,
              at_submit Q law left give granted (wake c (NeedFill home) home left (give_back c side (n - 1) frames kept (next noted)))
                  (λ r. go_wake (Side side nothing_due) (NeedFill home) home noted left (give_back c side (n - 1) frames kept (next noted)) (with_told granted give Submitted) refl
                  (is.entries (fill_submitted side frame frames) noted kept granted below has gives r)
                  (λ m now. go_give side (n - 1) frames noted kept next m below (subst (λ fs. At (Side side nothing_due) noted (with_back kept side fs) m) fewer now) go)),
            ))
            (λ free q. go noted now (with_told l call (Full free)) (is.entries (fill_full side frame frames free) noted kept l below h asked q)),
      )

  pub go_side : (side : ℕ) (frames : List Frame) (noted : AppNoted) (kept : AppKept) (next : AppNoted → AppKept → Script AppKept) (l : List Told) → side < 2
      → back_at kept side ≡ frames → At (Sides side) noted kept l → Continues (Sides (side + 1)) next → Along (visit_side c a side frames noted kept next) l
  go_side side [] noted kept next l below e h go =
      let r = Comp (pair_of c a side) in
      let call = Peek r (batch_of c) in
      let full = busy_side noted in
      let asked = is.calls (PeekComp side) noted kept l (below, e) h in (
        asked,
        at_peek Q law kept call l (complete_side c a side kept (next full)) (next noted kept)
            (λ items q.
            let frames = frames_in items in
            let more = with_back kept side frames in
            let give = Release r (length items) in
            let peeked = with_told l call (Items items) in
            let given = with_told peeked give Released in
            let now = is.entries (comp_items side items) noted kept l (below, e) h asked q in
            let gives = is.calls (ReleaseComp side (length items)) full more peeked below now in (
              gives,
              at_release Q law more give peeked (give_back c side zero frames more (next full))
                  (λ r. go_give side zero frames full more next given below
                  (subst (λ k. At (Side side nothing_due) full k given) (sym (with_back-again kept side frames frames)) (is.entries (comp_released side (length items)) full more peeked below now gives r)) go),
            ))
            (λ q. go noted kept (with_told l call Empty) (is.entries (comp_empty side) noted kept l (below, e) h asked q)),
      )
  go_side side (frame ∷ frames) noted kept next l below e h go =
      let same : with_back kept side (frame ∷ frames) ≡ kept = ap (with_back kept side) (sym e) ∙ with_back-same kept side in
      go_give side zero (frame ∷ frames) (busy_side noted) kept next l below
      (subst (λ k. At (Side side nothing_due) (busy_side noted) k l) (sym same) (is.silent (has_frames side frame frames) noted kept l h e)) go

  go_sides : (more side : ℕ) (noted : AppNoted) (kept : AppKept) (next : AppNoted → AppKept → Script AppKept) (l : List Told) → side + more ≡ 2
      → At (Sides side) noted kept l → Continues Ending next → Along (visit_sides c a more side noted kept next) l
  go_sides zero side noted kept next l e h go =
      let all : side ≡ 2 = omega (arith, e) in go noted kept l (is.silent sides_done noted kept l (subst (λ k. At (Sides k) noted kept l) all h) tt)
  go_sides (suc more) side noted kept next l e h go =
      go_side side (back_at kept side) noted kept (λ noted kept. visit_sides c a more (side + 1) noted kept next) l (omega (arith, e)) refl h
      (λ noted kept l h. go_sides more (side + 1) noted kept next l (omega (arith, e)) h go)

  -- ---- the end

  go_marks : (flags : AppKept → List Bool) (mark : ℕ → Mark) (with_flag : AppKept → ℕ → ℕ → AppKept) (IsFor : AppKept → Type 0) (noted : AppNoted)
      → ((side n : ℕ) (kept : AppKept) → IsFor kept → IsFor (with_flag kept side n)) → ((kept : AppKept) → IsFor kept → flags_of kept ≡ flags kept)
      → ((side : ℕ) (kept : AppKept) (l : List Told) → side < 2 → is_set (flags kept) side ≡ false → IsFor kept → At (Looking side) noted kept l
      → A kept (Look (mark side)) l × ((n : ℕ) → Q kept l (Look (mark side)) (Old n) → At (Looking (side + 1)) noted (with_flag kept side n) (with_told l (Look (mark side)) (Old n))))
      → (more side : ℕ) (kept : AppKept) (l : List Told) → side + more ≡ 2 → IsFor kept → At (Looking side) noted kept l → Along (look_marks flags mark with_flag more side kept) l
  go_marks flags mark with_flag IsFor noted stays same step zero side kept l e is_for h =
      let all : side ≡ 2 = omega (arith, e) in is.silent begins noted kept l (subst (λ k. At (Looking k) noted kept l) all h) tt
  go_marks flags mark with_flag IsFor noted stays same step (suc more) side kept l e is_for h =
      let on = go_marks flags mark with_flag IsFor noted stays same step more (side + 1) in
      by_case Q law (is_set (flags kept) side) _ _ l (λ f. on kept l (omega (arith, e)) is_for (is.silent (skips side) noted kept l h (ap (λ fs. is_set fs side) (same kept is_for) ∙ f)))
      (λ f.
      let now = step side kept l (omega (arith, e)) f is_for h in (
        now.0,
        at_old Q law kept (Look (mark side)) l (λ n. look_marks flags mark with_flag more (side + 1) (with_flag kept side n))
            (λ n q. on (with_flag kept side n) (with_told l (Look (mark side)) (Old n)) (omega (arith, e)) (stays side n kept is_for) (now.1 n q)),
      ))

  seen_for : (side n : ℕ) (kept : AppKept) → kept.tx_done ≡ false → (with_seen kept side n).tx_done ≡ false
  seen_for side n kept e = by (eqb n 1)
    where
      by : (b : Bool) → (let k : AppKept = cond b (record kept { seen = set kept.seen side true }) kept in k.tx_done ≡ false)
      by true = e
      by false = e

  gone_for : (side n : ℕ) (kept : AppKept) → kept.tx_done ≡ true → (with_gone kept side n).tx_done ≡ true
  gone_for side n kept e = by (eqb n 1)
    where
      by : (b : Bool) → (let k : AppKept = cond b (record kept { gone = set kept.gone side true }) kept in k.tx_done ≡ true)
      by true = e
      by false = e

  pub go_rx_done : (noted : AppNoted) (kept : AppKept) (l : List Told) → kept.tx_done ≡ false → At (Looking 0) noted kept l → Along (look_rx_done c a 2 0 kept) l
  go_rx_done noted kept l sends h =
      go_marks (λ (k : AppKept). k.seen) (λ side. RxDone (pair_of c a side)) with_seen (λ k. k.tx_done ≡ false) noted seen_for (λ k e. ap (λ b. cond b k.gone k.seen) e)
      (λ side kept l below f e h. let asked = is.calls (LookRxDone side) noted kept l (below, f, e) h in (asked, λ n q. is.entries (looked_rx_done side n) noted kept l (below, f, e) h asked q)) 2 0 kept l refl sends h

  go_gone : (noted : AppNoted) (kept : AppKept) (l : List Told) → kept.tx_done ≡ true → At (Looking 0) noted kept l → Along (look_gone c a 2 0 kept) l
  go_gone noted kept l done h =
      go_marks (λ (k : AppKept). k.gone) (λ side. Gone (pair_of c a side)) with_gone (λ k. k.tx_done ≡ true) noted gone_for (λ k e. ap (λ b. cond b k.gone k.seen) e)
      (λ side kept l below f e h. let asked = is.calls (LookGone side) noted kept l (below, f, e) h in (asked, λ n q. is.entries (looked_gone side n) noted kept l (below, f, e) h asked q)) 2 0 kept l refl done h

  go_wake_both : (noted : AppNoted) (kept : AppKept) (l : List Told) → At TxTold noted kept l → Along (wake_both c a kept) l
  go_wake_both noted kept l h = by_case Q law c.wakeup _ _ l
      (λ on. go_kick (Kicking (Looking 2) (pair_of c a 1)) (pair_of c a 0) noted kept _ l on (is.silent told_both noted kept l h on)
      (λ m now. go_kick (Looking 2) (pair_of c a 1) noted kept (again kept) m on now (λ k over. is.silent begins noted kept k over tt)))
      (λ off. is.silent begins noted kept l (is.silent told_quietly noted kept l h off) tt)

  go_end_by : Continues Ending (end_by c a)
  go_end_by noted kept l h =
      let call = Swap (TxDone a) 1 in
      let told : AppKept = record kept { tx_done = true } in
      by_case Q law kept.tx_done _ _ l
      (λ done. by_case Q law (is_over noted kept) _ _ l (λ e. is.ends noted kept l (done, e) h) (λ e. go_gone noted kept l done (is.silent looks noted kept l h (inr (done, e)))))
      (λ sends. by_case Q law (both kept.seen) _ _ l
      (λ e. by_case Q law (may_tell noted kept) _ _ l
      (λ f.
      let asked = is.calls TellTxDone noted kept l (sends, f) h in (
        asked,
        at_old Q law kept call l (λ old. wake_both c a told)
            (λ n q. go_wake_both noted told (with_told l call (Old n)) (is.entries (told_tx_done n) noted kept l (sends, f) h asked q)),
      ))
      (λ f. is.silent begins noted kept l (is.silent rests noted kept l h (sends, e, f)) tt))
      (λ e. go_rx_done noted kept l sends (is.silent looks noted kept l h (inl (sends, e)))))

  go_acked : (o : Option Shut) (noted : AppNoted) (kept : AppKept) (l : List Told) → shut_of c a ≡ o → At Ending noted kept l → Along (look_acked o kept (end_by c a noted)) l
  go_acked None noted kept l e h = go_end_by noted kept l h
  go_acked (Some shut) noted kept l e h =
      by_case Q law (kept.begun && not kept.acked) _ _ l
      (λ f.
      let known : (shut_of c a ≡ Some shut) × (kept.begun ≡ true) × (kept.acked ≡ false) = (e, (and_parts kept.begun (not kept.acked) f).0, not_true kept.acked (and_parts kept.begun (not kept.acked) f).1) in
      let asked = is.calls (LookAcked shut) noted kept l known h in (
        asked,
        at_old Q law kept (Look (Acked shut.socket)) l (λ n. end_by c a noted (with_acked kept n))
            (λ n q. go_end_by noted (with_acked kept n) (with_told l (Look (Acked shut.socket)) (Old n)) (is.entries (looked_acked shut n) noted kept l known h asked q)),
      ))
      (λ f. go_end_by noted kept l h)

  go_end : Continues Ending (end_turn c a)
  go_end noted kept l h = go_acked (shut_of c a) noted kept l refl h

  go_turn_sides : Continues (Sides 0) (turn_sides c a)
  go_turn_sides noted kept l h = go_sides 2 0 noted kept (end_turn c a) l refl h go_end

  -- ---- closing a socket

  go_turn_lanes : (kept : AppKept) (l : List Told) → kept.tx_done ≡ false → At (Lanes 0) (noted_first kept) kept l → Along (turn_lanes c a kept) l
  go_turn_lanes kept l sends h = go_lanes (lanes_of c) 0 (noted_first kept) kept (turn_sides c a) l (omega arith) sends h go_turn_sides

  go_tell_closing : (shut : Shut) (kept : AppKept) (l : List Told) → shut_of c a ≡ Some shut → kept.begun ≡ false → kept.tx_done ≡ false
      → At (Lowering shut (length (shut_cells c shut))) (noted_first kept) kept l → Along (tell_closing c a shut kept (turn_lanes c a)) l
  go_tell_closing shut kept l e f sends h =
      let call = Swap (Closing shut.socket) 1 in
      let now = with_begun kept in
      let noted = noted_first kept in
      let pair = pair_of c a shut.side in
      let asked = is.calls (TellClosing shut) noted kept l (e, f, sends) h in (
        asked,
        at_old Q law kept call l (λ old. wake_closed c pair now (turn_lanes c a now))
            (λ n q.
            let m = with_told l call (Old n) in
            let told = is.entries (told_closing shut n) noted kept l (e, f, sends) h asked q in
            by_case Q law c.wakeup _ _ m
            (λ on. go_kick (Lanes 0) pair noted now (turn_lanes c a now) m on (is.silent (closed_kicks shut) noted now m told (on, e)) (λ k over. go_turn_lanes now k sends over))
            (λ off. go_turn_lanes now m sends (is.silent (closed_quietly shut) noted now m told off))),
      )

  go_lower : (shut : Shut) (more index : ℕ) (kept : AppKept) (l : List Told) → index + more ≡ length (shut_cells c shut) → shut_of c a ≡ Some shut → kept.begun ≡ false → kept.tx_done ≡ false
      → At (Lowering shut index) (noted_first kept) kept l → Along (lower_cells c shut.socket more index kept (tell_closing c a shut kept (turn_lanes c a))) l
  go_lower shut zero index kept l all e f sends h =
      let here : index ≡ length (shut_cells c shut) = omega (arith, all) in
      go_tell_closing shut kept l e f sends (subst (λ k. At (Lowering shut k) (noted_first kept) kept l) here h)
  go_lower shut (suc more) index kept l all e f sends h =
      let noted = noted_first kept in
      let call = Swap (Cell (shut_port c shut) index) 0 in
      let below : index < length (shut_cells c shut) = omega (arith, all) in
      let next : (index + 1) + more ≡ length (shut_cells c shut) = omega (arith, all) in
      by_case Q law (eqb (slice_index (shut_cells c shut) index) (suc shut.socket)) _ _ l
      (λ g.
      let asked = is.calls (LowerCell shut index) noted kept l (e, f, sends, below, g) h in (
        asked,
        at_old Q law kept call l (λ old. lower_cells c shut.socket more (index + 1) kept (tell_closing c a shut kept (turn_lanes c a)))
            (λ n q. go_lower shut more (index + 1) kept (with_told l call (Old n)) next e f sends (is.entries (lowered shut index n) noted kept l (e, f, sends, below, g) h asked q)),
      ))
      (λ g. go_lower shut more (index + 1) kept l next e f sends (is.silent (keeps_cell shut index) noted kept l h (below, g)))

  go_close : (o : Option Shut) (kept : AppKept) (l : List Told) → shut_of c a ≡ o → kept.tx_done ≡ false → At (Lanes 0) (noted_first kept) kept l → Along (close_first c a o kept (turn_lanes c a)) l
  go_close None kept l e sends h = go_turn_lanes kept l sends h
  go_close (Some shut) kept l e sends h =
      by_case Q law (may_close c shut kept) _ _ l
      (λ f. go_lower shut (length (shut_cells c shut)) 0 kept l (omega arith) e (is_fed c shut kept f) sends (is.silent (closes shut) (noted_first kept) kept l h (e, f, sends)))
      (λ f. go_turn_lanes kept l sends h)

  pub go_turn : (kept : AppKept) (l : List Told) → At (Lanes 0) (noted_first kept) kept l → Along (app_turn c a kept) l
  go_turn kept l h =
      by_case Q law kept.tx_done _ _ l (λ done. go_turn_sides (noted_first kept) kept l (is.silent no_lanes (noted_first kept) kept l h done))
      (λ sends. go_close (shut_of c a) kept l refl sends h)

  -- ---- runs

  module _ (begins : AppKept) (first : At (Lanes 0) (noted_first begins) begins []) (l : List Told) (meets : MeetAlong (app_turn c a) Q (app_turn c a begins) [] l) where
    -- what it says where a list stops
    pub at_call : (kept : AppKept) (call : Call) (rest : Reply → Script AppKept) → Asks (app_turn c a) begins l kept call rest → A kept call l
    at_call kept call rest asks = says_left Q law (app_turn c a) go_turn begins l (ask kept call rest) first meets asks

    pub at_end : (kept : AppKept) → Ends (app_turn c a) begins l kept → E kept l
    at_end kept ends = says_left Q law (app_turn c a) go_turn begins l (ended kept) first meets ends

    -- what it says of each run
    pub of_run : (I : List Told → Type 0) → ((kept : AppKept) (m : List Told) → At (Lanes 0) (noted_first kept) kept m → I m) → ((kept : AppKept) (call : Call) (m : List Told) → A kept call m → I m) → ((kept : AppKept) (m : List Told) → E kept m → I m)
        → IsRun (app_turn c a) begins l → I l
    of_run I x y z run = says_run Q law (app_turn c a) go_turn I x y z begins l first meets run
