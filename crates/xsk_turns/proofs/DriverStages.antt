-- The places of a driver's turn, its calls and what each reply makes of them, in tables; and what a law says at them.
use Rattle.std.proofs.Common.{◌≡◌, ◌⊎◌, ℕ, suc, ◌+◌, ◌-◌, ◌%◌, ◌<◌, Bool, true, false, cond, ◌||◌, nat_lt, nat_le, eqb, Option, Some, None, List, [], ◌∷◌, length, map, take, drop, refl, subst}
use Rattle.xsk_turns.proofs.Calls.{Item, Told, with_told, Fill, Comp, Rx, Tx, NeedFill, NeedTx, Kick, RxDone, Gone, TxDone, Cell, BouncedMark, Call, Reserve, Submit, Peek, Release, Swap, Look, Reply, Granted, Full, Submitted, Items, Empty, Released, Old}
use Rattle.xsk_model.specs.Config.{map_of}
use Rattle.xsk_turns.specs.Turns.{Seat, Judged, Kept, Noted, fresh, awaits, drops, moved, stopped, lacks, settled, dropped, disposal_by, disposal_untried, supplied, with_rx_full, with_fill_empty, with_tx_empty, socket_of, application_of, bounces, bounced_among, cell_of, redirect_to, limit_of, pieces_of, laid_out, returned, gathered, woken, closing_of, with_acked}
use Rattle.xsk_model.specs.declared.call.Mark.TheVariants.{Closing, Acked}
use Rattle.xsk_turns.specs.declared.disposal.Disposal.{Disposal}
use Rattle.xsk_turns.specs.declared.disposal.Disposal.TheVariants.{Delivered, NoFrames, RxFull, TooLong, Runt, Missed, Passed, Dropped, Bounced}
use Rattle.xsk_prog.specs.declared.rule.Verdict.{Verdict}
use Rattle.xsk_prog.specs.declared.rule.Verdict.TheVariants.{Drop, Pass as PassOn, Redirect, Bounce}
use Rattle.xsk_umem.specs.Frame.{Frame}
use Rattle.xsk_turns.proofs.Walks.{Premise, Due, nothing_due, submit_due, release_due}

-- ---- packets that are tried, and those that aren't

-- a packet that is tried is long enough, and there is a cell of its verdict
long_if : (short : Bool) (rest : Option Disposal) → cond short (Some Runt) rest ≡ None → (short ≡ false) × (rest ≡ None)
long_if true rest e = absurd (cc)
long_if false rest e = (refl, e)

known_if : (beyond : Bool) → cond beyond (Some Missed) None ≡ None → beyond ≡ false
known_if true e = absurd (cc)
known_if false e = refl

cell_by : (seat : Seat) (verdict : Verdict) → disposal_by seat verdict ≡ None → bounces verdict ≡ false → nat_le (length (map_of seat.config seat.port)) (cell_of verdict) ≡ false
cell_by seat Drop e f = absurd (cc)
cell_by seat PassOn e f = absurd (cc)
cell_by seat (Redirect cell) e f = known_if (nat_le (length (map_of seat.config seat.port)) cell) e
cell_by seat Bounce e f = absurd (cc)

pub tried_long : (seat : Seat) (packet : Judged) → disposal_untried seat packet ≡ None → nat_lt (length packet.bytes) 14 ≡ false
tried_long seat packet e = (long_if (nat_lt (length packet.bytes) 14) (disposal_by seat packet.verdict) e).0

pub tried_cell : (seat : Seat) (packet : Judged) → disposal_untried seat packet ≡ None → bounces packet.verdict ≡ false → nat_le (length (map_of seat.config seat.port)) (cell_of packet.verdict) ≡ false
tried_cell seat packet e f = cell_by seat packet.verdict (long_if (nat_lt (length packet.bytes) 14) (disposal_by seat packet.verdict) e).1 f

-- what holds of the four disposals of packets that aren't
module _ (P : Disposal → Type 0) (runt : P Runt) (missed : P Missed) (passed : P Passed) (dropped : P Dropped) where
  beyond_has : (beyond : Bool) (d : Disposal) → cond beyond (Some Missed) None ≡ Some d → P d
  beyond_has true d e = subst P (let same : Missed ≡ d = cc in same) missed
  beyond_has false d e = absurd (cc)

  verdict_has : (seat : Seat) (verdict : Verdict) (d : Disposal) → disposal_by seat verdict ≡ Some d → P d
  verdict_has seat Drop d e = subst P (let same : Dropped ≡ d = cc in same) dropped
  verdict_has seat PassOn d e = subst P (let same : Passed ≡ d = cc in same) passed
  verdict_has seat (Redirect cell) d e = beyond_has (nat_le (length (map_of seat.config seat.port)) cell) d e
  verdict_has seat Bounce d e = absurd (cc)

  short_has : (short : Bool) (seat : Seat) (verdict : Verdict) (d : Disposal) → cond short (Some Runt) (disposal_by seat verdict) ≡ Some d → P d
  short_has true seat verdict d e = subst P (let same : Runt ≡ d = cc in same) runt
  short_has false seat verdict d e = verdict_has seat verdict d e

  pub untried_has : (seat : Seat) (packet : Judged) (d : Disposal) → disposal_untried seat packet ≡ Some d → P d
  untried_has seat packet d e = short_has (nat_lt (length packet.bytes) 14) seat packet.verdict d e

-- ---- the places of a turn, and its calls

-- which look at its rings it is: that of a turn, or the second one, before the driver is parked
pub data Which : Type 0 where
  Turning : Which
  Again : Which

-- a driver starts a turn, has seen its socket closed, receives, tries a packet that goes to a socket, has too few frames for it or no room on RX, sends once so many
-- classes are visited, or is idle; it sets its flags, and then it looks at FILL for the packet and at the classes again; it is
-- parked, or has seen its kick, each with FILL's flag or without; or it clears its flags, FILL's first, or once those of so
-- many classes are cleared
pub data Stage : Type 0 where
  Starting : Stage
  Acking : Stage
  Receiving : Stage
  Trying : Which → Judged → ℕ → Due → Stage
  Lacking : Which → Judged → ℕ → Bool → Stage
  Sending : Which → ℕ → Due → Stage
  Idling : Stage
  Arming : ℕ → Stage
  Parked : Bool → Stage
  Woken : Bool → Stage
  Disarming : Bool → ℕ → Stage

-- what holds at a place
abbrev pub Family : Type 1
Family = Stage → Noted → Kept → List Told → Type 0

-- where a turn begins
abbrev pub first_place : Option Bool → Stage
first_place None = Starting
first_place (Some frames) = Parked frames

abbrev pub Begins : Family → Kept → List Told → Type 0
Begins At kept l = At (first_place kept.parked) fresh kept l

-- a call, by which look it is, by the packet and its socket, by the class and the finished packets, or by the class
pub data Point : Type 0 where
  LookClosing : ℕ → Point
  TellAcked : ℕ → Point
  TellRxDone : Point
  TellBounced : Judged → Point
  LookCell : Judged → Point
  PeekFill : Which → Judged → ℕ → Point
  ReleaseFill : Which → Judged → ℕ → ℕ → Point
  ReserveRx : Judged → ℕ → Point
  SubmitRx : Judged → ℕ → Point
  ReserveComp : ℕ → List Item → List (List Item) → Point
  SubmitComp : ℕ → List Item → List (List Item) → Point
  PeekTx : Which → ℕ → Point
  ReleaseTx : Which → ℕ → ℕ → Point
  LookTxDone : Point
  TellGone : Point
  ArmFill : Point
  ArmTx : ℕ → Point
  LookEnd : Point
  LookKick : Bool → Point
  ClearKick : Bool → Point
  DisarmFill : Point
  DisarmTx : ℕ → Point

-- where each call is given, the call, and what is kept once it is given: a Submit takes its frames along
abbrev pub asked : Seat → Point → Kept → Stage × Call × Kept
asked seat (LookClosing s) kept = (Starting, Look (Closing s), kept)
asked seat (TellAcked s) kept = (Acking, Swap (Acked s) 1, kept)
asked seat TellRxDone kept = (Receiving, Swap (RxDone seat.pair) 1, kept)
asked seat (TellBounced packet) kept = (Receiving, Swap (BouncedMark seat.pair) (suc (bounced_among kept.disposals)), kept)
asked seat (LookCell packet) kept = (Receiving, Look (Cell seat.port (cell_of packet.verdict)), kept)
asked seat (PeekFill look packet s) kept = (Trying look packet s nothing_due, Peek (Fill seat.pair) (pieces_of seat packet.bytes - length kept.spare), kept)
asked seat (ReleaseFill look packet s n) kept = (Trying look packet s (release_due (Fill seat.pair) n), Release (Fill seat.pair) n, kept)
asked seat (ReserveRx packet s) kept = (Trying Turning packet s nothing_due, Reserve (Rx s) (pieces_of seat packet.bytes), kept)
asked seat (SubmitRx packet s) kept = (Trying Turning packet s (submit_due (Rx s) (pieces_of seat packet.bytes)), Submit (Rx s) (laid_out seat.config.geometry packet.bytes (take (pieces_of seat packet.bytes) kept.spare)), record kept { spare = drop (pieces_of seat packet.bytes) kept.spare })
asked seat (ReserveComp k packet later) kept = (Sending Turning k nothing_due, Reserve (Comp seat.pair) (length packet), kept)
asked seat (SubmitComp k packet later) kept = (Sending Turning k (submit_due (Comp seat.pair) (length packet)), Submit (Comp seat.pair) (map returned packet), record kept { finished = later })
asked seat (PeekTx look k) kept = (Sending look k nothing_due, Peek (Tx (socket_of seat k)) seat.batch, kept)
asked seat (ReleaseTx look k n) kept = (Sending look (k + 1) (release_due (Tx (socket_of seat k)) n), Release (Tx (socket_of seat k)) n, kept)
asked seat LookTxDone kept = (Idling, Look (TxDone (application_of seat)), kept)
asked seat TellGone kept = (Idling, Swap (Gone seat.pair) 1, kept)
asked seat ArmFill kept = (Idling, Swap (NeedFill seat.pair) 1, kept)
asked seat (ArmTx k) kept = (Arming k, Swap (NeedTx (socket_of seat k)) 1, kept)
asked seat LookEnd kept = (Sending Again seat.classes nothing_due, Look (TxDone (application_of seat)), kept)
asked seat (LookKick frames) kept = (Parked frames, Look (Kick seat.pair), kept)
asked seat (ClearKick frames) kept = (Woken frames, Swap (Kick seat.pair) 0, kept)
asked seat DisarmFill kept = (Disarming true 0, Swap (NeedFill seat.pair) 0, kept)
asked seat (DisarmTx k) kept = (Disarming false k, Swap (NeedTx (socket_of seat k)) 0, kept)

abbrev pub call_at : Seat → Point → Kept → Call
call_at seat p kept = (asked seat p kept).1

abbrev pub kept_at : Seat → Point → Kept → Kept
kept_at seat p kept = (asked seat p kept).2

-- the next packet bounces, and is long enough
pub record IsBouncing (seat : Seat) (coming : List Judged) (packet : Judged) : Type 0 where
  pub later : List Judged
  pub is : coming ≡ packet ∷ later
  pub none : disposal_untried seat packet ≡ None
  pub long : nat_lt (length packet.bytes) 14 ≡ false
  pub bounces : bounces packet.verdict ≡ true

-- the next packet is tried: it is long enough and goes to a cell, which redirected it to the socket, and fits it
pub record IsNext (seat : Seat) (coming : List Judged) (packet : Judged) : Type 0 where
  pub later : List Judged
  pub is : coming ≡ packet ∷ later
  pub none : disposal_untried seat packet ≡ None
  pub stays : bounces packet.verdict ≡ false
  pub long : nat_lt (length packet.bytes) 14 ≡ false
  pub cell : nat_le (length (map_of seat.config seat.port)) (cell_of packet.verdict) ≡ false

pub record IsTried (seat : Seat) (Q : Premise Kept) (coming : List Judged) (packet : Judged) (s : ℕ) : Type 0 where
  pub next : IsNext seat coming packet
  pub number : ℕ
  pub looked : (kept : Kept) × (l : List Told) × Q kept l (Look (Cell seat.port (cell_of packet.verdict))) (Old number)
  pub target : redirect_to seat.config seat.port seat.queue number ≡ Some s
  pub fits : nat_lt (limit_of seat) (length packet.bytes) ≡ false

-- the next packet lacks so many frames
pub record IsLacking (seat : Seat) (Q : Premise Kept) (n : ℕ) (coming : List Judged) (spare : List Frame) : Type 0 where
  pub packet : Judged
  pub socket : ℕ
  pub tried : IsTried seat Q coming packet socket
  pub few : nat_le (pieces_of seat packet.bytes) (length spare) ≡ false
  pub is : n ≡ pieces_of seat packet.bytes - length spare

-- what is known where a call is given
abbrev pub Known : Seat → Premise Kept → Point → Noted → Kept → Type 0
Known seat Q (LookClosing s) noted kept = (closing_of seat ≡ Some s) × (kept.acked ≡ false)
Known seat Q (TellAcked s) noted kept = (closing_of seat ≡ Some s) × (kept.acked ≡ false)
Known seat Q TellRxDone noted kept = (kept.coming ≡ []) × (kept.rx_done ≡ false)
Known seat Q (TellBounced packet) noted kept = IsBouncing seat kept.coming packet
Known seat Q (LookCell packet) noted kept = IsNext seat kept.coming packet
Known seat Q (PeekFill look packet s) noted kept = IsTried seat Q kept.coming packet s × (nat_le (pieces_of seat packet.bytes) (length kept.spare) ≡ false)
Known seat Q (ReleaseFill look packet s n) noted kept = IsTried seat Q kept.coming packet s
Known seat Q (ReserveRx packet s) noted kept = IsTried seat Q kept.coming packet s × (nat_le (pieces_of seat packet.bytes) (length kept.spare) ≡ true)
Known seat Q (SubmitRx packet s) noted kept = IsTried seat Q kept.coming packet s × (nat_le (pieces_of seat packet.bytes) (length kept.spare) ≡ true)
Known seat Q (ReserveComp k packet later) noted kept = kept.finished ≡ packet ∷ later
Known seat Q (SubmitComp k packet later) noted kept = kept.finished ≡ packet ∷ later
Known seat Q (PeekTx look k) noted kept = (k < seat.classes) × (look ≡ Turning → kept.finished ≡ [])
Known seat Q (ReleaseTx look k n) noted kept = k < seat.classes
Known seat Q LookTxDone noted kept = (kept.rx_done ≡ true) × (kept.tx_done ≡ false)
Known seat Q TellGone noted kept = (noted.progress ≡ false) × (noted.full ≡ false) × (kept.tx_done ≡ true)
Known seat Q ArmFill noted kept = (noted.full ≡ false) × (awaits noted ≡ true) × (kept.tx_done ≡ false) × (noted.progress ≡ false) × (seat.config.wakeup ≡ true)
Known seat Q (ArmTx k) noted kept = k < seat.classes
Known seat Q LookEnd noted kept = (noted.progress ≡ false) × (kept.rx_done ≡ true)
Known seat Q (LookKick frames) noted kept = kept.parked ≡ Some frames
Known seat Q (ClearKick frames) noted kept = kept.parked ≡ None
Known seat Q DisarmFill noted kept = kept.parked ≡ None
Known seat Q (DisarmTx k) noted kept = (kept.parked ≡ None) × (k < seat.classes)

-- ---- what each reply makes of it

-- the entries, each a call and its reply
pub data Entry : Type 0 where
  saw_fed : ℕ → ℕ → Entry
  saw_closed : ℕ → ℕ → Entry
  told_acked : ℕ → ℕ → Entry
  told_rx_done : ℕ → Entry
  told_bounced : Judged → ℕ → Entry
  looked_none : Judged → ℕ → Entry
  looked_long : Judged → ℕ → ℕ → Entry
  looked_some : Judged → ℕ → ℕ → Entry
  fill_empty : Which → Judged → ℕ → Entry
  fill_items : Which → Judged → ℕ → List Item → Entry
  fill_released : Which → Judged → ℕ → ℕ → Entry
  rx_granted : Judged → ℕ → Entry
  rx_full : Judged → ℕ → ℕ → Entry
  rx_submitted : Judged → ℕ → Entry
  comp_granted : ℕ → List Item → List (List Item) → Entry
  comp_full : ℕ → List Item → List (List Item) → ℕ → Entry
  comp_submitted : ℕ → List Item → List (List Item) → Entry
  tx_empty : Which → ℕ → Entry
  tx_items : Which → ℕ → List Item → Entry
  tx_released : Which → ℕ → ℕ → Entry
  looked_tx_done : ℕ → Entry
  armed_fill : ℕ → Entry
  armed_tx : ℕ → ℕ → Entry
  found_end : ℕ → Entry
  found_none : ℕ → Entry
  kicked : Bool → ℕ → Entry
  not_kicked : Bool → ℕ → Entry
  cleared_kick : Bool → ℕ → Entry
  disarmed_fill : ℕ → Entry
  disarmed_tx : ℕ → ℕ → Entry

abbrev pub told : Entry → Point × Reply
told (saw_fed s n) = (LookClosing s, Old n)
told (saw_closed s n) = (LookClosing s, Old n)
told (told_acked s n) = (TellAcked s, Old n)
told (told_rx_done n) = (TellRxDone, Old n)
told (told_bounced packet n) = (TellBounced packet, Old n)
told (looked_none packet n) = (LookCell packet, Old n)
told (looked_long packet n s) = (LookCell packet, Old n)
told (looked_some packet n s) = (LookCell packet, Old n)
told (fill_empty look packet s) = (PeekFill look packet s, Empty)
told (fill_items look packet s items) = (PeekFill look packet s, Items items)
told (fill_released look packet s n) = (ReleaseFill look packet s n, Released)
told (rx_granted packet s) = (ReserveRx packet s, Granted)
told (rx_full packet s free) = (ReserveRx packet s, Full free)
told (rx_submitted packet s) = (SubmitRx packet s, Submitted)
told (comp_granted k packet later) = (ReserveComp k packet later, Granted)
told (comp_full k packet later free) = (ReserveComp k packet later, Full free)
told (comp_submitted k packet later) = (SubmitComp k packet later, Submitted)
told (tx_empty look k) = (PeekTx look k, Empty)
told (tx_items look k items) = (PeekTx look k, Items items)
told (tx_released look k n) = (ReleaseTx look k n, Released)
told (looked_tx_done n) = (LookTxDone, Old n)
told (armed_fill n) = (ArmFill, Old n)
told (armed_tx k n) = (ArmTx k, Old n)
told (found_end n) = (LookEnd, Old n)
told (found_none n) = (LookEnd, Old n)
told (kicked frames n) = (LookKick frames, Old n)
told (not_kicked frames n) = (LookKick frames, Old n)
told (cleared_kick frames n) = (ClearKick frames, Old n)
told (disarmed_fill n) = (DisarmFill, Old n)
told (disarmed_tx k n) = (DisarmTx k, Old n)

abbrev pub point_of : Entry → Point
point_of e = (told e).0

abbrev pub reply_of : Entry → Reply
reply_of e = (told e).1

-- where each leads, with what is noted and kept there
abbrev pub leads : Seat → Entry → Noted → Kept → Stage × Noted × Kept
leads seat (saw_fed s n) noted kept = (Receiving, noted, kept)
leads seat (saw_closed s n) noted kept = (Acking, noted, kept)
leads seat (told_acked s n) noted kept = (Receiving, noted, with_acked kept)
leads seat (told_rx_done n) noted kept = (Sending Turning 0 nothing_due, moved noted, record kept { rx_done = true })
leads seat (told_bounced packet n) noted kept = (Sending Turning 0 nothing_due, moved noted, settled kept Bounced)
leads seat (looked_none packet n) noted kept = (Sending Turning 0 nothing_due, moved noted, settled kept Missed)
leads seat (looked_long packet n s) noted kept = (Sending Turning 0 nothing_due, moved noted, dropped kept TooLong)
leads seat (looked_some packet n s) noted kept = (Trying Turning packet s nothing_due, noted, kept)
leads seat (fill_empty look packet s) noted kept = (Lacking look packet s false, noted, with_fill_empty kept)
leads seat (fill_items look packet s items) noted kept = (Trying look packet s (release_due (Fill seat.pair) (length items)), moved noted, supplied seat kept items)
leads seat (fill_released look packet s n) noted kept = (Trying look packet s nothing_due, noted, kept)
leads seat (rx_granted packet s) noted kept = (Trying Turning packet s (submit_due (Rx s) (pieces_of seat packet.bytes)), moved noted, kept)
leads seat (rx_full packet s free) noted kept = (Lacking Turning packet s true, noted, with_rx_full (s % seat.classes) kept)
leads seat (rx_submitted packet s) noted kept = (Sending Turning 0 nothing_due, moved noted, settled (record kept { spare = drop (pieces_of seat packet.bytes) kept.spare }) (Delivered s))
leads seat (comp_granted k packet later) noted kept = (Sending Turning k (submit_due (Comp seat.pair) (length packet)), noted, kept)
leads seat (comp_full k packet later free) noted kept = (Idling, stopped noted, kept)
leads seat (comp_submitted k packet later) noted kept = (Sending Turning k nothing_due, moved noted, record kept { finished = later })
leads seat (tx_empty look k) noted kept = (Sending look (k + 1) nothing_due, noted, with_tx_empty k kept)
leads seat (tx_items look k items) noted kept = (Sending look (k + 1) (release_due (Tx (socket_of seat k)) (length items)), moved noted, gathered seat k kept items)
leads seat (tx_released look k n) noted kept = (Sending look (k + 1) nothing_due, noted, kept)
leads seat (looked_tx_done n) noted kept = (Starting, fresh, record kept { tx_done = kept.tx_done || eqb n 1 })
leads seat (armed_fill n) noted kept = (Arming 0, noted, kept)
leads seat (armed_tx k n) noted kept = (Arming (k + 1), noted, kept)
leads seat (found_end n) noted kept = (Disarming (awaits noted) 0, noted, record kept { tx_done = true })
leads seat (found_none n) noted kept = (Parked (awaits noted), fresh, record kept { parked = Some (awaits noted) })
leads seat (kicked frames n) noted kept = (Woken frames, noted, woken kept)
leads seat (not_kicked frames n) noted kept = (Parked frames, fresh, kept)
leads seat (cleared_kick frames n) noted kept = (Disarming frames 0, noted, kept)
leads seat (disarmed_fill n) noted kept = (Disarming false 0, noted, kept)
leads seat (disarmed_tx k n) noted kept = (Disarming false (k + 1), noted, kept)

-- what it finds of a cell's number, or a mark's
abbrev pub Finds : Seat → Entry → Type 0
Finds seat (saw_fed s n) = eqb n 1 ≡ false
Finds seat (saw_closed s n) = eqb n 1 ≡ true
Finds seat (looked_none packet n) = redirect_to seat.config seat.port seat.queue n ≡ None
Finds seat (looked_long packet n s) = (redirect_to seat.config seat.port seat.queue n ≡ Some s) × (nat_lt (limit_of seat) (length packet.bytes) ≡ true)
Finds seat (looked_some packet n s) = (redirect_to seat.config seat.port seat.queue n ≡ Some s) × (nat_lt (limit_of seat) (length packet.bytes) ≡ false)
Finds seat (found_end n) = eqb n 1 ≡ true
Finds seat (found_none n) = eqb n 1 ≡ false
Finds seat (kicked frames n) = eqb n 1 ≡ true
Finds seat (not_kicked frames n) = eqb n 1 ≡ false
Finds seat entry = Unit {0}

-- ---- what goes on without a call

pub data Silent : Type 0 where
  receives : Silent
  untried : Judged → List Judged → Disposal → Silent
  none_comes : Silent
  too_few : Judged → ℕ → Silent
  waits : Judged → ℕ → Bool → Silent
  drops_full : Judged → ℕ → Silent
  drops_frameless : Judged → ℕ → Silent
  visited : Silent
  idles : Silent
  arms : Silent
  seeks : Judged → ℕ → Silent
  sought : Judged → ℕ → Silent
  misses : Judged → ℕ → Silent
  looks : Silent
  finds : Silent
  parks : Silent
  disarmed : Silent

-- a new turn begins at once: something moved or a ring was full, or there is nothing to wait for
abbrev pub GoesOnAtOnce : Seat → Noted → Kept → Type 0
GoesOnAtOnce seat noted kept = ((noted.progress || noted.full) ≡ true) ⊎ ((kept.tx_done ≡ false) × (seat.config.wakeup ≡ false) × (kept.rx_done ≡ false))

-- it just released what it peeked on FILL
abbrev pub HasTaken : Seat → List Told → Type 0
HasTaken seat l = (m : List Told) × (n : ℕ) × (l ≡ with_told m (Release (Fill seat.pair) n) Released)

abbrev pub LeadsOn : Seat → Premise Kept → Family → Silent → Noted → Kept → List Told → Type 0
LeadsOn seat Q At receives noted kept l = At Starting noted kept l → (closing_of seat ≡ None) ⊎ (kept.acked ≡ true) → At Receiving noted kept l
LeadsOn seat Q At (untried packet later disposal) noted kept l =
    At Receiving noted kept l → (kept.coming ≡ packet ∷ later) × (disposal_untried seat packet ≡ Some disposal) → At Receiving (moved noted) (settled kept disposal) l
LeadsOn seat Q At none_comes noted kept l = At Receiving noted kept l → (kept.coming ≡ []) × (kept.rx_done ≡ true) → At (Sending Turning 0 nothing_due) noted kept l
LeadsOn seat Q At (too_few packet s) noted kept l =
    At (Trying Turning packet s nothing_due) noted kept l → IsTried seat Q kept.coming packet s × (noted.progress ≡ true) × (nat_le (pieces_of seat packet.bytes) (length kept.spare) ≡ false) × HasTaken seat l
    → At (Lacking Turning packet s false) noted kept l
LeadsOn seat Q At (waits packet s full) noted kept l =
    At (Lacking Turning packet s full) noted kept l → IsTried seat Q kept.coming packet s × (drops seat.wire ≡ false) → At (Sending Turning 0 nothing_due) (cond full (stopped noted) (lacks (pieces_of seat packet.bytes - length kept.spare) noted)) kept l
LeadsOn seat Q At (drops_full packet s) noted kept l =
    At (Lacking Turning packet s true) noted kept l → IsTried seat Q kept.coming packet s × (drops seat.wire ≡ true) → At (Sending Turning 0 nothing_due) (moved noted) (settled kept RxFull) l
LeadsOn seat Q At (drops_frameless packet s) noted kept l =
    At (Lacking Turning packet s false) noted kept l → IsTried seat Q kept.coming packet s × (drops seat.wire ≡ true) × (nat_le (pieces_of seat packet.bytes) (length kept.spare) ≡ false) → At (Sending Turning 0 nothing_due) (moved noted) (dropped kept NoFrames) l
LeadsOn seat Q At visited noted kept l = At (Sending Turning seat.classes nothing_due) noted kept l → kept.finished ≡ [] → At Idling noted kept l
LeadsOn seat Q At idles noted kept l = At Idling noted kept l → GoesOnAtOnce seat noted kept → At Starting fresh kept l
LeadsOn seat Q At arms noted kept l = At Idling noted kept l → (noted.full ≡ false) × (awaits noted ≡ false) × (kept.tx_done ≡ false) × (noted.progress ≡ false) × (seat.config.wakeup ≡ true) → At (Arming 0) noted kept l
LeadsOn seat Q At (seeks packet s) noted kept l = At (Arming seat.classes) noted kept l → IsTried seat Q kept.coming packet s × (awaits noted ≡ true) → At (Trying Again packet s nothing_due) noted kept l
LeadsOn seat Q At (sought packet s) noted kept l = At (Trying Again packet s nothing_due) noted kept l → (awaits noted ≡ true) × (noted.progress ≡ true) → At (Sending Again 0 nothing_due) noted kept l
LeadsOn seat Q At (misses packet s) noted kept l = At (Lacking Again packet s false) noted kept l → awaits noted ≡ true → At (Sending Again 0 nothing_due) noted kept l
LeadsOn seat Q At looks noted kept l = At (Arming seat.classes) noted kept l → awaits noted ≡ false → At (Sending Again 0 nothing_due) noted kept l
LeadsOn seat Q At finds noted kept l = At (Sending Again seat.classes nothing_due) noted kept l → noted.progress ≡ true → At (Disarming (awaits noted) 0) noted kept l
LeadsOn seat Q At parks noted kept l =
    At (Sending Again seat.classes nothing_due) noted kept l → (noted.progress ≡ false) × (kept.rx_done ≡ false) → At (Parked (awaits noted)) fresh (record kept { parked = Some (awaits noted) }) l
LeadsOn seat Q At disarmed noted kept l = At (Disarming false seat.classes) noted kept l → kept.parked ≡ None → At Starting fresh kept l

-- ---- a law

-- what is said at each call, and at the end
abbrev pub Said : Type 1
Said = Kept → Call → List Told → Type 0

abbrev pub AtCalls : Seat → Premise Kept → Family → Said → Type 0
AtCalls seat Q At A = (p : Point) (noted : Noted) (kept : Kept) (l : List Told) → Known seat Q p noted kept → At (asked seat p kept).0 noted kept l → A (kept_at seat p kept) (call_at seat p kept) l

abbrev pub AtEntries : Seat → Premise Kept → Family → Said → Type 0
AtEntries seat Q At A = (e : Entry) (noted : Noted) (kept : Kept) (l : List Told) → Known seat Q (point_of e) noted kept → Finds seat e
    → At (asked seat (point_of e) kept).0 noted kept l → A (kept_at seat (point_of e) kept) (call_at seat (point_of e) kept) l
    → Q (kept_at seat (point_of e) kept) l (call_at seat (point_of e) kept) (reply_of e)
    → At (leads seat e noted kept).0 (leads seat e noted kept).1 (leads seat e noted kept).2 (with_told l (call_at seat (point_of e) kept) (reply_of e))

abbrev pub AtSilent : Seat → Premise Kept → Family → Type 0
AtSilent seat Q At = (p : Silent) (noted : Noted) (kept : Kept) (l : List Told) → LeadsOn seat Q At p noted kept l

abbrev pub AtEnd : Seat → Premise Kept → Family → Said → (Kept → List Told → Type 0) → Type 0
AtEnd seat Q At A E = (noted : Noted) (kept : Kept) (l : List Told) (n : ℕ) → Known seat Q TellGone noted kept → At Idling noted kept l → A kept (Swap (Gone seat.pair) 1) l
    → Q kept l (Swap (Gone seat.pair) 1) (Old n) → E kept (with_told l (Swap (Gone seat.pair) 1) (Old n))

pub record IsLaw (seat : Seat) (Q : Premise Kept) (At : Family) (A : Said) (E : Kept → List Told → Type 0) : Type 0 where
  pub calls : AtCalls seat Q At A
  pub entries : AtEntries seat Q At A
  pub silent : AtSilent seat Q At
  pub ends : AtEnd seat Q At A E

-- A law may stand on another: what that one says holds at each place is known where it says what holds at each call.
module _ (seat : Seat) (Q : Premise Kept) (At On : Family) (A B : Said) (E F : Kept → List Told → Type 0) (is : IsLaw seat Q At A E)
    (calls : (p : Point) (noted : Noted) (kept : Kept) (l : List Told) → Known seat Q p noted kept → At (asked seat p kept).0 noted kept l → On (asked seat p kept).0 noted kept l → B (kept_at seat p kept) (call_at seat p kept) l)
    (entries : AtEntries seat Q On B) (silent : AtSilent seat Q On) (ends : AtEnd seat Q On B F) where
  abbrev Together : Family
  Together place noted kept l = At place noted kept l × On place noted kept l

  abbrev SaidTogether : Said
  SaidTogether kept call l = A kept call l × B kept call l

  abbrev EndTogether : Kept → List Told → Type 0
  EndTogether kept l = E kept l × F kept l

  silent_together : AtSilent seat Q Together
  silent_together receives noted kept l = λ h e. (is.silent receives noted kept l h.0 e, silent receives noted kept l h.1 e)
  silent_together (untried packet later disposal) noted kept l = λ h e. (is.silent (untried packet later disposal) noted kept l h.0 e, silent (untried packet later disposal) noted kept l h.1 e)
  silent_together none_comes noted kept l = λ h e. (is.silent none_comes noted kept l h.0 e, silent none_comes noted kept l h.1 e)
  silent_together (too_few packet s) noted kept l = λ h e. (is.silent (too_few packet s) noted kept l h.0 e, silent (too_few packet s) noted kept l h.1 e)
  silent_together (waits packet s full) noted kept l = λ h e. (is.silent (waits packet s full) noted kept l h.0 e, silent (waits packet s full) noted kept l h.1 e)
  silent_together (drops_full packet s) noted kept l = λ h e. (is.silent (drops_full packet s) noted kept l h.0 e, silent (drops_full packet s) noted kept l h.1 e)
  silent_together (drops_frameless packet s) noted kept l = λ h e. (is.silent (drops_frameless packet s) noted kept l h.0 e, silent (drops_frameless packet s) noted kept l h.1 e)
  silent_together visited noted kept l = λ h e. (is.silent visited noted kept l h.0 e, silent visited noted kept l h.1 e)
  silent_together idles noted kept l = λ h e. (is.silent idles noted kept l h.0 e, silent idles noted kept l h.1 e)
  silent_together arms noted kept l = λ h e. (is.silent arms noted kept l h.0 e, silent arms noted kept l h.1 e)
  silent_together (seeks packet s) noted kept l = λ h e. (is.silent (seeks packet s) noted kept l h.0 e, silent (seeks packet s) noted kept l h.1 e)
  silent_together (sought packet s) noted kept l = λ h e. (is.silent (sought packet s) noted kept l h.0 e, silent (sought packet s) noted kept l h.1 e)
  silent_together (misses packet s) noted kept l = λ h e. (is.silent (misses packet s) noted kept l h.0 e, silent (misses packet s) noted kept l h.1 e)
  silent_together looks noted kept l = λ h e. (is.silent looks noted kept l h.0 e, silent looks noted kept l h.1 e)
  silent_together finds noted kept l = λ h e. (is.silent finds noted kept l h.0 e, silent finds noted kept l h.1 e)
  silent_together parks noted kept l = λ h e. (is.silent parks noted kept l h.0 e, silent parks noted kept l h.1 e)
  silent_together disarmed noted kept l = λ h e. (is.silent disarmed noted kept l h.0 e, silent disarmed noted kept l h.1 e)

  pub together : IsLaw seat Q Together SaidTogether EndTogether
  together = record {
    calls = λ p noted kept l known h. (is.calls p noted kept l known h.0, calls p noted kept l known h.0 h.1);
    entries = λ e noted kept l known found h a q. (is.entries e noted kept l known found h.0 a.0 q, entries e noted kept l known found h.1 a.1 q);
    silent = silent_together;
    ends = λ noted kept l n known h a q. (is.ends noted kept l n known h.0 a.0 q, ends noted kept l n known h.1 a.1 q);
  }
