-- Where an application's machine stands in its turns: what it keeps, and what its script goes on with at each waiting point.
use Rattle.std.specs.Prelude.{◌≡◌, ℕ, zero, ◌+◌, ◌-◌, ◌/◌, ◌==◌, ◌&&◌, not, if◌then◌else◌, Bool, true, false, Option, Some, None, length}
use Rattle.xsk_model.specs.Config.{Config, classes_of, map_of}
use Rattle.xsk_model.specs.Rings.{port_of}
use Rattle.xsk_turns.specs.Script.{Script, ask, again, ended, never, on_submitted, items_or_empty, on_released, on_old, begun}
use Rattle.xsk_model.specs.declared.call.Mark.TheVariants.{NeedFill, NeedTx}
use Rattle.xsk_model.specs.declared.call.Ring.TheVariants.{Rx}
use Rattle.xsk_model.specs.declared.call.Call.TheVariants.{Release}
use Rattle.xsk_model.specs.declared.call.Reply.{Reply}
use Rattle.xsk_model.specs.declared.call.Act.{Act}
use Rattle.xsk_model.specs.declared.call.Act.TheVariants.{Call as Calls, Ended as HasEnded}
use Rattle.xsk_turns.specs.AppTurns.{AppKept, AppNoted, Shut, pair_of, rx_of, tx_of, tx_pair, lanes_of, pending_at, back_at, is_set, awaited_after, cut_after, drained, with_begun, with_acked, wake_closed, tell_closing, lower_cells, turn_lanes, end_by, kick, wake, wake_both, pass_on, receive_lane, visit_lanes, give_back, complete_side, visit_sides, with_seen, with_gone, look_rx_done, look_gone, end_turn, turn_sides, app_turn}
use Rattle.xsk_app.specs.declared.machine.Machine.{Machine}
use Rattle.xsk_app.specs.declared.machine.Next.{Next}
use Rattle.xsk_app.specs.declared.machine.Next.TheVariants.{Lane, Side, Second, Lanes, Turn as NextTurn}
use Rattle.xsk_app.specs.declared.machine.Turn.{Turn}
use Rattle.xsk_app.specs.declared.machine.Wait.{Wait}
use Rattle.xsk_app.specs.declared.machine.Wait.TheVariants.{Start, LowerCell, TellClosing, DrainRx, ReleaseDrained, PeekRx, ReleaseRx, ReserveTx, SubmitTx, PeekComp, ReleaseComp, ReserveFill, SubmitFill, LookNeed, Kick, LookAcked, LookRxDone, TellTxDone, LookGone, Ended}

abbrev pub noted_by : Turn → AppNoted
noted_by t = record { seen = t.seen; gone = t.gone; lanes_empty = t.lanes_empty; sides_empty = t.sides_empty; acked = t.acked }

abbrev pub kept_by : Machine → AppKept
kept_by m = record { pending = m.pending.items; back = m.backs.items; seen = m.seen; gone = m.gone; tx_done = m.tx_done; manner = m.manner; number = m.number; awaited = m.awaited; cut = m.cut; begun = m.begun; acked = m.acked }

-- the lanes and the sides from one on, those after one, and the same where this one wasn't empty
abbrev pub from_lane : Config → ℕ → ℕ → AppNoted → AppKept → Script AppKept
from_lane c app lane noted kept = visit_lanes c app (lanes_of c - lane) lane noted kept (turn_sides c app)

abbrev pub after_lane : Config → ℕ → ℕ → AppNoted → AppKept → Script AppKept
after_lane c app lane noted kept = from_lane c app (lane + 1) noted kept

abbrev pub after_full_lane : Config → ℕ → ℕ → AppNoted → AppKept → Script AppKept
after_full_lane c app lane noted kept = after_lane c app lane (record noted { lanes_empty = false }) kept

abbrev pub from_side : Config → ℕ → ℕ → AppNoted → AppKept → Script AppKept
from_side c app side noted kept = visit_sides c app (2 - side) side noted kept (end_turn c app)

abbrev pub after_side : Config → ℕ → ℕ → AppNoted → AppKept → Script AppKept
after_side c app side noted kept = from_side c app (side + 1) noted kept

abbrev pub after_full_side : Config → ℕ → ℕ → AppNoted → AppKept → Script AppKept
after_full_side c app side noted kept = after_side c app side (record noted { sides_empty = false }) kept

-- the frames of a side that are left to give back, and then those after it
abbrev pub after_group : Config → ℕ → ℕ → AppNoted → AppKept → Script AppKept
after_group c app side noted kept = give_back c side zero (back_at kept side) kept (after_full_side c app side noted)

-- a pair's driver is woken where a ring's flag has the number 1
abbrev pub wake_by : ℕ → AppKept → Script AppKept → ℕ → Script AppKept
wake_by pair kept next number = if number == 1 then kick pair kept next else next

-- ---- the socket that is closed

-- with its side
abbrev pub side_by : Config → ℕ → ℕ → ℕ
side_by c app s = if s / classes_of c == pair_of c app 0 then 0 else 1

abbrev pub shut_with : Config → ℕ → ℕ → Shut
shut_with c app s = record { socket = s; side = side_by c app s }

-- its cells from one on, and then all behind them
abbrev pub lower_from : Config → ℕ → ℕ → ℕ → AppKept → Script AppKept
lower_from c app s index kept = lower_cells c s (length (map_of c (port_of c (Rx s))) - index) index kept (tell_closing c app (shut_with c app s) kept (turn_lanes c app))

-- whether it may be closed, but for what is pending
abbrev pub is_due : AppKept → Bool
is_due kept = (not kept.begun && kept.awaited == 0) && (not (is_set kept.cut 0) && not (is_set kept.cut 1))

-- what a lane received is counted
abbrev pub counted : Config → ℕ → ℕ → AppKept → AppKept
counted c app lane kept = record kept {
  awaited = awaited_after c app lane c.closing (pending_at kept lane) kept.awaited;
  cut = cut_after c app lane c.closing (pending_at kept lane) kept.cut;
}

-- by what stood on a closed lane's RX ring
abbrev pub drain_by : Config → ℕ → ℕ → AppNoted → AppKept → Reply → Script AppKept
drain_by c app lane noted kept =
    items_or_empty
    (λ items. ask (drained c lane kept items) (Release (Rx (rx_of c app lane)) (length items)) (on_released (after_full_lane c app lane noted (drained c lane kept items))))
    (after_lane c app lane noted kept)

-- ---- what is left

-- behind a wake
abbrev pub after : Config → ℕ → Next → AppNoted → AppKept → Script AppKept
after c app (Lane lane) noted kept = after_full_lane c app lane noted kept
after c app (Side side) noted kept = after_group c app side noted kept
after c app Second noted kept = kick (pair_of c app 1) kept (again kept)
after c app Lanes noted kept = turn_lanes c app kept
after c app NextTurn noted kept = again kept

-- it sends nothing more
abbrev pub told_tx_done : AppKept → AppKept
told_tx_done kept = record kept { tx_done = true }

-- what goes on by the reply to a script's first call
abbrev pub by_reply : Script AppKept → Reply → Script AppKept
by_reply (ask kept call rest) reply = rest reply
by_reply (again kept) reply = never
by_reply (ended kept) reply = never
by_reply never reply = never

-- what is left to do by the reply
abbrev pub left : Config → ℕ → Wait → AppNoted → AppKept → Reply → Script AppKept
left c app Start noted kept = λ reply. never
left c app (LowerCell s index) noted kept = on_old (λ old. lower_from c app s (index + 1) kept)
left c app (TellClosing s) noted kept = on_old (λ old. wake_closed c (pair_of c app (side_by c app s)) (with_begun kept) (turn_lanes c app (with_begun kept)))
left c app (DrainRx lane) noted kept = drain_by c app lane noted kept
left c app (ReleaseDrained lane) noted kept = on_released (after_full_lane c app lane noted kept)
left c app (PeekRx lane) noted kept = items_or_empty (receive_lane c app lane kept (after_full_lane c app lane noted)) (after_lane c app lane noted kept)
left c app (ReleaseRx lane) noted kept = on_released (pass_on c app lane kept (after_full_lane c app lane noted))
left c app (ReserveTx lane) noted kept = by_reply (pass_on c app lane kept (after_full_lane c app lane noted))
left c app (SubmitTx lane) noted kept = on_submitted (wake c (NeedTx (tx_of c app lane)) (tx_pair c app lane) kept (after_full_lane c app lane noted kept))
left c app (PeekComp side) noted kept = items_or_empty (complete_side c app side kept (after_full_side c app side noted)) (after_side c app side noted kept)
left c app (ReleaseComp side) noted kept = on_released (after_group c app side noted kept)
left c app (ReserveFill side home count) noted kept = by_reply (after_group c app side noted kept)
left c app (SubmitFill side home) noted kept = on_submitted (wake c (NeedFill home) home kept (after_group c app side noted kept))
left c app (LookNeed pair next) noted kept = on_old (wake_by pair kept (after c app next noted kept))
left c app (Kick next) noted kept = on_old (λ old. after c app next noted kept)
left c app LookAcked noted kept = on_old (λ number. end_by c app noted (with_acked kept number))
left c app (LookRxDone side) noted kept =
    on_old (λ done. look_rx_done c app (2 - (side + 1)) (side + 1) (with_seen kept side done))
left c app TellTxDone noted kept = on_old (λ old. wake_both c app (told_tx_done kept))
left c app (LookGone side) noted kept =
    on_old (λ gone. look_gone c app (2 - (side + 1)) (side + 1) (with_gone kept side gone))
left c app Ended noted kept = λ reply. never

-- the script at which a machine is that has just given a call, or has ended
abbrev pub doing : Config → ℕ → Machine → Act → Script AppKept
doing c app m (Calls call) = ask (kept_by m) call (left c app m.wait (noted_by m.turn) (kept_by m))
doing c app m HasEnded = ended (kept_by m)

-- the machine gave the call with which a script goes on, and stands at the waiting point after it; or it has ended, with
-- the script
abbrev pub GoesOn : Config → ℕ → Machine → Act → Script AppKept → Type 0
GoesOn c app m act script = doing c app m act ≡ begun (app_turn c app) script

-- the script with which it has to go on by a reply, and at first
abbrev pub to_do : Config → ℕ → Machine → Option Reply → Script AppKept
to_do c app m None = again (kept_by m)
to_do c app m (Some reply) = left c app m.wait (noted_by m.turn) (kept_by m) reply

-- its application stays the same
pub record IsSame (old new : Machine) : Type 0 where
  pub config : new.config ≡ old.config
  pub app : new.app ≡ old.app

-- and so does where it is in its turns
pub record HasSameRest (old new : Machine) : Type 0 where
  pub same : IsSame old new
  pub wait : new.wait ≡ old.wait
  pub turn : new.turn ≡ old.turn
