-- A worker that hasn't ended asks a call: each turn of it begins with one.
use Rattle.std.proofs.Common.{◌≡◌, ◌⊎◌, inl, inr, ℕ, zero, suc, ◌+◌, ◌-◌, ◌≤◌, Bool, true, false, cond, eqb, slice_index, Option, Some, None, List, [], ◌∷◌, length, sym, subst, arith}
use Rattle.xsk_umem.specs.Frame.{Frame}
use Rattle.xsk_turns.proofs.Calls.{Item, Told, Rx, Call, Reply}
use Rattle.xsk_turns.specs.Script.{Script, ask, again, ended, never, begun, Leaves, Asks, IsLive, IsRun, IsWhole}
use Rattle.xsk_turns.specs.Turns.{Seat, Judged, Kept, Noted, fresh, bounces, settled, settled_or, disposal_untried, visit, complete, transmit, receive, closing_of, look_closing, turn_by, turn}
use Rattle.xsk_turns.specs.AppTurns.{AppKept, AppNoted, pending_at, back_at, lanes_of, visit_lane, visit_lanes, drains, visit_side, turn_sides, turn_lanes, Shut, shut_of, may_close, lower_cells, tell_closing, close_first, noted_first, app_turn}
use Rattle.xsk_turns.proofs.Object.{Config, map_of, port_of}
use Rattle.xsk_turns.specs.declared.disposal.Disposal.{Disposal}

abbrev IsAsk : {K : Type 0} → Script K → Type 0
IsAsk (ask kept call rest) = Unit {0}
IsAsk script = ⊥

ask_if : {K : Type 0} (b : Bool) (x y : Script K) → IsAsk x → IsAsk y → IsAsk (cond b x y)
ask_if true x y h k = h
ask_if false x y h k = k

-- what a list leaves of a run: the end, or a call
pub record IsAsking {K : Type 0} (turn : K → Script K) (begins : K) (l : List Told) : Type 0 where
  pub kept : K
  pub call : Call
  pub rest : Reply → Script K
  pub asks : Asks turn begins l kept call rest

module _ {K : Type 0} (turn : K → Script K) (asks : (kept : K) → IsAsk (turn kept)) where
  begun_on : (s : Script K) (j : K) → begun turn s ≡ again j → ⊥
  begun_on (ask kept call rest) j e = absurd (cc)
  begun_on (again kept) j e = subst IsAsk e (asks kept)
  begun_on (ended kept) j e = absurd (cc)
  begun_on never j e = absurd (cc)

  never_again : (s : Script K) (l : List Told) (k : K) → ((j : K) → s ≡ again j → ⊥) → Leaves turn s l (again k) → ⊥
  never_again s [] k apart leaves = apart k (sym leaves)
  never_again (ask kept call rest) (t ∷ l) k apart leaves = never_again (begun turn (rest t.reply)) l k (begun_on (rest t.reply)) leaves.1
  never_again s (t ∷ l) k apart leaves = leaves

  pub whole_or_asking : (begins : K) (l : List Told) → IsRun turn begins l → IsWhole turn begins l ⊎ IsAsking turn begins l
  whole_or_asking begins l run = by run.0 run.2 run.1
    where
      by : (left : Script K) → IsLive left → Leaves turn (turn begins) l left → IsWhole turn begins l ⊎ IsAsking turn begins l
      by (ask kept call rest) live leaves = inr (record { kept = kept; call = call; rest = rest; asks = leaves })
      by (again kept) live leaves = absurd (never_again (turn begins) l kept (λ j e. subst IsAsk e (asks begins)) leaves)
      by (ended kept) live leaves = inl (kept, leaves)
      by never live leaves = absurd live

-- ---- a driver

module _ (seat : Seat) (some : 1 ≤ seat.classes) where
  visit_asks : (more : ℕ) (noted : Noted) (kept : Kept) → 1 ≤ more → IsAsk (visit seat more 0 noted kept)
  visit_asks zero noted kept h = absurd (omega (arith, h))
  visit_asks (suc more) noted kept h = tt

  complete_asks : (packets : List (List Item)) (noted : Noted) (kept : Kept) (next : Noted → Kept → Script Kept) → ((noted : Noted) (kept : Kept) → IsAsk (next noted kept)) → IsAsk (complete seat packets noted kept next)
  complete_asks [] noted kept next h = h noted kept
  complete_asks (packet ∷ later) noted kept next h = tt

  transmit_asks : (noted : Noted) (kept : Kept) → IsAsk (transmit seat noted kept)
  transmit_asks noted kept = complete_asks kept.finished noted kept (visit seat (seat.classes - 0) 0) (λ noted kept. visit_asks (seat.classes - 0) noted kept (omega (arith, some)))

  settled_asks : (o : Option Disposal) (next : Disposal → Script Kept) (tried : Script Kept) → ((d : Disposal) → IsAsk (next d)) → IsAsk tried → IsAsk (settled_or o next tried)
  settled_asks None next tried h k = k
  settled_asks (Some d) next tried h k = h d

  receive_asks : (coming : List Judged) (noted : Noted) (kept : Kept) → IsAsk (receive seat coming noted kept)
  receive_asks [] noted kept = ask_if kept.rx_done _ _ (transmit_asks noted kept) tt
  receive_asks (packet ∷ later) noted kept =
      settled_asks (disposal_untried seat packet) (λ disposal. receive seat later (record noted { progress = true }) (settled kept disposal)) _
      (λ disposal. receive_asks later (record noted { progress = true }) (settled kept disposal)) (ask_if (bounces packet.verdict) _ _ tt tt)

  closing_asks : (o : Option ℕ) (kept : Kept) → IsAsk (look_closing seat o kept)
  closing_asks None kept = receive_asks kept.coming fresh kept
  closing_asks (Some s) kept = ask_if kept.acked _ _ (receive_asks kept.coming fresh kept) tt

  by_parked : (o : Option Bool) (kept : Kept) → IsAsk (turn_by seat kept o)
  by_parked None kept = closing_asks (closing_of seat) kept
  by_parked (Some frames) kept = tt

  pub turn_asks : (kept : Kept) → IsAsk (turn seat kept)
  turn_asks kept = by_parked kept.parked kept

-- ---- an application

module _ (c : Config) (a : ℕ) (some : 1 ≤ lanes_of c) where
  side_asks : (side : ℕ) (frames : List Frame) (noted : AppNoted) (kept : AppKept) (next : AppNoted → AppKept → Script AppKept) → IsAsk (visit_side c a side frames noted kept next)
  side_asks side [] noted kept next = tt
  side_asks side (frame ∷ frames) noted kept next = tt

  sides_ask : (noted : AppNoted) (kept : AppKept) → IsAsk (turn_sides c a noted kept)
  sides_ask noted kept = side_asks 0 (back_at kept 0) noted kept _

  lane_asks : (lane : ℕ) (items : List Item) (noted : AppNoted) (kept : AppKept) (next : AppNoted → AppKept → Script AppKept) → IsAsk (visit_lane c a lane items noted kept next)
  lane_asks lane [] noted kept next = tt
  lane_asks lane (item ∷ items) noted kept next = tt

  lanes_ask : (more : ℕ) (noted : AppNoted) (kept : AppKept) (next : AppNoted → AppKept → Script AppKept) → 1 ≤ more → IsAsk (visit_lanes c a more 0 noted kept next)
  lanes_ask zero noted kept next h = absurd (omega (arith, h))
  lanes_ask (suc more) noted kept next h = ask_if (drains c a 0 kept) _ _ tt (lane_asks 0 (pending_at kept 0) noted kept _)

  lower_asks : (s more index : ℕ) (kept : AppKept) (next : Script AppKept) → IsAsk next → IsAsk (lower_cells c s more index kept next)
  lower_asks s zero index kept next h = h
  lower_asks s (suc more) index kept next h =
      ask_if (eqb (slice_index (map_of c (port_of c (Rx s))) index) (suc s)) _ _ tt (lower_asks s more (index + 1) kept next h)

  close_asks : (o : Option Shut) (kept : AppKept) → IsAsk (close_first c a o kept (turn_lanes c a))
  close_asks None kept = lanes_ask (lanes_of c) (noted_first kept) kept (turn_sides c a) some
  close_asks (Some shut) kept =
      ask_if (may_close c shut kept) _ _ (lower_asks shut.socket (length (map_of c (port_of c (Rx shut.socket)))) 0 kept (tell_closing c a shut kept (turn_lanes c a)) tt)
      (lanes_ask (lanes_of c) (noted_first kept) kept (turn_sides c a) some)

  pub app_turn_asks : (kept : AppKept) → IsAsk (app_turn c a kept)
  app_turn_asks kept = ask_if kept.tx_done _ _ (sides_ask (noted_first kept) kept) (close_asks (shut_of c a) kept)
