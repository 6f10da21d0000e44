-- The turns of the application of ports 2k and 2k + 1 and queue q. It has two sides, one for each of its ports, and a lane
-- from each class of a side to the same class of the other side. A turn visits its lanes, then its sides, and then looks
-- whether it is at its end. Where the need-wakeup flags are used, it looks at a ring's flag each time that it has put entries
-- there, and wakes the driver where it is set (af_xdp.rst, "XDP_USE_NEED_WAKEUP bind flag"). The turns are this project's own.
use Rattle.std.specs.Prelude.{ℕ, zero, suc, ◌+◌, ◌-◌, ◌*◌, ◌/◌, ◌%◌, ◌==◌, Bool, true, false, ◌&&◌, ◌||◌, not, slice_index, if◌then◌else◌, Option, Some, None, List, [], ◌∷◌, ◌++◌, length, map, replicate, take, drop}
use Rattle.std.specs.List.{slice_index_or, slice_set, take_while}
use Rattle.xsk_umem.specs.Frame.{Frame}
use Rattle.xsk_umem.specs.declared.batch.Item.{Item}
use Rattle.xsk_umem.specs.Limits.{most_frames}
use Rattle.xsk_model.specs.Config.{Config, pool_of, batch_of, classes_of, map_of}
use Rattle.xsk_model.specs.Rings.{port_of}
use Rattle.xsk_model.specs.Opening.{home_item}
use Rattle.xsk_model.specs.Entry.{Told}
use Rattle.xsk_turns.specs.Script.{Script, ask, again, ended, granted_or_full, on_submitted, items_or_empty, on_released, on_old, IsRun, IsWhole}
use Rattle.xsk_model.specs.declared.call.Ring.TheVariants.{Fill, Comp, Rx, Tx}
use Rattle.xsk_model.specs.declared.call.Mark.{Mark}
use Rattle.xsk_model.specs.declared.call.Mark.TheVariants.{NeedFill, NeedTx, Kick, RxDone, Gone, TxDone, Cell, Closing, Acked}
use Rattle.xsk_model.specs.declared.call.Call.TheVariants.{Reserve, Submit, Peek, Release, Swap, Look}
use Rattle.xsk_turns.specs.Mangling.{plain, given_by, back_by, number_by}
use Rattle.xsk_turns.specs.Turns.{frames_in}
use Rattle.xsk_turns.specs.declared.manner.Manner.{Manner}

-- what an application keeps: for each lane the items that it has yet to pass on, for each side the frames that it has yet
-- to give back, whether the side's driver told that it has no further packet, and whether it told that it has ended; and
-- whether the application told that it sends nothing more. Its manner stays as it is, and where it changes items, the number
-- of the next one that it submits on TX is kept. Of the socket that it is to close: how many items it awaits on its RX ring
-- before it does; for each side whether the packet of the last item that its closed lane received goes on; whether it has
-- closed it, and whether the driver has acknowledged that.
pub record AppKept : Type 0 where
  pub pending : List (List Item)
  pub back : List (List Frame)
  pub seen : List Bool
  pub gone : List Bool
  pub tx_done : Bool
  pub manner : Manner
  pub number : ℕ
  pub awaited : ℕ
  pub cut : List Bool
  pub begun : Bool
  pub acked : Bool

-- what it notes in a turn: whether both drivers had told each as the turn began, whether each lane and each side that was
-- visited so far made a Peek that was Empty, and whether the closing was acknowledged as the turn began
pub record AppNoted : Type 0 where
  pub seen : Bool
  pub gone : Bool
  pub lanes_empty : Bool
  pub sides_empty : Bool
  pub acked : Bool

-- ---- its numbers

-- the pair of a side: the application has the number k * queues + q, and pairs are numbered port by port
abbrev pub pair_of : Config → ℕ → ℕ → ℕ
pair_of c app side = (2 * (app / c.queues) + side) * c.queues + app % c.queues

-- the socket of a side's class: sockets are numbered pair by pair
abbrev pub side_socket : Config → ℕ → ℕ → ℕ → ℕ
side_socket c app side class = pair_of c app side * classes_of c + class

-- the sockets of a lane: lanes are numbered by side and class
abbrev pub rx_of : Config → ℕ → ℕ → ℕ
rx_of c app lane = side_socket c app (lane / classes_of c) (lane % classes_of c)

abbrev pub tx_of : Config → ℕ → ℕ → ℕ
tx_of c app lane = side_socket c app (1 - lane / classes_of c) (lane % classes_of c)

-- the pair of a lane's TX ring
abbrev pub tx_pair : Config → ℕ → ℕ → ℕ
tx_pair c app lane = pair_of c app (1 - lane / classes_of c)

abbrev pub lanes_of : Config → ℕ
lanes_of c = 2 * classes_of c

-- the home of a frame: the pair in whose pool it was at the opening
abbrev pub home_of : ℕ → Frame → ℕ
home_of pool frame = frame.number / pool

-- ---- what it keeps, by lane and side

abbrev pub pending_at : AppKept → ℕ → List Item
pending_at kept lane = slice_index_or kept.pending lane []

abbrev pub with_pending : AppKept → ℕ → List Item → AppKept
with_pending kept lane items = record kept { pending = slice_set kept.pending lane items }

abbrev pub back_at : AppKept → ℕ → List Frame
back_at kept side = slice_index_or kept.back side []

abbrev pub with_back : AppKept → ℕ → List Frame → AppKept
with_back kept side frames = record kept { back = slice_set kept.back side frames }

abbrev pub is_set : List Bool → ℕ → Bool
is_set flags side = slice_index_or flags side false

abbrev pub both : List Bool → Bool
both flags = is_set flags 0 && is_set flags 1

abbrev pub is_none : {A : Type 0} → List A → Bool
is_none [] = true
is_none (x ∷ xs) = false

-- ---- the socket that it closes

-- the socket to close, where it is one of the application's, and the side of its port
pub record Shut : Type 0 where
  pub socket : ℕ
  pub side : ℕ

abbrev pub shut_at : Config → ℕ → ℕ → Option Shut
shut_at c app s =
    if s / classes_of c == pair_of c app 0 then Some (record { socket = s; side = 0 })
    else if s / classes_of c == pair_of c app 1 then Some (record { socket = s; side = 1 })
    else None

abbrev pub shut_by : Config → ℕ → Option ℕ → Option Shut
shut_by c app None = None
shut_by c app (Some s) = shut_at c app s

abbrev pub shut_of : Config → ℕ → Option Shut
shut_of c app = shut_by c app c.closing

-- the closed lanes are that which comes from the socket's RX ring, and that which goes to its TX ring
abbrev pub lane_from : Config → Shut → ℕ
lane_from c shut = shut.side * classes_of c + shut.socket % classes_of c

abbrev pub lane_to : Config → Shut → ℕ
lane_to c shut = (1 - shut.side) * classes_of c + shut.socket % classes_of c

abbrev pub is_closed : Config → ℕ → ℕ → Option ℕ → Bool
is_closed c app lane None = false
is_closed c app lane (Some s) = rx_of c app lane == s || tx_of c app lane == s

-- once it has closed the socket, it gives back what comes on these lanes
abbrev pub drains : Config → ℕ → ℕ → AppKept → Bool
drains c app lane kept = kept.begun && is_closed c app lane c.closing

-- whether the packet of the last of some items goes on
abbrev pub is_cut : List Item → Bool
is_cut [] = false
is_cut (item ∷ []) = not (item.desc.options == 0)
is_cut (item ∷ next ∷ items) = is_cut (next ∷ items)

abbrev pub awaited_after : Config → ℕ → ℕ → Option ℕ → List Item → ℕ → ℕ
awaited_after c app lane None items awaited = awaited
awaited_after c app lane (Some s) items awaited = if rx_of c app lane == s then awaited - length items else awaited

abbrev pub cut_after : Config → ℕ → ℕ → Option ℕ → List Item → List Bool → List Bool
cut_after c app lane closing items cut = if is_closed c app lane closing then slice_set cut (lane / classes_of c) (is_cut items) else cut

-- the items that a lane received are pending
abbrev pub received : Config → ℕ → ℕ → AppKept → List Item → AppKept
received c app lane kept items = record kept {
  pending = slice_set kept.pending lane items;
  awaited = awaited_after c app lane c.closing items kept.awaited;
  cut = cut_after c app lane c.closing items kept.cut;
}

-- The frames of items that a closed lane received stay with the side, as many as a UMEM may have. Where the replies fit there
-- are no more, and nothing is cut: by the law AppKeepsFrames all frames are kept.
abbrev pub drained : Config → ℕ → AppKept → List Item → AppKept
drained c lane kept items = with_back kept (lane / classes_of c) (take most_frames (back_at kept (lane / classes_of c) ++ frames_in items))

-- it closes once, when so many items came, and on both closed lanes all packets have gone on whole
abbrev pub may_close : Config → Shut → AppKept → Bool
may_close c shut kept =
    (not kept.begun && kept.awaited == 0) && (not (is_set kept.cut 0) && not (is_set kept.cut 1))
    && (is_none (pending_at kept (lane_from c shut)) && is_none (pending_at kept (lane_to c shut)))

abbrev pub with_begun : AppKept → AppKept
with_begun kept = record kept { begun = true }

abbrev pub with_acked : AppKept → ℕ → AppKept
with_acked kept number = record kept { acked = number == 1 }

-- ---- need-wakeup

-- a pair's driver is woken by its kick
abbrev pub kick : ℕ → AppKept → Script AppKept → Script AppKept
kick pair kept next = ask kept (Swap (Kick pair) 1) (on_old (λ old. next))

-- With need-wakeup the ring's flag is looked at, and where it is set, the ring's driver is woken.
abbrev pub wake : Config → Mark → ℕ → AppKept → Script AppKept → Script AppKept
wake c need pair kept next =
    if c.wakeup then ask kept (Look need) (on_old (λ number. if number == 1 then kick pair kept next else next)) else next

-- ---- the lanes

-- the items that a lane submits: those that are pending as they are, or as its manner changes them; and what is kept then: a
-- frame that is taken from an item stays with the side that received it
abbrev pub given_on : Config → ℕ → AppKept → List Item
given_on c lane kept = given_by c.geometry kept.manner.mangle kept.number (pending_at kept lane)

abbrev pub passed_on : Config → ℕ → AppKept → AppKept
passed_on c lane kept = record kept {
  pending = slice_set kept.pending lane [];
  back = back_by kept.manner.mangle kept.number (pending_at kept lane) (lane / classes_of c) kept.back;
  number = number_by kept.manner.mangle kept.number (length (pending_at kept lane));
}

-- a lane's items go on to its TX ring, where it has room for all
abbrev pub pass_on : Config → ℕ → ℕ → AppKept → (AppKept → Script AppKept) → Script AppKept
pass_on c app lane kept next =
    ask kept (Reserve (Tx (tx_of c app lane)) (length (pending_at kept lane)))
    (granted_or_full
    (ask (passed_on c lane kept) (Submit (Tx (tx_of c app lane)) (given_on c lane kept))
    (on_submitted (wake c (NeedTx (tx_of c app lane)) (tx_pair c app lane) (passed_on c lane kept) (next (passed_on c lane kept)))))
    (next kept))

-- the items that a lane received are released and kept, and then passed on
abbrev pub receive_lane : Config → ℕ → ℕ → AppKept → (AppKept → Script AppKept) → List Item → Script AppKept
receive_lane c app lane kept next items =
    ask (received c app lane kept items) (Release (Rx (rx_of c app lane)) (length items)) (on_released (pass_on c app lane (received c app lane kept items) next))

-- a visit to a lane with these items pending: where there is none it peeks its RX ring
abbrev pub visit_lane : Config → ℕ → ℕ → List Item → AppNoted → AppKept → (AppNoted → AppKept → Script AppKept) → Script AppKept
visit_lane c app lane [] noted kept next =
    ask kept (Peek (Rx (rx_of c app lane)) (batch_of c))
    (items_or_empty (receive_lane c app lane kept (next (record noted { lanes_empty = false }))) (next noted kept))
visit_lane c app lane (item ∷ items) noted kept next = pass_on c app lane kept (next (record noted { lanes_empty = false }))

-- a visit to a closed lane, once the socket is closed: what stands on its RX ring is taken, and given back with the side's frames
abbrev pub drain_lane : Config → ℕ → ℕ → AppNoted → AppKept → (AppNoted → AppKept → Script AppKept) → Script AppKept
drain_lane c app lane noted kept next =
    ask kept (Peek (Rx (rx_of c app lane)) (batch_of c))
    (items_or_empty
    (λ items. ask (drained c lane kept items) (Release (Rx (rx_of c app lane)) (length items)) (on_released (next (record noted { lanes_empty = false }) (drained c lane kept items))))
    (next noted kept))

-- so many more lanes, from this one on
abbrev pub visit_lanes : Config → ℕ → ℕ → ℕ → AppNoted → AppKept → (AppNoted → AppKept → Script AppKept) → Script AppKept
visit_lanes c app zero lane noted kept next = next noted kept
visit_lanes c app (suc more) lane noted kept next =
    if drains c app lane kept then drain_lane c app lane noted kept (λ noted kept. visit_lanes c app more (lane + 1) noted kept next)
    else visit_lane c app lane (pending_at kept lane) noted kept (λ noted kept. visit_lanes c app more (lane + 1) noted kept next)

-- ---- the sides

-- the frames from the first one on that go back together: those with its home, at most a batch
abbrev pub group_of : ℕ → ℕ → Frame → List Frame → List Frame
group_of pool batch frame frames = take batch (take_while (λ (f : Frame). home_of pool f == home_of pool frame) (frame ∷ frames))

-- These frames of a side go back group by group to the FILL rings of their homes, as far as these have room; so many of
-- the first have gone already.
abbrev pub give_back : Config → ℕ → ℕ → List Frame → AppKept → (AppKept → Script AppKept) → Script AppKept
give_back c side done [] kept next = next (with_back kept side [])
give_back c side (suc done) (frame ∷ frames) kept next = give_back c side done frames kept next
give_back c side zero (frame ∷ frames) kept next =
    ask (with_back kept side (frame ∷ frames)) (Reserve (Fill (home_of (pool_of c) frame)) (length (group_of (pool_of c) (batch_of c) frame frames)))
    (granted_or_full
    (ask (with_back kept side (drop (length (group_of (pool_of c) (batch_of c) frame frames)) (frame ∷ frames)))
    (Submit (Fill (home_of (pool_of c) frame)) (map (home_item c.geometry) (group_of (pool_of c) (batch_of c) frame frames)))
    (on_submitted
    (wake c (NeedFill (home_of (pool_of c) frame)) (home_of (pool_of c) frame) (with_back kept side (drop (length (group_of (pool_of c) (batch_of c) frame frames)) (frame ∷ frames)))
    (give_back c side (length (group_of (pool_of c) (batch_of c) frame frames) - 1) frames kept next))))
    (next (with_back kept side (frame ∷ frames))))

-- the items that a side completed are released, and their frames kept and given back
abbrev pub complete_side : Config → ℕ → ℕ → AppKept → (AppKept → Script AppKept) → List Item → Script AppKept
complete_side c app side kept next items =
    ask (with_back kept side (frames_in items)) (Release (Comp (pair_of c app side)) (length items))
    (on_released (give_back c side zero (frames_in items) (with_back kept side (frames_in items)) next))

-- a visit to a side with these frames to give back: where there is none it peeks its COMPLETION ring
abbrev pub visit_side : Config → ℕ → ℕ → List Frame → AppNoted → AppKept → (AppNoted → AppKept → Script AppKept) → Script AppKept
visit_side c app side [] noted kept next =
    ask kept (Peek (Comp (pair_of c app side)) (batch_of c))
    (items_or_empty (complete_side c app side kept (next (record noted { sides_empty = false }))) (next noted kept))
visit_side c app side (frame ∷ frames) noted kept next =
    give_back c side zero (frame ∷ frames) kept (next (record noted { sides_empty = false }))

-- so many more sides, from this one on
abbrev pub visit_sides : Config → ℕ → ℕ → ℕ → AppNoted → AppKept → (AppNoted → AppKept → Script AppKept) → Script AppKept
visit_sides c app zero side noted kept next = next noted kept
visit_sides c app (suc more) side noted kept next =
    visit_side c app side (back_at kept side) noted kept (λ noted kept. visit_sides c app more (side + 1) noted kept next)

-- ---- the end

-- a side whose driver's mark had this number: 1 is kept
abbrev pub with_seen : AppKept → ℕ → ℕ → AppKept
with_seen kept side done = if done == 1 then record kept { seen = slice_set kept.seen side true } else kept

abbrev pub with_gone : AppKept → ℕ → ℕ → AppKept
with_gone kept side gone = if gone == 1 then record kept { gone = slice_set kept.gone side true } else kept

-- so many more sides, from this one on: the mark of each that isn't kept as set is looked at
abbrev pub look_marks : (AppKept → List Bool) → (ℕ → Mark) → (AppKept → ℕ → ℕ → AppKept) → ℕ → ℕ → AppKept → Script AppKept
look_marks flags mark with_flag zero side kept = again kept
look_marks flags mark with_flag (suc more) side kept =
    if is_set (flags kept) side then look_marks flags mark with_flag more (side + 1) kept
    else ask kept (Look (mark side)) (on_old (λ number. look_marks flags mark with_flag more (side + 1) (with_flag kept side number)))

-- whether each driver has no further packet, and whether it has ended
abbrev pub look_rx_done : Config → ℕ → ℕ → ℕ → AppKept → Script AppKept
look_rx_done c app = look_marks (λ (kept : AppKept). kept.seen) (λ side. RxDone (pair_of c app side)) with_seen

abbrev pub look_gone : Config → ℕ → ℕ → ℕ → AppKept → Script AppKept
look_gone c app = look_marks (λ (kept : AppKept). kept.gone) (λ side. Gone (pair_of c app side)) with_gone

-- With need-wakeup both drivers are woken, for each may wait to be told.
abbrev pub wake_both : Config → ℕ → AppKept → Script AppKept
wake_both c app kept =
    if c.wakeup then kick (pair_of c app 0) kept (kick (pair_of c app 1) kept (again kept)) else again kept

-- Where both drivers had told that they have no further packet as the turn began, and each lane was empty in it, it tells
-- that it sends nothing more; where it has closed a socket, only if that was acknowledged as the turn began.
abbrev pub may_tell : AppNoted → AppKept → Bool
may_tell noted kept = (noted.seen && noted.lanes_empty) && (not kept.begun || noted.acked)

abbrev pub tell_tx_done : Config → ℕ → AppNoted → AppKept → Script AppKept
tell_tx_done c app noted kept =
    if may_tell noted kept then ask kept (Swap (TxDone app) 1) (on_old (λ old. wake_both c app (record kept { tx_done = true }))) else again kept

-- It has ended where both drivers had ended as the turn began, each side was empty in it, and no frame is left to give
-- back.
abbrev pub end_or_look : Config → ℕ → AppNoted → AppKept → Script AppKept
end_or_look c app noted kept =
    if noted.gone && noted.sides_empty && is_none (back_at kept 0) && is_none (back_at kept 1) then ended kept else look_gone c app 2 0 kept

-- where it has closed a socket, it looks whether the driver has acknowledged that, until it has
abbrev pub look_acked : Option Shut → AppKept → (AppKept → Script AppKept) → Script AppKept
look_acked None kept next = next kept
look_acked (Some shut) kept next =
    if kept.begun && not kept.acked then ask kept (Look (Acked shut.socket)) (on_old (λ number. next (with_acked kept number))) else next kept

-- a turn's end, by the facts as they are now
abbrev pub end_by : Config → ℕ → AppNoted → AppKept → Script AppKept
end_by c app noted kept =
    if kept.tx_done then end_or_look c app noted kept
    else if both kept.seen then tell_tx_done c app noted kept else look_rx_done c app 2 0 kept

abbrev pub end_turn : Config → ℕ → AppNoted → AppKept → Script AppKept
end_turn c app noted kept = look_acked (shut_of c app) kept (end_by c app noted)

-- ---- closing

-- so many more cells of the socket's port, from this one on: each that held the socket at the opening is lowered
abbrev pub lower_cells : Config → ℕ → ℕ → ℕ → AppKept → Script AppKept → Script AppKept
lower_cells c s zero index kept next = next
lower_cells c s (suc more) index kept next =
    if slice_index (map_of c (port_of c (Rx s))) index == suc s
    then ask kept (Swap (Cell (port_of c (Rx s)) index) 0) (on_old (λ old. lower_cells c s more (index + 1) kept next))
    else lower_cells c s more (index + 1) kept next

-- and then the socket is closed; with need-wakeup its driver is woken, which may wait to be told
abbrev pub wake_closed : Config → ℕ → AppKept → Script AppKept → Script AppKept
wake_closed c pair kept next = if c.wakeup then kick pair kept next else next

abbrev pub tell_closing : Config → ℕ → Shut → AppKept → (AppKept → Script AppKept) → Script AppKept
tell_closing c app shut kept next =
    ask kept (Swap (Closing shut.socket) 1) (on_old (λ old. wake_closed c (pair_of c app shut.side) (with_begun kept) (next (with_begun kept))))

abbrev pub close_socket : Config → ℕ → Shut → AppKept → (AppKept → Script AppKept) → Script AppKept
close_socket c app shut kept next =
    lower_cells c shut.socket (length (map_of c (port_of c (Rx shut.socket)))) 0 kept (tell_closing c app shut kept next)

abbrev pub close_first : Config → ℕ → Option Shut → AppKept → (AppKept → Script AppKept) → Script AppKept
close_first c app None kept next = next kept
close_first c app (Some shut) kept next = if may_close c shut kept then close_socket c app shut kept next else next kept

-- ---- a turn

abbrev pub noted_first : AppKept → AppNoted
noted_first kept = record { seen = both kept.seen; gone = both kept.gone; lanes_empty = true; sides_empty = true; acked = kept.acked }

abbrev pub turn_sides : Config → ℕ → AppNoted → AppKept → Script AppKept
turn_sides c app noted kept = visit_sides c app 2 0 noted kept (end_turn c app)

-- lanes, and to close a socket before them, are left out where nothing more is sent
abbrev pub turn_lanes : Config → ℕ → AppKept → Script AppKept
turn_lanes c app kept = visit_lanes c app (lanes_of c) 0 (noted_first kept) kept (turn_sides c app)

abbrev pub app_turn : Config → ℕ → AppKept → Script AppKept
app_turn c app kept =
    if kept.tx_done then turn_sides c app (noted_first kept) kept
    else close_first c app (shut_of c app) kept (turn_lanes c app)

-- ---- runs

-- a new application with a manner keeps nothing
abbrev pub app_start_by : Manner → Config → AppKept
app_start_by m c = record {
  pending = replicate (lanes_of c) [];
  back = [] ∷ [] ∷ [];
  seen = false ∷ false ∷ [];
  gone = false ∷ false ∷ [];
  tx_done = false;
  manner = m;
  number = 0;
  awaited = m.after;
  cut = false ∷ false ∷ [];
  begun = false;
  acked = false;
}

-- a list of calls and replies is a run of the application with this manner, and a whole one
abbrev pub IsAppRunBy : Manner → Config → ℕ → List Told → Type 0
IsAppRunBy m c app l = IsRun (app_turn c app) (app_start_by m c) l

abbrev pub IsWholeAppRunBy : Manner → Config → ℕ → List Told → Type 0
IsWholeAppRunBy m c app l = IsWhole (app_turn c app) (app_start_by m c) l

-- and of one that changes nothing
abbrev pub app_start : Config → AppKept
app_start c = app_start_by plain c

abbrev pub IsAppRun : Config → ℕ → List Told → Type 0
IsAppRun c app l = IsAppRunBy plain c app l

abbrev pub IsWholeAppRun : Config → ℕ → List Told → Type 0
IsWholeAppRun c app l = IsWholeAppRunBy plain c app l
