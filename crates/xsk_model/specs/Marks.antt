-- The marks of a configuration: those that exist, the numbers that each may have, who may swap each, and the place of
-- each in a list of all.
-- NeedFill and NeedTx are the need-wakeup flags of af_xdp.rst ("XDP_USE_NEED_WAKEUP bind flag"), and cells are the
-- entries of XSKMAPs ("XDP_REDIRECT"); the other marks are this project's own.
use Rattle.std.specs.Prelude.{◌≡◌, ℕ, suc, ◌+◌, ◌*◌, ◌/◌, ◌^◌, ◌<◌, ◌≤◌, ◌⊎◌, Bool, false, ◌&&◌, ◌==◌, Some, length, slice_index}
use Rattle.xsk_model.specs.Config.{Config, HasRing, map_of, socket_at}
use Rattle.xsk_model.specs.Rings.{application_on, driver_of, app_of, caller_of}
use Rattle.xsk_model.specs.declared.call.Ring.TheVariants.{Fill, Rx, Tx}
use Rattle.xsk_model.specs.declared.call.Mark.{Mark}
use Rattle.xsk_model.specs.declared.call.Mark.TheVariants.{NeedFill, NeedTx, Kick, RxDone, Gone, TxDone, Cell, Closing, Acked, Bounced}

-- whether two marks are one
abbrev pub is_mark : Mark → Mark → Bool
is_mark (NeedFill d) (NeedFill e) = d == e
is_mark (NeedTx s) (NeedTx t) = s == t
is_mark (Kick d) (Kick e) = d == e
is_mark (RxDone d) (RxDone e) = d == e
is_mark (Gone d) (Gone e) = d == e
is_mark (TxDone a) (TxDone b) = a == b
is_mark (Cell p i) (Cell q j) = p == q && i == j
is_mark (Closing s) (Closing t) = s == t
is_mark (Acked s) (Acked t) = s == t
is_mark (Bounced d) (Bounced e) = d == e
is_mark _ _ = false

-- the number of applications
abbrev pub apps_of : Config → ℕ
apps_of c = (c.ports / 2) * c.queues

-- a mark that the configuration has
abbrev pub HasMark : Config → Mark → Type 0
HasMark c (NeedFill d) = d < length c.pairs
HasMark c (NeedTx s) = HasRing c (Tx s)
HasMark c (Kick d) = d < length c.pairs
HasMark c (RxDone d) = d < length c.pairs
HasMark c (Gone d) = d < length c.pairs
HasMark c (TxDone a) = a < apps_of c
HasMark c (Cell port index) = (port < c.ports) × (index < length (map_of c port))
HasMark c (Closing s) = s < length c.sockets
HasMark c (Acked s) = s < length c.sockets
HasMark c (Bounced d) = d < length c.pairs

-- a cell that holds the socket to close at the opening
abbrev pub HoldsClosing : Config → ℕ → ℕ → ℕ → Type 0
HoldsClosing c port index s = (c.closing ≡ Some s) × (slice_index (map_of c port) index ≡ suc s)

-- a number that a mark may have: a cell has its configured number, or 0 where that is the socket to close; a count of
-- packets is one of 64 bits, and each other mark 0 or 1
abbrev pub IsMarkNumber : Config → Mark → ℕ → Type 0
IsMarkNumber c (NeedFill d) value = value ≤ 1
IsMarkNumber c (NeedTx s) value = value ≤ 1
IsMarkNumber c (Kick d) value = value ≤ 1
IsMarkNumber c (RxDone d) value = value ≤ 1
IsMarkNumber c (Gone d) value = value ≤ 1
IsMarkNumber c (TxDone a) value = value ≤ 1
IsMarkNumber c (Cell port index) value = (value ≡ slice_index (map_of c port) index) ⊎ ((value ≡ 0) × (s : ℕ) × HoldsClosing c port index s)
IsMarkNumber c (Closing s) value = value ≤ 1
IsMarkNumber c (Acked s) value = value ≤ 1
IsMarkNumber c (Bounced d) value = value < 2 ^ 64

-- the number of marks before the cells, and of those with the cells
abbrev pub flags_of : Config → ℕ
flags_of c = 4 * length c.pairs + length c.sockets + apps_of c

abbrev pub cells_end_of : Config → ℕ
cells_end_of c = flags_of c + 64 * c.ports

-- NeedFill by pair, NeedTx by socket, Kick, RxDone and Gone by pair, TxDone by application, 64 places of cells for each
-- port, Closing and Acked by socket, and Bounced by pair
abbrev pub mark_place : Config → Mark → ℕ
mark_place c (NeedFill d) = d
mark_place c (NeedTx s) = length c.pairs + s
mark_place c (Kick d) = length c.pairs + length c.sockets + d
mark_place c (RxDone d) = 2 * length c.pairs + length c.sockets + d
mark_place c (Gone d) = 3 * length c.pairs + length c.sockets + d
mark_place c (TxDone a) = 4 * length c.pairs + length c.sockets + a
mark_place c (Cell port index) = flags_of c + 64 * port + index
mark_place c (Closing s) = cells_end_of c + s
mark_place c (Acked s) = cells_end_of c + length c.sockets + s
mark_place c (Bounced d) = cells_end_of c + 2 * length c.sockets + d

-- the number of places
abbrev pub mark_places_of : Config → ℕ
mark_places_of c = cells_end_of c + 2 * length c.sockets + length c.pairs

-- A caller whose mark it is: a driver's marks are the driver's alone, an application's the application's alone, and a
-- pair's kick is both's. A cell that holds the socket to close is the application's of the socket's queue, and each
-- other cell is nobody's; of Closing and Acked only those of the socket to close are anybody's.
abbrev pub IsMarkOwner : Config → ℕ → Mark → Type 0
IsMarkOwner c who (NeedFill d) = who ≡ d
IsMarkOwner c who (NeedTx s) = who ≡ driver_of c (Tx s)
IsMarkOwner c who (Kick d) = (who ≡ d) ⊎ (who ≡ app_of c (Fill d))
IsMarkOwner c who (RxDone d) = who ≡ d
IsMarkOwner c who (Gone d) = who ≡ d
IsMarkOwner c who (TxDone a) = who ≡ caller_of c a
IsMarkOwner c who (Cell port index) = (s : ℕ) × HoldsClosing c port index s × (who ≡ caller_of c (application_on c port (socket_at c.sockets s).queue))
IsMarkOwner c who (Closing s) = (c.closing ≡ Some s) × (who ≡ app_of c (Rx s))
IsMarkOwner c who (Acked s) = (c.closing ≡ Some s) × (who ≡ driver_of c (Rx s))
IsMarkOwner c who (Bounced d) = who ≡ d
