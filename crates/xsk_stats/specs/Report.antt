-- The text of a report: the configuration that was run, what became of each driver's packets, and the statistics by their
-- names in if_xdp.h, `struct xdp_statistics` (af_xdp.rst, "XDP_STATISTICS getsockopt"). That three of them are told of a
-- pair of FILL and COMPLETION, since its sockets share these rings, and the form of the lines are this project's own.
use Rattle.std.specs.Prelude.{ℕ, Bool, if◌then◌else◌, List, [], ◌∷◌, ◌++◌, length, take, sum, sum_by, flat_map, codes}
use Rattle.std.specs.Fmt.{decimal}
use denote.Ref.{Bor}
use Rattle.std.specs.List.{range_with_len, slice_index_or}
use Rattle.xsk_model.specs.Config.{Config, pair_at, classes_of}
use Rattle.xsk_model.specs.declared.config.PairInfo.{PairInfo}
use Rattle.xsk_turns.specs.Counters.{no_counters}
use Rattle.xsk_turns.specs.Statistics.{capped}
use Rattle.xsk_turns.specs.declared.disposal.Disposal.{Disposal}
use Rattle.xsk_turns.specs.declared.disposal.Disposal.TheVariants.{Delivered, NoFrames, RxFull, TooLong, Runt, Missed, Passed, Dropped, Bounced}
use Rattle.xsk_turns.specs.declared.disposal.DriverCounters.{DriverCounters}
use Rattle.xsk_turns.specs.declared.wire.Wire.{Wire}
use Rattle.xsk_turns.specs.declared.wire.Wire.TheVariants.{Wait, Drop}
use Rattle.xsk_machine.specs.Figures.{kind_of, figures_by}
use Rattle.xsk_machine.specs.declared.figures.DriverFigures.{DriverFigures}
use Rattle.xsk_machine.specs.declared.figures.Figures.{Figures}
use Rattle.xsk_stats.specs.declared.totals.Statistics.{Statistics}

-- ---- words and numbers

-- a word, and the number behind it in decimal digits
unfoldable pub numbered : List ℕ → ℕ → List ℕ
numbered word number = word ++ decimal number

-- words behind a text, each with its number
abbrev pub put_behind : List ℕ → List (Bor (List ℕ) × ℕ) → List ℕ
put_behind text [] = text
put_behind text (number ∷ numbers) = put_behind (text ++ numbered number.0.now number.1) numbers

-- a word, and the port and the queue of a pair behind it
unfoldable pub at_queue : List ℕ → PairInfo → List ℕ
at_queue word pair = numbered word pair.port ++ numbered (codes ".") pair.queue

abbrev pub wire_word : Wire → List ℕ
wire_word Wait = codes "wait"
wire_word Drop = codes "drop"

-- ---- the lines

abbrev pub setting_line : Config → Wire → List ℕ
setting_line c wire =
    numbered (codes "ports ") c.ports
    ++ numbered (codes " queues ") c.queues
    ++ numbered (codes " sockets ") (classes_of c)
    ++ numbered (codes " chunk ") c.geometry.chunk
    ++ numbered (codes " headroom ") c.geometry.headroom
    ++ numbered (codes " frames ") c.geometry.frames
    ++ codes " wire " ++ wire_word wire ++ codes "\n"

abbrev pub calls_line : ℕ → List ℕ
calls_line calls = numbered (codes "calls ") calls ++ codes "\n"

-- how many packets of a driver have a disposal of this kind
abbrev pub of_kind : DriverFigures → Disposal → ℕ
of_kind figures disposal = slice_index_or figures.kinds (kind_of disposal) 0

abbrev pub driver_line : PairInfo → DriverFigures → List ℕ
driver_line pair figures =
    at_queue (codes "driver ") pair
    ++ numbered (codes " in ") figures.packets_in
    ++ numbered (codes " delivered ") (of_kind figures (Delivered 0))
    ++ numbered (codes " noframes ") (of_kind figures NoFrames)
    ++ numbered (codes " rxfull ") (of_kind figures RxFull)
    ++ numbered (codes " toolong ") (of_kind figures TooLong)
    ++ numbered (codes " runt ") (of_kind figures Runt)
    ++ numbered (codes " missed ") (of_kind figures Missed)
    ++ numbered (codes " passed ") (of_kind figures Passed)
    ++ numbered (codes " dropped ") (of_kind figures Dropped)
    ++ numbered (codes " bounced ") (of_kind figures Bounced)
    ++ numbered (codes " sent ") figures.sent
    ++ codes "\n"

abbrev pub pair_line : PairInfo → DriverCounters → List ℕ
pair_line pair counters =
    at_queue (codes "pair ") pair
    ++ numbered (codes " rx_dropped ") counters.rx_dropped
    ++ numbered (codes " rx_invalid_descs ") counters.rx_invalid_descs
    ++ numbered (codes " rx_fill_ring_empty_descs ") counters.rx_fill_ring_empty_descs
    ++ codes "\n"

-- the socket of a class
abbrev pub socket_line : PairInfo → DriverCounters → ℕ → List ℕ
socket_line pair counters class =
    at_queue (codes "socket ") pair
    ++ numbered (codes ".") class
    ++ numbered (codes " rx_ring_full ") (slice_index_or counters.rx_ring_full class 0)
    ++ numbered (codes " tx_invalid_descs ") (slice_index_or counters.tx_invalid_descs class 0)
    ++ numbered (codes " tx_ring_empty_descs ") (slice_index_or counters.tx_ring_empty_descs class 0)
    ++ codes "\n"

abbrev pub socket_lines : ℕ → PairInfo → DriverCounters → List ℕ
socket_lines classes pair counters = flat_map (socket_line pair counters) (range_with_len 0 classes)

-- ---- the sums

-- the sum of a number of all drivers
abbrev pub total_of : (DriverFigures → ℕ) → List DriverFigures → ℕ
total_of number drivers = capped (sum_by number drivers)

-- a counter of all sockets of a driver
abbrev pub of_sockets : ℕ → List ℕ → ℕ
of_sockets classes counter = sum (take classes counter)

abbrev pub totals_of : ℕ → List DriverFigures → Statistics
totals_of classes drivers = record {
  rx_dropped = total_of (λ driver. driver.counters.rx_dropped) drivers;
  rx_invalid_descs = total_of (λ driver. driver.counters.rx_invalid_descs) drivers;
  tx_invalid_descs = total_of (λ driver. of_sockets classes driver.counters.tx_invalid_descs) drivers;
  rx_ring_full = total_of (λ driver. of_sockets classes driver.counters.rx_ring_full) drivers;
  rx_fill_ring_empty_descs = total_of (λ driver. driver.counters.rx_fill_ring_empty_descs) drivers;
  tx_ring_empty_descs = total_of (λ driver. of_sockets classes driver.counters.tx_ring_empty_descs) drivers;
  stranded = total_of (λ driver. driver.stranded) drivers;
}

abbrev pub total_line : Statistics → List ℕ
total_line total =
    numbered (codes "total rx_dropped ") total.rx_dropped
    ++ numbered (codes " rx_invalid_descs ") total.rx_invalid_descs
    ++ numbered (codes " tx_invalid_descs ") total.tx_invalid_descs
    ++ numbered (codes " rx_ring_full ") total.rx_ring_full
    ++ numbered (codes " rx_fill_ring_empty_descs ") total.rx_fill_ring_empty_descs
    ++ numbered (codes " tx_ring_empty_descs ") total.tx_ring_empty_descs
    ++ codes "\n"

-- the frames that the drivers took from TX and didn't give to COMPLETION, where the applications changed items
abbrev pub stranded_line : Bool → ℕ → List ℕ
stranded_line mangled stranded = if mangled then numbered (codes "stranded ") stranded ++ codes "\n" else []

-- ---- the text

-- the figures of the driver of a pair
abbrev pub figures_at : List DriverFigures → ℕ → DriverFigures
figures_at drivers pair = slice_index_or drivers pair (figures_by 0 [] 0 no_counters 0)

-- the lines of all pairs, in order
abbrev pub lines_of : (PairInfo → DriverFigures → List ℕ) → Config → List DriverFigures → List ℕ
lines_of line c drivers = flat_map (λ pair. line (pair_at c.pairs pair) (figures_at drivers pair)) (range_with_len 0 (length c.pairs))

abbrev pub report_text : Config → Figures → List ℕ
report_text c figures =
    setting_line c figures.wire
    ++ calls_line figures.calls
    ++ lines_of driver_line c figures.drivers
    ++ lines_of (λ pair driver. pair_line pair driver.counters) c figures.drivers
    ++ lines_of (λ pair driver. socket_lines (classes_of c) pair driver.counters) c figures.drivers
    ++ total_line (totals_of (classes_of c) figures.drivers)
    ++ stranded_line figures.mangled (totals_of (classes_of c) figures.drivers).stranded
