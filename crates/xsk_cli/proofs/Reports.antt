-- A report is passed over where a journal is looked for: each of its lines begins with a letter.
use Rattle.std.proofs.Common.{◌≡◌, ℕ, Bool, List, ◌++◌, true, false, refl, length}
use Rattle.std.specs.Prelude.{codes}
use Rattle.std.specs.Fmt.{decimal}
use Rattle.std.specs.List.{range_with_len, slice_index_or}
use Rattle.xsk_audit.proofs.Feeds.{has_no_feed, no-feed-both, decimal-no-feed, IsPassed, passed-none, passed-both, passed-line, passed-flat}
use Rattle.xsk_model.specs.Config.{Config, classes_of, pair_at}
use Rattle.xsk_model.specs.declared.config.PairInfo.{PairInfo}
use Rattle.xsk_turns.specs.declared.disposal.Disposal.TheVariants.{Delivered, NoFrames, RxFull, TooLong, Runt, Missed, Passed, Dropped, Bounced}
use Rattle.xsk_turns.specs.declared.disposal.DriverCounters.{DriverCounters}
use Rattle.xsk_turns.specs.declared.wire.Wire.{Wire}
use Rattle.xsk_turns.specs.declared.wire.Wire.TheVariants.{Wait, Drop}
use Rattle.xsk_machine.specs.declared.figures.DriverFigures.{DriverFigures}
use Rattle.xsk_machine.specs.declared.figures.Figures.{Figures}
use Rattle.xsk_stats.specs.Report.{numbered, at_queue, wire_word, setting_line, calls_line, of_kind, driver_line, pair_line, socket_line, socket_lines, totals_of, total_line, stranded_line, figures_at, lines_of, report_text}

-- ---- texts without a line feed

abbrev Clean : Type 0
Clean = (text : List ℕ) × (has_no_feed text ≡ true)

numbered-clean : (word : List ℕ) (n : ℕ) → has_no_feed word ≡ true → has_no_feed (numbered word n) ≡ true
unfolding numbered
numbered-clean word n h = no-feed-both word (decimal n) h (decimal-no-feed n)

abbrev begin : (word : List ℕ) → ℕ → has_no_feed word ≡ true → Clean
begin word n h = (numbered word n, numbered-clean word n h)

abbrev with_number : Clean → (word : List ℕ) → ℕ → has_no_feed word ≡ true → Clean
with_number c word n h = (c.0 ++ numbered word n, no-feed-both c.0 (numbered word n) c.1 (numbered-clean word n h))

abbrev with_word : Clean → (word : List ℕ) → has_no_feed word ≡ true → Clean
with_word c word h = (c.0 ++ word, no-feed-both c.0 word c.1 h)

queue-clean : (word : List ℕ) (pair : PairInfo) → has_no_feed word ≡ true → has_no_feed (at_queue word pair) ≡ true
unfolding at_queue
queue-clean word pair h = no-feed-both (numbered word pair.port) (numbered (codes ".") pair.queue) (numbered-clean word pair.port h) (numbered-clean (codes ".") pair.queue refl)

abbrev at_pair : (word : List ℕ) → PairInfo → has_no_feed word ≡ true → Clean
at_pair word pair h = (at_queue word pair, queue-clean word pair h)

wire-clean : (wire : Wire) → has_no_feed (wire_word wire) ≡ true
wire-clean Wait = refl
wire-clean Drop = refl

-- ---- the lines

setting-passed : (c : Config) (wire : Wire) → IsPassed (setting_line c wire)
unfolding numbered
setting-passed c wire =
    let ports = begin (codes "ports ") c.ports refl in
    let queues = with_number ports (codes " queues ") c.queues refl in
    let sockets = with_number queues (codes " sockets ") (classes_of c) refl in
    let chunk = with_number sockets (codes " chunk ") c.geometry.chunk refl in
    let headroom = with_number chunk (codes " headroom ") c.geometry.headroom refl in
    let frames = with_number headroom (codes " frames ") c.geometry.frames refl in
    let body = with_word (with_word frames (codes " wire ") refl) (wire_word wire) (wire-clean wire) in
    passed-line body.0 refl body.1

calls-passed : (calls : ℕ) → IsPassed (calls_line calls)
unfolding numbered
calls-passed calls = let body = begin (codes "calls ") calls refl in passed-line body.0 refl body.1

driver-passed : (pair : PairInfo) (figures : DriverFigures) → IsPassed (driver_line pair figures)
unfolding at_queue numbered
driver-passed pair figures =
    let driver = at_pair (codes "driver ") pair refl in
    let packets = with_number driver (codes " in ") figures.packets_in refl in
    let delivered = with_number packets (codes " delivered ") (of_kind figures (Delivered 0)) refl in
    let frames = with_number delivered (codes " noframes ") (of_kind figures NoFrames) refl in
    let full = with_number frames (codes " rxfull ") (of_kind figures RxFull) refl in
    let long = with_number full (codes " toolong ") (of_kind figures TooLong) refl in
    let runt = with_number long (codes " runt ") (of_kind figures Runt) refl in
    let missed = with_number runt (codes " missed ") (of_kind figures Missed) refl in
    let passed = with_number missed (codes " passed ") (of_kind figures Passed) refl in
    let dropped = with_number passed (codes " dropped ") (of_kind figures Dropped) refl in
    let bounced = with_number dropped (codes " bounced ") (of_kind figures Bounced) refl in
    let body = with_number bounced (codes " sent ") figures.sent refl in
    passed-line body.0 refl body.1

pair-passed : (pair : PairInfo) (counters : DriverCounters) → IsPassed (pair_line pair counters)
unfolding at_queue numbered
pair-passed pair counters =
    let first = at_pair (codes "pair ") pair refl in
    let dropped = with_number first (codes " rx_dropped ") counters.rx_dropped refl in
    let invalid = with_number dropped (codes " rx_invalid_descs ") counters.rx_invalid_descs refl in
    let body = with_number invalid (codes " rx_fill_ring_empty_descs ") counters.rx_fill_ring_empty_descs refl in
    passed-line body.0 refl body.1

socket-passed : (pair : PairInfo) (counters : DriverCounters) (class : ℕ) → IsPassed (socket_line pair counters class)
unfolding at_queue numbered
socket-passed pair counters class =
    let first = at_pair (codes "socket ") pair refl in
    let socket = with_number first (codes ".") class refl in
    let full = with_number socket (codes " rx_ring_full ") (slice_index_or counters.rx_ring_full class 0) refl in
    let invalid = with_number full (codes " tx_invalid_descs ") (slice_index_or counters.tx_invalid_descs class 0) refl in
    let body = with_number invalid (codes " tx_ring_empty_descs ") (slice_index_or counters.tx_ring_empty_descs class 0) refl in
    passed-line body.0 refl body.1

total-passed : (classes : ℕ) (drivers : List DriverFigures) → IsPassed (total_line (totals_of classes drivers))
unfolding numbered
total-passed classes drivers =
    let total = totals_of classes drivers in
    let first = begin (codes "total rx_dropped ") total.rx_dropped refl in
    let received = with_number first (codes " rx_invalid_descs ") total.rx_invalid_descs refl in
    let sent = with_number received (codes " tx_invalid_descs ") total.tx_invalid_descs refl in
    let full = with_number sent (codes " rx_ring_full ") total.rx_ring_full refl in
    let empty = with_number full (codes " rx_fill_ring_empty_descs ") total.rx_fill_ring_empty_descs refl in
    let body = with_number empty (codes " tx_ring_empty_descs ") total.tx_ring_empty_descs refl in
    passed-line body.0 refl body.1

stranded-passed : (mangled : Bool) (stranded : ℕ) → IsPassed (stranded_line mangled stranded)
unfolding numbered
stranded-passed true stranded = let body = begin (codes "stranded ") stranded refl in passed-line body.0 refl body.1
stranded-passed false stranded = passed-none

-- ---- the report

all-passed : (line : PairInfo → DriverFigures → List ℕ) (c : Config) (drivers : List DriverFigures) → ((pair : PairInfo) (figures : DriverFigures) → IsPassed (line pair figures)) → IsPassed (lines_of line c drivers)
all-passed line c drivers each = passed-flat (λ pair. line (pair_at c.pairs pair) (figures_at drivers pair)) (range_with_len 0 (length c.pairs)) (λ pair. each (pair_at c.pairs pair) (figures_at drivers pair))

sockets-passed : (classes : ℕ) (pair : PairInfo) (counters : DriverCounters) → IsPassed (socket_lines classes pair counters)
sockets-passed classes pair counters = passed-flat (socket_line pair counters) (range_with_len 0 classes) (socket-passed pair counters)

pub report-passed : (c : Config) (figures : Figures) → IsPassed (report_text c figures)
report-passed c figures =
    let setting = setting_line c figures.wire in
    let calls = calls_line figures.calls in
    let drivers = lines_of driver_line c figures.drivers in
    let pairs = lines_of (λ pair driver. pair_line pair driver.counters) c figures.drivers in
    let sockets = lines_of (λ pair driver. socket_lines (classes_of c) pair driver.counters) c figures.drivers in
    let total = total_line (totals_of (classes_of c) figures.drivers) in
    let stranded = (totals_of (classes_of c) figures.drivers).stranded in
    passed-both (setting ++ calls ++ drivers ++ pairs ++ sockets ++ total) (stranded_line figures.mangled stranded)
    (passed-both (setting ++ calls ++ drivers ++ pairs ++ sockets) total
    (passed-both (setting ++ calls ++ drivers ++ pairs) sockets
    (passed-both (setting ++ calls ++ drivers) pairs
    (passed-both (setting ++ calls) drivers
    (passed-both setting calls (setting-passed c figures.wire) (calls-passed figures.calls))
    (all-passed driver_line c figures.drivers driver-passed))
    (all-passed (λ pair driver. pair_line pair driver.counters) c figures.drivers (λ pair driver. pair-passed pair driver.counters)))
    (all-passed (λ pair driver. socket_lines (classes_of c) pair driver.counters) c figures.drivers (λ pair driver. sockets-passed (classes_of c) pair driver.counters)))
    (total-passed (classes_of c) figures.drivers))
    (stranded-passed figures.mangled stranded)
