-- The figures of a history, as counts over it: of all its calls, and of each driver over its own calls and replies. The
-- counters have the names of af_xdp.rst, "XDP_STATISTICS getsockopt".
use Rattle.std.specs.Prelude.{◌≡◌, ℕ, is_some, nat_lt, if◌then◌else◌, List, [], ◌∷◌, length, map}
use Rattle.std.specs.List.{range_with_len}
use Rattle.xsk_model.specs.Config.{Config, classes_of}
use Rattle.xsk_model.specs.Packets.{packets, bad_items}
use Rattle.xsk_model.specs.Entry.{Told, Entry, own}
use Rattle.xsk_model.specs.Own.{peeked_of}
use Rattle.xsk_model.specs.declared.call.Ring.TheVariants.{Fill, Rx, Tx}
use Rattle.xsk_turns.specs.Counters.{frameless}
use Rattle.xsk_turns.specs.Statistics.{capped, fulls_of, empties_of, drops_of}
use Rattle.xsk_turns.specs.Disposals.{attempts_of, disposals_of}
use Rattle.xsk_turns.specs.Owned.{socket_at_class}
use Rattle.xsk_turns.specs.Stranded.{stranded_of}
use Rattle.xsk_turns.specs.Turns.{Judged, seat_of}
use Rattle.xsk_turns.specs.Workers.{Setting, input_of}
use Rattle.xsk_turns.specs.declared.disposal.Disposal.{Disposal}
use Rattle.xsk_turns.specs.declared.disposal.DriverCounters.{DriverCounters}
use Rattle.xsk_turns.specs.declared.wire.Wire.{Wire}
use Rattle.xsk_machine.specs.Acts.{sent_of}
use Rattle.xsk_machine.specs.Figures.{figures_by, figures_in}
use Rattle.xsk_driver.specs.Runs.{HasEnded}
use Rattle.xsk_driver.specs.Shown.{Shown}
use Rattle.xsk_machine.specs.declared.figures.DriverFigures.{DriverFigures}
use Rattle.xsk_machine.specs.declared.figures.Figures.{Figures}

-- a number for each socket of a queue, and 0 for the classes that there aren't
abbrev pub by_class : Config → (ℕ → ℕ) → List ℕ
by_class c number = map (λ class. if nat_lt class (classes_of c) then capped (number class) else 0) (0 ∷ 1 ∷ 2 ∷ 3 ∷ [])

-- the counters of the driver of a pair, whose packets have these disposals
abbrev pub counters_of : Config → ℕ → List Disposal → List Told → DriverCounters
counters_of c pair disposals l = record {
  rx_dropped = capped (drops_of disposals);
  rx_invalid_descs = capped (frameless (peeked_of (Fill pair) l));
  rx_fill_ring_empty_descs = capped (empties_of (Fill pair) l);
  rx_ring_full = by_class c (λ class. fulls_of (Rx (socket_at_class c pair class)) l);
  tx_invalid_descs = by_class c (λ class. bad_items (packets c.geometry c.sg (peeked_of (Tx (socket_at_class c pair class)) l)));
  tx_ring_empty_descs = by_class c (λ class. empties_of (Tx (socket_at_class c pair class)) l);
}

-- the figures of the driver of a pair, by its input, the number of packets that it sent, and its own calls and replies
abbrev pub driver_figures_by : Wire → Config → ℕ → List Judged → ℕ → List Told → DriverFigures
driver_figures_by wire c pair input sent_packets l =
    let disposals = disposals_of (seat_of wire c pair) input (attempts_of l) in
    figures_by (capped (length input)) disposals (capped sent_packets) (counters_of c pair disposals l) (capped (stranded_of l))

-- they are what a driver that has ended keeps
abbrev pub FiguresAtEnd : Type 0
FiguresAtEnd = (wire : Wire) (c : Config) (pair : ℕ) (input : List Judged) (d : Shown) (l : List Told) → HasEnded wire c pair input d l
    → figures_in (classes_of c) d ≡ driver_figures_by wire c pair input (length d.sent.packets) l

-- the figures of the workers of a setting, whose calls and replies are this history
abbrev pub driver_figures_of : Setting → List Entry → ℕ → DriverFigures
driver_figures_of s h pair = driver_figures_by s.wire s.config pair (input_of s pair) (length (sent_of s h pair)) (own pair h)

abbrev pub figures_of : Setting → List Entry → Figures
figures_of s h = record { calls = capped (length h); wire = s.wire; drivers = map (driver_figures_of s h) (range_with_len 0 (length s.config.pairs)); mangled = is_some s.manner.mangle }
