-- What is told of a bench: statistics, and what was sent.
use Rattle.std.specs.Prelude.{◌≡◌, ℕ, ◌<◌, ◌≤◌, ◌⊎◌, Some, List, ◌++◌, length, drop, slice_get}
use Rattle.std.specs.List.{slice_index_or}
use Rattle.xsk_umem.specs.Frame.{Frame}
use Rattle.xsk_model.specs.Config.{classes_of}
use Rattle.xsk_model.specs.Entry.{Entry, own}
use Rattle.xsk_turns.specs.SentWith.{sent_by_act}
use Rattle.xsk_turns.specs.Workers.{Setting, input_of}
use Rattle.xsk_turns.specs.declared.disposal.DriverCounters.{DriverCounters}
use Rattle.xsk_driver.specs.SentRoom.{Exceeds}
use Rattle.xsk_machine.specs.Figures.{figures_in}
use Rattle.xsk_bench.specs.Played.{HasPlayed, act_of}
use Rattle.xsk_bench.specs.declared.play.Play.{Play}
use Rattle.xsk_bench.specs.declared.seat.Seat.{Seat}
use Rattle.xsk_c.specs.declared.answers.TheConstants.{DONE, NO_SUCH, SHORT}
use Rattle.xsk_c.specs.declared.reading.Statistics.{Statistics}

-- ---- statistics

-- those of a class, by the counters of its driver (if_xdp.h, struct xdp_statistics)
abbrev pub statistics_in : DriverCounters → ℕ → Statistics
statistics_in counters class = record {
  rx_dropped = counters.rx_dropped;
  rx_invalid_descs = counters.rx_invalid_descs;
  tx_invalid_descs = slice_index_or counters.tx_invalid_descs class 0;
  rx_ring_full = slice_index_or counters.rx_ring_full class 0;
  rx_fill_ring_empty_descs = counters.rx_fill_ring_empty_descs;
  tx_ring_empty_descs = slice_index_or counters.tx_ring_empty_descs class 0;
}

-- there are none of a pair or a class that doesn't exist
pub record TellsStatistics (p : Play) (pair class : ℕ) (before after : Statistics) (answer : ℕ) : Type 0 where
  pub none : (length p.seats.items ≤ pair) ⊎ (4 ≤ class) → (answer ≡ NO_SUCH) × (after ≡ before)
  pub told : (seat : Seat) → slice_get p.seats.items pair ≡ Some seat → class < 4
      → (answer ≡ DONE) × (after ≡ statistics_in (figures_in (classes_of p.checked.config) seat.driver).counters class)

-- ---- what was sent

-- what the driver of a pair sent in a history
abbrev pub sent_there : Setting → List Entry → ℕ → Seat → List (List ℕ)
sent_there s h pair seat = sent_by_act s.config pair (input_of s pair) (own pair h) (act_of seat)

-- how many packets they are, unless they were more than there was room for
pub record TellsCount (p : Play) (pair before after answer : ℕ) : Type 0 where
  pub none : length p.seats.items ≤ pair → (answer ≡ NO_SUCH) × (after ≡ before)
  pub told : (s : Setting) (frames : List Frame) (h : List Entry) (seat : Seat) → HasPlayed s frames h p → slice_get p.seats.items pair ≡ Some seat
      → ((answer ≡ DONE) × (after ≡ length (sent_there s h pair seat)))
      ⊎ ((answer ≡ NO_SUCH) × (after ≡ before) × Exceeds seat.driver.sent (sent_there s h pair seat))

-- bytes are copied to the front of a room, if they fit, and their number is told
pub record CopiesTo (bytes before after : List ℕ) (len answer : ℕ) : Type 0 where
  pub told : len ≡ length bytes
  pub short : length before < length bytes → (answer ≡ SHORT) × (after ≡ before)
  pub copied : length bytes ≤ length before → (answer ≡ DONE) × (after ≡ bytes ++ drop (length bytes) before)

-- one of them is copied, if it is there
pub record TellsPacket (p : Play) (pair number : ℕ) (before after : List ℕ) (had len answer : ℕ) : Type 0 where
  pub none : length p.seats.items ≤ pair → (answer ≡ NO_SUCH) × (after ≡ before) × (len ≡ had)
  pub told : (s : Setting) (frames : List Frame) (h : List Entry) (seat : Seat) → HasPlayed s frames h p → slice_get p.seats.items pair ≡ Some seat
      → ((packet : List ℕ) × (slice_get (sent_there s h pair seat) number ≡ Some packet) × CopiesTo packet before after len answer)
      ⊎ ((answer ≡ NO_SUCH) × (after ≡ before) × (len ≡ had)
      × (Exceeds seat.driver.sent (sent_there s h pair seat) ⊎ (length (sent_there s h pair seat) ≤ number)))
