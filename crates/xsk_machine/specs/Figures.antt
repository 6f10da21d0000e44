-- The figures of a driver: how many of its packets have each kind of disposal. That the kinds stand in the order in which
-- the disposals are declared, and that no number goes beyond 2 ^ 64 - 1, is this project's own.
use Rattle.std.specs.Prelude.{◌≡◌, ℕ, ◌==◌, nat_lt, if◌then◌else◌, List, [], ◌∷◌, length, map, count_by, sum}
use Rattle.xsk_turns.specs.Statistics.{capped}
use Rattle.xsk_turns.specs.Stranded.{stranded_in}
use Rattle.xsk_turns.specs.declared.disposal.Disposal.{Disposal}
use Rattle.xsk_turns.specs.declared.disposal.Disposal.TheVariants.{Delivered, NoFrames, RxFull, TooLong, Runt, Missed, Passed, Dropped, Bounced}
use Rattle.xsk_turns.specs.declared.disposal.DriverCounters.{DriverCounters}
use Rattle.std.specs.List.{slice_index_or}
use Rattle.xsk_driver.specs.Shown.{Shown}
use Rattle.xsk_machine.specs.declared.figures.DriverFigures.{DriverFigures}

-- the place of a disposal's kind among the kinds
abbrev pub kind_of : Disposal → ℕ
kind_of (Delivered socket) = 0
kind_of NoFrames = 1
kind_of RxFull = 2
kind_of TooLong = 3
kind_of Runt = 4
kind_of Missed = 5
kind_of Passed = 6
kind_of Dropped = 7
kind_of Bounced = 8

-- how many packets have a disposal of a kind
abbrev pub count_of_kind : ℕ → List Disposal → ℕ
count_of_kind kind disposals = count_by (λ disposal. kind_of disposal == kind) disposals

abbrev pub all_kinds : List ℕ
all_kinds = 0 ∷ 1 ∷ 2 ∷ 3 ∷ 4 ∷ 5 ∷ 6 ∷ 7 ∷ 8 ∷ []

abbrev pub kinds_of : List Disposal → List ℕ
kinds_of disposals = map (λ kind. capped (count_of_kind kind disposals)) all_kinds

-- the figures of a driver, of whose packets so many have these disposals, and of whose frames so many are stranded
abbrev pub figures_by : ℕ → List Disposal → ℕ → DriverCounters → ℕ → DriverFigures
figures_by packets_in disposals sent counters stranded = record { packets_in = packets_in; kinds = kinds_of disposals; sent = sent; counters = counters; stranded = stranded }

-- counters of the sockets that a queue has, and 0 for others
abbrev pub counter_to : ℕ → List ℕ → List ℕ
counter_to classes counter = map (λ class. if nat_lt class classes then slice_index_or counter class 0 else 0) (0 ∷ 1 ∷ 2 ∷ 3 ∷ [])

abbrev pub counters_to : ℕ → DriverCounters → DriverCounters
counters_to classes counters = record counters {
  rx_ring_full = counter_to classes counters.rx_ring_full;
  tx_invalid_descs = counter_to classes counters.tx_invalid_descs;
  tx_ring_empty_descs = counter_to classes counters.tx_ring_empty_descs;
}

-- the figures of a driver that has ended, from what it keeps
abbrev pub figures_in : ℕ → Shown → DriverFigures
figures_in classes d = figures_by (capped (length d.kept.disposals)) d.kept.disposals (capped (length d.sent.packets)) (counters_to classes d.kept.counters) (capped (stranded_in d.kept))

-- each packet that has a disposal is counted in one kind
abbrev pub KindsAddUp : Type 0
KindsAddUp = (disposals : List Disposal) → sum (map (λ kind. count_of_kind kind disposals) all_kinds) ≡ length disposals
