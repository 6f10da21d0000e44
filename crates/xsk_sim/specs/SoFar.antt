-- The counters of drivers that may not have ended: what they keep, and the same as counts over a history.
use Rattle.std.specs.Prelude.{ℕ, List, [], ◌∷◌, length, map, flat_map}
use Rattle.std.specs.List.{range_with_len}
use Rattle.std.specs.declared.alloc.Global.{Global}
use Rattle.std.specs.declared.vec.Vec.{Vec}
use Rattle.xsk_model.specs.Config.{classes_of}
use Rattle.xsk_model.specs.Entry.{Told, Entry, own}
use Rattle.xsk_turns.specs.Script.{Script, ask, again, ended, never, begun}
use Rattle.xsk_turns.specs.Turns.{Kept, seat_of, start, turn}
use Rattle.xsk_turns.specs.Workers.{Setting, input_of}
use Rattle.xsk_turns.specs.declared.disposal.Disposal.{Disposal}
use Rattle.xsk_turns.specs.declared.disposal.DriverCounters.{DriverCounters}
use Rattle.xsk_machine.specs.Figures.{counters_to}
use Rattle.xsk_machine.specs.HistoryFigures.{counters_of}
use Rattle.xsk_machine.specs.declared.worker.AnyWorker.{AnyWorker}
use Rattle.xsk_machine.specs.declared.worker.AnyWorker.TheVariants.{Driver, App}
use Rattle.xsk_sim.specs.declared.rounds.Workers.{Workers}

-- ---- what drivers keep

abbrev pub CounterVec : Type 0
CounterVec = Vec DriverCounters Global

-- of a worker, where a queue has so many sockets: an application has none
abbrev pub counters_kept : ℕ → AnyWorker → List DriverCounters
counters_kept classes (Driver d) = counters_to classes d.kept.counters ∷ []
counters_kept classes (App a) = []

abbrev pub kept_counters : ℕ → Workers → List DriverCounters
kept_counters classes w = flat_map (λ seat. counters_kept classes seat.machine) w.seats.items

-- ---- as counts over a history

-- the disposals that a script has after a list: those before its next call, or at its end
abbrev pub disposals_along : (Kept → Script Kept) → Script Kept → List Told → List Disposal
disposals_along turn (ask kept call rest) [] = kept.disposals
disposals_along turn (ask kept call rest) (t ∷ l) = disposals_along turn (begun turn (rest t.reply)) l
disposals_along turn (again kept) l = kept.disposals
disposals_along turn (ended kept) l = kept.disposals
disposals_along turn never l = []

-- those of a pair's packets, by the own calls and replies of its driver
abbrev pub disposals_by : Setting → ℕ → List Told → List Disposal
disposals_by s pair l = disposals_along (turn (seat_of s.wire s.config pair)) (turn (seat_of s.wire s.config pair) (start (classes_of s.config) (input_of s pair))) l

-- the counters of the driver of a pair after a history (af_xdp.rst, "XDP_STATISTICS getsockopt"), and those of all drivers
abbrev pub counters_so_far : Setting → List Entry → ℕ → DriverCounters
counters_so_far s h pair = counters_of s.config pair (disposals_by s pair (own pair h)) (own pair h)

abbrev pub all_counters : Setting → List Entry → List DriverCounters
all_counters s h = map (counters_so_far s h) (range_with_len 0 (length s.config.pairs))
