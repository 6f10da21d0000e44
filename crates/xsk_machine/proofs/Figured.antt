-- What a driver that has ended keeps are the figures of its own calls and replies.
use Rattle.std.proofs.Common.{◌≡◌, ◌∙◌, ap, ℕ, ◌<◌, ◌≤◌, nat_lt, cond, List, length, slice_index_or, arith}
use Rattle.std.proofs.lemmas.Bool.Decides.{nat_tests}
use Rattle.xsk_model.specs.Config.{Config, classes_of}
use Rattle.xsk_model.specs.Entry.{Told}
use Rattle.xsk_turns.specs.Statistics.{capped, IsCounted}
use Rattle.xsk_turns.specs.Disposals.{attempts_of, disposals_of}
use Rattle.xsk_turns.specs.Stranded.{stranded_in}
use Rattle.xsk_driver.proofs.Stranding.{ended_stranded}
use Rattle.xsk_turns.specs.KeptDisposals.{HasDisposedAll}
use Rattle.xsk_turns.specs.Turns.{seat_of}
use Rattle.xsk_turns.specs.declared.disposal.Disposal.{Disposal}
use Rattle.xsk_turns.specs.declared.disposal.DriverCounters.{DriverCounters}
use Rattle.xsk_turns.proofs.Counting.{keeps_counters_at_end}
use Rattle.xsk_turns.proofs.Disposing.{disposes_all}
use Rattle.xsk_machine.specs.Figures.{counter_to, counters_to, figures_by, figures_in}
use Rattle.xsk_machine.specs.HistoryFigures.{by_class, counters_of, FiguresAtEnd}
use Rattle.xsk_machine.specs.declared.figures.DriverFigures.{DriverFigures}
use Rattle.xsk_driver.specs.Shown.{Shown}

-- of a class that there is, and of one that there isn't
below : (class classes : ℕ) (number other : ℕ) → (class < classes → number ≡ other) → cond (nat_lt class classes) number 0 ≡ cond (nat_lt class classes) other 0
below class classes number other same = grind (arith, nat_tests, same)

same_counter : (c : Config) (counter : List ℕ) (number : ℕ → ℕ) → ((class : ℕ) → class < classes_of c → slice_index_or counter class 0 ≡ capped (number class))
    → counter_to (classes_of c) counter ≡ by_class c number
same_counter c counter number each =
    let at : (class : ℕ) → cond (nat_lt class (classes_of c)) (slice_index_or counter class 0) 0 ≡ cond (nat_lt class (classes_of c)) (capped (number class)) 0
    = λ class. below class (classes_of c) (slice_index_or counter class 0) (capped (number class)) (each class) in
    cc (at 0, at 1, at 2, at 3)

same_counters : (c : Config) (pair : ℕ) (disposals : List Disposal) (counters : DriverCounters) (l : List Told) → IsCounted c pair disposals counters l
    → counters_to (classes_of c) counters ≡ counters_of c pair disposals l
same_counters c pair disposals counters l is =
    let full = same_counter c counters.rx_ring_full _ is.rx_ring_full in
    let invalid = same_counter c counters.tx_invalid_descs _ is.tx_invalid_descs in
    let empty = same_counter c counters.tx_ring_empty_descs _ is.tx_ring_empty_descs in
    cc (is.rx_dropped, is.rx_invalid_descs, is.rx_fill_ring_empty_descs, full, invalid, empty)

pub figures_at_end : FiguresAtEnd
figures_at_end wire c pair input d l ended =
    let disposed : HasDisposedAll (seat_of wire c pair) input d.kept (attempts_of l) = disposes_all wire c pair input l d.kept ended.ends in
    let counted : IsCounted c pair d.kept.disposals d.kept.counters l = keeps_counters_at_end wire c pair input l d.kept ended.one ended.own ended.ends in
    let counters = same_counters c pair d.kept.disposals d.kept.counters l counted in
    let sent = capped (length d.sent.packets) in
    let lost = ended_stranded wire c pair input d l ended in
    let kept = capped (stranded_in d.kept) in
    ap (λ (n : ℕ). figures_by (capped n) d.kept.disposals sent (counters_to (classes_of c) d.kept.counters) kept) disposed.each
    ∙ ap (λ (k : DriverCounters). figures_by (capped (length input)) d.kept.disposals sent k kept) counters
    ∙ ap (λ (ds : List Disposal). figures_by (capped (length input)) ds sent (counters_of c pair ds l) kept) disposed.disposals
    ∙ ap (λ (n : ℕ). figures_by (capped (length input)) (disposals_of (seat_of wire c pair) input (attempts_of l)) sent (counters_of c pair (disposals_of (seat_of wire c pair) input (attempts_of l)) l) (capped n)) lost

-- the figures that are made of what a driver shows
pub shown_figures : (d : Shown) (classes : ℕ) (result : DriverFigures) (n m : ℕ) (ds : List Disposal) (k : DriverCounters) (lost : ℕ) → result ≡ figures_by n ds m k lost
    → n ≡ length ds → n ≤ 18446744073709551615 → ds ≡ d.kept.disposals → m ≡ length d.sent.packets → m ≤ 18446744073709551615 → k ≡ counters_to classes d.kept.counters
    → lost ≡ capped (stranded_in d.kept) → result ≡ figures_in classes d
shown_figures d classes result n m ds k lost is count few same sent fits counters stranded =
    let n_fits : n ≡ capped n = omega arith in
    let m_fits : m ≡ capped m = omega arith in
    is ∙ ap (λ (x : ℕ). figures_by x ds m k lost) (n_fits ∙ ap capped count)
    ∙ ap (λ (x : ℕ). figures_by (capped (length ds)) ds x k lost) (m_fits ∙ ap capped sent)
    ∙ ap (λ (x : DriverCounters). figures_by (capped (length ds)) ds (capped (length d.sent.packets)) x lost) counters
    ∙ ap (λ (xs : List Disposal). figures_by (capped (length xs)) xs (capped (length d.sent.packets)) (counters_to classes d.kept.counters) lost) same
    ∙ ap (figures_by (capped (length d.kept.disposals)) d.kept.disposals (capped (length d.sent.packets)) (counters_to classes d.kept.counters)) stranded
