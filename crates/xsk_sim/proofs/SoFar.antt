-- The counters of drivers that may not have ended are those of their history.
use Rattle.std.proofs.Common.{append-nil, append_assoc, drop, flat_map, get_or, ◌++◌, ◌≡◌, ℕ, ◌+◌, ◌-◌, ◌<◌, ◌≤◌, nat_lt, cond, List, [], ◌∷◌, length, slice_index_or, refl, ap, sym, ◌∙◌, arith}
use Rattle.std.proofs.lemmas.List.{drop_all, drop_more}
use Rattle.std.proofs.lemmas.Bool.Decides.{nat_tests}
use Rattle.xsk_umem.specs.Frame.{Frame}
use Rattle.xsk_model.specs.Config.{Config, callers_of, classes_of}
use Rattle.xsk_model.specs.Entry.{Entry, Told, own}
use Rattle.xsk_model.specs.declared.call.Act.{Act}
use Rattle.xsk_model.specs.declared.call.Act.TheVariants.{Call as Gave, Ended as IsEnd}
use Rattle.xsk_model.specs.declared.call.Call.{Call}
use Rattle.xsk_model.specs.declared.call.Reply.{Reply}
use Rattle.xsk_turns.specs.Statistics.{capped, IsCounted}
use Rattle.xsk_turns.specs.Script.{Script, ask, again, ended, never, begun, Leaves}
use Rattle.xsk_turns.specs.Stepping.{joined_ask}
use Rattle.xsk_turns.specs.Turns.{Kept}
use Rattle.xsk_turns.specs.Workers.{Setting, input_of}
use Rattle.xsk_turns.specs.declared.disposal.Disposal.{Disposal}
use Rattle.xsk_turns.specs.declared.disposal.DriverCounters.{DriverCounters}
use Rattle.xsk_turns.proofs.Counting.{keeps_counters, keeps_counters_at_end}
use Rattle.xsk_driver.specs.Runs.{StandsWith}
use Rattle.xsk_driver.specs.Shown.{Shown as DriverShown}
use Rattle.xsk_machine.specs.Figures.{counter_to, counters_to}
use Rattle.xsk_machine.specs.HistoryFigures.{by_class, counters_of}
use Rattle.xsk_machine.specs.Workers.{Stands}
use Rattle.xsk_machine.specs.declared.worker.AnyWorker.{AnyWorker}
use Rattle.xsk_machine.specs.declared.worker.AnyWorker.TheVariants.{Driver, App}
use Rattle.xsk_sim.specs.Seats.{AreSeated}
use Rattle.xsk_sim.specs.Server.{Seen}
use Rattle.xsk_sim.specs.SoFar.{all_counters, counters_kept, counters_so_far, disposals_along, disposals_by, kept_counters}
use Rattle.xsk_sim.specs.declared.rounds.Workers.{Workers}
use Rattle.xsk_sim.proofs.Ending.{AreKept, kept_by_pair}
use Rattle.xsk_sim.proofs.Seating.{each_change}

-- ---- the disposals

-- at a call that is made next, and at the end
asks_along : (turn : Kept → Script Kept) (script : Script Kept) (l : List Told) (kept : Kept) (call : Call) (rest : Reply → Script Kept) → Leaves turn script l (ask kept call rest)
    → disposals_along turn script l ≡ kept.disposals
asks_along turn (ask kept' call' rest') [] kept call rest is = sym (ap (λ (x : Script Kept). disposals_along turn x []) is)
asks_along turn (again kept') [] kept call rest is = sym (ap (λ (x : Script Kept). disposals_along turn x []) is)
asks_along turn (ended kept') [] kept call rest is = sym (ap (λ (x : Script Kept). disposals_along turn x []) is)
asks_along turn never [] kept call rest is = sym (ap (λ (x : Script Kept). disposals_along turn x []) is)
asks_along turn (ask kept' call' rest') (t ∷ l) kept call rest is = asks_along turn (begun turn (rest' t.reply)) l kept call rest is.1
asks_along turn (again kept') (t ∷ l) kept call rest is = absurd is
asks_along turn (ended kept') (t ∷ l) kept call rest is = absurd is
asks_along turn never (t ∷ l) kept call rest is = absurd is

ends_along : (turn : Kept → Script Kept) (script : Script Kept) (l : List Told) (kept : Kept) → Leaves turn script l (ended kept) → disposals_along turn script l ≡ kept.disposals
ends_along turn (ask kept' call' rest') [] kept is = sym (ap (λ (x : Script Kept). disposals_along turn x []) is)
ends_along turn (again kept') [] kept is = sym (ap (λ (x : Script Kept). disposals_along turn x []) is)
ends_along turn (ended kept') [] kept is = sym (ap (λ (x : Script Kept). disposals_along turn x []) is)
ends_along turn never [] kept is = sym (ap (λ (x : Script Kept). disposals_along turn x []) is)
ends_along turn (ask kept' call' rest') (t ∷ l) kept is = ends_along turn (begun turn (rest' t.reply)) l kept is.1
ends_along turn (again kept') (t ∷ l) kept is = absurd is
ends_along turn (ended kept') (t ∷ l) kept is = absurd is
ends_along turn never (t ∷ l) kept is = absurd is

-- ---- the counters

-- of a class that there is, and of one that there isn't
below : (class classes : ℕ) (number other : ℕ) → (class < classes → number ≡ other) → cond (nat_lt class classes) number 0 ≡ cond (nat_lt class classes) other 0
below class classes number other same = grind (arith, nat_tests, same)

same_counter : (c : Config) (counter : List ℕ) (number : ℕ → ℕ) → ((class : ℕ) → class < classes_of c → slice_index_or counter class 0 ≡ capped (number class))
    → counter_to (classes_of c) counter ≡ by_class c number
same_counter c counter number each =
    let at : (class : ℕ) → cond (nat_lt class (classes_of c)) (slice_index_or counter class 0) 0 ≡ cond (nat_lt class (classes_of c)) (capped (number class)) 0
    = λ class. below class (classes_of c) (slice_index_or counter class 0) (capped (number class)) (each class) in
    cc (at 0, at 1, at 2, at 3)

same_counters : (c : Config) (pair : ℕ) (disposals : List Disposal) (counters : DriverCounters) (l : List Told) → IsCounted c pair disposals counters l
    → counters_to (classes_of c) counters ≡ counters_of c pair disposals l
same_counters c pair disposals counters l is =
    let full = same_counter c counters.rx_ring_full _ is.rx_ring_full in
    let invalid = same_counter c counters.tx_invalid_descs _ is.tx_invalid_descs in
    let empty = same_counter c counters.tx_ring_empty_descs _ is.tx_ring_empty_descs in
    cc (is.rx_dropped, is.rx_invalid_descs, is.rx_fill_ring_empty_descs, full, invalid, empty)

-- of a driver, by what it gave after its own calls and replies
driver_counters : (s : Setting) (pair : ℕ) (d : DriverShown) (act : Act) (l : List Told) → StandsWith s.wire s.config pair (input_of s pair) d act l
    → counters_to (classes_of s.config) d.kept.counters ≡ counters_of s.config pair (disposals_by s pair l) l
driver_counters s pair d (Gave call) l stands =
    let counted = keeps_counters s.wire s.config pair (input_of s pair) l d.kept call _ stands.one stands.own stands.asks in
    same_counters s.config pair d.kept.disposals d.kept.counters l counted
    ∙ ap (λ (ds : List Disposal). counters_of s.config pair ds l) (sym (asks_along _ _ l d.kept call _ stands.asks))
driver_counters s pair d IsEnd l stands =
    let counted = keeps_counters_at_end s.wire s.config pair (input_of s pair) l d.kept stands.one stands.own stands.ends in
    same_counters s.config pair d.kept.disposals d.kept.counters l counted
    ∙ ap (λ (ds : List Disposal). counters_of s.config pair ds l) (sym (ends_along _ _ l d.kept stands.ends))

-- ---- one after another

pub next_kept : {A X : Type 0} (f : A → List X) (xs : List A) (i : ℕ) (x : A) (before after all : List X) → i < length xs → x ≡ get_or xs i x → after ≡ before ++ f x
    → before ++ flat_map f (drop i xs) ≡ all → after ++ flat_map f (drop (i + 1) xs) ≡ all
next_kept f xs i x before after all within at is was =
    let here : drop i xs ≡ x ∷ drop (i + 1) xs = drop_more xs i x within ∙ ap (λ y. y ∷ drop (i + 1) xs) (sym at) in
    ap (λ ys. ys ++ flat_map f (drop (i + 1) xs)) is ∙ append_assoc before (f x) (flat_map f (drop (i + 1) xs)) ∙ sym (ap (λ ys. before ++ flat_map f ys) here) ∙ was

pub none_kept : {A X : Type 0} (f : A → List X) (xs : List A) (i : ℕ) (before all : List X) → length xs ≤ i → before ++ flat_map f (drop i xs) ≡ all → before ≡ all
none_kept f xs i before all end was = sym (append-nil before) ∙ sym (ap (λ ys. before ++ flat_map f ys) (drop_all i xs end)) ∙ was

-- ---- all drivers

worker_counters : (s : Setting) (h : List Entry) (who : ℕ) (m : AnyWorker) (act : Act) → Stands s who m act (own who h) → AreKept s who (counters_kept (classes_of s.config) m) (counters_so_far s h who)
worker_counters s h who (Driver d) act stands =
    let known : who < length s.config.pairs = stands.known in
    let same = driver_counters s who d act (own who h) stands.stands in
    record { driver = λ below. ap (λ (k : DriverCounters). k ∷ []) same; app = λ high. absurd (omega (arith, known, high)) }
worker_counters s h who (App a) act stands = record { driver = λ below. absurd (omega (arith, stands.caller, below)); app = λ high. refl }

pub seated_counters : (s : Setting) (frames : List Frame) (h : List Entry) (w : Workers) (object : Seen) (classes : ℕ) (counters : List DriverCounters) → AreSeated s frames h w object
    → classes ≡ classes_of s.config → counters ≡ kept_counters classes w → counters ≡ all_counters s h
seated_counters s frames h w object classes counters seated same is =
    let many : length w.seats.items ≡ callers_of s.config = omega (arith, seated.count, w.seats.ok.0) in
    let each = each_change w.seats.items 0 _ _ seated.seats (λ k x low high sits. worker_counters s h k x.machine (joined_ask x.ask x.items) sits.0) in
    is ∙ ap (λ (n : ℕ). kept_counters n w) same
    ∙ kept_by_pair s (λ seat. counters_kept (classes_of s.config) seat.machine) (counters_so_far s h) w.seats.items 0 (length s.config.pairs) (omega arith) (omega (arith, many)) each
