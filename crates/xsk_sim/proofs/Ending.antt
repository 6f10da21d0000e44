-- How a run ends.
use Rattle.std.proofs.Common.{◌≡◌, ℕ, zero, suc, map, ◌+◌, ◌-◌, ◌<◌, ◌≤◌, List, [], ◌∷◌, ◌++◌, length, length-append, append-nil, append_assoc, get_or, ap, sym, subst, refl, ◌∙◌, arith, ⊎_elim}
use Rattle.std.specs.Prelude.{flat_map, is_some, Bool}
use Rattle.xsk_turns.specs.Stepping.{joined_ask}
use Rattle.xsk_umem.specs.Frame.{Frame}
use Rattle.std.specs.List.{range_with_len}
use Rattle.std.proofs.lemmas.List.FromFn.{get_or-map-range_with_len}
use Rattle.xsk_model.specs.Config.{IsRegular, callers_of, classes_of}
use Rattle.xsk_model.specs.Entry.{Entry, Told, own}
use Rattle.xsk_model.specs.Stored.{stored}
use Rattle.xsk_model.specs.History.{IsHistory}
use Rattle.xsk_model.proofs.Theorems.{one_holder}
use Rattle.xsk_turns.specs.Statistics.{capped}
use Rattle.xsk_turns.specs.declared.wire.Wire.{Wire}
use Rattle.xsk_machine.specs.Figures.{figures_in}
use Rattle.xsk_machine.specs.HistoryFigures.{driver_figures_by, driver_figures_of, figures_of}
use Rattle.xsk_driver.specs.Runs.{StandsWith}
use Rattle.xsk_driver.specs.Shown.{Shown as DriverShown}
use Rattle.xsk_machine.specs.declared.figures.DriverFigures.{DriverFigures}
use Rattle.xsk_machine.specs.declared.figures.Figures.{Figures}
use Rattle.xsk_machine.proofs.Figured.{figures_at_end}
use Rattle.xsk_model.specs.declared.call.Act.{Act}
use Rattle.xsk_model.specs.declared.call.Act.TheVariants.{Ended as IsEnd}
use Rattle.xsk_log.proofs.Parts.{length-entries}
use Rattle.xsk_plain.specs.Engine.{Engine}
use Rattle.xsk_sim.specs.Server.{Seen, logged_seen}
use Rattle.xsk_sim.specs.SoFar.{all_counters}
use Rattle.xsk_turns.specs.declared.disposal.DriverCounters.{DriverCounters}
use Rattle.xsk_log.specs.Log.{calls_of, entries_of, item_of}
use Rattle.xsk_log.specs.declared.log.Log.{Log}
use Rattle.xsk_machine.specs.Sent.{SentShown}
use Rattle.xsk_sim.specs.Shown.{Shown, IsShownBy, shown_by}
use Rattle.xsk_turns.specs.Hands.{IsWholeRunOf}
use Rattle.xsk_turns.specs.Workers.{Setting, IsWorkerRun, IsWholeRun, input_of}
use Rattle.xsk_sim.specs.Left.{HasStalledOn}
use Rattle.xsk_sim.specs.Runs.{HasEnded, HasStalled, NeverStill}
use Rattle.xsk_sim.specs.Stalls.{StandStill}
use Rattle.xsk_machine.specs.Acts.{IsActAfter, DriverStands, sent_of}
use Rattle.xsk_machine.specs.Workers.{Stands, kept_of, figures_kept}
use Rattle.xsk_machine.specs.declared.worker.AnyWorker.{AnyWorker}
use Rattle.xsk_machine.specs.declared.worker.AnyWorker.TheVariants.{Driver, App}
use Rattle.xsk_sim.specs.Seats.{EachFrom, own_in, Sits, AreSeated, HadRounds, HaveEnded, kept_lists, kept_figures}
use Rattle.xsk_sim.specs.declared.rounds.Workers.{Workers}
use Rattle.xsk_machine.proofs.Acts.{worker_run, sent_at}
use Rattle.xsk_machine.proofs.Within.{AreWithin, by_one}
use Rattle.xsk_ended.proofs.Ended.{ended_lose_no_wakes}
use Rattle.xsk_ended.proofs.Within.{are_within}
use Rattle.xsk_sim.proofs.Seating.{each_tells, each_change, each_both, all_whole, some_open, IsOpen}

-- each entry of a log is a call
pub log_count : (log : Log) → calls_of log ≡ length (entries_of log)
log_count log = sym (length-entries log.rows.items (map (item_of log.bytes.items) log.pieces.items))

abbrev pub whole_of : ℕ → Wire → List DriverFigures → Bool → Figures
whole_of calls wire drivers mangled = record { calls = calls; wire = wire; drivers = drivers; mangled = mangled }

-- the figures of a driver that has ended
figures_at : (s : Setting) (who : ℕ) (d : DriverShown) (act : Act) (l : List Told) (packets : List (List ℕ)) → act ≡ IsEnd → DriverStands s who d act l → d.sent.packets ≡ packets
    → figures_in (classes_of s.config) d ≡ driver_figures_by s.wire s.config who (input_of s who) (length packets) l
figures_at s who d act l packets is stands kept =
    let ended : StandsWith s.wire s.config who (input_of s who) d IsEnd l = subst (λ a. StandsWith s.wire s.config who (input_of s who) d a l) is stands.stands in
    figures_at_end s.wire s.config who (input_of s who) d l ended ∙ ap (λ (ps : List (List ℕ)). driver_figures_by s.wire s.config who (input_of s who) (length ps) l) kept

-- the figures of all
figures_whole : (s : Setting) (h : List Entry) (wire : Wire) (mangled : Bool) (calls : ℕ) (drivers : List DriverFigures) → wire ≡ s.wire → mangled ≡ is_some s.manner.mangle → calls ≡ length h → calls ≤ 18446744073709551615
    → drivers ≡ map (driver_figures_of s h) (range_with_len 0 (length s.config.pairs)) → whole_of calls wire drivers mangled ≡ figures_of s h
figures_whole s h wire mangled calls drivers same manner number fits each =
    let capped_calls : calls ≡ capped calls = omega arith in
    ap (λ (n : ℕ). whole_of n wire drivers mangled) (capped_calls ∙ ap capped number)
    ∙ ap (λ (x : Wire). whole_of (capped (length h)) x drivers mangled) same
    ∙ ap (λ (ds : List DriverFigures). whole_of (capped (length h)) s.wire ds mangled) each
    ∙ ap (whole_of (capped (length h)) s.wire (map (driver_figures_of s h) (range_with_len 0 (length s.config.pairs)))) manner

-- of a worker of a setting one thing is kept where it is a driver, and else none
pub record IsKept {X : Type 0} (s : Setting) (who : ℕ) (things : List X) : Type 0 where
  pub driver : who < length s.config.pairs → length things ≡ 1
  pub app : length s.config.pairs ≤ who → length things ≡ 0

list_kept : (s : Setting) (who : ℕ) (m : AnyWorker) (act : Act) (l : List Told) → Stands s who m act l → IsKept s who (kept_of m)
list_kept s who (Driver d) act l stands = let known : who < length s.config.pairs = stands.known in record { driver = λ below. refl; app = λ high. absurd (omega (arith, known, high)) }
list_kept s who (App a) act l stands = record { driver = λ below. absurd (omega (arith, stands.caller, below)); app = λ high. refl }

figures_are_kept : (s : Setting) (classes who : ℕ) (m : AnyWorker) (act : Act) (l : List Told) → Stands s who m act l → IsKept s who (figures_kept classes m)
figures_are_kept s classes who (Driver d) act l stands = let known : who < length s.config.pairs = stands.known in record { driver = λ below. refl; app = λ high. absurd (omega (arith, known, high)) }
figures_are_kept s classes who (App a) act l stands = record { driver = λ below. absurd (omega (arith, stands.caller, below)); app = λ high. refl }

-- so at most one
pub list_few : (m : AnyWorker) → length (kept_of m) ≤ 1
list_few (Driver d) = omega arith
list_few (App a) = omega arith

pub figures_few : (classes : ℕ) (m : AnyWorker) → length (figures_kept classes m) ≤ 1
figures_few classes (Driver d) = omega arith
figures_few classes (App a) = omega arith

pub flat_more : {A X : Type 0} (f : A → List X) (xs : List A) (x : A) → flat_map f (xs ++ x ∷ []) ≡ flat_map f xs ++ f x
flat_more f [] x = append-nil (f x)
flat_more f (y ∷ xs) x = ap (λ ys. f y ++ ys) (flat_more f xs x) ∙ sym (append_assoc (f y) (flat_map f xs) (f x))

-- what is kept of a worker that has ended, and has sent no more than it has room for
pub record AreKept {X : Type 0} (s : Setting) (who : ℕ) (things : List X) (thing : X) : Type 0 where
  pub driver : who < length s.config.pairs → things ≡ thing ∷ []
  pub app : length s.config.pairs ≤ who → things ≡ []

sent_kept : (s : Setting) (h : List Entry) (who : ℕ) (m : AnyWorker) (act : Act) → AreWithin s h → act ≡ IsEnd → Stands s who m act (own who h) → AreKept s who (kept_of m) (sent_of s h who)
sent_kept s h who (Driver d) act within is stands =
    let known : who < length s.config.pairs = stands.known in
    let same : d.sent.packets ≡ sent_of s h who = sent_at s who d act (own who h) is stands (within who known) in
    record { driver = λ below. ap (λ (ps : List (List ℕ)). ps ∷ []) same; app = λ high. absurd (omega (arith, known, high)) }
sent_kept s h who (App a) act within is stands = record { driver = λ below. absurd (omega (arith, stands.caller, below)); app = λ high. refl }

ended_figures : (s : Setting) (h : List Entry) (who : ℕ) (m : AnyWorker) (act : Act) → AreWithin s h → act ≡ IsEnd → Stands s who m act (own who h)
    → AreKept s who (figures_kept (classes_of s.config) m) (driver_figures_of s h who)
ended_figures s h who (Driver d) act within is stands =
    let known : who < length s.config.pairs = stands.known in
    let same : d.sent.packets ≡ sent_of s h who = sent_at s who d act (own who h) is stands (within who known) in
    let figures : figures_in (classes_of s.config) d ≡ driver_figures_of s h who = figures_at s who d act (own who h) (sent_of s h who) is stands same in
    record { driver = λ below. ap (λ (f : DriverFigures). f ∷ []) figures; app = λ high. absurd (omega (arith, known, high)) }
ended_figures s h who (App a) act within is stands = record { driver = λ below. absurd (omega (arith, stands.caller, below)); app = λ high. refl }

-- so it is a thing for each pair
kept_as_many : {A X : Type 0} (s : Setting) (f : A → List X) (xs : List A) (n m : ℕ) → m ≡ length s.config.pairs - n → length s.config.pairs ≤ n + length xs → EachFrom xs n (λ who x. IsKept s who (f x)) → length (flat_map f xs) ≡ m
unfolding EachFrom
kept_as_many s f [] n m is all each = omega (arith, is, all)
kept_as_many s f (x ∷ xs) n zero is all each =
    let high : length s.config.pairs ≤ n = omega (arith, is) in
    let none : length (f x) ≡ 0 = each.0.app high in
    let rest : length (flat_map f xs) ≡ 0 = kept_as_many s f xs (n + 1) 0 (omega (arith, high)) (omega (arith, high)) each.1 in
    length-append (f x) (flat_map f xs) ∙ omega (arith, none, rest)
kept_as_many s f (x ∷ xs) n (suc m) is all each =
    let below : n < length s.config.pairs = omega (arith, is) in
    let one : length (f x) ≡ 1 = each.0.driver below in
    let rest : length (flat_map f xs) ≡ m = kept_as_many s f xs (n + 1) m (omega (arith, is)) (omega (arith, all)) each.1 in
    length-append (f x) (flat_map f xs) ∙ omega (arith, one, rest)

pub kept_by_pair : {A X : Type 0} (s : Setting) (f : A → List X) (g : ℕ → X) (xs : List A) (n m : ℕ) → m ≡ length s.config.pairs - n → length s.config.pairs ≤ n + length xs → EachFrom xs n (λ who x. AreKept s who (f x) (g who))
    → flat_map f xs ≡ map g (range_with_len n m)
unfolding EachFrom
kept_by_pair s f g [] n zero is all each = refl
kept_by_pair s f g [] n (suc m) is all each = absurd (omega (arith, is, all))
kept_by_pair s f g (x ∷ xs) n zero is all each =
    let high : length s.config.pairs ≤ n = omega (arith, is) in
    ap (λ ys. ys ++ flat_map f xs) (each.0.app high) ∙ kept_by_pair s f g xs (n + 1) 0 (omega (arith, high)) (omega (arith, high)) each.1
kept_by_pair s f g (x ∷ xs) n (suc m) is all each =
    let below : n < length s.config.pairs = omega (arith, is) in
    ap (λ ys. ys ++ flat_map f xs) (each.0.driver below) ∙ ap (λ ys. g n ∷ ys) (kept_by_pair s f g xs (n + 1) m (omega (arith, is)) (omega (arith, all)) each.1)

module _ (s : Setting) (frames : List Frame) (h : List Entry) (w : Workers) (object : Seen) (seated : AreSeated s frames h w object) where
  all_after : EachFrom w.seats.items 0 (λ who seat. IsActAfter s who (joined_ask seat.ask seat.items) (own_in h who))
  all_after = each_change w.seats.items 0 _ _ seated.seats (λ k x low high sits. sits.1)

  many : length w.seats.items ≡ callers_of s.config
  many = omega (arith, seated.count, w.seats.ok.0)

  -- each worker's own calls and replies are a run
  pub all_runs : (who : ℕ) → who < callers_of s.config → IsWorkerRun s who (own who h)
  all_runs who below = each_tells w.seats.items 0 _ (λ k. IsWorkerRun s k (own k h)) all_after
      (λ k seat after. worker_run s k (joined_ask seat.ask seat.items) (own k h) after) who (omega arith) (omega (arith, below, many))

  -- all have ended, and so each one's own calls and replies are a whole run
  pub whole_runs : HaveEnded w → (who : ℕ) → who < callers_of s.config → IsWholeRun s who (own who h)
  whole_runs ended who below = all_whole s (own_in h) w.seats.items _ 0 all_after ended who (omega arith) (omega (arith, below, many))

  -- or some worker's aren't
  pub open_run : (HaveEnded w → ⊥) → IsOpen s (own_in h) 0 (callers_of s.config)
  open_run going = ⊎_elim
      (λ (all : EachFrom w.seats.items 0 (λ k seat. joined_ask seat.ask seat.items ≡ IsEnd)). absurd (going all))
      (λ (some : IsOpen s (own_in h) 0 (0 + length w.seats.items)).
      record { who = some.who; low = omega arith; high = omega (arith, some.high, many); open_run = some.open_run })
      (some_open s (own_in h) w.seats.items _ 0 all_after)

  -- what is kept of the drivers, a list and figures for each
  pub lists_kept : length (kept_lists w) ≡ length s.config.pairs
  lists_kept = kept_as_many s (λ seat. kept_of seat.machine) w.seats.items 0 (length s.config.pairs) (omega arith) (omega (arith, many))
      (each_change w.seats.items 0 _ _ seated.seats (λ k x low high sits. list_kept s k x.machine (joined_ask x.ask x.items) (own_in h k) sits.0))

  pub figures_number : (classes : ℕ) → length (kept_figures classes w) ≡ length s.config.pairs
  figures_number classes = kept_as_many s (λ seat. figures_kept classes seat.machine) w.seats.items 0 (length s.config.pairs) (omega arith) (omega (arith, many))
      (each_change w.seats.items 0 _ _ seated.seats (λ k x low high sits. figures_are_kept s classes k x.machine (joined_ask x.ask x.items) (own_in h k) sits.0))

  -- where all have ended, each driver keeps what it sent
  ended_seats : HaveEnded w → EachFrom w.seats.items 0 (λ who seat. (joined_ask seat.ask seat.items ≡ IsEnd) × Sits s (own_in h) who seat.machine (joined_ask seat.ask seat.items))
  ended_seats ended = each_both w.seats.items 0 _ _ ended seated.seats

  all_lists : HaveEnded w → AreWithin s h → kept_lists w ≡ map (sent_of s h) (range_with_len 0 (length s.config.pairs))
  all_lists ended within = kept_by_pair s (λ seat. kept_of seat.machine) (sent_of s h) w.seats.items 0 (length s.config.pairs) (omega arith) (omega (arith, many))
      (each_change w.seats.items 0 _ _ (ended_seats ended) (λ k x low high both. sent_kept s h k x.machine (joined_ask x.ask x.items) within both.0 both.1.0))

  pub all_sent : HaveEnded w → AreWithin s h → (pair : ℕ) → pair < length s.config.pairs → get_or (kept_lists w) pair [] ≡ sent_of s h pair
  all_sent ended within pair below =
      ap (λ lists. get_or lists pair []) (all_lists ended within) ∙ get_or-map-range_with_len (sent_of s h) 0 (length s.config.pairs) pair pair [] below (omega arith)

  -- and figures
  pub all_figures : HaveEnded w → AreWithin s h → kept_figures (classes_of s.config) w ≡ map (driver_figures_of s h) (range_with_len 0 (length s.config.pairs))
  all_figures ended within = kept_by_pair s (λ seat. figures_kept (classes_of s.config) seat.machine) (driver_figures_of s h) w.seats.items 0 (length s.config.pairs) (omega arith) (omega (arith, many))
      (each_change w.seats.items 0 _ _ (ended_seats ended) (λ k x low high both. ended_figures s h k x.machine (joined_ask x.ask x.items) within both.0 both.1.0))

-- a run that has ended
pub ended_run : (s : Setting) (frames : List Frame) (order count : ℕ) (w : Workers) (object : Seen) (sent : SentShown) (classes calls : ℕ) (wire : Wire) (mangled : Bool) → IsRegular s.config → (had : HadRounds s frames order count w object)
    → count ≤ 18446744073709551616 → NeverStill s frames order count → HaveEnded w → sent.lists ≡ kept_lists w
    → classes ≡ classes_of s.config → calls ≡ object.engine.calls → calls ≤ 18446744073709551615 → sent.figures ≡ whole_of calls wire (kept_figures classes w) mangled → wire ≡ s.wire → mangled ≡ is_some s.manner.mangle
    → (run : Shown) × HasEnded s frames order run × IsShownBy object sent run
ended_run s frames order count w object sent classes calls wire mangled regular had few never ended kept sockets number fits figures same manner =
    let legal : IsHistory s.config frames had.history = had.seated.run.legal in
    let whole = whole_runs s frames had.history w object had.seated ended in
    let within : AreWithin s had.history = are_within s frames had.history regular legal whole in
    let run : Shown = record { calls = calls; pairs = length sent.lists; log = stored s.config.geometry s.config.sg had.history; sent = sent.lists; figures = sent.figures } in
    let has : HasEnded s frames order run = record {
      history = had.history;
      count = count;
      few = few;
      never_still = never;
      is = record { legal = legal; rounds = had.rounds; runs = all_runs s frames had.history w object had.seated };
      whole = whole;
      log = refl;
      holders = λ past later split. one_holder s.config frames past later (subst (IsHistory s.config frames) split legal);
      figures = figures ∙ figures_whole s had.history wire mangled calls (kept_figures classes w) same manner (number ∙ had.seated.run.calls) fits
          (ap (λ (n : ℕ). kept_figures n w) sockets ∙ all_figures s frames had.history w object had.seated ended within);
      sent = λ pair below. ap (λ lists. get_or lists pair []) kept ∙ all_sent s frames had.history w object had.seated ended within pair below;
      woken = λ past later pair split below.
          ended_lose_no_wakes 1 s frames past later pair regular (subst (IsHistory s.config frames) split legal)
          (subst (λ l. (who : ℕ) → who < callers_of s.config → IsWholeRunOf 1 s who (own who l)) split (λ who known. by_one s who (own who had.history) (whole who known))) below;
    } in
    (run, has, record { is = record { pairs = refl; lists = refl; figures = refl }; log = λ keeps. sym (had.seated.run.log keeps) })

-- a run that has stalled
stalled_run : (s : Setting) (frames : List Frame) (order round : ℕ) (w : Workers) (object : Seen) → (had : HadRounds s frames order (round + 1) w object) → (HaveEnded w → ⊥)
    → round ≤ 18446744073709551615 → StandStill s frames order 64 (round + 1) had.history → NeverStill s frames order round → HasStalled s frames order round
stalled_run s frames order round w object had going few still first =
    let some = open_run s frames had.history w object had.seated going in
    record {
      few = few;
      past = record {
        history = had.history;
        is = record { legal = had.seated.run.legal; rounds = had.rounds; runs = all_runs s frames had.history w object had.seated };
        who = some.who;
        known = some.high;
        open_run = some.open_run;
      };
      still = still;
      first = first;
    }

-- with the object on which it ran, and the counters of its drivers
pub stalled_on : (s : Setting) (frames : List Frame) (order round : ℕ) (w : Workers) (object : Seen) (counters : List DriverCounters) → (had : HadRounds s frames order (round + 1) w object) → (HaveEnded w → ⊥)
    → round ≤ 18446744073709551615 → StandStill s frames order 64 (round + 1) had.history → NeverStill s frames order round → counters ≡ all_counters s had.history → HasStalledOn s frames order round object counters
unfolding stalled_run
stalled_on s frames order round w object counters had going few still first counted = record { stalled = stalled_run s frames order round w object had going few still first; run = had.seated.run; counted = counted }

-- a run whose log was kept
pub logged_ended : (s : Setting) (frames : List Frame) (order : ℕ) (engine : Engine) (sent : SentShown) (run : Shown) → HasEnded s frames order run → IsShownBy (logged_seen engine) sent run
    → HasEnded s frames order (shown_by engine sent)
logged_ended s frames order engine sent run ended shown = record {
  history = ended.history;
  count = ended.count;
  few = ended.few;
  never_still = ended.never_still;
  is = ended.is;
  whole = ended.whole;
  log = sym (shown.log refl) ∙ ended.log;
  holders = ended.holders;
  sent = λ pair below. ap (λ lists. get_or lists pair []) (sym shown.is.lists) ∙ ended.sent pair below;
  figures = sym shown.is.figures ∙ ended.figures;
  woken = ended.woken;
}
