-- Rounds in which not all workers have ended, and which never stood still, are fewer than a u64 counts.
use Rattle.std.proofs.Common.{ℕ, ◌+◌, ◌*◌, ◌<◌, ◌≤◌, List, [], ◌∷◌, Option, Some, None, length, length-append, arith}
use Rattle.xsk_umem.specs.Frame.{Frame}
use Rattle.xsk_umem.specs.Geometry.{IsGeometry}
use Rattle.xsk_model.specs.Config.{Config, IsConfig, IsRegular, classes_of}
use Rattle.xsk_model.specs.Entry.{Told}
use Rattle.xsk_model.specs.declared.call.Mark.TheVariants.{Gone as GoneMark}
use Rattle.xsk_model.specs.declared.call.Call.TheVariants.{Swap}
use Rattle.xsk_model.specs.declared.call.Reply.TheVariants.{Old}
use Rattle.xsk_model.specs.declared.call.Act.{Act}
use Rattle.xsk_model.specs.declared.call.Act.TheVariants.{Call as Calls, Ended as IsEnd}
use Rattle.xsk_model.proofs.Few.{apps_few}
use Rattle.xsk_sim.specs.Server.{Seen}
use Rattle.xsk_turns.specs.Stepping.{joined_ask}
use Rattle.xsk_turns.specs.Turns.{Judged, seat_of, start, turn, IsWholeDriverRun}
use Rattle.xsk_turns.specs.Workers.{Setting, input_of}
use Rattle.xsk_turns.specs.declared.wire.Wire.{Wire}
use Rattle.xsk_turns.proofs.Walks.{Anything, meet_anything}
use Rattle.xsk_turns.proofs.DriverStages.{Family, Said, IsLaw, AtSilent, none_comes}
use Rattle.xsk_turns.proofs.DriverWalk.{at_end}
use Rattle.xsk_bounds.specs.Bounds.{closing_changes, packets_of}
use Rattle.xsk_bounds.proofs.Totals.{sum-le, sum-const}
use Rattle.xsk_machine.specs.Acts.{IsActAfter}
use Rattle.xsk_machine.specs.Workers.{Stands}
use Rattle.xsk_machine.specs.declared.worker.AnyWorker.{AnyWorker}
use Rattle.xsk_machine.specs.declared.worker.AnyWorker.TheVariants.{Driver, App}
use Rattle.xsk_sim.specs.Bounds.{most_rounds}
use Rattle.xsk_sim.specs.Runs.{NeverStill}
use Rattle.xsk_sim.specs.Seats.{AreSeated, HaveEnded}
use Rattle.xsk_sim.specs.declared.rounds.Workers.{Workers}
use Rattle.xsk_sim.proofs.Bounding.{ends_with_closings}
use Rattle.xsk_sim.proofs.Ending.{open_run}
use Rattle.xsk_sim.proofs.Seating.{each_tells}
use Rattle.xsk_sim.proofs.Standing.{Gone, round_history}

-- ---- a driver ends by a call

module _ (wire : Wire) (c : Config) (d : ℕ) where
  abbrev At : Family
  At place noted kept l = Unit {0}

  abbrev Asked : Said
  Asked kept call l = Unit {0}

  silent : AtSilent (seat_of wire c d) Anything At
  silent none_comes noted kept l = λ h e. tt
  silent p noted kept l = λ h e. tt

  law : IsLaw (seat_of wire c d) Anything At Asked (λ kept l. 0 < length l)
  law = record {
    calls = λ p noted kept l known h. tt;
    entries = λ e noted kept l known found h a q. tt;
    silent = silent;
    ends = λ noted kept l n known h a q. let t : Told = record { call = Swap (GoneMark d) 1; reply = Old n } in omega (arith, length-append l (t ∷ []));
  }

  some_call : (input : List Judged) → IsWholeDriverRun wire c d input [] → ⊥
  some_call input whole =
      let some : 0 < length {A = Told} [] =
      at_end (seat_of wire c d) Anything At Asked (λ kept l. 0 < length l) law (start (classes_of c) input) tt []
      (meet_anything (turn (seat_of wire c d)) (turn (seat_of wire c d) (start (classes_of c) input)) [] []) whole.0 whole.1 in
      omega (arith, some)

-- ---- so a driver that is new has no more packets than a u32 counts

pub record HasFew (s : Setting) (who : ℕ) : Type 0 where
  pub regular : IsRegular s.config
  pub packets : length (input_of s who) < 4294967296

few_at : (s : Setting) (who : ℕ) (w : AnyWorker) (act : Act) → Stands s who w act [] → IsActAfter s who act [] → who < length s.config.pairs → HasFew s who
few_at s who (Driver d) (Calls call) stands after below = record { regular = stands.stands.one.regular; packets = stands.stands.few }
few_at s who (Driver d) IsEnd stands after below = absurd (some_call s.wire s.config who (input_of s who) (after.driver below))
few_at s who (App a) act stands after below = absurd (omega (arith, stands.caller, below))

few_packets : (s : Setting) (frames : List Frame) (w : Workers) (object : Seen) → AreSeated s frames [] w object → (who : ℕ) → who < length s.config.pairs → HasFew s who
few_packets s frames w object seated who below =
    each_tells w.seats.items 0 _ (λ k. k < length s.config.pairs → HasFew s k) seated.seats
    (λ k seat sits. few_at s k seat.machine (joined_ask seat.ask seat.items) sits.0 sits.1) who (omega arith) (omega (arith, below, seated.count)) below

-- ---- rounds

few_changes : (o : Option ℕ) → closing_changes o ≤ 78
few_changes None = omega arith
few_changes (Some s) = omega arith

few_rounds : (s : Setting) → IsConfig s.config → IsGeometry s.config.geometry → ((d : ℕ) → d < length s.config.pairs → HasFew s d)
    → most_rounds s + 64 * closing_changes s.config.closing < 18446744073709551615
few_rounds s config geometry few =
    let n = length s.config.pairs in
    let packets : packets_of s ≤ n * 4294967296 = omega (
      arith,
      sum-le n (λ d. length (input_of s d)) (λ d. 4294967296) (λ d below. let one = (few d below).packets in omega (arith, one)),
      sum-const n 4294967296,
    ) in
    omega (arith, packets, config.pairs_few, config.few, geometry.few, apps_few s.config config, few_changes s.config.closing)

-- where they had all rounds that a u64 counts, and none of these stood still, all have ended
pub never_so_many : (s : Setting) (frames : List Frame) (order count still : ℕ) (begun w : Workers) (first object : Seen) → AreSeated s frames [] begun first → Gone s frames order count still w object
    → NeverStill s frames order count → (HaveEnded w → ⊥) → count < 18446744073709551615
never_so_many s frames order count still begun w first object seated gone never going =
    let few = few_packets s frames begun first seated in
    let opened = seated.run.legal.opened in
    let some = open_run s frames gone.had.history w object gone.had.seated going in
    let one = few 0 opened.config.pairs_some in
    omega (
      arith,
      ends_with_closings s frames order count gone.had.history some.who one.regular (round_history s frames order count w object gone.had) some.high some.open_run never,
      few_rounds s opened.config opened.geometry few,
    )
