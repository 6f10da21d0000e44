-- New drivers in their seats, each with the verdicts that it keeps.
use Rattle.std.proofs.Common.{◌≡◌, ℕ, ◌+◌, ◌<◌, List, [], ◌∷◌, ◌++◌, length, length-append, refl, sym, subst, ◌∙◌, arith, ⊎_elim, vec_len}
use Rattle.std.specs.List.{slice_index_or}
use Rattle.std.proofs.lemmas.Bool.{cases_eq}
use Rattle.std.proofs.lemmas.List.{get_or_push, get_or_append_left}
use Rattle.xsk_umem.specs.Frame.{Frame}
use Rattle.xsk_umem.specs.Geometry.{IsGeometry}
use Rattle.xsk_umem.specs.PacketList.{PacketList}
use Rattle.xsk_model.specs.Config.{Config, IsConfig, IsLawful, pair_at}
use Rattle.xsk_model.specs.Opening.{AreFrames, IsOpened, opening}
use Rattle.xsk_plain.specs.Engine.{Shows}
use Rattle.xsk_prog.specs.declared.rule.Verdict.{Verdict}
use Rattle.xsk_turns.specs.Stepping.{IsGivenBack}
use Rattle.xsk_turns.specs.Verdicts.{judged, EachHas, IsGiven}
use Rattle.xsk_turns.specs.Workers.{AreGiven, packets_to}
use Rattle.xsk_turns.specs.declared.wire.Wire.{Wire}
use Rattle.xsk_driver.specs.Runs.{StandsWith}
use Rattle.xsk_machine.specs.Workers.{setting_with}
use Rattle.xsk_machine.specs.declared.inputs.Amount.{Amount}
use Rattle.xsk_sim.specs.Seats.{EachFrom}
use Rattle.xsk_sim.specs.Server.{logged_seen}
use Rattle.xsk_sim.proofs.Seating.{each_none, each_push, each_change}
use Rattle.xsk_sim.proofs.Beginning.{run_begins}
use Rattle.xsk_bench.specs.Played.{act_of, IsSeated, HasPlayed}
use Rattle.xsk_bench.specs.declared.play.Play.{Play}
use Rattle.xsk_bench.specs.declared.seat.Seat.{Seat}

-- the first drivers, so many, with their verdicts
pub record Begun (By : ℕ → List ℕ → Verdict → Type 0) (c : Config) (wire : Wire) (packets : List PacketList) (room : Amount) (count : ℕ) (seats : List Seat) : Type 0 where
  pub verdicts : List (List Verdict)
  pub count_is : length verdicts ≡ count
  pub asked : (pair : ℕ) → pair < count
      → EachHas (IsGiven (By (pair_at c.pairs pair).queue)) (packets_to c packets (pair_at c.pairs pair)) (slice_index_or verdicts pair [])
  pub seated : EachFrom seats 0 (IsSeated (setting_with c wire packets verdicts) room [])

module _ (By : ℕ → List ℕ → Verdict → Type 0) (c : Config) (wire : Wire) (packets : List PacketList) (room : Amount) where
  pub begun_none : Begun By c wire packets room 0 []
  begun_none = record { verdicts = []; count_is = refl; asked = λ pair below. absurd (omega (arith, below)); seated = each_none 0 _ }

  -- a seat of the same verdicts
  seated_by : (verdicts more : List (List Verdict)) (who : ℕ) (seat : Seat) → slice_index_or more who [] ≡ slice_index_or verdicts who []
      → IsSeated (setting_with c wire packets verdicts) room [] who seat → IsSeated (setting_with c wire packets more) room [] who seat
  seated_by verdicts more who seat same is = record {
    drives = subst (λ (v : List Verdict). StandsWith wire c who (judged (packets_to c packets (pair_at c.pairs who)) v) seat.driver (act_of seat) []) (sym same) is.drives;
    noted = is.noted;
    given = is.given;
    packets = is.packets;
    bytes = is.bytes;
  }

  -- one more, of the next pair
  pub begun_more : (count : ℕ) (seats : List Seat) (seat : Seat) (verdicts : List Verdict) → Begun By c wire packets room count seats → length seats ≡ count
      → EachHas (IsGiven (By (pair_at c.pairs count).queue)) (packets_to c packets (pair_at c.pairs count)) verdicts
      → StandsWith wire c count (judged (packets_to c packets (pair_at c.pairs count)) verdicts) seat.driver (act_of seat) []
      → seat.settled ≡ 0 → (seat.driver.sent.most_packets ≡ room.packets) × (seat.driver.sent.most_bytes ≡ room.bytes)
      → IsGivenBack seat.ask seat.items → Begun By c wire packets room (count + 1) (seats ++ seat ∷ [])
  begun_more count seats seat verdicts begun len asked stands settled rooms given =
      let all : List (List Verdict) = begun.verdicts ++ verdicts ∷ [] in
      let last : slice_index_or all count [] ≡ verdicts = get_or_push begun.verdicts verdicts [] count begun.count_is in
      let before : (k : ℕ) → k < count → slice_index_or all k [] ≡ slice_index_or begun.verdicts k [] =
      (λ k below. get_or_append_left begun.verdicts (verdicts ∷ []) [] k (omega (arith, below, begun.count_is))) in
      let here : IsSeated (setting_with c wire packets all) room [] count seat = record {
        drives = subst (λ (v : List Verdict). StandsWith wire c count (judged (packets_to c packets (pair_at c.pairs count)) v) seat.driver (act_of seat) []) (sym last) stands;
        noted = settled;
        given = given;
        packets = rooms.0;
        bytes = rooms.1;
      } in
      record {
        verdicts = all;
        count_is = omega (arith, length-append begun.verdicts (verdicts ∷ []), begun.count_is);
        asked = λ pair below. ⊎_elim
            (λ (is : pair ≡ count). subst (λ (k : ℕ). EachHas (IsGiven (By (pair_at c.pairs k).queue)) (packets_to c packets (pair_at c.pairs k)) (slice_index_or all k [])) (sym is)
            (subst (EachHas (IsGiven (By (pair_at c.pairs count).queue)) (packets_to c packets (pair_at c.pairs count))) (sym last) asked))
            (λ (other : pair ≡ count → ⊥).
            let low : pair < count = omega (arith, below, other) in
            subst (EachHas (IsGiven (By (pair_at c.pairs pair).queue)) (packets_to c packets (pair_at c.pairs pair))) (sym (before pair low)) (begun.asked pair low))
            (cases_eq pair count);
        seated = each_push seats 0 count _ seat
            (each_change seats 0 _ _ begun.seated (λ k x low high is. seated_by begun.verdicts all k x (before k (omega (arith, high, len))) is))
            (omega (arith, len)) here;
      }

  -- all of them
  pub all_begun : (seats : List Seat) → (begun : Begun By c wire packets room (length c.pairs) seats)
      → (verdicts : List (List Verdict)) × AreGiven By (setting_with c wire packets verdicts) × EachFrom seats 0 (IsSeated (setting_with c wire packets verdicts) room [])
  all_begun seats begun = (begun.verdicts, record { count = begun.count_is; each = begun.asked }, begun.seated)

-- They are those of a bench over an object that was opened with a copy of the configuration.
pub bench_opened : (By : ℕ → List ℕ → Verdict → Type 0) (wire : Wire) (c copy : Config) (packets : List PacketList) (frames : List Frame) (p : Play) → copy ≡ c → IsGeometry c.geometry → IsConfig c
    → IsLawful c → AreFrames c.geometry frames → p.checked.config ≡ copy → Shows p.checked (opening copy frames) → p.checked.log ≡ [] → p.checked.calls ≡ 0 → vec_len p.seats ≡ length c.pairs
    → (verdicts : List (List Verdict)) × AreGiven By (setting_with c wire packets verdicts) × EachFrom p.seats.items 0 (IsSeated (setting_with c wire packets verdicts) p.room [])
    → (verdicts : List (List Verdict)) × AreGiven By (setting_with c wire packets verdicts) × HasPlayed (setting_with c wire packets verdicts) frames [] p
bench_opened By wire c copy packets frames p is geometry known lawful umem config shows log calls count begun =
    let opened : IsOpened c frames = record { geometry = geometry; config = known; lawful = lawful; umem = umem } in (
      begun.0,
      begun.1,
      record {
        run = run_begins (setting_with c wire packets begun.0) frames (logged_seen p.checked) opened
            (record { config = config ∙ is; state = subst (λ (k : Config). Shows p.checked (opening k frames)) is shows; calls = calls; log = λ kept. log });
        count = count;
        seats = begun.2;
      },
    )
