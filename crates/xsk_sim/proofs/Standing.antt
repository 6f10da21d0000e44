-- How long nothing has changed after so many rounds, and that it wasn't so long before.
use Rattle.std.proofs.Common.{◌≡◌, ℕ, zero, suc, Bool, true, false, IsTrue, ◌⊎◌, ◌+◌, ◌<◌, ◌≤◌, List, [], ◌++◌, refl, sym, subst, ap, ◌∙◌, arith, ⊎_elim, inl, inr}
use Rattle.std.proofs.lemmas.Bool.{cases_lt}
use Rattle.xsk_umem.specs.Frame.{Frame}
use Rattle.xsk_model.specs.Config.{callers_of}
use Rattle.xsk_model.specs.Entry.{Entry, own}
use Rattle.xsk_sim.specs.Server.{Seen}
use Rattle.xsk_turns.specs.Workers.{Setting, IsWholeRun}
use Rattle.xsk_sim.specs.Order.{number_at, next_number, start_of, rotated}
use Rattle.xsk_sim.specs.Rounds.{AreTurns, AreRounds, IsRound}
use Rattle.xsk_sim.specs.Stalls.{AreQuiet, StandStill}
use Rattle.xsk_sim.specs.Runs.{IsRoundHistory, StandsStill, NeverStill}
use Rattle.xsk_sim.specs.Seats.{AreSeated, HadRound, HadRounds, HaveStood, HaveEnded}
use Rattle.xsk_sim.specs.declared.rounds.Workers.{Workers}
use Rattle.xsk_sim.proofs.Unique.{Ran, ran_first, rounds_same, turns_same, one_history}
use Rattle.xsk_sim.proofs.Ending.{all_runs, whole_runs}

pub decided : (b : Bool) → IsTrue b ⊎ (IsTrue b → ⊥)
decided true = inl refl
decided false = inr (λ no. let e : false ≡ true = no in cc)

-- rounds that stood still are rounds
stand_rounds : (s : Setting) (frames : List Frame) (order still count : ℕ) (h : List Entry) → StandStill s frames order still count h → AreRounds (IsWholeRun s) (callers_of s.config) order count h
stand_rounds s frames order zero count h stood = stood
stand_rounds s frames order (suc still) zero h stood = absurd stood
stand_rounds s frames order (suc still) (suc count) h stood = (stood.0, stood.1, stood.2, stand_rounds s frames order still count stood.0 stood.3, stood.4)

module _ (s : Setting) (frames : List Frame) (order count still : ℕ) (h es : List Entry) (rounds : AreRounds (IsWholeRun s) (callers_of s.config) order count h)
    (made : IsRound (IsWholeRun s) (callers_of s.config) order count h es) (ran : Ran s frames (h ++ es)) (stood : HaveStood s frames order count still h) where
  -- what stood still to the end of one round more
  last : (longer : ℕ) → StandStill s frames order (suc longer) (suc count) (h ++ es) → StandStill s frames order longer count h × AreQuiet s frames h es
  last longer more =
      let past : List Entry = more.0 in
      let fs : List Entry = more.1 in
      let ran_past : Ran s frames (past ++ fs) = subst (Ran s frames) more.2 ran in
      let same : past ≡ h = rounds_same s frames order count past h (stand_rounds s frames order longer count past more.3) rounds (ran_first s frames past fs ran_past) (ran_first s frames h es ran) in
      let ws = rotated (callers_of s.config) (start_of (callers_of s.config) (number_at order count)) in
      let here : AreTurns (IsWholeRun s) h ws fs = subst (λ l. AreTurns (IsWholeRun s) l ws fs) same more.4 in
      let ends : fs ≡ es = turns_same s frames ws h fs es here made (subst (λ l. Ran s frames (l ++ fs)) same ran_past) ran in
      (subst (StandStill s frames order longer count) same more.3, subst (AreQuiet s frames h) ends (subst (λ l. AreQuiet s frames l fs) same more.5))

  still_more : AreQuiet s frames h es → HaveStood s frames order (suc count) (suc still) (h ++ es)
  still_more quiet = record { stood = (h, es, refl, stood.stood, made, quiet); most = no_longer }
    where
      no_longer : (longer : ℕ) → suc still < longer → StandStill s frames order longer (suc count) (h ++ es) → ⊥
      no_longer zero below more = omega arith
      no_longer (suc longer) below more = stood.most longer (omega (arith, below)) (last longer more).0

  still_none : (AreQuiet s frames h es → ⊥) → HaveStood s frames order (suc count) 0 (h ++ es)
  still_none changed = record { stood = (h, es, refl, rounds, made); most = none_longer }
    where
      none_longer : (longer : ℕ) → 0 < longer → StandStill s frames order longer (suc count) (h ++ es) → ⊥
      none_longer zero below more = omega arith
      none_longer (suc longer) below more = changed (last longer more).1

-- after so many rounds
pub record Gone (s : Setting) (frames : List Frame) (order count still : ℕ) (w : Workers) (object : Seen) : Type 0 where
  pub had : HadRounds s frames order count w object
  pub stood : HaveStood s frames order count still had.history

pub gone_none : (s : Setting) (frames : List Frame) (order : ℕ) (w : Workers) (object : Seen) → AreSeated s frames [] w object → Gone s frames order 0 0 w object
gone_none s frames order w object seated = record { had = record { history = []; rounds = refl; seated = seated }; stood = record { stood = refl; most = longer_none } }
  where
    longer_none : (longer : ℕ) → 0 < longer → StandStill s frames order longer 0 [] → ⊥
    longer_none zero below more = omega arith
    longer_none (suc longer) below more = more

pub round_history : (s : Setting) (frames : List Frame) (order count : ℕ) (w : Workers) (object : Seen) → (had : HadRounds s frames order count w object) → IsRoundHistory s frames order count had.history
round_history s frames order count w object had = record { legal = had.seated.run.legal; rounds = had.rounds; runs = all_runs s frames had.history w object had.seated }

-- one round more
pub gone_more : (s : Setting) (frames : List Frame) (order count still now number next : ℕ) (quiet : Bool) (w v : Workers) (object later : Seen) → (gone : Gone s frames order count still w object)
    → number ≡ number_at order count → HadRound s frames gone.had.history number next v later quiet
    → (IsTrue quiet → now ≡ still + 1) → ((IsTrue quiet → ⊥) → now ≡ 0)
    → Gone s frames order (count + 1) now v later × (next ≡ number_at order (count + 1))
gone_more s frames order count still now number next quiet w v object later gone at round more none =
    let h : List Entry = gone.had.history in
    let es : List Entry = round.turns.entries in
    let e : suc count ≡ count + 1 = omega arith in
    let turns : IsRound (IsWholeRun s) (callers_of s.config) order count h es =
    subst (λ (n : ℕ). AreTurns (IsWholeRun s) h (rotated (callers_of s.config) (start_of (callers_of s.config) n)) es) at round.turns.turns in
    let rounds : AreRounds (IsWholeRun s) (callers_of s.config) order (suc count) (h ++ es) = (h, es, refl, gone.had.rounds, turns) in
    let had : HadRounds s frames order (suc count) v later = record { history = h ++ es; rounds = rounds; seated = round.turns.seated } in
    let ran : Ran s frames (h ++ es) = record { legal = round.turns.seated.run.legal; runs = all_runs s frames (h ++ es) v later round.turns.seated } in
    let stood : HaveStood s frames order (suc count) now (h ++ es) = ⊎_elim
    (λ (yes : IsTrue quiet). let f : suc still ≡ now = omega (arith, more yes) in
    subst (λ (n : ℕ). HaveStood s frames order (suc count) n (h ++ es)) f (still_more s frames order count still h es gone.had.rounds turns ran gone.stood (round.turns.quiet.0 yes)))
    (λ (no : IsTrue quiet → ⊥).
    subst (λ (n : ℕ). HaveStood s frames order (suc count) n (h ++ es)) (sym (none no)) (still_none s frames order count still h es gone.had.rounds turns ran gone.stood (λ all. no (round.turns.quiet.1 all))))
    (decided quiet) in (
      subst (λ (n : ℕ). Gone s frames order n now v later) e (record { had = had; stood = stood }),
      round.number ∙ ap next_number at ∙ ap (number_at order) e,
    )

-- where nothing has changed for less than 64 rounds, or all have ended, it doesn't stand still in the last round
never_push : (s : Setting) (frames : List Frame) (order count : ℕ) → NeverStill s frames order count → (StandsStill s frames order count → ⊥) → NeverStill s frames order (count + 1)
never_push s frames order count before here round below still = ⊎_elim
    (λ (low : round < count). before round low still)
    (λ (high : count ≤ round). let e : round ≡ count = omega (arith, high, below) in here (subst (StandsStill s frames order) e still))
    (cases_lt round count)

pub never_more : (s : Setting) (frames : List Frame) (order count still : ℕ) (w : Workers) (object : Seen) → NeverStill s frames order count → Gone s frames order (count + 1) still w object → still < 64
    → NeverStill s frames order (count + 1)
never_more s frames order count still w object before gone few = never_push s frames order count before
    (λ x.
    let e : x.past.history ≡ gone.had.history = one_history s frames order (count + 1) x.past.history gone.had.history x.past.is (round_history s frames order (count + 1) w object gone.had) in
    gone.stood.most 64 few (subst (StandStill s frames order 64 (count + 1)) e x.still))

pub never_ended : (s : Setting) (frames : List Frame) (order count still : ℕ) (w : Workers) (object : Seen) → NeverStill s frames order count → Gone s frames order (count + 1) still w object → HaveEnded w
    → NeverStill s frames order (count + 1)
never_ended s frames order count still w object before gone ended = never_push s frames order count before
    (λ x.
    let e : x.past.history ≡ gone.had.history = one_history s frames order (count + 1) x.past.history gone.had.history x.past.is (round_history s frames order (count + 1) w object gone.had) in
    x.past.open_run (subst (λ l. IsWholeRun s x.past.who (own x.past.who l)) (sym e) (whole_runs s frames gone.had.history w object gone.had.seated ended x.past.who x.past.known)))

-- where the rounds stop, with some that have not ended
abbrev pub Stops : Setting → List Frame → ℕ → Workers → Seen → ℕ → Type 0
Stops s frames order w object round =
    (had : HadRounds s frames order (round + 1) w object) × (HaveEnded w → ⊥) × (round ≤ 18446744073709551615)
    × StandStill s frames order 64 (round + 1) had.history × NeverStill s frames order round

pub stops : (s : Setting) (frames : List Frame) (order round still : ℕ) (w : Workers) (object : Seen) → Gone s frames order (round + 1) still w object → (HaveEnded w → ⊥)
    → round ≤ 18446744073709551615 → still ≡ 64 → NeverStill s frames order round → Stops s frames order w object round
stops s frames order round still w object gone going few long first =
    let stood : StandStill s frames order 64 (round + 1) gone.had.history = subst (λ (n : ℕ). StandStill s frames order n (round + 1) gone.had.history) long gone.stood.stood in
    (gone.had, going, few, stood, first)
