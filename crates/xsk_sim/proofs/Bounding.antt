-- A run that neither ends nor stands still: something changes in each 64 rounds.
use Rattle.std.proofs.Common.{◌≡◌, ◌≢◌, ℕ, zero, suc, ◌+◌, ◌-◌, ◌*◌, ◌<◌, ◌≤◌, ◌⊎◌, inl, inr, Bool, true, false, cond, List, [], ◌∷◌, ◌++◌, length, refl, sym, subst, ap, ◌∙◌, ⊎_elim, arith, append_assoc, append-nil}
use Rattle.std.proofs.lemmas.Bool.{cases_eq, cases_lt, cases_Bool}
use Rattle.xsk_umem.specs.Frame.{Frame}
use Rattle.xsk_model.specs.Config.{callers_of, classes_of}
use Rattle.xsk_model.specs.Rings.{caller_of}
use Rattle.xsk_model.specs.Entry.{Told, Entry, told, own, all_told}
use Rattle.xsk_model.specs.OtherWords.{changes}
use Rattle.xsk_model.proofs.CallTheorems.{leaves_state}
use Rattle.xsk_model.proofs.Folds.{own-append, own-push_same, own-push_other, all_told-append}
use Rattle.xsk_turns.specs.Turns.{seat_of, start, turn as driver_turn}
use Rattle.xsk_turns.specs.AppTurns.{app_start_by, app_turn}
use Rattle.xsk_turns.specs.Workers.{Setting, input_of, IsWorkerRun, IsWholeRun}
use Rattle.xsk_turns.proofs.ScriptLemmas.{whole_ends}
use Rattle.xsk_turns.specs.Totals.{total}
use Rattle.xsk_bounds.specs.Totals.{sum_below, changed}
use Rattle.xsk_bounds.specs.Bounds.{packets_of, closing_changes}
use Rattle.xsk_bounds.proofs.Totals.{total-push, sum-le}
use Rattle.xsk_bounds.proofs.Bounded.{bounded_with_closings}
use Rattle.xsk_sim.specs.Rounds.{AreRounds}
use Rattle.xsk_sim.specs.Stalls.{settled_of, settled_by, AreQuiet, StandStill}
use Rattle.xsk_sim.specs.Runs.{IsRoundHistory, NeverStill}
use Rattle.xsk_sim.specs.Bounds.{EndsOrStandsStill, EndsOrStandsStillWithClosings}
use Rattle.xsk_sim.proofs.Settling.{settled_grows, settled_few}
use Rattle.xsk_sim.proofs.Unique.{Ran, ran_first}

-- ---- sums

sum_more : (n i : ℕ) (f g : ℕ → ℕ) → i < n → f i + 1 ≤ g i → ((k : ℕ) → k < n → f k ≤ g k) → sum_below n f + 1 ≤ sum_below n g
sum_more zero i f g lt at each = absurd (omega (arith, lt))
sum_more (suc n) i f g lt at each = ⊎_elim
    (λ (e : n ≡ i).
    let here : f n + 1 ≤ g n = subst (λ k. f k + 1 ≤ g k) (sym e) at in
    omega (arith, here, sum-le n f g (λ k below. each k (omega (arith, below)))))
    (λ (e : n ≢ i). omega (arith, each n (omega arith), sum_more n i f g (omega (arith, lt, e)) at (λ k below. each k (omega (arith, below)))))
    (cases_eq n i)

last_of : (l : List Told) → (l ≡ []) ⊎ ((m : List Told) × (t : Told) × (l ≡ m ++ t ∷ []))
last_of [] = inl refl
last_of (x ∷ l) = ⊎_elim
    (λ (e : l ≡ []). inr ([], x, ap (λ xs. x ∷ xs) e))
    (λ (more : (m : List Told) × (t : Told) × (l ≡ m ++ t ∷ [])). inr (x ∷ more.0, more.1, ap (λ xs. x ∷ xs) more.2))
    (last_of l)

-- ---- a worker that has ended

whole_stops : (s : Setting) (who : ℕ) (l more : List Told) → IsWholeRun s who l → IsWorkerRun s who (l ++ more) → more ≡ []
whole_stops s who l [] whole run = refl
whole_stops s who l (t ∷ more) whole run = ⊎_elim
    (λ (low : who < length s.config.pairs).
    absurd (whole_ends (driver_turn (seat_of s.wire s.config who)) (start (classes_of s.config) (input_of s who)) l t more (whole.driver low) (run.driver low)))
    (λ (high : length s.config.pairs ≤ who).
    let a : ℕ = who - length s.config.pairs in
    let is : who ≡ caller_of s.config a = omega arith in
    absurd (whole_ends (app_turn s.config a) (app_start_by s.manner s.config) l t more (whole.app a is) (run.app a is)))
    (cases_lt who (length s.config.pairs))

module _ (s : Setting) (frames : List Frame) where
  abbrev pairs : ℕ
  pairs = length s.config.pairs

  -- the changes of the object and the packets that have their disposal
  abbrev done : List Entry → ℕ
  done h = total changed (all_told h) + sum_below pairs (settled_by s h)

  -- ---- one entry

  settled_mine : (h : List Entry) (e : Entry) (pair : ℕ) → pair < pairs → e.who ≡ pair → Ran s frames (h ++ e ∷ []) → settled_by s h pair ≤ settled_by s (h ++ e ∷ []) pair
  settled_mine h e pair below mine ran =
      let same : own pair (h ++ e ∷ []) ≡ own pair h ++ told e ∷ [] = own-push_same pair h e mine in
      let run = subst (IsWorkerRun s pair) same (ran.runs pair (omega (arith, below))) in
      omega (arith, settled_grows s pair (own pair h) (told e) (run.driver below), ap (settled_of s pair) same)

  settled_others : (h : List Entry) (e : Entry) (pair : ℕ) → e.who ≢ pair → settled_by s (h ++ e ∷ []) pair ≡ settled_by s h pair
  settled_others h e pair other = ap (settled_of s pair) (own-push_other pair h e other)

  settled_each : (h : List Entry) (e : Entry) → Ran s frames (h ++ e ∷ []) → (pair : ℕ) → pair < pairs → settled_by s h pair ≤ settled_by s (h ++ e ∷ []) pair
  settled_each h e ran pair below = ⊎_elim
      (λ (mine : e.who ≡ pair). settled_mine h e pair below mine ran)
      (λ (other : e.who ≡ pair → ⊥). omega (arith, settled_others h e pair other))
      (cases_eq e.who pair)

  pushed : (h : List Entry) (e : Entry) → total changed (all_told (h ++ e ∷ [])) ≡ total changed (all_told h) + changed (told e)
  pushed h e = ap (total changed) (all_told-append h (e ∷ [])) ∙ total-push changed (all_told h) (told e)

  abbrev one : Bool → ℕ
  one b = cond b 1 0

  abbrev Moves : List Entry → List Entry → Type 0
  Moves h es = (AreQuiet s frames h es × (done h ≤ done (h ++ es))) ⊎ (done h + 1 ≤ done (h ++ es))

  -- an entry that changes nothing of the object: either a packet gets its disposal, or it is quiet
  unchanged : (h : List Entry) (e : Entry) → Ran s frames (h ++ e ∷ []) → changes e.call e.reply ≡ false → Moves h (e ∷ [])
  unchanged h e ran none =
      let all = sum-le pairs (settled_by s h) (settled_by s (h ++ e ∷ [])) (settled_each h e ran) in
      let object = leaves_state s.config frames h e ran.legal none in
      let quiet : ((pair : ℕ) → pair < pairs → settled_by s (h ++ e ∷ []) pair ≡ settled_by s h pair) → Moves h (e ∷ []) =
      λ settled. inl ((record { object = object; settled = settled }, tt), omega (arith, all, pushed h e)) in
      ⊎_elim
      (λ (low : e.who < pairs). ⊎_elim
      (λ (same : settled_by s (h ++ e ∷ []) e.who ≡ settled_by s h e.who).
      quiet (λ pair below. ⊎_elim
      (λ (mine : e.who ≡ pair). subst (λ (k : ℕ). settled_by s (h ++ e ∷ []) k ≡ settled_by s h k) mine same)
      (λ (other : e.who ≡ pair → ⊥). settled_others h e pair other)
      (cases_eq e.who pair)))
      (λ (moved : settled_by s (h ++ e ∷ []) e.who ≡ settled_by s h e.who → ⊥).
      inr (omega (arith, pushed h e, sum_more pairs e.who (settled_by s h) (settled_by s (h ++ e ∷ [])) low (omega (arith, moved, settled_each h e ran e.who low)) (settled_each h e ran))))
      (cases_eq (settled_by s (h ++ e ∷ []) e.who) (settled_by s h e.who)))
      (λ (high : pairs ≤ e.who). quiet (λ pair below. settled_others h e pair (λ is. omega (arith, high, below, is))))
      (cases_lt e.who pairs)

  entry_moves : (h : List Entry) (e : Entry) → Ran s frames (h ++ e ∷ []) → Moves h (e ∷ [])
  entry_moves h e ran = ⊎_elim
      (λ (yes : changes e.call e.reply ≡ true).
      inr (omega (arith, ap one yes, pushed h e, sum-le pairs (settled_by s h) (settled_by s (h ++ e ∷ [])) (settled_each h e ran))))
      (λ (none : changes e.call e.reply ≡ false). unchanged h e ran none)
      (cases_Bool (changes e.call e.reply))

  both_move : (h : List Entry) (e : Entry) (es : List Entry) → Moves h (e ∷ []) → Moves (h ++ e ∷ []) es → Moves h (e ∷ es)
  both_move h e es first rest =
      let same : done ((h ++ e ∷ []) ++ es) ≡ done (h ++ e ∷ es) = ap done (append_assoc h (e ∷ []) es) in
      ⊎_elim
      (λ (a : AreQuiet s frames h (e ∷ []) × (done h ≤ done (h ++ e ∷ []))). ⊎_elim
      (λ (b : AreQuiet s frames (h ++ e ∷ []) es × (done (h ++ e ∷ []) ≤ done ((h ++ e ∷ []) ++ es))). inl ((a.0.0, b.0), omega (arith, a.1, b.1, same)))
      (λ (b : done (h ++ e ∷ []) + 1 ≤ done ((h ++ e ∷ []) ++ es)). inr (omega (arith, a.1, b, same)))
      rest)
      (λ (a : done h + 1 ≤ done (h ++ e ∷ [])). ⊎_elim
      (λ (b : AreQuiet s frames (h ++ e ∷ []) es × (done (h ++ e ∷ []) ≤ done ((h ++ e ∷ []) ++ es))). inr (omega (arith, a, b.1, same)))
      (λ (b : done (h ++ e ∷ []) + 1 ≤ done ((h ++ e ∷ []) ++ es)). inr (omega (arith, a, b, same)))
      rest)
      first

  entries_move : (h es : List Entry) → Ran s frames (h ++ es) → Moves h es
  entries_move h [] ran = inl (tt, omega (arith, ap done (append-nil h)))
  entries_move h (e ∷ es) ran =
      let all : Ran s frames ((h ++ e ∷ []) ++ es) = subst (Ran s frames) (sym (append_assoc h (e ∷ []) es)) ran in
      both_move h e es (entry_moves h e (ran_first s frames (h ++ e ∷ []) es all)) (entries_move (h ++ e ∷ []) es all)

  -- ---- rounds

  open_before : (h es : List Entry) (who : ℕ) → who < callers_of s.config → Ran s frames (h ++ es) → (IsWholeRun s who (own who (h ++ es)) → ⊥) → IsWholeRun s who (own who h) → ⊥
  open_before h es who below ran goes whole =
      let run = subst (IsWorkerRun s who) (own-append who h es) (ran.runs who below) in
      let none : own who es ≡ [] = whole_stops s who (own who h) (own who es) whole run in
      let same : own who h ≡ own who (h ++ es) = sym (own-append who h es ∙ ap (λ l. own who h ++ l) none ∙ append-nil (own who h)) in
      goes (subst (IsWholeRun s who) same whole)

  pub record Lasts (order count : ℕ) (h : List Entry) : Type 0 where
    pub still : ℕ
    pub stands : StandStill s frames order still count h
    pub few : count ≤ 64 * done h + still
    pub short : still < 64

  rounds_last : (order count : ℕ) (h : List Entry) (who : ℕ) → AreRounds (IsWholeRun s) (callers_of s.config) order count h → Ran s frames h → who < callers_of s.config
      → (IsWholeRun s who (own who h) → ⊥) → NeverStill s frames order count → Lasts order count h
  rounds_last order zero h who rounds ran below goes never = record { still = 0; stands = rounds; few = omega arith; short = omega arith }
  rounds_last order (suc n) h who rounds ran below goes never =
      let past = rounds.0 in
      let es = rounds.1 in
      let all : Ran s frames (past ++ es) = subst (Ran s frames) rounds.2 ran in
      let opens : IsWholeRun s who (own who (past ++ es)) → ⊥ = subst (λ l. IsWholeRun s who (own who l) → ⊥) rounds.2 goes in
      let before : Lasts order n past =
      rounds_last order n past who rounds.3 (ran_first s frames past es all) below (open_before past es who below all opens) (λ round lt. never round (omega (arith, lt))) in
      let same : done h ≡ done (past ++ es) = ap done rounds.2 in
      ⊎_elim
      (λ (quiet : AreQuiet s frames past es × (done past ≤ done (past ++ es))).
      let stands : StandStill s frames order (suc before.still) (suc n) h = (past, es, rounds.2, before.stands, rounds.4, quiet.0) in
      ⊎_elim
      (λ (less : suc before.still < 64). record { still = suc before.still; stands = stands; few = omega (arith, before.few, quiet.1, same); short = less })
      (λ (most : 64 ≤ suc before.still).
      let full : suc before.still ≡ 64 = omega (arith, most, before.short) in
      let next : suc n ≡ n + 1 = omega arith in
      let at : StandStill s frames order 64 (n + 1) h = subst (λ k. StandStill s frames order 64 k h) next (subst (λ k. StandStill s frames order k (suc n) h) full stands) in
      let is : IsRoundHistory s frames order (n + 1) h = record {
        legal = ran.legal;
        rounds = subst (λ k. AreRounds (IsWholeRun s) (callers_of s.config) order k h) next rounds;
        runs = ran.runs;
      } in
      absurd (never n (omega arith) (record { past = record { history = h; is = is; who = who; known = below; open_run = goes }; still = at })))
      (cases_lt (suc before.still) 64))
      (λ (more : done past + 1 ≤ done (past ++ es)). record { still = 0; stands = rounds; few = omega (arith, before.few, before.short, more, same); short = omega arith })
      (entries_move past es all)

  -- ---- how much can be done

  settled_all : (h : List Entry) → Ran s frames h → sum_below pairs (settled_by s h) ≤ packets_of s
  settled_all h ran = sum-le pairs (settled_by s h) (λ d. length (input_of s d))
      (λ d below. ⊎_elim
      (λ (e : own d h ≡ []). omega (arith, ap (settled_of s d) e))
      (λ (more : (m : List Told) × (t : Told) × (own d h ≡ m ++ t ∷ [])).
      let run = subst (IsWorkerRun s d) more.2 (ran.runs d (omega (arith, below))) in
      omega (arith, settled_few s d more.0 more.1 (run.driver below), ap (settled_of s d) more.2))
      (last_of (own d h)))

pub ends_with_closings : EndsOrStandsStillWithClosings
ends_with_closings s frames order count h who regular is below goes never =
    let ran : Ran s frames h = record { legal = is.legal; runs = is.runs } in
    let lasts = rounds_last s frames order count h who is.rounds ran below goes never in
    omega (arith, lasts.few, lasts.short, bounded_with_closings s frames h regular is.legal is.runs, settled_all s frames h ran)

-- where no socket is closed there are none more
pub ends_or_stands_still : EndsOrStandsStill
ends_or_stands_still s frames order count h who steady is below goes never =
    omega (arith, ends_with_closings s frames order count h who steady.regular is below goes never, ap closing_changes steady.closes)
