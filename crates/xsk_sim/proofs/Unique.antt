-- There is one history in rounds for each number of rounds, and so one outcome of a run.
use Rattle.std.proofs.Common.{◌≡◌, ℕ, zero, suc, ◌+◌, ◌-◌, ◌<◌, ◌≤◌, List, [], ◌∷◌, ◌++◌, length, refl, sym, subst, ap, ◌∙◌, arith, append_assoc, append-nil, inl, inr, ⊎_elim}
use Rattle.std.proofs.lemmas.Bool.{cases_lt}
use Rattle.xsk_umem.specs.Frame.{Frame}
use Rattle.xsk_model.specs.Config.{callers_of, classes_of}
use Rattle.xsk_model.specs.Rings.{caller_of}
use Rattle.xsk_model.specs.Object.{reply_at}
use Rattle.xsk_model.specs.Entry.{Told, Entry, told, own}
use Rattle.xsk_model.specs.History.{IsHistory, state_after}
use Rattle.xsk_model.proofs.Folds.{own-append, own-push_same}
use Rattle.xsk_model.proofs.Histories.{history_first}
use Rattle.xsk_model.proofs.Replies.{history_entry}
use Rattle.xsk_turns.proofs.ScriptLemmas.{run_front, run_next}
use Rattle.xsk_turns.specs.Turns.{seat_of, start, turn as driver_turn}
use Rattle.xsk_turns.specs.AppTurns.{app_start_by, app_turn}
use Rattle.xsk_sim.specs.Order.{number_at, start_of, rotated}
use Rattle.xsk_sim.specs.Rounds.{IsTurn, AreTurns, AreRounds}
use Rattle.xsk_turns.specs.Workers.{Setting, input_of, IsWorkerRun, IsWholeRun}
use Rattle.xsk_machine.specs.Acts.{sent_of}
use Rattle.xsk_machine.specs.HistoryFigures.{figures_of}
use Rattle.xsk_sim.specs.Runs.{IsRoundHistory, HasEnded, HasStalled, OneHistory, OneLog, OneFigures, OneSent, EndsOrStalls, OneStall}
use Rattle.xsk_sim.specs.Shown.{Shown}
use Rattle.xsk_model.specs.Stored.{stored}

-- ---- the front of a run

worker_first : (s : Setting) (who : ℕ) (l more : List Told) → IsWorkerRun s who (l ++ more) → IsWorkerRun s who l
worker_first s who l more run = record {
  driver = λ below. run_front (driver_turn (seat_of s.wire s.config who)) (start (classes_of s.config) (input_of s who)) l more (run.driver below);
  app = λ a is. run_front (app_turn s.config a) (app_start_by s.manner s.config) l more (run.app a is);
}

-- two runs of a worker with the same list before them make the same call next
worker_next : (s : Setting) (who : ℕ) (l : List Told) (t u : Told) → IsWorkerRun s who (l ++ t ∷ []) → IsWorkerRun s who (l ++ u ∷ []) → t.call ≡ u.call
worker_next s who l t u first second = ⊎_elim
    (λ (low : who < length s.config.pairs).
    run_next (driver_turn (seat_of s.wire s.config who)) (start (classes_of s.config) (input_of s who)) l t u (first.driver low) (second.driver low))
    (λ (high : length s.config.pairs ≤ who).
    let a : ℕ = who - length s.config.pairs in
    let is : who ≡ caller_of s.config a = omega arith in
    run_next (app_turn s.config a) (app_start_by s.manner s.config) l t u (first.app a is) (second.app a is))
    (cases_lt who (length s.config.pairs))

-- ---- one history

module _ (s : Setting) (frames : List Frame) where
  -- a legal history in which each worker's own calls and replies are a run
  pub record Ran (h : List Entry) : Type 0 where
    pub legal : IsHistory s.config frames h
    pub runs : (who : ℕ) → who < callers_of s.config → IsWorkerRun s who (own who h)

  pub ran_first : (h more : List Entry) → Ran (h ++ more) → Ran h
  ran_first h more ran = record {
    legal = history_first s.config frames h more ran.legal;
    runs = λ who below. worker_first s who (own who h) (own who more) (subst (IsWorkerRun s who) (own-append who h more) (ran.runs who below));
  }

  entry_same : (past : List Entry) (e f : Entry) → e.who ≡ f.who → Ran (past ++ e ∷ []) → Ran (past ++ f ∷ []) → e ≡ f
  entry_same past e f who first second =
      let below : e.who < callers_of s.config = (history_entry s.config frames past [] e first.legal).0.caller in
      let own_e : IsWorkerRun s e.who (own e.who past ++ told e ∷ []) = subst (IsWorkerRun s e.who) (own-push_same e.who past e refl) (first.runs e.who below) in
      let own_f : IsWorkerRun s e.who (own e.who past ++ told f ∷ []) = subst (IsWorkerRun s e.who) (own-push_same e.who past f (sym who)) (second.runs e.who below) in
      let call : e.call ≡ f.call = worker_next s e.who (own e.who past) (told e) (told f) own_e own_f in
      let reply_e = (history_entry s.config frames past [] e first.legal).1 in
      let reply_f = (history_entry s.config frames past [] f second.legal).1 in
      let reply : e.reply ≡ f.reply = reply_e ∙ ap (reply_at s.config (state_after s.config frames past)) call ∙ sym reply_f in
      ap (λ (w : ℕ). let x : Entry = record { who = w; call = e.call; reply = e.reply } in x) who
      ∙ ap (λ c. let x : Entry = record { who = f.who; call = c; reply = e.reply } in x) call
      ∙ ap (λ r. let x : Entry = record { who = f.who; call = f.call; reply = r } in x) reply

  turn_same : (past : List Entry) (who : ℕ) (es fs : List Entry) → IsTurn (IsWholeRun s) past who es → IsTurn (IsWholeRun s) past who fs → Ran (past ++ es) → Ran (past ++ fs) → es ≡ fs
  turn_same past who es fs (inl a) (inl b) first second = a.1 ∙ sym b.1
  turn_same past who es fs (inl a) (inr b) first second = absurd (b.0 a.0)
  turn_same past who es fs (inr a) (inl b) first second = absurd (a.0 b.0)
  turn_same past who es fs (inr a) (inr b) first second =
      let one = subst (λ l. Ran (past ++ l)) a.1.2 first in
      let two = subst (λ l. Ran (past ++ l)) b.1.2 second in
      a.1.2 ∙ ap (λ (e : Entry). e ∷ []) (entry_same past a.1.0 b.1.0 (a.1.1 ∙ sym b.1.1) one two) ∙ sym b.1.2

  pub turns_same : (ws : List ℕ) (past es fs : List Entry) → AreTurns (IsWholeRun s) past ws es → AreTurns (IsWholeRun s) past ws fs → Ran (past ++ es) → Ran (past ++ fs) → es ≡ fs
  turns_same [] past es fs first second one two = first ∙ sym second
  turns_same (w ∷ ws) past es fs first second one two =
      let one : Ran ((past ++ first.0) ++ first.1) = subst Ran (ap (λ l. past ++ l) first.2 ∙ sym (append_assoc past first.0 first.1)) one in
      let two : Ran ((past ++ second.0) ++ second.1) = subst Ran (ap (λ l. past ++ l) second.2 ∙ sym (append_assoc past second.0 second.1)) two in
      let turn : first.0 ≡ second.0 = turn_same past w first.0 second.0 first.3 second.3 (ran_first (past ++ first.0) first.1 one) (ran_first (past ++ second.0) second.1 two) in
      let rest : first.1 ≡ second.1 =
      turns_same ws (past ++ first.0) first.1 second.1 first.4 (subst (λ l. AreTurns (IsWholeRun s) (past ++ l) ws second.1) (sym turn) second.4) one
      (subst (λ l. Ran ((past ++ l) ++ second.1)) (sym turn) two) in
      first.2 ∙ ap (λ l. l ++ first.1) turn ∙ ap (λ l. second.0 ++ l) rest ∙ sym second.2

  pub rounds_same : (order count : ℕ) (h k : List Entry) → AreRounds (IsWholeRun s) (callers_of s.config) order count h → AreRounds (IsWholeRun s) (callers_of s.config) order count k → Ran h → Ran k → h ≡ k
  rounds_same order zero h k first second one two = first ∙ sym second
  rounds_same order (suc n) h k first second one two =
      let one : Ran (first.0 ++ first.1) = subst Ran first.2 one in
      let two : Ran (second.0 ++ second.1) = subst Ran second.2 two in
      let past : first.0 ≡ second.0 = rounds_same order n first.0 second.0 first.3 second.3 (ran_first first.0 first.1 one) (ran_first second.0 second.1 two) in
      let ws = rotated (callers_of s.config) (start_of (callers_of s.config) (number_at order n)) in
      let last : first.1 ≡ second.1 =
      turns_same ws first.0 first.1 second.1 first.4 (subst (λ l. AreTurns (IsWholeRun s) l ws second.1) (sym past) second.4) one (subst (λ l. Ran (l ++ second.1)) (sym past) two) in
      first.2 ∙ ap (λ l. l ++ first.1) past ∙ ap (λ l. second.0 ++ l) last ∙ sym second.2

  -- where all have ended, further rounds have no entries
  turns_none : (ws : List ℕ) (past es : List Entry) → AreTurns (IsWholeRun s) past ws es → ((who : ℕ) → who < callers_of s.config → IsWholeRun s who (own who past)) → Ran (past ++ es)
      → es ≡ []
  turns_none [] past es turns whole ran = turns
  turns_none (w ∷ ws) past es turns whole ran =
      let here : Ran ((past ++ turns.0) ++ turns.1) = subst Ran (ap (λ l. past ++ l) turns.2 ∙ sym (append_assoc past turns.0 turns.1)) ran in
      let none : turns.0 ≡ [] = ⊎_elim
      (λ (ended : IsWholeRun s w (own w past) × (turns.0 ≡ [])). ended.1)
      (λ (made : (IsWholeRun s w (own w past) → ⊥) × ((e : Entry) × (e.who ≡ w) × (turns.0 ≡ e ∷ []))).
      let before : Ran (past ++ made.1.0 ∷ []) = subst (λ l. Ran (past ++ l)) made.1.2 (ran_first (past ++ turns.0) turns.1 here) in
      let below : made.1.0.who < callers_of s.config = (history_entry s.config frames past [] made.1.0 before.legal).0.caller in
      absurd (made.0 (whole w (subst (λ (k : ℕ). k < callers_of s.config) made.1.1 below)))) turns.3 in
      let same : past ++ turns.0 ≡ past = ap (λ l. past ++ l) none ∙ append-nil past in
      let rest : turns.1 ≡ [] =
      turns_none ws past turns.1 (subst (λ l. AreTurns (IsWholeRun s) l ws turns.1) same turns.4) whole (subst (λ l. Ran (l ++ turns.1)) same here) in
      turns.2 ∙ ap (λ l. l ++ turns.1) none ∙ rest

  rounds_more : (order count more : ℕ) (h k : List Entry) → AreRounds (IsWholeRun s) (callers_of s.config) order count h → AreRounds (IsWholeRun s) (callers_of s.config) order (more + count) k
      → ((who : ℕ) → who < callers_of s.config → IsWholeRun s who (own who h)) → Ran h → Ran k → k ≡ h
  rounds_more order count zero h k first second whole one two =
      let e : 0 + count ≡ count = omega arith in
      sym (rounds_same order count h k first (subst (λ (n : ℕ). AreRounds (IsWholeRun s) (callers_of s.config) order n k) e second) one two)
  rounds_more order count (suc more) h k first second whole one two =
      let e : suc more + count ≡ suc (more + count) = omega arith in
      let last = subst (λ (n : ℕ). AreRounds (IsWholeRun s) (callers_of s.config) order n k) e second in
      let both : Ran (last.0 ++ last.1) = subst Ran last.2 two in
      let past : last.0 ≡ h = rounds_more order count more h last.0 first last.3 whole one (ran_first last.0 last.1 both) in
      let ws = rotated (callers_of s.config) (start_of (callers_of s.config) (number_at order (more + count))) in
      let none : last.1 ≡ [] = turns_none ws h last.1 (subst (λ l. AreTurns (IsWholeRun s) l ws last.1) past last.4) whole (subst (λ l. Ran (l ++ last.1)) past both) in
      last.2 ∙ ap (λ l. l ++ last.1) past ∙ ap (λ l. h ++ l) none ∙ append-nil h

ran_by : (s : Setting) (frames : List Frame) (order count : ℕ) (h : List Entry) → IsRoundHistory s frames order count h → Ran s frames h
ran_by s frames order count h is = record { legal = is.legal; runs = is.runs }

pub one_history : OneHistory
one_history s frames order count h k first second =
    rounds_same s frames order count h k first.rounds second.rounds (ran_by s frames order count h first) (ran_by s frames order count k second)

-- a run that has ended has the history of each that has as many rounds or more
goes_no_further : (s : Setting) (frames : List Frame) (order more : ℕ) (run : Shown) (k : List Entry) → (over : HasEnded s frames order run) → over.count ≤ more
    → IsRoundHistory s frames order more k → k ≡ over.history
goes_no_further s frames order more run k over few is =
    let e : more ≡ (more - over.count) + over.count = omega arith in
    rounds_more s frames order over.count (more - over.count) over.history k over.is.rounds
    (subst (λ (n : ℕ). AreRounds (IsWholeRun s) (callers_of s.config) order n k) e is.rounds) over.whole
    (ran_by s frames order over.count over.history over.is) (ran_by s frames order more k is)

-- there is one history of a run that has ended
pub one_run : (s : Setting) (frames : List Frame) (order : ℕ) (run other : Shown) → (first : HasEnded s frames order run) → (second : HasEnded s frames order other)
    → first.history ≡ second.history
one_run s frames order run other first second = ⊎_elim
    (λ (less : first.count < second.count). sym (goes_no_further s frames order second.count run second.history first (omega arith) second.is))
    (λ (more : second.count ≤ first.count). goes_no_further s frames order first.count other first.history second more first.is)
    (cases_lt first.count second.count)

pub one_log : OneLog
one_log s frames order run other first second =
    first.log ∙ ap (stored s.config.geometry s.config.sg) (one_run s frames order run other first second) ∙ sym second.log

pub one_figures : OneFigures
one_figures s frames order run other first second = first.figures ∙ ap (figures_of s) (one_run s frames order run other first second) ∙ sym second.figures

pub one_sent : OneSent
one_sent s frames order run other pair first second below =
    first.sent pair below ∙ ap (λ h. sent_of s h pair) (one_run s frames order run other first second) ∙ sym (second.sent pair below)

pub ends_or_stalls : EndsOrStalls
ends_or_stalls s frames order round run over stalled =
    let go : over.count ≤ round + 1 → ⊥ = λ few.
    let e : stalled.past.history ≡ over.history = goes_no_further s frames order (round + 1) run stalled.past.history over few stalled.past.is in
    stalled.past.open_run (subst (λ l. IsWholeRun s stalled.past.who (own stalled.past.who l)) (sym e) (over.whole stalled.past.who stalled.past.known)) in
    ⊎_elim
    (λ (before : round < over.count). over.never_still round before (record { past = stalled.past; still = stalled.still }))
    (λ (after : over.count ≤ round). go (omega (arith, after)))
    (cases_lt round over.count)

-- a run that has stalled at a round doesn't do so at a later one
stalls_first : (s : Setting) (frames : List Frame) (order round later : ℕ) → HasStalled s frames order round → HasStalled s frames order later → round < later → ⊥
stalls_first s frames order round later first second below = second.first round below (record { past = first.past; still = first.still })

pub one_stall : OneStall
one_stall s frames order round other first second = ⊎_elim
    (λ (low : round < other). absurd (stalls_first s frames order round other first second low))
    (λ (high : other ≤ round). ⊎_elim
    (λ (less : other < round). absurd (stalls_first s frames order other round second first less))
    (λ (not : round ≤ other). omega (arith, high, not))
    (cases_lt other round))
    (cases_lt round other)
