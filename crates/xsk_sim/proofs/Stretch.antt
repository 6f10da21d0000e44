-- A run that stands still has rounds in which nothing changes and each worker that hasn't ended makes a call in each of them: where
-- there is ample room all have ended then.
use Rattle.std.proofs.Common.{◌≡◌, ◌⊎◌, inl, inr, ℕ, zero, suc, ◌+◌, ◌<◌, Bool, true, false, cond, eqb, List, [], ◌∷◌, ◌++◌, length, refl, sym, subst, ap, ◌∙◌, ⊎_elim, arith, append_assoc, append-nil, length-append}
use Rattle.std.proofs.lemmas.List.Elements.{All-nil, All-cons}
use Rattle.xsk_umem.specs.Frame.{Frame}
use Rattle.xsk_model.specs.Config.{callers_of, classes_of}
use Rattle.xsk_model.specs.Entry.{Entry, told, own}
use Rattle.xsk_model.specs.History.{IsHistory, state_after}
use Rattle.xsk_model.specs.Object.{State, reply_at}
use Rattle.xsk_model.proofs.Folds.{own-append}
use Rattle.xsk_model.proofs.Histories.{history_first}
use Rattle.xsk_model.proofs.Replies.{history_entry}
use Rattle.xsk_turns.specs.Turns.{seat_of, start, turn}
use Rattle.xsk_turns.specs.Workers.{Setting, input_of, IsWorkerRun, IsWholeRun}
use Rattle.xsk_turns.proofs.AppHomes.{own_first}
use Rattle.xsk_laws.specs.Woken.{AreWorkerRuns}
use Rattle.xsk_still.specs.Still.{IsStill, AreStill}
use Rattle.xsk_still.specs.Own.{HasSettled}
use Rattle.xsk_still.specs.Laws.{IsStretch}
use Rattle.xsk_still.proofs.Ended.{no_stretch}
use Rattle.xsk_sim.specs.Bounds.{NoneStandsStill}
use Rattle.xsk_sim.specs.Order.{number_at, start_of, rotated}
use Rattle.xsk_sim.specs.Stalls.{settled_of, settled_by, AreQuiet, StandStill}
use Rattle.xsk_sim.proofs.InRounds.{went, apart_rotated, among_rotated}
use Rattle.xsk_sim.proofs.Stalling.{settled_at, changes_none, quiet_both}

module _ (s : Setting) (frames : List Frame) where
  -- ---- the last rounds

  -- the entries of so many last rounds: they change nothing, and each worker that hasn't ended after them makes as many calls
  record HasLast (count : ℕ) (h : List Entry) : Type 0 where
    pub past : List Entry
    pub es : List Entry
    pub is : h ≡ past ++ es
    pub quiet : AreQuiet s frames past es
    pub each : (who : ℕ) → who < callers_of s.config → IsWholeRun s who (own who h) ⊎ (length (own who es) ≡ count)

  last_rounds : (order still count : ℕ) (h : List Entry) → StandStill s frames order still count h → HasLast still h
  last_rounds order zero count h stands = record { past = h; es = []; is = sym (append-nil h); quiet = tt; each = λ who known. inr refl }
  last_rounds order (suc still) zero h stands = absurd stands
  last_rounds order (suc still) (suc round) h stands =
      let front = stands.0 in
      let es = stands.1 in
      let before = last_rounds order still round front stands.3 in
      let both : front ++ es ≡ before.past ++ (before.es ++ es) = ap (λ l. l ++ es) before.is ∙ append_assoc before.past before.es es in
      record {
        past = before.past;
        es = before.es ++ es;
        is = stands.2 ∙ both;
        quiet = (quiet_both s frames before.past before.es es).1 (before.quiet, subst (λ l. AreQuiet s frames l es) before.is stands.5);
        each = λ who known.
            let start = start_of (callers_of s.config) (number_at order round) in
            let going = went (IsWholeRun s) who (rotated (callers_of s.config) start) front es stands.4 (apart_rotated (callers_of s.config) start) (among_rotated who (callers_of s.config) start known) in
            let same : own who h ≡ own who (front ++ es) = ap (own who) stands.2 in
            ⊎_elim
            (λ (none : IsWholeRun s who (own who front) × (own who (front ++ es) ≡ own who front)). inl (subst (IsWholeRun s who) (sym (same ∙ none.1)) none.0))
            (λ (made : (IsWholeRun s who (own who front) → ⊥) × (length (own who (front ++ es)) ≡ suc (length (own who front)))). ⊎_elim
            (λ (whole : IsWholeRun s who (own who front)). absurd (made.0 whole))
            (λ (many : length (own who before.es) ≡ still).
            let one = made.1 in
            let parts = ap length (own-append who front es) ∙ length-append (own who front) (own who es) in
            let more = ap length (own-append who before.es es) ∙ length-append (own who before.es) (own who es) in
            inr (omega (arith, one, parts, more, many)))
            (before.each who known))
            going;
      }

  -- ---- what they change

  own_still : (x : State) (who : ℕ) (e : Entry) (es : List Entry) → IsStill s.config x (told e) → AreStill s.config x (own who es) → AreStill s.config x (own who (e ∷ es))
  own_still x who e es first later = by (eqb e.who who)
    where
      by : (b : Bool) → AreStill s.config x (cond b (told e ∷ own who es) (own who es))
      by true = All-cons (IsStill s.config x) (told e) (own who es) first later
      by false = later

  still_all : (x : State) (past es : List Entry) → IsHistory s.config frames (past ++ es) → AreQuiet s frames past es → state_after s.config frames past ≡ x
      → ((who : ℕ) → AreStill s.config x (own who es)) × (state_after s.config frames (past ++ es) ≡ x)
  still_all x past [] history quiet is = ((λ who. All-nil (IsStill s.config x)), ap (state_after s.config frames) (append-nil past) ∙ is)
  still_all x past (e ∷ es) history quiet is =
      let cut : past ++ e ∷ es ≡ (past ++ e ∷ []) ++ es = sym (append_assoc past (e ∷ []) es) in
      let all = subst (IsHistory s.config frames) cut history in
      let later = still_all x (past ++ e ∷ []) es all quiet.1 (quiet.0.object ∙ is) in
      let entry = history_entry s.config frames past es e history in
      let first : IsStill s.config x (told e) = record {
        reply = entry.1 ∙ ap (λ y. reply_at s.config y e.call) is;
        quiet = changes_none s frames past e e.who (history_first s.config frames (past ++ e ∷ []) es all) refl quiet.0;
      } in
      ((λ who. own_still x who e es first (later.0 who)), ap (state_after s.config frames) cut ∙ later.1)

  settled_stays : (past es : List Entry) (pair : ℕ) → pair < length s.config.pairs → AreQuiet s frames past es → settled_by s (past ++ es) pair ≡ settled_by s past pair
  settled_stays past [] pair below quiet = ap (λ l. settled_by s l pair) (append-nil past)
  settled_stays past (e ∷ es) pair below quiet =
      ap (λ l. settled_by s l pair) (sym (append_assoc past (e ∷ []) es)) ∙ settled_stays (past ++ e ∷ []) es pair below quiet.1 ∙ quiet.0.settled pair below

  settled_there : (past es : List Entry) (pair : ℕ) → pair < length s.config.pairs → AreQuiet s frames past es
      → HasSettled s.wire s.config pair (input_of s pair) (settled_by s past pair) (own pair past) (own pair es)
  settled_there past es pair below quiet front t later kept rest cut asks =
      let seat = seat_of s.wire s.config pair in
      let first = own_first pair es (front ++ t ∷ []) later (append_assoc front (t ∷ []) later ∙ sym cut) in
      let some = ((quiet_both s frames past first.front first.later).0 (subst (AreQuiet s frames past) (sym first.whole) quiet)).0 in
      let mine : own pair (past ++ first.front) ≡ (own pair past ++ front) ++ t ∷ [] =
      own-append pair past first.front ∙ ap (λ l. own pair past ++ l) first.mine ∙ sym (append_assoc (own pair past) front (t ∷ [])) in
      sym (settled_at (turn seat) (turn seat (start (classes_of s.config) (input_of s pair))) (own pair past ++ front) 0 kept t.call rest t asks)
      ∙ ap (settled_of s pair) (sym mine) ∙ settled_stays past first.front pair below some

-- ---- the law

pub none_stands_still : NoneStandsStill
none_stands_still s frames order round steady ample unchanged stands =
    let past = stands.past in
    let last = last_rounds s frames order 64 (round + 1) past.history stands.still in
    let is = last.is in
    let history = subst (IsHistory s.config frames) is past.is.legal in
    let still = still_all s frames (state_after s.config frames last.past) last.past last.es history last.quiet refl in
    let are : AreWorkerRuns s frames (last.past ++ last.es) = record {
      steady = steady;
      history = history;
      runs = subst (λ l. (who : ℕ) → who < callers_of s.config → IsWorkerRun s who (own who l)) is past.is.runs;
    } in
    let stretch : IsStretch s frames last.past last.es = record {
      unchanged = unchanged;
      same = still.1;
      still = λ who known. still.0 who;
      long = λ who known. ⊎_elim
          (λ (whole : IsWholeRun s who (own who past.history)). inl (subst (λ l. IsWholeRun s who (own who l)) is whole))
          (λ (many : length (own who last.es) ≡ 64). inr (omega (arith, many)))
          (last.each who known);
      settled = λ d below. (settled_by s last.past d, settled_there s frames last.past last.es d below last.quiet);
    } in
    past.open_run (subst (λ l. IsWholeRun s past.who (own past.who l)) (sym is) (no_stretch s frames last.past last.es are ample stretch past.who past.known))
