-- Rounds in which nothing changes.
use Rattle.std.proofs.Common.{◌≡◌, ◌↔◌, ℕ, Bool, true, false, IsTrue, ◌<◌, ◌≤◌, ◌&&◌, List, [], ◌∷◌, ◌++◌, length, refl, sym, subst, ap, ◌∙◌, arith, append_assoc, append-nil, inl, inr, ◌⊎◌, ⊎_elim}
use Rattle.std.proofs.lemmas.Bool.{cases_eq}
use Rattle.xsk_umem.specs.Frame.{Frame}
use Rattle.xsk_model.specs.Config.{classes_of}
use Rattle.xsk_model.specs.Entry.{Told, Entry, told, own}
use Rattle.xsk_model.specs.History.{IsHistory}
use Rattle.xsk_model.specs.OtherWords.{changes}
use Rattle.xsk_model.specs.declared.call.Act.{Act}
use Rattle.xsk_model.specs.declared.call.Act.TheVariants.{Call as Calls}
use Rattle.xsk_model.specs.declared.call.Call.{Call}
use Rattle.xsk_model.specs.declared.call.Reply.{Reply}
use Rattle.xsk_model.proofs.Folds.{own-push_same, own-push_other}
use Rattle.xsk_model.proofs.CallTheorems.{leaves_state, changes_state}
use Rattle.xsk_turns.specs.Script.{Script, ask, again, ended, never, begun, Leaves}
use Rattle.xsk_turns.specs.Turns.{Kept, seat_of, start, turn}
use Rattle.xsk_turns.specs.Workers.{Setting, input_of}
use Rattle.xsk_driver.specs.Shown.{Shown as DriverShown}
use Rattle.xsk_driver.specs.Runs.{Stands, StandsWith}
use Rattle.xsk_driver.specs.Stands.{left}
use Rattle.xsk_machine.specs.Acts.{DriverStands}
use Rattle.xsk_machine.specs.Workers.{settled_in, Stands as WorkerStands}
use Rattle.xsk_machine.specs.declared.worker.AnyWorker.{AnyWorker}
use Rattle.xsk_machine.specs.declared.worker.AnyWorker.TheVariants.{Driver, App}
use Rattle.xsk_sim.specs.Rounds.{IsTurn}
use Rattle.xsk_sim.specs.Turning.{Notes}
use Rattle.xsk_sim.specs.Seats.{IsNoted}
use Rattle.xsk_sim.specs.Stalls.{settled_along, settled_of, settled_by, IsQuiet, AreQuiet}

-- ---- how many packets a driver has settled

-- at its next call it has settled those that it keeps
pub settled_at : (turn : Kept → Script Kept) (script : Script Kept) (l : List Told) (n : ℕ) (kept : Kept) (call : Call) (rest : Reply → Script Kept) (t : Told)
    → Leaves turn script l (ask kept call rest) → settled_along turn script (l ++ t ∷ []) n ≡ length kept.disposals
settled_at turn script [] n kept call rest t leaves = subst (λ x. settled_along turn x (t ∷ []) n ≡ length kept.disposals) leaves refl
settled_at turn (ask k c r) (x ∷ l) n kept call rest t leaves = settled_at turn (begun turn (r x.reply)) l (length k.disposals) kept call rest t leaves.1
settled_at turn (again k) (x ∷ l) n kept call rest t leaves = absurd leaves
settled_at turn (ended k) (x ∷ l) n kept call rest t leaves = absurd leaves
settled_at turn never (x ∷ l) n kept call rest t leaves = absurd leaves

pub settled_told : (s : Setting) (h : List Entry) (e : Entry) (who : ℕ) (d : DriverShown) (act : Act) → e.who ≡ who → act ≡ Calls e.call → DriverStands s who d act (own who h)
    → settled_by s (h ++ e ∷ []) who ≡ length d.kept.disposals
settled_told s h e who d act mine is stands =
    let seat = seat_of s.wire s.config who in
    let gave : Stands s.wire s.config who (input_of s who) d e.call (own who h) = subst (λ a. StandsWith s.wire s.config who (input_of s who) d a (own who h)) is stands.stands in
    ap (settled_of s who) (own-push_same who h e mine)
    ∙ settled_at (turn seat) (turn seat (start (classes_of s.config) (input_of s who))) (own who h) 0 d.kept e.call (left seat d.wait d.noted d.kept) (told e) gave.asks

-- ---- what a turn changes

either : (b : Bool) → (b ≡ true) ⊎ (b ≡ false)
either true = inl refl
either false = inr refl

pub both_true : (a b : Bool) → IsTrue (a && b) ↔ (IsTrue a × IsTrue b)
both_true true b = (λ yes. (refl, yes), λ both. both.1)
both_true false b = (λ no. let e : false ≡ true = no in cc, λ both. both.0)

-- an entry of a turn is its caller's, and the only one
pub turn_who : (Whole : ℕ → List Told → Type 0) (h : List Entry) (who : ℕ) (e : Entry) (es : List Entry) → IsTurn Whole h who (e ∷ es) → (e.who ≡ who) × (es ≡ [])
turn_who Whole h who e es (inl past) = let no : e ∷ es ≡ [] = past.1 in cc
turn_who Whole h who e es (inr made) =
    let is : e ∷ es ≡ made.1.0 ∷ [] = made.1.2 in
    let first : e ≡ made.1.0 = cc in
    let rest : es ≡ [] = cc in
    (ap (λ (x : Entry). x.who) first ∙ made.1.1, rest)

module _ (s : Setting) (frames : List Frame) where
  module _ (h : List Entry) (e : Entry) (who : ℕ) (legal : IsHistory s.config frames (h ++ e ∷ [])) (mine : e.who ≡ who) where
    others_settled : (pair : ℕ) → (pair ≡ who → ⊥) → settled_by s (h ++ e ∷ []) pair ≡ settled_by s h pair
    others_settled pair differs = ap (settled_of s pair) (own-push_other pair h e (λ is. differs (sym is ∙ mine)))

    pub changes_none : IsQuiet s frames h e → changes e.call e.reply ≡ false
    changes_none quiet = ⊎_elim
        (λ (yes : changes e.call e.reply ≡ true). absurd (changes_state s.config frames h e legal yes quiet.object))
        (λ (no : changes e.call e.reply ≡ false). no)
        (either (changes e.call e.reply))

    pub driver_quiet : (before now : ℕ) (still : Bool) → who < length s.config.pairs → before ≡ settled_by s h who → settled_by s (h ++ e ∷ []) who ≡ now
        → IsTrue still ↔ ((changes e.call e.reply ≡ false) × (now ≡ before)) → IsTrue still ↔ IsQuiet s frames h e
    driver_quiet before now still known was is told = (
      λ yes. record {
        object = leaves_state s.config frames h e legal (told.0 yes).0;
        settled = λ pair below. ⊎_elim
            (λ (same : pair ≡ who). subst (λ (k : ℕ). settled_by s (h ++ e ∷ []) k ≡ settled_by s h k) (sym same) (is ∙ (told.0 yes).1 ∙ was))
            (λ (differs : pair ≡ who → ⊥). others_settled pair differs)
            (cases_eq pair who);
      },
      λ quiet. told.1 (changes_none quiet, sym is ∙ quiet.settled who known ∙ sym was),
    )

    app_quiet : (before : ℕ) (still : Bool) → length s.config.pairs ≤ who → IsTrue still ↔ ((changes e.call e.reply ≡ false) × (before ≡ before)) → IsTrue still ↔ IsQuiet s frames h e
    app_quiet before still high told = (
      λ yes. record {
        object = leaves_state s.config frames h e legal (told.0 yes).0;
        settled = λ pair below. others_settled pair (λ same. omega (arith, below, high, same));
      },
      λ quiet. told.1 (changes_none quiet, refl),
    )

  -- a driver's turn
  pub driver_notes : (Whole : ℕ → List Told → Type 0) (h : List Entry) (who : ℕ) (es : List Entry) (d : DriverShown) (act : Act) (before noted : ℕ) (still : Bool)
      → IsTurn Whole h who es → IsHistory s.config frames (h ++ es) → who < length s.config.pairs → DriverStands s who d act (own who h) → before ≡ settled_by s h who
      → Notes act before (length d.kept.disposals) noted still es → (IsTrue still ↔ AreQuiet s frames h es) × (noted ≡ settled_by s (h ++ es) who)
  driver_notes Whole h who [] d act before noted still turns legal known stands was notes =
      ((λ yes. tt, λ none. notes.0), notes.1 ∙ was ∙ ap (λ l. settled_by s l who) (sym (append-nil h)))
  driver_notes Whole h who (e ∷ []) d act before noted still turns legal known stands was notes =
      let mine = (turn_who Whole h who e [] turns).0 in
      let is = settled_told s h e who d act mine notes.0 stands in
      let quiet = driver_quiet h e who legal mine before (length d.kept.disposals) still known was is notes.2 in
      ((λ yes. (quiet.0 yes, tt), λ all. quiet.1 all.0), notes.1 ∙ sym is)
  driver_notes Whole h who (e ∷ f ∷ es) d act before noted still turns legal known stands was notes =
      let no : f ∷ es ≡ [] = (turn_who Whole h who e (f ∷ es) turns).1 in cc

  -- an application's, at which no number changes
  pub app_notes : (Whole : ℕ → List Told → Type 0) (h : List Entry) (who : ℕ) (es : List Entry) (act : Act) (before noted : ℕ) (still : Bool)
      → IsTurn Whole h who es → IsHistory s.config frames (h ++ es) → length s.config.pairs ≤ who
      → Notes act before before noted still es → IsTrue still ↔ AreQuiet s frames h es
  app_notes Whole h who [] act before noted still turns legal high notes = (λ yes. tt, λ none. notes.0)
  app_notes Whole h who (e ∷ []) act before noted still turns legal high notes =
      let quiet = app_quiet h e who legal (turn_who Whole h who e [] turns).0 before still high notes.2 in
      (λ yes. (quiet.0 yes, tt), λ all. quiet.1 all.0)
  app_notes Whole h who (e ∷ f ∷ es) act before noted still turns legal high notes =
      let no : f ∷ es ≡ [] = (turn_who Whole h who e (f ∷ es) turns).1 in cc

  noted_none : (act : Act) (before noted : ℕ) (still : Bool) (es : List Entry) → before ≡ 0 → Notes act before 0 noted still es → noted ≡ 0
  noted_none act before noted still [] none notes = notes.1 ∙ none
  noted_none act before noted still (e ∷ es) none notes = notes.1

  -- a worker's
  pub worker_notes : (Whole : ℕ → List Told → Type 0) (h : List Entry) (who : ℕ) (es : List Entry) (m : AnyWorker) (act : Act) (before noted : ℕ) (still : Bool)
      → IsTurn Whole h who es → IsHistory s.config frames (h ++ es) → WorkerStands s who m act (own who h) → IsNoted s h who before
      → Notes act before (settled_in m) noted still es → (IsTrue still ↔ AreQuiet s frames h es) × IsNoted s (h ++ es) who noted
  worker_notes Whole h who es (Driver d) act before noted still turns legal stands was notes =
      let known : who < length s.config.pairs = stands.known in
      let tells = driver_notes Whole h who es d act before noted still turns legal known stands (was.driver known) notes in
      (tells.0, record { driver = λ below. tells.1; app = λ high. absurd (omega (arith, known, high)) })
  worker_notes Whole h who es (App a) act before noted still turns legal stands was notes =
      let high : length s.config.pairs ≤ who = omega (arith, stands.caller) in
      let none : before ≡ 0 = was.app high in (
        app_notes Whole h who es act before noted still turns legal high (subst (λ (n : ℕ). Notes act before n noted still es) (sym none) notes),
        record { driver = λ below. absurd (omega (arith, below, high)); app = λ _. noted_none act before noted still es none notes },
      )

  -- ---- turns after turns

  pub quiet_both : (h es fs : List Entry) → AreQuiet s frames h (es ++ fs) ↔ (AreQuiet s frames h es × AreQuiet s frames (h ++ es) fs)
  quiet_both h [] fs = (
    λ all. (tt, subst (λ p. AreQuiet s frames p fs) (sym (append-nil h)) all),
    λ both. subst (λ p. AreQuiet s frames p fs) (append-nil h) both.1,
  )
  quiet_both h (e ∷ es) fs =
      let more = quiet_both (h ++ e ∷ []) es fs in (
        λ all. let both = more.0 all.1 in ((all.0, both.0), subst (λ p. AreQuiet s frames p fs) (append_assoc h (e ∷ []) es) both.1),
        λ both. (both.0.0, more.1 (both.0.1, subst (λ p. AreQuiet s frames p fs) (sym (append_assoc h (e ∷ []) es)) both.1)),
      )

  pub told_both : (h es fs : List Entry) (a b c : Bool) → IsTrue c ↔ (IsTrue a × IsTrue b) → IsTrue a ↔ AreQuiet s frames h es → IsTrue b ↔ AreQuiet s frames (h ++ es) fs
      → IsTrue c ↔ AreQuiet s frames h (es ++ fs)
  told_both h es fs a b c is first second =
      let both = quiet_both h es fs in (
        λ yes. both.1 (first.0 (is.0 yes).0, second.0 (is.0 yes).1),
        λ all. is.1 (first.1 (both.0 all).0, second.1 (both.0 all).1),
      )
