-- The journal that a run writes is found legal, also behind its report.
use Rattle.std.proofs.Common.{◌≡◌, ℕ, zero, suc, ◌+◌, ◌^◌, ◌<◌, ◌≤◌, List, [], ◌∷◌, ◌++◌, length, refl, sym, ap, ◌∙◌, subst, arith}
use Rattle.std.specs.Prelude.{flat_map, replicate}
use Rattle.std.proofs.lemmas.List.{length-map}
use Rattle.xsk_umem.specs.Frame.{Frame}
use Rattle.xsk_model.specs.Config.{callers_of}
use Rattle.xsk_model.specs.Entry.{Told, Entry}
use Rattle.xsk_model.specs.History.{IsHistory}
use Rattle.xsk_model.specs.Stored.{stored_entry}
use Rattle.xsk_turns.specs.Workers.{Setting, IsWholeRun}
use Rattle.xsk_machine.specs.HistoryFigures.{figures_of}
use Rattle.xsk_sim.specs.Journal.{round_of, rounds_from, rounds_of, journal_from, journal_of}
use Rattle.xsk_sim.specs.Rounds.{AreInRounds}
use Rattle.xsk_sim.specs.Runs.{HasEnded}
use Rattle.xsk_sim.specs.Shown.{Shown}
use Rattle.xsk_sim.proofs.InRounds.{entries_stand_in_rounds}
use Rattle.xsk_sim.proofs.Journaling.{journal_stored}
use Rattle.xsk_audit.specs.Telling.{Timed, entries, journal_line, NeverFalls, IsVerdict}
use Rattle.xsk_audit.specs.declared.auditing.Verdicts.TheVariants.{Legal}
use Rattle.xsk_audit.proofs.Written.{written-legal, behind-legal}
use Rattle.xsk_socket.specs.Regular.{regular_of}
use Rattle.xsk_cli.specs.Judged.{bytes_of}
use Rattle.xsk_cli.specs.Outcome.{frames_of, report_of, setting_of}
use Rattle.xsk_cli.specs.Journals.{ReportsAreLegal, RunsAreLegal}
use Rattle.xsk_cli.proofs.Reports.{report-passed}

-- ---- rounds that never fall

-- each is no less than the one before it, and below a bound
abbrev Rises : ℕ → ℕ → List ℕ → Type 0
Rises least most [] = Unit {0}
Rises least most (r ∷ rs) = (least ≤ r) × (r < most) × Rises r most rs

rises_flat : (least k n : ℕ) → least ≤ k → Rises least (k + 1) (replicate n k)
rises_flat least k zero below = tt
rises_flat least k (suc n) below = (below, omega arith, rises_flat k k n (omega arith))

rises_more : (least k n : ℕ) (rs : List ℕ) → least ≤ k → Rises least k rs → Rises least (k + 1) (rs ++ replicate n k)
rises_more least k n [] below rises = rises_flat least k n below
rises_more least k n (r ∷ rs) below rises = (rises.0, omega (arith, rises.1), rises_more r k n rs (omega (arith, rises.1)) rises.2)

rounds_rise : (Whole : ℕ → List Told → Type 0) (callers order count : ℕ) (h : List Entry) (rounds : List ℕ) → AreInRounds Whole callers order count h rounds → Rises 0 count rounds
rounds_rise Whole callers order zero h rounds are = subst (Rises 0 0) (sym are.1) tt
rounds_rise Whole callers order (suc round) h rounds are =
    let next : round + 1 ≡ suc round = omega arith in
    subst (λ n. Rises 0 n rounds) next
    (subst (Rises 0 (round + 1)) (sym are.4) (rises_more 0 round (length are.1) are.2 (omega arith) (rounds_rise Whole callers order round are.0 are.2 are.5)))

-- ---- entries with their rounds

abbrev timed_from : List Entry → List Entry → List Timed
timed_from past [] = []
timed_from past (e ∷ es) = record { round = round_of past e; entry = e } ∷ timed_from (past ++ e ∷ []) es

same_entries : (past es : List Entry) → entries (timed_from past es) ≡ es
same_entries past [] = refl
same_entries past (e ∷ es) = ap (λ l. e ∷ l) (same_entries (past ++ e ∷ []) es)

same_text : (pairs : ℕ) (past es : List Entry) → flat_map (journal_line pairs) (timed_from past es) ≡ journal_from pairs past es
same_text pairs past [] = refl
same_text pairs past (e ∷ es) = ap (λ t. journal_line pairs (record { round = round_of past e; entry = e }) ++ t) (same_text pairs (past ++ e ∷ []) es)

falls_from : (least most : ℕ) (past es : List Entry) → most ≤ 2 ^ 64 → Rises least most (rounds_from past es) → NeverFalls least (timed_from past es)
falls_from least most past [] few rises = tt
falls_from least most past (e ∷ es) few rises = (rises.0, omega (arith, few, rises.1), falls_from (round_of past e) most (past ++ e ∷ []) es few rises.2)

-- ---- runs

module _ (s : Setting) (frames : List Frame) (order : ℕ) (run : Shown) (ended : HasEnded s frames order run) where
  abbrev timed : List Timed
  timed = timed_from [] ended.history

  never_falls : NeverFalls 0 timed
  never_falls = falls_from 0 ended.count [] ended.history (omega (arith, ended.few))
      (rounds_rise (IsWholeRun s) (callers_of s.config) order ended.count ended.history (rounds_of ended.history) (entries_stand_in_rounds s frames order ended.count ended.history ended.is))

  length_timed : length timed ≡ length ended.history
  length_timed = sym (length-map timed (λ (t : Timed). t.entry)) ∙ ap length (same_entries [] ended.history)

  pub history_legal : IsVerdict s.config (journal_of (length s.config.pairs) ended.history) (Legal (length ended.history))
  history_legal =
      subst (λ n. IsVerdict s.config (journal_of (length s.config.pairs) ended.history) (Legal n)) length_timed
      (subst (λ t. IsVerdict s.config t (Legal (length timed))) (same_text (length s.config.pairs) [] ended.history)
      (written-legal s.config frames timed (subst (IsHistory s.config frames) (sym (same_entries [] ended.history)) ended.is.legal) never_falls))

pub runs_are_legal : RunsAreLegal
runs_are_legal s frames order run ended =
    let c = s.config in
    let pairs = length c.pairs in
    let text : journal_of pairs ended.history ≡ journal_of pairs run.log = sym (ap (journal_of pairs) ended.log ∙ journal_stored c.geometry c.sg pairs ended.history) in
    let count : length ended.history ≡ length run.log = sym (ap length ended.log ∙ length-map ended.history (stored_entry c.geometry c.sg)) in
    subst (λ n. IsVerdict c (journal_of pairs run.log) (Legal n)) count (subst (λ t. IsVerdict c t (Legal (length ended.history))) text (history_legal s frames order run ended))

-- one input that isn't too long
reports_within : (text : List ℕ) (port : ℕ) → port < length (text ∷ []) → length text ≤ 67108864 → length (bytes_of (text ∷ []) port) ≤ 67108864
reports_within text zero below short = short
reports_within text (suc port) below short = absurd (omega (arith, below))

pub reports_are_legal : ReportsAreLegal
reports_are_legal format layout programs wire manner order lists texts why are short =
    let s = setting_of layout programs wire manner lists in
    let c = regular_of layout in
    let n = length are.ended.history in
    let journal = journal_of (length c.pairs) are.ended.history in
    let report = report_of layout programs wire manner lists are.ended.history in
    let alone : IsVerdict c journal (Legal n) = history_legal s (frames_of layout) order are.run are.ended in
    let behind : IsVerdict c (report ++ journal) (Legal n) = behind-legal c report journal n (report-passed c (figures_of s are.ended.history)) alone in (
      λ port below. reports_within texts.report port below short,
      (n, subst (λ t. IsVerdict c t (Legal n)) (sym are.are.report) behind, refl),
    )
