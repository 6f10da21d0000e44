-- Lines that are those of a log's entries are the journal of the log's history.
use Rattle.std.proofs.Common.{◌≡◌, ℕ, Bool, true, List, [], ◌∷◌, ◌++◌, length, map, refl, sym, ap, subst, ◌∙◌, append-nil}
use Rattle.std.proofs.lemmas.List.{length-map}
use Rattle.std.specs.Prelude.{codes}
use Rattle.std.specs.Fmt.{decimal}
use Rattle.xsk_umem.specs.Frame.{Frame}
use Rattle.xsk_umem.specs.Geometry.{Geometry}
use Rattle.xsk_model.specs.Config.{Config}
use Rattle.xsk_model.specs.Entry.{Entry}
use Rattle.xsk_model.specs.History.{IsHistory}
use Rattle.xsk_model.specs.Stored.{stored, stored_entry}
use Rattle.xsk_model.proofs.Histories.{history_first}
use Rattle.xsk_plain.specs.Engine.{Engine}
use Rattle.xsk_plain.specs.Histories.{IsRun}
use Rattle.xsk_log.specs.Line.{line_of}
use Rattle.xsk_audit.specs.Telling.{Timed, entries, journal_line, NeverFalls, TellHistory, last_of, AreSame}
use Rattle.xsk_log.proofs.StoredLines.{line_stored}

module _ (g : Geometry) (sg : Bool) where
  -- entries of a history in place of those that are stored
  pub record Again (pairs : ℕ) (timed : List Timed) (h later : List Entry) : Type 0 where
    pub again : List Timed
    pub rest : List Entry
    pub split : h ≡ entries again ++ rest
    pub lines : map (journal_line pairs) again ≡ map (journal_line pairs) timed
    pub falls : (least : ℕ) → NeverFalls least timed → NeverFalls least again
    pub rest_is : stored g sg rest ≡ later
    pub lasts : (least : ℕ) → last_of least again ≡ last_of least timed

  pub unstored : (pairs : ℕ) (timed : List Timed) (h later : List Entry) → stored g sg h ≡ entries timed ++ later → Again pairs timed h later
  unfolding last_of
  unstored pairs [] h later is = record { again = []; rest = h; split = refl; lines = refl; falls = λ least falls. falls; rest_is = is; lasts = λ least. refl }
  unstored pairs (t ∷ timed) [] later is = absurd (cc)
  unstored pairs (t ∷ timed) (e ∷ h) later is =
      let one : stored_entry g sg e ≡ t.entry = cc in
      let more : stored g sg h ≡ entries timed ++ later = cc in
      let next = unstored pairs timed h later more in
      let line : journal_line pairs (record { round = t.round; entry = e }) ≡ journal_line pairs t =
      ap (λ (l : List ℕ). decimal t.round ++ codes " " ++ l) (sym (line_stored g sg pairs e) ∙ ap (line_of pairs) one) in
      record {
        again = record { round = t.round; entry = e } ∷ next.again;
        rest = next.rest;
        split = ap (λ (es : List Entry). e ∷ es) next.split;
        lines = ap (λ (l : List ℕ). l ∷ map (journal_line pairs) next.again) line ∙ ap (λ (ls : List (List ℕ)). journal_line pairs t ∷ ls) next.lines;
        falls = λ least falls. (falls.0, falls.1, next.falls t.round falls.2);
        rest_is = next.rest_is;
        lasts = λ least. next.lasts t.round;
      }

pub sound-verdict : (c : Config) (engine : Engine) (pairs n : ℕ) (log : List Entry) (lines journal : List (List ℕ)) (whole : Bool)
    → AreSame pairs log lines n whole → whole ≡ true → IsRun engine → log ≡ engine.log → engine.config ≡ c → pairs ≡ length c.pairs → lines ≡ journal
    → (frames : List Frame) × TellHistory c frames journal × (n ≡ length journal)
sound-verdict c engine pairs n log lines journal whole same is run shown config count passed =
    let none = same.ends is in
    let all : lines ≡ map (journal_line pairs) same.timed =
    same.lines_are ∙ ap (λ (ls : List (List ℕ)). map (journal_line pairs) same.timed ++ ls) none ∙ append-nil (map (journal_line pairs) same.timed) in
    let next = unstored engine.config.geometry engine.config.sg pairs same.timed run.history same.later (sym run.is.log ∙ sym shown ∙ same.log_is) in
    let whole_history : IsHistory c run.frames (entries next.again ++ next.rest) = subst (λ (d : Config). IsHistory d run.frames (entries next.again ++ next.rest)) config (subst (IsHistory engine.config run.frames) next.split run.is.legal) in (
      run.frames,
      record {
        timed = next.again;
        legal = history_first c run.frames (entries next.again) next.rest whole_history;
        rounds = next.falls 0 same.rounds;
        told = sym passed ∙ all ∙ sym next.lines ∙ ap (λ (p : ℕ). map (journal_line p) next.again) count;
      },
      same.count ∙ sym (length-map same.timed (journal_line pairs)) ∙ ap (λ (ls : List (List ℕ)). length ls) (sym all ∙ passed),
    )
