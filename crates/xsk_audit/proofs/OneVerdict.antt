-- A text has one verdict.
use Rattle.std.proofs.Common.{◌≡◌, ℕ, zero, suc, ◌+◌, ◌<◌, ◌≤◌, List, [], ◌∷◌, ◌++◌, length, take, drop, refl, sym, ap, subst, ◌∙◌, arith, inl, inr}
use Rattle.std.proofs.lemmas.Bool.{cases_lt}
use Rattle.std.proofs.lemmas.List.{map-append, take-map, take-append-drop}
use Rattle.xsk_model.specs.Config.{Config}
use Rattle.xsk_model.specs.History.{IsHistory}
use Rattle.xsk_model.proofs.Histories.{history_first}
use Rattle.xsk_audit.specs.Lines.{lines_of, journal_of, report_of}
use Rattle.xsk_audit.specs.Telling.{Timed, entries, journal_line, NeverFalls, AreLegal, EndsAt, OneVerdict}
use Rattle.xsk_audit.specs.declared.auditing.Verdicts.TheVariants.{Legal, NotLegal}

falls-first : (least n : ℕ) (timed : List Timed) → NeverFalls least timed → NeverFalls least (take n timed)
falls-first least zero timed falls = tt
falls-first least (suc n) [] falls = tt
falls-first least (suc n) (t ∷ timed) falls = (falls.0, falls.1, falls-first t.round n timed falls.2)

-- the first lines of a legal history's are those of one
legal-first : (c : Config) (journal : List (List ℕ)) (n : ℕ) → AreLegal c journal → AreLegal c (take n journal)
legal-first c journal n legal =
    let t = legal.1 in
    let parts : entries t.timed ≡ entries (take n t.timed) ++ entries (drop n t.timed) =
    ap entries (sym (take-append-drop n t.timed)) ∙ map-append (λ (x : Timed). x.entry) (take n t.timed) (drop n t.timed) in (
      legal.0,
      record {
        timed = take n t.timed;
        legal = history_first c legal.0 (entries (take n t.timed)) (entries (drop n t.timed)) (subst (IsHistory c legal.0) parts t.legal);
        rounds = falls-first 0 n t.timed t.rounds;
        told = ap (take n) t.told ∙ take-map (journal_line (length c.pairs)) n t.timed;
      },
    )

take-fewer : (m k : ℕ) (xs : List (List ℕ)) → m ≤ k → take m (take k xs) ≡ take m xs
take-fewer zero k xs few = refl
take-fewer (suc m) zero xs few = absurd (omega (arith, few))
take-fewer (suc m) (suc k) [] few = refl
take-fewer (suc m) (suc k) (x ∷ xs) few = ap (λ (l : List (List ℕ)). x ∷ l) (take-fewer m k xs (omega (arith, few)))

-- no lines end before those that are legal
not-before : (c : Config) (journal : List (List ℕ)) (n k : ℕ) → EndsAt c journal n → AreLegal c (take k journal) → n < k → ⊥
not-before c journal n k ends legal before =
    ends.next (subst (AreLegal c) (take-fewer (n + 1) k journal (omega (arith, before))) (legal-first c (take k journal) (n + 1) legal))

pub one-verdict : OneVerdict
one-verdict c text (Legal a) (Legal b) v w = ap Legal (v.1 ∙ sym w.1)
one-verdict c text (Legal a) (NotLegal m) v w = absurd (w.2.next (legal-first c (journal_of (lines_of text)) (w.0 + 1) v.0))
one-verdict c text (NotLegal l) (Legal b) v w = absurd (v.2.next (legal-first c (journal_of (lines_of text)) (v.0 + 1) w.0))
one-verdict c text (NotLegal l) (NotLegal m) v w = elim (cases_lt v.0 w.0) [
  | inl before ↦ absurd (not-before c (journal_of (lines_of text)) v.0 w.0 v.2 w.2.legal before)
  | inr later ↦ elim (cases_lt w.0 v.0) [
    | inl before ↦ absurd (not-before c (journal_of (lines_of text)) w.0 v.0 w.2 v.2.legal before)
    | inr earlier ↦
        let same : v.0 ≡ w.0 = omega (arith, later, earlier) in
        ap NotLegal (v.1 ∙ ap (λ (n : ℕ). length (report_of (lines_of text)) + n + 1) same ∙ sym w.1)
  ]
]
