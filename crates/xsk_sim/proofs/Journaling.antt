-- The journal, line by line, and how many calls each caller made.
use Rattle.std.proofs.Common.{◌≡◌, ◌==◌, ℕ, zero, suc, ◌+◌, ◌<◌, ◌≤◌, List, [], ◌∷◌, ◌++◌, length, map, get_or, set, Some, None, true, false, Bool, cond, refl, sym, subst, ap, ◌∙◌, arith, append_assoc, append-nil, ⊎_elim}
use Rattle.std.specs.Prelude.{codes}
use Rattle.std.specs.Fmt.{decimal}
use Rattle.std.proofs.lemmas.Bool.{cases_eq}
use Rattle.std.proofs.lemmas.List.{get_or-set_same, get_or-set_other, length-append, nil_from_length, map-append}
use Rattle.xsk_umem.specs.Geometry.{Geometry}
use Rattle.xsk_model.specs.Entry.{Told, Entry, told, own}
use Rattle.xsk_model.specs.Stored.{stored, stored_entry}
use Rattle.xsk_model.proofs.Folds.{own-push_same, own-push_other}
use Rattle.xsk_log.specs.Line.{line_of, TakesLine}
use Rattle.xsk_sim.specs.Counts.{AreCounts}
use Rattle.xsk_sim.specs.Journal.{round_of, journal_line, journal_from, journal_of}
use Rattle.xsk_log.proofs.StoredLines.{line_stored}

-- one more line
pub journal_push : (pairs : ℕ) (past es : List Entry) (e : Entry) → journal_from pairs past (es ++ e ∷ []) ≡ journal_from pairs past es ++ journal_line pairs (past ++ es) e
journal_push pairs past [] e = append-nil (journal_line pairs past e) ∙ ap (λ l. journal_line pairs l e) (sym (append-nil past))
journal_push pairs past (x ∷ es) e =
    ap (λ t. journal_line pairs past x ++ t) (journal_push pairs (past ++ x ∷ []) es e ∙ ap (λ l. journal_from pairs (past ++ x ∷ []) es ++ journal_line pairs l e) (append_assoc past (x ∷ []) es))
    ∙ sym (append_assoc (journal_line pairs past x) (journal_from pairs (past ++ x ∷ []) es) (journal_line pairs (past ++ x ∷ es) e))

-- ---- a walk over the entries

-- the first entry that was left, with its line
pub taken : (pairs who : ℕ) (left later : List Entry) (before line : List ℕ) → TakesLine pairs left later before line (Some who)
    → (e : Entry) × (left ≡ e ∷ later) × (e.who ≡ who) × (line ≡ line_of pairs e)
taken pairs who [] later before line takes = let no : Some who ≡ None = takes.0 in absurd (cc)
taken pairs who (e ∷ es) later before line takes =
    let told : Some who ≡ Some e.who = takes.0 in
    let mine : e.who ≡ who = cc in
    (e, ap (λ l. e ∷ l) (sym takes.1), mine, takes.2)

pub none_taken : (pairs : ℕ) (left later : List Entry) (before line : List ℕ) → TakesLine pairs left later before line None → left ≡ []
none_taken pairs [] later before line takes = refl
none_taken pairs (e ∷ es) later before line takes = let no : None ≡ Some e.who = takes.0 in absurd (cc)

-- all were passed where none is left
pub all_passed : (log past left : List Entry) → log ≡ past ++ left → left ≡ [] → past ≡ log
all_passed log past left is none = sym (is ∙ ap (λ l. past ++ l) none ∙ append-nil past)

pub none_left : (log past left : List Entry) → log ≡ past ++ left → length log ≤ length past → left ≡ []
none_left log past left is end =
    let both : length log ≡ length past + length left = ap length is ∙ length-append past left in
    let zero_left : length left ≡ 0 = omega (arith, both, end) in
    nil_from_length left zero_left

-- ---- counts

pub stands : (xs : List ℕ) (i d : ℕ) → i < length xs → d ≡ get_or xs i d → d ≡ get_or xs i 0
stands [] i d within is = absurd (omega (arith, within))
stands (x ∷ xs) zero d within is = is
stands (x ∷ xs) (suc i) d within is = stands xs i d (omega (arith, within)) is

pub same_counts : (xs ys : List ℕ) (past : List Entry) → ((k : ℕ) → get_or ys k 0 ≡ get_or xs k 0) → AreCounts xs past → AreCounts ys past
same_counts xs ys past same are = λ who. same who ∙ are who

-- the call of a caller is counted
pub counted : (counts : List ℕ) (past : List Entry) (who round : ℕ) (e : Entry) → AreCounts counts past → e.who ≡ who → who < length counts → round ≡ length (own who past)
    → AreCounts (set counts who (round + 1)) (past ++ e ∷ [])
counted counts past who round e are mine within is = λ k. ⊎_elim
    (λ (same : k ≡ who).
    let more : length (own who past) + 1 ≡ length (own who (past ++ e ∷ [])) = sym (ap length (own-push_same who past e mine) ∙ length-append (own who past) (told e ∷ [])) in
    subst (λ (j : ℕ). get_or (set counts who (round + 1)) j 0 ≡ length (own j (past ++ e ∷ []))) (sym same)
    (get_or-set_same counts who (round + 1) 0 within ∙ ap (λ n. n + 1) is ∙ more))
    (λ (other : k ≡ who → ⊥). get_or-set_other counts who k (round + 1) 0 other ∙ are k ∙ ap length (sym (own-push_other k past e (λ is. other (sym is ∙ mine)))))
    (cases_eq k who)

-- a caller made no more calls than all
own_shorter : (b : Bool) (t : Told) (l : List Told) (n : ℕ) → length l ≤ n → length (cond b (t ∷ l) l) ≤ suc n
own_shorter true t l n h = omega (arith, h)
own_shorter false t l n h = omega (arith, h)

pub own_few : (who : ℕ) (h : List Entry) → length (own who h) ≤ length h
own_few who [] = omega arith
own_few who (e ∷ es) = own_shorter (e.who == who) (told e) (own who es) (length es) (own_few who es)

-- ---- histories as they are stored

module _ (g : Geometry) (sg : Bool) where
  one_more : (b : Bool) (t u : Told) (l k : List Told) → length l ≡ length k → length (cond b (t ∷ l) l) ≡ length (cond b (u ∷ k) k)
  one_more true t u l k same = ap suc same
  one_more false t u l k same = same

  own_stored : (who : ℕ) (h : List Entry) → length (own who (map (stored_entry g sg) h)) ≡ length (own who h)
  own_stored who [] = refl
  own_stored who (e ∷ h) =
      one_more (e.who == who) (told (stored_entry g sg e)) (told e) (own who (map (stored_entry g sg) h)) (own who h) (own_stored who h)

  from_stored : (pairs : ℕ) (past es : List Entry) → journal_from pairs (map (stored_entry g sg) past) (map (stored_entry g sg) es) ≡ journal_from pairs past es
  from_stored pairs past [] = refl
  from_stored pairs past (e ∷ es) =
      ap (λ n. (decimal n ++ codes " " ++ line_of pairs (stored_entry g sg e)) ++ journal_from pairs (map (stored_entry g sg) past ++ stored_entry g sg e ∷ []) (map (stored_entry g sg) es)) (own_stored e.who past)
      ∙ ap (λ t. (decimal (round_of past e) ++ codes " " ++ t) ++ journal_from pairs (map (stored_entry g sg) past ++ stored_entry g sg e ∷ []) (map (stored_entry g sg) es)) (line_stored g sg pairs e)
      ∙ ap (λ l. journal_line pairs past e ++ journal_from pairs l (map (stored_entry g sg) es)) (sym (map-append (stored_entry g sg) past (e ∷ [])))
      ∙ ap (λ t. journal_line pairs past e ++ t) (from_stored pairs (past ++ e ∷ []) es)

-- the journal tells nothing of what isn't stored
pub journal_stored : (g : Geometry) (sg : Bool) (pairs : ℕ) (h : List Entry) → journal_of pairs (stored g sg h) ≡ journal_of pairs h
journal_stored g sg pairs h = from_stored g sg pairs [] h
