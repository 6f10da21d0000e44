-- Rounds that never fall, one after another.
use Rattle.std.proofs.Common.{◌≡◌, ℕ, ◌^◌, ◌<◌, ◌≤◌, List, [], ◌∷◌, ◌++◌, map, refl, sym, ap, ◌∙◌, append_assoc}
use Rattle.std.proofs.lemmas.List.{map-append}
use Rattle.xsk_model.specs.Entry.{Entry}
use Rattle.xsk_audit.specs.Telling.{Timed, entries, journal_line, NeverFalls, last_of}

pub one-later : (least : ℕ) (timed : List Timed) (t : Timed) → NeverFalls least timed → last_of least timed ≤ t.round → t.round < 2 ^ 64 → NeverFalls least (timed ++ t ∷ [])
unfolding last_of
one-later least [] t falls later fits = (later, fits, tt)
one-later least (u ∷ timed) t falls later fits = (falls.0, falls.1, one-later u.round timed t falls.2 later fits)

pub last-later : (least : ℕ) (timed : List Timed) (t : Timed) → last_of least (timed ++ t ∷ []) ≡ t.round
unfolding last_of
last-later least [] t = refl
last-later least (u ∷ timed) t = last-later u.round timed t

-- one more line is the same
pub log-later : (log : List Entry) (timed : List Timed) (left later : List Entry) (t : Timed) → log ≡ entries timed ++ left → left ≡ t.entry ∷ later
    → log ≡ entries (timed ++ t ∷ []) ++ later
log-later log timed left later t is next =
    is ∙ ap (λ (es : List Entry). entries timed ++ es) next ∙ sym (append_assoc (entries timed) (t.entry ∷ []) later)
    ∙ ap (λ (es : List Entry). es ++ later) (sym (map-append (λ (t : Timed). t.entry) timed (t ∷ [])))

pub lines-later : (pairs : ℕ) (lines : List (List ℕ)) (timed : List Timed) (left later : List (List ℕ)) (t : Timed) → lines ≡ map (journal_line pairs) timed ++ left
    → left ≡ journal_line pairs t ∷ later → lines ≡ map (journal_line pairs) (timed ++ t ∷ []) ++ later
lines-later pairs lines timed left later t is next =
    is ∙ ap (λ (ls : List (List ℕ)). map (journal_line pairs) timed ++ ls) next ∙ sym (append_assoc (map (journal_line pairs) timed) (journal_line pairs t ∷ []) later)
    ∙ ap (λ (ls : List (List ℕ)). ls ++ later) (sym (map-append (journal_line pairs) timed (t ∷ [])))
