-- Lines that aren't those of entries.
use Rattle.std.proofs.Common.{◌≡◌, ◌≢◌, ℕ, ◌^◌, ◌<◌, ◌≤◌, Bool, true, false, Some, None, List, [], ◌∷◌, ◌++◌, length, refl, sym, ap, subst, ◌∙◌, arith, inl, inr, append_assoc}
use Rattle.std.specs.Prelude.{◌==◌, nat_eq}
use Rattle.std.specs.Fmt.{decimal}
use Rattle.std.specs.Cmp.Lexicographic.{pointwise}
use Rattle.std.proofs.lemmas.Bool.{cases_Bool, eq-eqb}
use Rattle.xsk_model.specs.Config.{Config, IsConfig}
use Rattle.xsk_model.specs.Entry.{Entry, own}
use Rattle.xsk_model.specs.Legal.{IsLegal}
use Rattle.xsk_model.specs.declared.call.Call.{Call}
use Rattle.xsk_log.specs.Line.{line_of}
use Rattle.xsk_audit.specs.Lines.{in_front, lines_of}
use Rattle.xsk_audit.specs.Reading.{Said, number_at, word_at, line_at, read_call}
use Rattle.xsk_audit.specs.Telling.{journal_line, IsMissed, Tells, AreTold, IsStuck}
use Rattle.xsk_audit.proofs.Numbers.{number-again, some-value}
use Rattle.xsk_audit.proofs.Texts.{word-again}
use Rattle.xsk_audit.proofs.Complete.{reads}

-- ---- rounds

round-reads : (line text : List ℕ) (round : ℕ) → round < 2 ^ 64 → line ≡ decimal round ++ 32 ∷ [] ++ text → number_at line ≡ Some (round, 32 ∷ text)
round-reads line text round fits is = ap number_at (is ∙ append_assoc (decimal round) (32 ∷ []) text) ∙ number-again round (32 ∷ text) fits refl

pub no-number : (line text : List ℕ) → None ≡ number_at line → (round : ℕ) → round < 2 ^ 64 → line ≢ decimal round ++ 32 ∷ [] ++ text
no-number line text none round fits is = let at = none ∙ round-reads line text round fits is in absurd (cc)

pub no-space : (line text rest : List ℕ) (n : ℕ) → Some (n, rest) ≡ number_at line → None ≡ word_at (32 ∷ []) rest → (round : ℕ) → round < 2 ^ 64 → line ≢ decimal round ++ 32 ∷ [] ++ text
no-space line text rest n number none round fits is =
    let at = some-value _ _ (number ∙ round-reads line text round fits is) in
    let e : None ≡ Some text = none ∙ ap (λ (r : ℕ × List ℕ). word_at (32 ∷ []) r.1) at ∙ word-again (32 ∷ []) text in
    absurd (cc)

pointwise-same : (xs : List ℕ) → pointwise nat_eq xs xs ≡ true
pointwise-same [] = refl
pointwise-same (x ∷ xs) = rw (eq-eqb x x refl) (pointwise-same xs)

pub other-text : (line text rest later : List ℕ) (n : ℕ) → Some (n, rest) ≡ number_at line → Some later ≡ word_at (32 ∷ []) rest → pointwise nat_eq later text ≡ false
    → (round : ℕ) → round < 2 ^ 64 → line ≢ decimal round ++ 32 ∷ [] ++ text
other-text line text rest later n number word other round fits is =
    let at = some-value _ _ (number ∙ round-reads line text round fits is) in
    let same : later ≡ text = some-value later text (word ∙ ap (λ (r : ℕ × List ℕ). word_at (32 ∷ []) r.1) at ∙ word-again (32 ∷ []) text) in
    let e = sym (pointwise-same text) ∙ ap (λ (l : List ℕ). pointwise nat_eq l text) (sym same) ∙ other in
    absurd (cc)

-- a line has one round
one-round : (line text other : List ℕ) (n round : ℕ) → n < 2 ^ 64 → round < 2 ^ 64 → line ≡ decimal n ++ 32 ∷ [] ++ text → line ≡ decimal round ++ 32 ∷ [] ++ other → n ≡ round
one-round line text other n round fits small is too =
    ap (λ (r : ℕ × List ℕ). r.0) (some-value _ _ (sym (round-reads line text n fits is) ∙ round-reads line other round small too))

-- ---- the first line of some

pub none-first : (pairs : ℕ) (log : List Entry) (least : ℕ) (lines : List (List ℕ)) → lines ≡ [] → IsMissed pairs log least lines
none-first pairs log least lines none round entry rest later is high fits first = let e = sym none ∙ first in absurd (cc)

pub round-falls : (pairs : ℕ) (log : List Entry) (least n : ℕ) (lines later : List (List ℕ)) (line text : List ℕ) → lines ≡ line ∷ later → n < 2 ^ 64 → line ≡ decimal n ++ 32 ∷ [] ++ text → n < least
    → IsMissed pairs log least lines
round-falls pairs log least n lines later line text first fits is low round entry rest more log_is high small lines_are =
    let both = sym first ∙ lines_are in
    let here : line ≡ journal_line pairs (record { round = round; entry = entry }) = cc both in
    let same = one-round line text (line_of pairs entry) n round fits small is here in
    absurd (omega (arith, same, low, high))

pub some-lines : (xs : List ℕ) (b : Bool) → b ≡ (length xs == 0) → b ≡ false → lines_of xs ≢ []
unfolding lines_of
some-lines [] b is other none = absurd (cc)
some-lines (x ∷ xs) b is other none = elim (cases_Bool (x == 10)) [
  | inl feed ↦ absurd (cc (rw feed at none))
  | inr plain ↦ front (lines_of xs) (rw plain at none)
]
  where
    front : (ls : List (List ℕ)) → in_front x ls ≡ [] → ⊥
    front [] e = absurd (cc)
    front (l ∷ ls) e = absurd (cc)

pub missed-as : (pairs count : ℕ) (log : List Entry) (least last : ℕ) (lines : List (List ℕ)) → pairs ≡ count → least ≡ last → IsMissed pairs log least lines → IsMissed count log last lines
missed-as pairs count log least last lines same low missed = subst (λ (p : ℕ × ℕ). IsMissed p.0 log p.1 lines) (λ i. (same i, low i)) missed

pub not-empty : (xs : List ℕ) (b : Bool) → length xs ≤ 0 → b ≡ (length xs == 0) → b ≡ false → ⊥
not-empty [] b none is other = absurd (cc)
not-empty (x ∷ xs) b none is other = absurd (omega (arith, none))

pub none-short : (xs : List ℕ) → length xs ≤ 0 → lines_of xs ≡ []
unfolding lines_of
none-short [] none = refl
none-short (x ∷ xs) none = absurd (omega (arith, none))

-- ---- lines that are played

pub stuck-unread : (c : Config) (h : List Entry) (line : List ℕ) (pairs : ℕ) → IsConfig c → pairs ≡ length c.pairs → None ≡ line_at pairs line → IsStuck c h line
stuck-unread c h line pairs config count none t fits legal is =
    let e = none ∙ ap (λ (p : ℕ). line_at p line) count ∙ ap (line_at (length c.pairs)) is ∙ reads c (own t.entry.who h) t config fits legal in
    absurd (cc)

pub stuck-illegal : (c : Config) (h : List Entry) (line : List ℕ) (pairs : ℕ) (said : Said) → IsConfig c → pairs ≡ length c.pairs → Some said ≡ line_at pairs line
    → ((other : Call) → read_call other ≡ said.call → IsLegal c (own said.who h) said.who other → ⊥) → IsStuck c h line
stuck-illegal c h line pairs said config count says refused t fits legal is =
    let e = some-value _ _ (says ∙ ap (λ (p : ℕ). line_at p line) count ∙ ap (line_at (length c.pairs)) is ∙ reads c (own t.entry.who h) t config fits legal) in
    let who : t.entry.who ≡ said.who = sym (ap (λ (x : Said). x.who) e) in
    refused t.entry.call (sym (ap (λ (x : Said). x.call) e)) (subst (λ (w : ℕ). IsLegal c (own w h) w t.entry.call) who legal)

pub told-push : (pairs : ℕ) (made : List (List ℕ)) (h : List Entry) (line : List ℕ) (e : Entry) → AreTold pairs made h → Tells pairs line e → AreTold pairs (made ++ line ∷ []) (h ++ e ∷ [])
told-push pairs [] [] line e told tells = (tells, tt)
told-push pairs [] (x ∷ h) line e told tells = absurd told
told-push pairs (l ∷ made) [] line e told tells = absurd told
told-push pairs (l ∷ made) (x ∷ h) line e told tells = (told.0, told-push pairs made h line e told.1 tells)

pub tells-made : (pairs count : ℕ) (line : List ℕ) (said : Said) (e : Entry) → pairs ≡ count → Some said ≡ line_at pairs line → e.who ≡ said.who → read_call e.call ≡ said.call → Tells count line e
tells-made pairs count line said e same says who call =
    (said.round, ap (λ (p : ℕ). line_at p line) (sym same) ∙ sym says ∙ sym (λ i. Some (record { round = said.round; who = who i; call = call i })))
