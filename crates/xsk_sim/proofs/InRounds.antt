-- That an entry stands in the round whose number is that of its caller's entries before it.
use Rattle.std.proofs.Common.{◌≡◌, ℕ, zero, suc, ◌⊎◌, ◌+◌, ◌-◌, ◌/◌, ◌<◌, ◌≤◌, List, [], ◌∷◌, ◌++◌, length, refl, sym, subst, ap, ◌∙◌, arith, append_assoc, append-nil, inl, inr, ⊎_elim}
use Rattle.std.proofs.Math.ListN.{replicate}
use Rattle.std.proofs.Math.Nat.{mod-lt}
use Rattle.std.proofs.lemmas.Bool.{cases_lt}
use Rattle.std.proofs.lemmas.List.{length-append}
use Rattle.std.specs.List.{range_with_len}
use Rattle.xsk_model.specs.Config.{callers_of}
use Rattle.xsk_model.specs.Entry.{Told, Entry, told, own}
use Rattle.xsk_model.proofs.Folds.{own-push_same}
use Rattle.xsk_turns.specs.Workers.{IsWholeRun}
use Rattle.xsk_sim.specs.Order.{number_at, start_of, rotated}
use Rattle.xsk_sim.specs.Rounds.{IsTurn, AreTurns, AreRounds, AreInRounds}
use Rattle.xsk_sim.specs.Journal.{round_of, rounds_from, rounds_of}
use Rattle.xsk_sim.specs.Runs.{EntriesStandInRounds}
use Rattle.xsk_sim.proofs.Turning.{own_turn}

-- ---- numbers of which none comes twice

abbrev pub AwayFrom : ℕ → List ℕ → Type 0
AwayFrom who [] = Unit {0}
AwayFrom who (w ∷ ws) = (w ≡ who → ⊥) × AwayFrom who ws

abbrev pub Among : ℕ → List ℕ → Type 0
Among who [] = ⊥
Among who (w ∷ ws) = (w ≡ who) ⊎ Among who ws

abbrev pub Apart : List ℕ → Type 0
Apart [] = Unit {0}
Apart (w ∷ ws) = AwayFrom w ws × Apart ws

differs : (w who : ℕ) (ws : List ℕ) → AwayFrom w ws → Among who ws → w ≡ who → ⊥
differs w who [] away among is = among
differs w who (v ∷ ws) away (inl here) is = away.0 (here ∙ sym is)
differs w who (v ∷ ws) away (inr more) is = differs w who ws away.1 more is

away_both : (who : ℕ) (ws vs : List ℕ) → AwayFrom who ws → AwayFrom who vs → AwayFrom who (ws ++ vs)
away_both who [] vs first second = second
away_both who (w ∷ ws) vs first second = (first.0, away_both who ws vs first.1 second)

apart_both : (ws vs : List ℕ) → Apart ws → Apart vs → ((who : ℕ) → Among who ws → AwayFrom who vs) → Apart (ws ++ vs)
apart_both [] vs first second others = second
apart_both (w ∷ ws) vs first second others = (away_both w ws vs first.0 (others w (inl refl)), apart_both ws vs first.1 second (λ who among. others who (inr among)))

among_first : (who : ℕ) (ws vs : List ℕ) → Among who ws → Among who (ws ++ vs)
among_first who [] vs among = absurd among
among_first who (w ∷ ws) vs (inl here) = inl here
among_first who (w ∷ ws) vs (inr more) = inr (among_first who ws vs more)

among_last : (who : ℕ) (ws vs : List ℕ) → Among who vs → Among who (ws ++ vs)
among_last who [] vs among = among
among_last who (w ∷ ws) vs among = inr (among_last who ws vs among)

among_either : (who : ℕ) (ws vs : List ℕ) → Among who (ws ++ vs) → Among who ws ⊎ Among who vs
among_either who [] vs among = inr among
among_either who (w ∷ ws) vs (inl here) = inl (inl here)
among_either who (w ∷ ws) vs (inr more) = ⊎_elim
    (λ (first : Among who ws). inl (inr first))
    (λ (last : Among who vs). inr last)
    (among_either who ws vs more)

away_low : (who a n : ℕ) → who < a → AwayFrom who (range_with_len a n)
away_low who a zero low = tt
away_low who a (suc n) low = (λ is. omega (arith, is, low), away_low who (a + 1) n (omega (arith, low)))

away_high : (who a n : ℕ) → a + n ≤ who → AwayFrom who (range_with_len a n)
away_high who a zero high = tt
away_high who a (suc n) high = (λ is. omega (arith, is, high), away_high who (a + 1) n (omega (arith, high)))

apart_range : (a n : ℕ) → Apart (range_with_len a n)
apart_range a zero = tt
apart_range a (suc n) = (away_low a (a + 1) n (omega arith), apart_range (a + 1) n)

among_range : (who a n : ℕ) → a ≤ who → who < a + n → Among who (range_with_len a n)
among_range who a zero low high = absurd (omega (arith, low, high))
among_range who a (suc n) low high = ⊎_elim
    (λ (more : a < who). inr (among_range who (a + 1) n (omega (arith, more)) (omega (arith, high))))
    (λ (not : who ≤ a). inl (omega (arith, low, not)))
    (cases_lt a who)

range_bounds : (who a n : ℕ) → Among who (range_with_len a n) → (a ≤ who) × (who < a + n)
range_bounds who a zero among = absurd among
range_bounds who a (suc n) (inl here) = (omega (arith, here), omega (arith, here))
range_bounds who a (suc n) (inr more) = let both = range_bounds who (a + 1) n more in (omega (arith, both.0), omega (arith, both.1))

-- ---- all callers in turn

pub apart_rotated : (callers start : ℕ) → Apart (rotated callers start)
apart_rotated callers start = apart_both (range_with_len start (callers - start)) (range_with_len 0 start) (apart_range start (callers - start)) (apart_range 0 start)
    (λ who among. let low = (range_bounds who start (callers - start) among).0 in away_high who 0 start (omega (arith, low)))

pub among_rotated : (who callers start : ℕ) → who < callers → Among who (rotated callers start)
among_rotated who callers start below = ⊎_elim
    (λ (low : who < start). among_last who (range_with_len start (callers - start)) (range_with_len 0 start) (among_range who 0 start (omega arith) (omega (arith, low))))
    (λ (high : start ≤ who). among_first who (range_with_len start (callers - start)) (range_with_len 0 start) (among_range who start (callers - start) high (omega (arith, below, high))))
    (cases_lt who start)

rotated_known : (who callers start : ℕ) → start < callers → Among who (rotated callers start) → who < callers
rotated_known who callers start within among = ⊎_elim
    (λ (first : Among who (range_with_len start (callers - start))). let high = (range_bounds who start (callers - start) first).1 in omega (arith, high, within))
    (λ (last : Among who (range_with_len 0 start)). let high = (range_bounds who 0 start last).1 in omega (arith, high, within))
    (among_either who (range_with_len start (callers - start)) (range_with_len 0 start) among)

start_below : (callers number : ℕ) → 0 < callers → start_of callers number < callers
start_below callers number some = mod-lt (number / 65536) some

-- ---- the rounds of entries one behind the other

pub rounds_both : (past es fs : List Entry) → rounds_from past (es ++ fs) ≡ rounds_from past es ++ rounds_from (past ++ es) fs
rounds_both past [] fs = ap (λ l. rounds_from l fs) (sym (append-nil past))
rounds_both past (e ∷ es) fs =
    ap (λ rs. round_of past e ∷ rs) (rounds_both (past ++ e ∷ []) es fs ∙ ap (λ l. rounds_from (past ++ e ∷ []) es ++ rounds_from l fs) (append_assoc past (e ∷ []) es))

replicate_both : (es fs : List Entry) (n : ℕ) → replicate (length es) n ++ replicate (length fs) n ≡ replicate (length (es ++ fs)) n
replicate_both [] fs n = refl
replicate_both (e ∷ es) fs n = ap (λ rs. n ∷ rs) (replicate_both es fs n)

-- ---- turns

module _ (Whole : ℕ → List Told → Type 0) where
  -- a caller that has no turn makes no call
  away : (who : ℕ) (ws : List ℕ) (past es : List Entry) → AreTurns Whole past ws es → AwayFrom who ws → own who (past ++ es) ≡ own who past
  away who [] past es turns none = ap (λ l. own who (past ++ l)) turns ∙ ap (own who) (append-nil past)
  away who (w ∷ ws) past es turns none =
      ap (λ l. own who (past ++ l)) turns.2 ∙ ap (own who) (sym (append_assoc past turns.0 turns.1)) ∙ away who ws (past ++ turns.0) turns.1 turns.4 none.1
      ∙ own_turn Whole past w who turns.0 turns.3 (λ is. none.0 (sym is))

  -- what a caller made before and after its turn
  abbrev pub Went : ℕ → List Told → List Told → Type 0
  Went who before after = (Whole who before × (after ≡ before)) ⊎ ((Whole who before → ⊥) × (length after ≡ suc (length before)))

  went_turn : (who : ℕ) (past es : List Entry) → IsTurn Whole past who es → Went who (own who past) (own who (past ++ es))
  went_turn who past es (inl none) = inl (none.0, ap (λ l. own who (past ++ l)) none.1 ∙ ap (own who) (append-nil past))
  went_turn who past es (inr made) =
      inr (
        made.0,
        ap (λ l. length (own who (past ++ l))) made.1.2 ∙ ap length (own-push_same who past made.1.0 made.1.1)
            ∙ length-append (own who past) (told made.1.0 ∷ []) ∙ (let e : length (own who past) + 1 ≡ suc (length (own who past)) = omega arith in e),
      )

  pub went : (who : ℕ) (ws : List ℕ) (past es : List Entry) → AreTurns Whole past ws es → Apart ws → Among who ws → Went who (own who past) (own who (past ++ es))
  went who [] past es turns apart among = absurd among
  went who (w ∷ ws) past es turns apart (inl here) =
      let all : own who ((past ++ turns.0) ++ turns.1) ≡ own who (past ++ es) = ap (own who) (append_assoc past turns.0 turns.1) ∙ ap (λ l. own who (past ++ l)) (sym turns.2) in
      let rest : own who ((past ++ turns.0) ++ turns.1) ≡ own who (past ++ turns.0) = away who ws (past ++ turns.0) turns.1 turns.4 (subst (λ (k : ℕ). AwayFrom k ws) here apart.0) in
      subst (Went who (own who past)) (sym rest ∙ all) (went_turn who past turns.0 (subst (λ (k : ℕ). IsTurn Whole past k turns.0) here turns.3))
  went who (w ∷ ws) past es turns apart (inr more) =
      let all : own who ((past ++ turns.0) ++ turns.1) ≡ own who (past ++ es) = ap (own who) (append_assoc past turns.0 turns.1) ∙ ap (λ l. own who (past ++ l)) (sym turns.2) in
      let before : own who (past ++ turns.0) ≡ own who past = own_turn Whole past w who turns.0 turns.3 (λ is. differs w who ws apart.0 more (sym is)) in
      subst (Went who (own who past)) all (subst (λ l. Went who l (own who ((past ++ turns.0) ++ turns.1))) before (went who ws (past ++ turns.0) turns.1 turns.4 apart.1 more))

  module _ (count : ℕ) where
    -- of a caller whose entries aren't a whole run there are so many
    abbrev IsIn : List Entry → ℕ → Type 0
    IsIn past who = (Whole who (own who past) → ⊥) → length (own who past) ≡ count

    turn_round : (who : ℕ) (past es : List Entry) → IsTurn Whole past who es → IsIn past who → rounds_from past es ≡ replicate (length es) count
    turn_round who past es (inl none) is = subst (λ l. rounds_from past l ≡ replicate (length l) count) (sym none.1) refl
    turn_round who past es (inr made) is =
        subst (λ l. rounds_from past l ≡ replicate (length l) count) (sym made.1.2)
        (ap (λ (k : ℕ). k ∷ []) (ap (λ (k : ℕ). length (own k past)) made.1.1 ∙ is made.0))

    turns_round : (ws : List ℕ) (past es : List Entry) → AreTurns Whole past ws es → Apart ws → ((who : ℕ) → Among who ws → IsIn past who) → rounds_from past es ≡ replicate (length es) count
    turns_round [] past es turns apart are = subst (λ l. rounds_from past l ≡ replicate (length l) count) (sym turns) refl
    turns_round (w ∷ ws) past es turns apart are =
        let first = turn_round w past turns.0 turns.3 (are w (inl refl)) in
        let rest = turns_round ws (past ++ turns.0) turns.1 turns.4 apart.1
        (λ who more.
        let before : own who (past ++ turns.0) ≡ own who past = own_turn Whole past w who turns.0 turns.3 (λ is. differs w who ws apart.0 more (sym is)) in
        λ going. ap length before ∙ are who (inr more) (λ whole. going (subst (Whole who) (sym before) whole))) in
        ap (rounds_from past) turns.2 ∙ rounds_both past turns.0 turns.1
        ∙ ap (λ rs. rs ++ rounds_from (past ++ turns.0) turns.1) first ∙ ap (λ rs. replicate (length turns.0) count ++ rs) rest
        ∙ replicate_both turns.0 turns.1 count ∙ ap (λ l. replicate (length l) count) (sym turns.2)

  -- ---- rounds

  module _ (callers order : ℕ) (some : 0 < callers) where
    in_rounds : (count : ℕ) (h : List Entry) → AreRounds Whole callers order count h
        → AreInRounds Whole callers order count h (rounds_of h) × ((who : ℕ) → who < callers → IsIn count h who)
    in_rounds zero h rounds = ((rounds, ap rounds_of rounds), λ who below going. ap (λ l. length (own who l)) rounds)
    in_rounds (suc count) h rounds =
        let past : List Entry = rounds.0 in
        let es : List Entry = rounds.1 in
        let start : ℕ = start_of callers (number_at order count) in
        let ws : List ℕ = rotated callers start in
        let before = in_rounds count past rounds.3 in
        let apart : Apart ws = apart_rotated callers start in
        let last : rounds_from past es ≡ replicate (length es) count =
        turns_round count ws past es rounds.4 apart (λ who among. before.1 who (rotated_known who callers start (start_below callers (number_at order count) some) among)) in (
          (past, es, rounds_of past, rounds.2, ap rounds_of rounds.2 ∙ rounds_both [] past es ∙ ap (λ rs. rounds_of past ++ rs) last, before.0, rounds.4),
          λ who below going.
              let same : own who h ≡ own who (past ++ es) = ap (own who) rounds.2 in ⊎_elim
              (λ (none : Whole who (own who past) × (own who (past ++ es) ≡ own who past)). absurd (going (subst (Whole who) (sym (same ∙ none.1)) none.0)))
              (λ (made : (Whole who (own who past) → ⊥) × (length (own who (past ++ es)) ≡ suc (length (own who past)))). ap length same ∙ made.1 ∙ ap suc (before.1 who below made.0))
              (went who ws past es rounds.4 apart (among_rotated who callers start below)),
        )

pub entries_stand_in_rounds : EntriesStandInRounds
entries_stand_in_rounds s frames order count h is =
    let config = is.legal.opened.config in
    let some : 0 < callers_of s.config = omega (arith, config.pairs_some) in
    (in_rounds (IsWholeRun s) (callers_of s.config) order some count h is.rounds).0
