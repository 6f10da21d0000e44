-- Drivers are made, each with the verdicts that it keeps, and handed out in their order.
use Rattle.std.proofs.Common.{◌≡◌, ℕ, ◌+◌, ◌<◌, ◌≤◌, Option, Some, None, IfSome, IfNone, List, [], ◌∷◌, ◌++◌, length, length-append, take, append-nil, refl, sym, ap, subst, ◌∙◌, suc, arith, ⊎_elim}
use Rattle.std.specs.List.{flat_map, slice_get, slice_index_or}
use Rattle.std.specs.Fn.{Shared}
use denote.Ref.{Bor}
use Rattle.std.proofs.Math.Seq.{take-length}
use Rattle.std.proofs.lemmas.Grind.{flat_map-append}
use Rattle.std.specs.Option.{option_to_list}
use Rattle.std.proofs.lemmas.Bool.{cases_eq}
use Rattle.std.proofs.lemmas.List.{get_or-map, get_or_push, get_or_append_left, length-map, take_more}
use Rattle.std.proofs.lemmas.Option.{slice_get_within, slice_get_read, slice_get_cases, get_or_from_slice_get}
use Rattle.xsk_umem.specs.PacketList.{PacketList}
use Rattle.xsk_model.specs.Config.{Config, pair_at}
use Rattle.xsk_model.specs.declared.config.PairInfo.{PairInfo}
use Rattle.xsk_model.specs.Expected.{nothing}
use Rattle.xsk_prog.specs.Chain.{AllObey, SamePrograms}
use Rattle.xsk_prog.specs.Program.{XdpProgram}
use Rattle.xsk_prog.specs.declared.rule.Verdict.{Verdict}
use Rattle.xsk_turns.specs.Verdicts.{EachHas, IsGiven}
use Rattle.xsk_turns.specs.Workers.{Setting, AreGiven, packets_to}
use Rattle.xsk_turns.specs.declared.manner.Manner.{Manner}
use Rattle.xsk_turns.specs.declared.wire.Wire.{Wire}
use Rattle.xsk_driver.specs.Asking.{AreAsked, Question, verdicts_in}
use Rattle.xsk_driver.proofs.Asking.{asked-append, same_all}
use Rattle.xsk_driver.specs.Shown.{Shown}
use Rattle.xsk_machine.specs.Acts.{IsDriver}
use Rattle.xsk_machine.specs.Workers.{kept_in, IsFreshDriver, AreNew, HasGiven, questions_to, setting_by}

-- what is known of one driver that was made: it is that of each setting with its verdicts
pub record IsMade (By : ℕ → List ℕ → Verdict → Type 0) (c : Config) (wire : Wire) (packets : List PacketList) (pair : ℕ) (d : Shown) : Type 0 where
  pub new : (manner : Manner) (verdicts : List (List Verdict)) → slice_index_or verdicts pair [] ≡ verdicts_in d.kept → IsDriver (setting_by c wire manner packets verdicts) pair d
  pub asked : EachHas (IsGiven (By (pair_at c.pairs pair).queue)) (packets_to c packets (pair_at c.pairs pair)) (verdicts_in d.kept)
  pub expected : d.expected ≡ nothing

module _ (By : ℕ → List ℕ → Verdict → Type 0) (c : Config) (wire : Wire) (packets : List PacketList) where
  abbrev pub AreMade : List Shown → Type 0
  AreMade drivers = (k : ℕ) (d : Shown) → slice_get drivers k ≡ Some d → IsMade By c wire packets k d

  -- one more, of the pair after those
  pub made_more : (drivers : List Shown) (pair : ℕ) (x : Shown) → length drivers ≡ pair → AreMade drivers → IsMade By c wire packets pair x → AreMade (drivers ++ x ∷ [])
  made_more drivers pair x count made is k d at = ⊎_elim
      (λ (last : k ≡ length drivers).
      let same : d ≡ x = sym (get_or_from_slice_get (drivers ++ x ∷ []) k d x at) ∙ get_or_push drivers x x k (sym last) in
      subst (λ n. IsMade By c wire packets n d) (sym (last ∙ count)) (subst (IsMade By c wire packets pair) (sym same) is))
      (λ (other : k ≡ length drivers → ⊥).
      let known = slice_get_within (drivers ++ x ∷ []) k d at in
      let within : k < length drivers = omega (arith, known, length-append drivers (x ∷ []), other) in
      made k d (slice_get_read drivers (length drivers) k d refl within (sym (get_or_from_slice_get (drivers ++ x ∷ []) k d d at) ∙ get_or_append_left drivers (x ∷ []) d k within)))
      (cases_eq k (length drivers))

  module _ (drivers : List Shown) (made : AreMade drivers) where
    kept_at : (k : ℕ) (d : Shown) → slice_get drivers k ≡ Some d → slice_index_or (kept_in drivers) k [] ≡ verdicts_in d.kept
    kept_at k d at =
        get_or-map (λ (x : Shown). verdicts_in x.kept) drivers k d [] (slice_get_within drivers k d at)
        ∙ ap (λ (x : Shown). verdicts_in x.kept) (get_or_from_slice_get drivers k d d at)

    pub all_new : (manner : Manner) → AreNew (setting_by c wire manner packets (kept_in drivers)) 0 drivers
    all_new manner k d at =
        let m = made k d at in
        let here : k ≡ 0 + k = omega arith in
        subst (λ n. IsFreshDriver (setting_by c wire manner packets (kept_in drivers)) n d) here (record { is = m.new manner (kept_in drivers) (kept_at k d at); expected = m.expected })

    pub all_asked : (manner : Manner) → length drivers ≡ length c.pairs → AreGiven By (setting_by c wire manner packets (kept_in drivers))
    all_asked manner count = record {
      count = length-map drivers (λ (x : Shown). verdicts_in x.kept) ∙ count;
      each = λ pair below. ⊎_elim
          (λ (found : (d : Shown) × (pair < length drivers) × (slice_get drivers pair ≡ Some d) × (slice_index_or drivers pair d ≡ d)).
          subst (EachHas (IsGiven (By (pair_at c.pairs pair).queue)) (packets_to c packets (pair_at c.pairs pair))) (sym (kept_at pair found.0 found.2)) (made pair found.0 found.2).asked)
          (λ (past : (length drivers ≤ pair) × (slice_get drivers pair ≡ None)). absurd (let over = past.0 in omega (arith, over, count, below)))
          (slice_get_cases drivers pair).1;
    }

-- ---- what the chain was asked

-- the verdicts of pairs as one list
abbrev pub one_list : List (List Verdict) → List Verdict
one_list = flat_map (λ (pair : List Verdict). pair)

module _ {F : Type 0} (g : Shared F (Bor (List ℕ) × (ℕ × Unit {0})) Verdict) (c : Config) (lists : List PacketList) (programs : List (XdpProgram F)) where
  -- of the packets of the first pairs, and what it gave
  pub record GaveFirst (n : ℕ) (kept : List (List Verdict)) (now : List (XdpProgram F)) : Type 0 where
    pub once : AreAsked g (flat_map (questions_to c lists) (take n c.pairs)) (one_list kept) programs now
    pub same : SamePrograms programs now
    pub obeys : AllObey g now

  pub gave_none : AllObey g programs → GaveFirst 0 [] programs
  gave_none obeys = record { once = refl; same = refl; obeys = obeys }

  pub gave_next : (n : ℕ) (kept : List (List Verdict)) (now after : List (XdpProgram F)) (verdicts : List Verdict) → n < length c.pairs → GaveFirst n kept now → AreAsked g (questions_to c lists (pair_at c.pairs n)) verdicts now after → AllObey g after
      → GaveFirst (n + 1) (kept ++ verdicts ∷ []) after
  gave_next n kept now after verdicts below h asked obeys =
      let none : PairInfo = record { port = 0; queue = 0; fill = 0; comp = 0 } in
      let questions : PairInfo → List Question = questions_to c lists in
      let more : flat_map questions (take (n + 1) c.pairs) ≡ flat_map questions (take n c.pairs) ++ questions (pair_at c.pairs n) =
      ap (flat_map questions) (take_more c.pairs n none below) ∙ flat_map-append questions (take n c.pairs) (pair_at c.pairs n ∷ [])
      ∙ ap (λ qs. flat_map questions (take n c.pairs) ++ qs) (append-nil (questions (pair_at c.pairs n))) in
      let joined : one_list (kept ++ verdicts ∷ []) ≡ one_list kept ++ verdicts =
      flat_map-append (λ (pair : List Verdict). pair) kept (verdicts ∷ []) ∙ ap (λ vs. one_list kept ++ vs) (append-nil verdicts) in record {
        once = subst (λ vs. AreAsked g (flat_map questions (take (n + 1) c.pairs)) vs programs after) (sym joined)
            (subst (λ qs. AreAsked g qs (one_list kept ++ verdicts) programs after) (sym more)
            (asked-append g (flat_map questions (take n c.pairs)) (questions (pair_at c.pairs n)) (one_list kept) verdicts programs now after h.once asked));
        same = same_all g (questions (pair_at c.pairs n)) verdicts now after asked ∙ h.same;
        obeys = obeys;
      }

  pub gave_all : (n : ℕ) (kept : List (List Verdict)) (now : List (XdpProgram F)) → n ≡ length c.pairs → GaveFirst n kept now → HasGiven g c lists kept programs now
  gave_all n kept now all h = subst (λ ps. AreAsked g (flat_map (questions_to c lists) ps) (one_list kept) programs now) (ap (λ k. take k c.pairs) all ∙ take-length c.pairs) h.once

-- the next driver, where there is one, is that of the pair, and those that are left are those of the pairs after it
module _ (s : Setting) (n : ℕ) (all rest : List Shown) where
  pub next_new : (next : Option Shown) → all ≡ option_to_list next ++ rest → AreNew s n all → IfSome next (IsFreshDriver s n)
  next_new None is h = tt
  next_new (Some x) is h = let here : n + 0 ≡ n = omega arith in subst (λ k. IsFreshDriver s k x) here (subst (AreNew s n) is h 0 x refl)

  pub later_new : (next : Option Shown) → all ≡ option_to_list next ++ rest → (next ≡ None → rest ≡ []) → AreNew s n all → AreNew s (n + 1) rest
  later_new None is none h k d at = absurd (let past : k < 0 = subst (λ (l : List Shown). k < length l) (none refl) (slice_get_within rest k d at) in omega (arith, past))
  later_new (Some x) is none h k d at = let sum : n + suc k ≡ n + 1 + k = omega arith in subst (λ m. IsFreshDriver s m d) sum (subst (AreNew s n) is h (suc k) d at)

-- where there is none, all pairs have theirs
module _ (c : Config) (n : ℕ) (all rest : List Shown) where
  pub past_all : (next : Option Shown) → all ≡ option_to_list next ++ rest → (next ≡ None → rest ≡ []) → length c.pairs ≤ n + length all → IfNone next (length c.pairs ≤ n)
  past_all None is none h = let left : length c.pairs ≤ n + 0 = subst (λ (l : List Shown). length c.pairs ≤ n + length l) (is ∙ none refl) h in omega (arith, left)
  past_all (Some x) is none h = tt

  pub fewer_left : (next : Option Shown) → all ≡ option_to_list next ++ rest → (next ≡ None → rest ≡ []) → length c.pairs ≤ n + length all → length c.pairs ≤ n + 1 + length rest
  fewer_left None is none h = let left : length c.pairs ≤ n + length rest = subst (λ (l : List Shown). length c.pairs ≤ n + length l) is h in omega (arith, left)
  fewer_left (Some x) is none h = let left : length c.pairs ≤ n + suc (length rest) = subst (λ (l : List Shown). length c.pairs ≤ n + length l) is h in omega (arith, left)
