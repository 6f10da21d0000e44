-- A caller has a frame exactly where a standing keeps the ring from which it last got it, and the frame came from FILL
-- exactly where this ring is FILL.
use Rattle.std.proofs.Common.{◌≡◌, ℕ, ◌≤◌, ◌<◌, inl, inr, Bool, true, false, cond, nat_lt, List, [], ◌∷◌, ◌++◌, Option, Some, None, refl, sym, ap, subst, ◌∙◌, ⊎_elim, lt-ltb, le-ltb, arith}
use Rattle.std.specs.Prelude.{is_some}
use Rattle.std.proofs.lemmas.Bool.{cases_lt}
use Rattle.std.proofs.lemmas.List.Sums.{fold_push}
use Rattle.xsk_model.specs.Config.{Config}
use Rattle.xsk_model.specs.Numbers.{times, numbers}
use Rattle.xsk_model.specs.Object.{call_ring, submitted, taken}
use Rattle.xsk_model.specs.Entry.{Told}
use Rattle.xsk_model.specs.Own.{had_of, is_fill_peek, is_from_fill}
use Rattle.xsk_model.specs.Legal.{IsLegal}
use Rattle.xsk_model.specs.History.{Fits, OwnGoesOn}
use Rattle.xsk_model.specs.declared.call.Ring.{Ring}
use Rattle.xsk_model.specs.declared.call.Ring.TheVariants.{Fill, Comp, Rx, Tx}
use Rattle.xsk_model.specs.declared.call.Call.{Call}
use Rattle.xsk_model.specs.declared.call.Call.TheVariants.{Peek}
use Rattle.xsk_model.proofs.OwnRuns.{own_all, fits_taken}
use Rattle.xsk_model.proofs.Completions.{times-had_of-push, from_fill-push}
use Rattle.xsk_legal.specs.Standing.{source_step, source_of}

pub source_of-push : (n : ℕ) (mine : List Told) (t : Told) → source_of n (mine ++ t ∷ []) ≡ source_step n (source_of n mine) t
source_of-push n mine t = fold_push (source_step n) None mine t

-- ---- one call

abbrev pub once : Option Ring → ℕ
once source = cond (is_some source) 1 0

abbrev pub is_fill_ring : Option Ring → Bool
is_fill_ring None = false
is_fill_ring (Some (Fill d)) = true
is_fill_ring (Some (Comp d)) = false
is_fill_ring (Some (Rx s)) = false
is_fill_ring (Some (Tx s)) = false

-- what is known of a frame after some calls
pub record IsSource (n : ℕ) (mine : List Told) : Type 0 where
  pub had : times n (had_of mine) ≡ once (source_of n mine)
  pub fill : 1 ≤ times n (had_of mine) → is_from_fill n mine ≡ is_fill_ring (source_of n mine)

peek_is_fill : (r : Ring) (k : ℕ) → is_fill_peek (Peek r k) ≡ is_fill_ring (Some r)
peek_is_fill (Fill d) k = refl
peek_is_fill (Comp d) k = refl
peek_is_fill (Rx s) k = refl
peek_is_fill (Tx s) k = refl

module _ (c : Config) (who n : ℕ) where
  -- the frame comes
  comes : (mine : List Told) (t : Told) → Fits c mine t.call t.reply → 0 < times n (numbers (taken t.reply)) → IsSource n (mine ++ t ∷ [])
  comes mine t fits some =
      let yes : nat_lt 0 (times n (numbers (taken t.reply))) ≡ true = lt-ltb 0 (times n (numbers (taken t.reply))) some in
      let now = source_of-push n mine t ∙ ap (λ b. cond b (call_ring t.call) (cond (nat_lt 0 (times n (numbers (submitted t.call)))) None (source_of n mine))) yes in
      let from = from_fill-push n mine t ∙ ap (λ b. cond b (is_fill_peek t.call) (is_from_fill n mine)) yes in
      elim (fits_taken c mine t.call t.reply fits) [
        | inl none ↦ absurd (omega (arith, some, ap (λ items. times n (numbers items)) none))
        | inr peeked ↦
            let source : source_of n (mine ++ t ∷ []) ≡ Some peeked.0 = now ∙ ap call_ring peeked.2 in
            let nothing = ap (λ (call : Call). times n (numbers (submitted call))) peeked.2 in
            record {
              had = omega (arith, times-had_of-push n mine t, nothing, some, peeked.3.fresh n, ap once source);
              fill = λ h. from ∙ ap is_fill_peek peeked.2 ∙ peek_is_fill peeked.0 peeked.1 ∙ ap is_fill_ring (sym source);
            }
      ]

  -- the frame goes
  goes_away : (mine : List Told) (t : Told) → IsLegal c mine who t.call → times n (numbers (taken t.reply)) ≤ 0 → 0 < times n (numbers (submitted t.call))
      → IsSource n mine → IsSource n (mine ++ t ∷ [])
  goes_away mine t legal none some h =
      let no : nat_lt 0 (times n (numbers (taken t.reply))) ≡ false = le-ltb 0 (times n (numbers (taken t.reply))) none in
      let yes : nat_lt 0 (times n (numbers (submitted t.call))) ≡ true = lt-ltb 0 (times n (numbers (submitted t.call))) some in
      let source : source_of n (mine ++ t ∷ []) ≡ None =
      source_of-push n mine t
      ∙ ap (λ b. cond b (call_ring t.call) (cond (nat_lt 0 (times n (numbers (submitted t.call)))) None (source_of n mine))) no
      ∙ ap (λ b. cond b None (source_of n mine)) yes in
      let few : once (source_of n mine) ≤ 1 = at_most (is_some (source_of n mine)) in
      let left : times n (had_of (mine ++ t ∷ [])) ≡ 0 = omega (arith, times-had_of-push n mine t, h.had, legal.frames n, few, none, some) in
      record {
        had = left ∙ ap once (sym source);
        fill = λ k. absurd (omega (arith, k, left));
      }
    where
      at_most : (b : Bool) → cond b 1 0 ≤ 1
      at_most true = omega arith
      at_most false = omega arith

  -- the frame stays where it is
  stays : (mine : List Told) (t : Told) → times n (numbers (taken t.reply)) ≤ 0 → times n (numbers (submitted t.call)) ≤ 0
      → IsSource n mine → IsSource n (mine ++ t ∷ [])
  stays mine t none few h =
      let no : nat_lt 0 (times n (numbers (taken t.reply))) ≡ false = le-ltb 0 (times n (numbers (taken t.reply))) none in
      let not_given : nat_lt 0 (times n (numbers (submitted t.call))) ≡ false = le-ltb 0 (times n (numbers (submitted t.call))) few in
      let source : source_of n (mine ++ t ∷ []) ≡ source_of n mine =
      source_of-push n mine t
      ∙ ap (λ b. cond b (call_ring t.call) (cond (nat_lt 0 (times n (numbers (submitted t.call)))) None (source_of n mine))) no
      ∙ ap (λ b. cond b None (source_of n mine)) not_given in
      let same : times n (had_of (mine ++ t ∷ [])) ≡ times n (had_of mine) = omega (arith, times-had_of-push n mine t, none, few) in
      let from : is_from_fill n (mine ++ t ∷ []) ≡ is_from_fill n mine =
      from_fill-push n mine t ∙ ap (λ b. cond b (is_fill_peek t.call) (is_from_fill n mine)) no in
      record {
        had = same ∙ h.had ∙ ap once (sym source);
        fill = λ k. from ∙ h.fill (subst (λ m. 1 ≤ m) same k) ∙ ap is_fill_ring (sym source);
      }

  pub source_step_holds : (mine : List Told) (t : Told) → IsLegal c mine who t.call → Fits c mine t.call t.reply → IsSource n mine → IsSource n (mine ++ t ∷ [])
  source_step_holds mine t legal fits h = ⊎_elim
      (λ (some : 0 < times n (numbers (taken t.reply))). comes mine t fits some)
      (λ (none : times n (numbers (taken t.reply)) ≤ 0). ⊎_elim
      (λ (given : 0 < times n (numbers (submitted t.call))). goes_away mine t legal none given h)
      (λ (few : times n (numbers (submitted t.call)) ≤ 0). stays mine t none few h)
      (cases_lt 0 (times n (numbers (submitted t.call)))))
      (cases_lt 0 (times n (numbers (taken t.reply))))

  pub own_source : (mine : List Told) → OwnGoesOn c who [] mine → IsSource n mine
  own_source mine goes = own_all (IsSource n) c who [] mine (λ before t legal fits h. source_step_holds before t legal fits h) goes
      (record { had = refl; fill = λ h. absurd (omega (arith, h)) })
