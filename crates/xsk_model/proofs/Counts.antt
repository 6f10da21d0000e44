-- The numbers of items that a ring's owners gave, took and released.
use Rattle.std.proofs.Common.{◌≡◌, ℕ, ◌+◌, ◌≤◌, Bool, true, false, cond, List, [], ◌∷◌, ◌++◌, length, refl, sym, ap, ◌∙◌, ⊎_elim, arith, length-append}
use Rattle.std.proofs.lemmas.Bool.{cases_Bool}
use Rattle.xsk_umem.specs.declared.batch.Item.{Item}
use Rattle.xsk_model.specs.Config.{Config}
use Rattle.xsk_model.specs.Object.{RingState, submitted, taken, IsWithinRing}
use Rattle.xsk_model.specs.Entry.{Told, Entry, own}
use Rattle.xsk_model.specs.Own.{is_on, part_of, released, given_step, submitted_step, released_step, held_step, peeked_step, given_of, submitted_of, released_of, held_of, peeked_of}
use Rattle.xsk_model.specs.Rings.{consumer}
use Rattle.xsk_model.specs.Legal.{IsLegal}
use Rattle.xsk_model.specs.History.{OwnGoesOn}
use Rattle.xsk_model.specs.declared.call.Ring.{Ring}
use Rattle.xsk_model.specs.declared.call.Call.{Call}
use Rattle.xsk_model.specs.declared.call.Call.TheVariants.{Reserve, Submit, Peek, Release, Swap, Look}
use Rattle.xsk_model.proofs.Places.{is_ring-true}
use Rattle.xsk_model.proofs.Folds.{part_of-push_same, part_of-push_other}
use Rattle.xsk_model.proofs.Sound.{IsRingSound, few_items}
use Rattle.xsk_model.proofs.OwnRuns.{own_all}

given_from : (r : Ring) (items : List Item) (n : ℕ) (mine : List Told) → n ≡ length items → part_of given_step r n mine ≡ length (part_of submitted_step r items mine)
given_from r items n [] h = h
given_from r items n (t ∷ mine) h =
    given_from r (cond (is_on r t.call) (items ++ submitted t.call) items) (cond (is_on r t.call) (n + length (submitted t.call)) n) mine (both (is_on r t.call))
  where
    both : (b : Bool) → cond b (n + length (submitted t.call)) n ≡ length (cond b (items ++ submitted t.call) items)
    both true = omega (arith, h, length-append items (submitted t.call))
    both false = h

-- what a caller gave is as many items as it submitted
pub given-submitted : (r : Ring) (mine : List Told) → given_of r mine ≡ length (submitted_of r mine)
given-submitted r mine = given_from r [] 0 mine refl

few_released : (c : Config) (who : ℕ) (mine : List Told) (call : Call) (r : Ring) → IsLegal c mine who call → is_on r call ≡ true → released call ≤ held_of r mine
few_released c who mine (Reserve q n) r legal on = omega arith
few_released c who mine (Submit q items) r legal on = omega arith
few_released c who mine (Peek q n) r legal on = omega arith
few_released c who mine (Release q n) r legal on = omega (arith, legal.counted.2, ap (λ p. held_of p mine) (is_ring-true r q on))
few_released c who mine (Swap m value) r legal on = omega arith
few_released c who mine (Look m) r legal on = omega arith

-- what a caller peeked it released or holds
pub released-held : (c : Config) (who : ℕ) (r : Ring) (mine : List Told) → OwnGoesOn c who [] mine → released_of r mine + held_of r mine ≡ length (peeked_of r mine)
released-held c who r mine goes =
    own_all (λ m. released_of r m + held_of r m ≡ length (peeked_of r m)) c who [] mine
    (λ before t legal fits h. ⊎_elim
    (λ (on : is_on r t.call ≡ true).
    omega (
      arith,
      h,
      few_released c who before t.call r legal on,
      part_of-push_same released_step r 0 before t on,
      part_of-push_same held_step r 0 before t on,
      ap length (part_of-push_same peeked_step r [] before t on),
      length-append (peeked_of r before) (taken t.reply),
    ))
    (λ (off : is_on r t.call ≡ false).
    omega (
      arith,
      h,
      part_of-push_other released_step r 0 before t off,
      part_of-push_other held_step r 0 before t off,
      ap length (part_of-push_other peeked_step r [] before t off),
    ))
    (cases_Bool (is_on r t.call)))
    goes refl

-- what a legal call takes from its ring is there
pub within_ring : (c : Config) (first : List Item) (past : List Entry) (who : ℕ) (call : Call) (r : Ring) (ring : RingState)
    → IsLegal c (own who past) who call → is_on r call ≡ true → IsRingSound c first r ring past → IsWithinRing ring call
within_ring c first past who (Reserve q n) r ring legal on h = tt
within_ring c first past who (Submit q items) r ring legal on h = few_items c past who (Submit q items) r ring.room legal on h.room
within_ring c first past who (Peek q n) r ring legal on h = tt
within_ring c first past who (Release q n) r ring legal on h =
    let same : held_of r (own (consumer c r) past) ≡ held_of q (own who past) =
    ap (λ p. held_of p (own (consumer c p) past)) (is_ring-true r q on) ∙ ap (λ w. held_of q (own w past)) (sym legal.role) in
    omega (arith, legal.counted.2, h.held, same)
within_ring c first past who (Swap m value) r ring legal on h = tt
within_ring c first past who (Look m) r ring legal on h = tt
