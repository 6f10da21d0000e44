-- The frames of two holders are apart, as each frame has one holder.
use Rattle.std.proofs.Common.{◌≡◌, ◌≢◌, ℕ, zero, suc, ◌+◌, ◌<◌, ◌≤◌, false, List, [], ◌∷◌, length, get_or, flat_map, refl, ap, ◌∙◌, arith, ⊎_elim}
use Rattle.std.proofs.lemmas.Bool.{cases_lt}
use Rattle.xsk_model.specs.Config.{Config, HasRing}
use Rattle.xsk_model.specs.Numbers.{times, numbers}
use Rattle.xsk_model.specs.Rings.{is_ring, place}
use Rattle.xsk_model.specs.Object.{State, empty_ring, ring_at, submitted}
use Rattle.xsk_model.specs.Entry.{Entry, own}
use Rattle.xsk_model.specs.Own.{had_of}
use Rattle.xsk_model.specs.Legal.{IsLegal}
use Rattle.xsk_model.specs.Holders.{HasOneHolder, holders, out_numbers}
use Rattle.xsk_model.specs.Homes.{AreApart, AreBelow}
use Rattle.xsk_model.specs.declared.call.Ring.{Ring}
use Rattle.xsk_model.specs.declared.call.Call.{Call}
use Rattle.xsk_model.proofs.Counting.{times-append, length-by_times, times-range_past, times-range_within}
use Rattle.xsk_model.proofs.Places.{places_apart}
use Rattle.xsk_model.proofs.Histories.{IsSoundFrom}
use Rattle.xsk_model.proofs.Replies.{times-row, times-piece, times-apart}

-- two pieces have no number more often between them than all pieces
pub times-two_pieces : {X : Type 0} (n : ℕ) (f : X → List ℕ) (xs : List X) (i j : ℕ) (d : X) → f d ≡ [] → i ≢ j
    → times n (f (get_or xs i d)) + times n (f (get_or xs j d)) ≤ times n (flat_map f xs)
times-two_pieces n f [] i j d h apart = omega (arith, ap (times n) h)
times-two_pieces n f (x ∷ xs) zero zero d h apart = absurd (omega arith)
times-two_pieces n f (x ∷ xs) zero (suc j) d h apart = omega (arith, times-append n (f x) (flat_map f xs), times-piece n f xs j d h)
times-two_pieces n f (x ∷ xs) (suc i) zero d h apart = omega (arith, times-append n (f x) (flat_map f xs), times-piece n f xs i d h)
times-two_pieces n f (x ∷ xs) (suc i) (suc j) d h apart =
    omega (arith, times-append n (f x) (flat_map f xs), times-two_pieces n f xs i j d h (omega arith))

module _ (c : Config) (start s : State) (past : List Entry) (h : IsSoundFrom c start s past) where
  pub one_each : HasOneHolder c.geometry.frames s
  one_each = record {
    one = λ n low. h.holders n ∙ times-range_within n 0 c.geometry.frames (omega arith) (omega arith);
    none = λ n high. h.holders n ∙ times-range_past n 0 c.geometry.frames (omega arith);
  }

  -- the numbers of all callers and of all rings, each once at most
  all_once : (n : ℕ) → times n (flat_map (λ (had : List ℕ). had) s.had) + times n (flat_map out_numbers s.rings) ≤ 1
  all_once n =
      let all = times-append n (flat_map (λ (had : List ℕ). had) s.had) (flat_map out_numbers s.rings) in
      omega (arith, all, h.holders n, times-row n c.geometry.frames)

  pub few_out : length (flat_map out_numbers s.rings) ≤ c.geometry.frames
  few_out =
      let all : (n : ℕ) → times n (holders s) ≡ times n (flat_map (λ (had : List ℕ). had) s.had) + times n (flat_map out_numbers s.rings) =
      λ n. times-append n (flat_map (λ (had : List ℕ). had) s.had) (flat_map out_numbers s.rings) in
      length-by_times c.geometry.frames (flat_map out_numbers s.rings)
      (λ n. omega (arith, all_once n))
      (λ n past_all. omega (arith, all n, h.holders n, times-range_past n 0 c.geometry.frames (omega arith)))

  pub callers_apart : (who other : ℕ) → who ≢ other → AreApart (had_of (own who past)) (had_of (own other past))
  callers_apart who other apart n =
      let two = times-two_pieces n (λ (had : List ℕ). had) s.had who other [] refl apart in
      omega (arith, two, all_once n, ap (times n) (h.had who), ap (times n) (h.had other))

  pub caller_ring_apart : (who : ℕ) (r : Ring) → AreApart (had_of (own who past)) (out_numbers (ring_at c s r))
  caller_ring_apart who r n = times-apart c start s past who (place c r) n h

  pub rings_apart : (r q : Ring) → HasRing c r → HasRing c q → is_ring r q ≡ false → AreApart (out_numbers (ring_at c s r)) (out_numbers (ring_at c s q))
  rings_apart r q has too apart n =
      let two = times-two_pieces n out_numbers s.rings (place c r) (place c q) empty_ring refl (places_apart c r q has too apart) in
      omega (arith, two, all_once n)

  -- a number that stands somewhere is that of a frame
  below : (n : ℕ) → 1 ≤ times n (flat_map (λ (had : List ℕ). had) s.had) + times n (flat_map out_numbers s.rings) → n < c.geometry.frames
  below n some = ⊎_elim
      (λ (e : n < c.geometry.frames). e)
      (λ (e : c.geometry.frames ≤ n).
      let all = times-append n (flat_map (λ (had : List ℕ). had) s.had) (flat_map out_numbers s.rings) in
      absurd (omega (arith, some, all, h.holders n, times-range_past n 0 c.geometry.frames (omega arith))))
      (cases_lt n c.geometry.frames)

  pub caller_below : (who : ℕ) → AreBelow c.geometry.frames (had_of (own who past))
  caller_below who n some =
      let mine = times-piece n (λ (had : List ℕ). had) s.had who [] refl in
      below n (omega (arith, mine, some, ap (times n) (h.had who)))

  pub ring_below : (r : Ring) → AreBelow c.geometry.frames (out_numbers (ring_at c s r))
  ring_below r n some =
      let mine = times-piece n out_numbers s.rings (place c r) empty_ring refl in
      below n (omega (arith, mine, some))

  -- what a legal call submits is its caller's
  pub submitted_callers : (who other : ℕ) (call : Call) → IsLegal c (own who past) who call → other ≢ who → AreApart (numbers (submitted call)) (had_of (own other past))
  submitted_callers who other call legal apart n =
      let two : times n (had_of (own other past)) + times n (had_of (own who past)) ≤ 1 = callers_apart other who apart n in
      omega (arith, legal.frames n, two)

  pub submitted_rings : (who : ℕ) (call : Call) (r : Ring) → IsLegal c (own who past) who call → AreApart (numbers (submitted call)) (out_numbers (ring_at c s r))
  submitted_rings who call r legal n =
      let two : times n (had_of (own who past)) + times n (out_numbers (ring_at c s r)) ≤ 1 = caller_ring_apart who r n in
      omega (arith, legal.frames n, two)
