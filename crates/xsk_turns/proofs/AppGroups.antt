-- What goes back together from a side, and what is kept there by and by.
use Rattle.std.proofs.Common.{◌≡◌, ℕ, zero, suc, ◌+◌, ◌-◌, ◌≤◌, Bool, true, false, cond, List, [], ◌∷◌, eqb, length, length-take, one-add, take, drop, refl, ap, arith, eq-eqb}
use Rattle.std.proofs.lemmas.List.{set-set, set-get_or}
use Rattle.std.specs.List.{prefix_len}
use Rattle.xsk_umem.specs.Frame.{Frame}
use Rattle.xsk_turns.specs.AppTurns.{AppKept, back_at, with_back, home_of, group_of}

pub with_back-again : (kept : AppKept) (side : ℕ) (xs ys : List Frame) → with_back (with_back kept side xs) side ys ≡ with_back kept side ys
with_back-again kept side xs ys = ap (λ (b : List (List Frame)). let k : AppKept = record kept { back = b } in k) (set-set kept.back side xs ys)

pub with_back-same : (kept : AppKept) (side : ℕ) → with_back kept side (back_at kept side) ≡ kept
with_back-same kept side = ap (λ (b : List (List Frame)). let k : AppKept = record kept { back = b } in k) (set-get_or kept.back side [])

front_again : {A : Type 0} (m k : ℕ) (xs : List A) → take (length (take m (take k xs))) xs ≡ take m (take k xs)
front_again zero k xs = refl
front_again (suc m) zero xs = refl
front_again (suc m) (suc k) [] = refl
front_again (suc m) (suc k) (x ∷ xs) = ap (λ ys. x ∷ ys) (front_again m k xs)

own_home : (b : ℕ) (k : ℕ) (test : Bool) (frame : Frame) (frames : List Frame) → test ≡ true
    → length (take (suc b) (take (cond test (1 + k) 0) (frame ∷ frames))) ≡ suc (length (take b (take k frames)))
own_home b k true frame frames e = ap (λ (n : ℕ). length (take (suc b) (take n (frame ∷ frames)))) (one-add k)
own_home b k false frame frames e = absurd (cc)

-- a group is a front of what a side gives back, and has a frame
pub group_front : (pool batch : ℕ) (frame : Frame) (frames : List Frame)
    → take (length (group_of pool batch frame frames)) (frame ∷ frames) ≡ group_of pool batch frame frames
group_front pool batch frame frames =
    front_again batch (prefix_len (λ (f : Frame). eqb (home_of pool f) (home_of pool frame)) (frame ∷ frames)) (frame ∷ frames)

pub group_some : (pool batch : ℕ) (frame : Frame) (frames : List Frame) → 1 ≤ batch → 1 ≤ length (group_of pool batch frame frames)
group_some pool zero frame frames h = absurd (omega arith)
group_some pool (suc batch) frame frames h =
    let k = prefix_len (λ (f : Frame). eqb (home_of pool f) (home_of pool frame)) frames in
    let e = own_home batch k (eqb (home_of pool frame) (home_of pool frame)) frame frames (eq-eqb (home_of pool frame) (home_of pool frame) refl) in
    omega (arith, e)

pub group_few : (batch : ℕ) (frames : List Frame) → length (take batch frames) ≤ batch
group_few batch frames = omega (arith, length-take batch frames)

pub shorter : (n : ℕ) (frame : Frame) (frames : List Frame) → 1 ≤ n → drop n (frame ∷ frames) ≡ drop (n - 1) frames
shorter zero frame frames h = absurd (omega arith)
shorter (suc n) frame frames h = ap (λ (k : ℕ). drop k frames) (let e : n ≡ suc n - 1 = omega arith in e)
