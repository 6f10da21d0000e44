-- Which sides' marks an application has found to be 1.
use Rattle.std.proofs.Common.{◌≡◌, ℕ, zero, suc, ◌<◌, Bool, true, false, cond, ◌&&◌, eqb, List, [], ◌∷◌, ◌++◌, length, set, refl, sym, ap, ◌∙◌, arith, eq-eqb, ne_eqb, get_or-set_same, get_or-set_other}
use Rattle.xsk_turns.proofs.Object.{Config, Draining, unseen_after, draining_of}
use Rattle.xsk_turns.proofs.Calls.{Told, Rx, Mark, RxDone, Gone}
use Rattle.xsk_model.specs.declared.call.Mark.TheVariants.{NeedFill, NeedTx, Acked}
use Rattle.xsk_turns.specs.AppTurns.{pair_of, rx_of, is_set}
use Rattle.xsk_turns.specs.AppOwned.{IsApp}
use Rattle.xsk_turns.proofs.AppPlaces.{pairs_apart}
use Rattle.xsk_turns.proofs.AppWalk.{is_need}

abbrev pub side_marks : Config → ℕ → List Mark
side_marks c a = RxDone (pair_of c a 0) ∷ RxDone (pair_of c a 1) ∷ []

-- what is found of a lane's RX ring
abbrev pub draining : Config → ℕ → ℕ → List Told → Draining
draining c a lane l = draining_of (side_marks c a) (Rx (rx_of c a lane)) l

-- the marks that were not yet found to be 1, by the sides that were seen
abbrev pub unseen_by : ℕ → ℕ → Bool → Bool → List Mark
unseen_by d e x y = cond x [] (RxDone d ∷ []) ++ cond y [] (RxDone e ∷ [])

abbrev pub unseen_sides : Config → ℕ → List Bool → List Mark
unseen_sides c a seen = unseen_by (pair_of c a 0) (pair_of c a 1) (is_set seen 0) (is_set seen 1)

pub none_unseen : (d e : ℕ) (x y : Bool) → (x && y) ≡ true → unseen_by d e x y ≡ []
none_unseen d e true true h = refl
none_unseen d e true false h = absurd (cc)
none_unseen d e false y h = absurd (cc)

pub other_mark : (d e g n : ℕ) (x y : Bool) → unseen_after (unseen_by d e x y) (Gone g) n ≡ unseen_by d e x y
other_mark d e g n true true = refl
other_mark d e g n true false = refl
other_mark d e g n false true = refl
other_mark d e g n false false = refl

pub other_acked : (d e s n : ℕ) (x y : Bool) → unseen_after (unseen_by d e x y) (Acked s) n ≡ unseen_by d e x y
other_acked d e s n true true = refl
other_acked d e s n true false = refl
other_acked d e s n false true = refl
other_acked d e s n false false = refl

-- a need-wakeup flag is none of them
pub other_need : (d e : ℕ) (need : Mark) (n : ℕ) (x y : Bool) → is_need need ≡ true → unseen_after (unseen_by d e x y) need n ≡ unseen_by d e x y
other_need d e (NeedFill g) n true true h = refl
other_need d e (NeedFill g) n true false h = refl
other_need d e (NeedFill g) n false true h = refl
other_need d e (NeedFill g) n false false h = refl
other_need d e (NeedTx g) n true true h = refl
other_need d e (NeedTx g) n true false h = refl
other_need d e (NeedTx g) n false true h = refl
other_need d e (NeedTx g) n false false h = refl
other_need d e need n x y h = absurd (cc)

-- the first mark is looked at, and the second
first_seen : (d e n : ℕ) (x y same other : Bool) → x ≡ false → eqb d d ≡ same → same ≡ true → eqb e d ≡ other → other ≡ false
    → unseen_after (unseen_by d e x y) (RxDone d) n ≡ unseen_by d e (eqb n 1) y
first_seen d e n true y same other f g h i j = absurd (cc)
first_seen d e n false true same other f g h i j = ap (λ b. cond (b && eqb n 1) [] (RxDone d ∷ [])) (g ∙ h) ∙ once (eqb n 1)
  where
    once : (b : Bool) → cond b [] (RxDone d ∷ []) ≡ cond b [] (RxDone d ∷ []) ++ []
    once true = refl
    once false = refl
first_seen d e n false false same other f g h i j =
    let tail : unseen_after (RxDone e ∷ []) (RxDone d) n ≡ RxDone e ∷ [] = ap (λ b. cond (b && eqb n 1) [] (RxDone e ∷ [])) (i ∙ j) in
    ap (λ b. cond (b && eqb n 1) (unseen_after (RxDone e ∷ []) (RxDone d) n) (RxDone d ∷ unseen_after (RxDone e ∷ []) (RxDone d) n)) (g ∙ h)
    ∙ ap (λ ms. cond (eqb n 1) ms (RxDone d ∷ ms)) tail ∙ once (eqb n 1)
  where
    once : (b : Bool) → cond b (RxDone e ∷ []) (RxDone d ∷ RxDone e ∷ []) ≡ cond b [] (RxDone d ∷ []) ++ RxDone e ∷ []
    once true = refl
    once false = refl

second_seen : (d e n : ℕ) (x y same other : Bool) → y ≡ false → eqb e e ≡ same → same ≡ true → eqb d e ≡ other → other ≡ false
    → unseen_after (unseen_by d e x y) (RxDone e) n ≡ unseen_by d e x (eqb n 1)
second_seen d e n x true same other f g h i j = absurd (cc)
second_seen d e n true false same other f g h i j = ap (λ b. cond (b && eqb n 1) [] (RxDone e ∷ [])) (g ∙ h)
second_seen d e n false false same other f g h i j =
    let tail : unseen_after (RxDone e ∷ []) (RxDone e) n ≡ cond (eqb n 1) [] (RxDone e ∷ []) = ap (λ b. cond (b && eqb n 1) [] (RxDone e ∷ [])) (g ∙ h) in
    ap (λ b. cond (b && eqb n 1) (unseen_after (RxDone e ∷ []) (RxDone e) n) (RxDone d ∷ unseen_after (RxDone e ∷ []) (RxDone e) n)) (i ∙ j)
    ∙ ap (λ ms. RxDone d ∷ ms) tail

-- a side that wasn't seen yet is looked at
module _ (c : Config) (a : ℕ) (one : IsApp c a) (seen : List Bool) (n : ℕ) (sides : length seen ≡ 2) where
  first : is_set seen 0 ≡ false → unseen_after (unseen_sides c a seen) (RxDone (pair_of c a 0)) n ≡ unseen_by (pair_of c a 0) (pair_of c a 1) (eqb n 1) (is_set seen 1)
  first e =
      let d = pair_of c a 0 in
      let f = pair_of c a 1 in
      first_seen d f n (is_set seen 0) (is_set seen 1) (eqb d d) (eqb f d) e refl (eq-eqb d d refl) refl (ne_eqb f d (λ g. pairs_apart c a one (sym g)))

  second : is_set seen 1 ≡ false → unseen_after (unseen_sides c a seen) (RxDone (pair_of c a 1)) n ≡ unseen_by (pair_of c a 0) (pair_of c a 1) (is_set seen 0) (eqb n 1)
  second e =
      let d = pair_of c a 0 in
      let f = pair_of c a 1 in
      second_seen d f n (is_set seen 0) (is_set seen 1) (eqb f f) (eqb d f) e refl (eq-eqb f f refl) refl (ne_eqb d f (pairs_apart c a one))

  pub side_seen : (side : ℕ) → side < 2 → is_set seen side ≡ false → eqb n 1 ≡ true → unseen_after (unseen_sides c a seen) (RxDone (pair_of c a side)) n ≡ unseen_sides c a (set seen side true)
  side_seen zero k e f =
      let other : is_set (set seen 0 true) 1 ≡ is_set seen 1 = get_or-set_other seen 0 1 true false (λ g. omega (arith, g)) in
      let here : is_set (set seen 0 true) 0 ≡ true = get_or-set_same seen 0 true false (omega (arith, sides)) in
      first e ∙ ap (λ b. unseen_by (pair_of c a 0) (pair_of c a 1) b (is_set seen 1)) (f ∙ sym here) ∙ ap (unseen_by (pair_of c a 0) (pair_of c a 1) (is_set (set seen 0 true) 0)) (sym other)
  side_seen (suc zero) k e f =
      let other : is_set (set seen 1 true) 0 ≡ is_set seen 0 = get_or-set_other seen 1 0 true false (λ g. omega (arith, g)) in
      let here : is_set (set seen 1 true) 1 ≡ true = get_or-set_same seen 1 true false (omega (arith, sides)) in
      second e ∙ ap (unseen_by (pair_of c a 0) (pair_of c a 1) (is_set seen 0)) (f ∙ sym here) ∙ ap (λ b. unseen_by (pair_of c a 0) (pair_of c a 1) b (is_set (set seen 1 true) 1)) (sym other)
  side_seen (suc (suc side)) k e f = absurd (omega arith)

  pub side_unseen : (side : ℕ) → side < 2 → is_set seen side ≡ false → eqb n 1 ≡ false → unseen_after (unseen_sides c a seen) (RxDone (pair_of c a side)) n ≡ unseen_sides c a seen
  side_unseen zero k e f = first e ∙ ap (λ b. unseen_by (pair_of c a 0) (pair_of c a 1) b (is_set seen 1)) (f ∙ sym e)
  side_unseen (suc zero) k e f = second e ∙ ap (unseen_by (pair_of c a 0) (pair_of c a 1) (is_set seen 0)) (f ∙ sym e)
  side_unseen (suc (suc side)) k e f = absurd (omega arith)
