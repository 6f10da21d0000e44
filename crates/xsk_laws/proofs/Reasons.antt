-- A reason stays one as further calls are made, and the packets that need no attempt aren't lost.
use Rattle.std.proofs.Common.{◌≡◌, ℕ, zero, suc, ◌⊎◌, inl, inr, true, false, Option, Some, None, List, [], ◌∷◌, ◌++◌, length, drop, slice_get, refl, sym, ap, subst, ◌∙◌, append_assoc}
use Rattle.xsk_model.specs.Entry.{Told}
use Rattle.xsk_turns.specs.Turns.{Seat, Judged, disposal_untried, settled_or}
use Rattle.xsk_turns.specs.Disposals.{Disposed, passed}
use Rattle.xsk_turns.specs.declared.disposal.Disposal.{Disposal}
use Rattle.xsk_turns.proofs.DriverStages.{untried_has}
use Rattle.xsk_laws.specs.Lost.{is_lost}
use Rattle.xsk_laws.specs.Reasons.{look_at, WasLost, AreReasoned}

-- ---- lists

last_or : {A : Type 0} (xs : List A) (x y : A) (i : ℕ) → slice_get (xs ++ x ∷ []) i ≡ Some y → (slice_get xs i ≡ Some y) ⊎ ((i ≡ length xs) × (x ≡ y))
last_or [] x y zero e = inr (refl, cc)
last_or [] x y (suc i) e = absurd (cc)
last_or (z ∷ xs) x y zero e = inl e
last_or (z ∷ xs) x y (suc i) e = by (last_or xs x y i e)
  where
    by : (slice_get xs i ≡ Some y) ⊎ ((i ≡ length xs) × (x ≡ y)) → (slice_get xs i ≡ Some y) ⊎ ((suc i ≡ suc (length xs)) × (x ≡ y))
    by (inl f) = inl f
    by (inr f) = inr (ap suc f.0, f.1)

pub first_dropped : {A : Type 0} (n : ℕ) (xs ys : List A) (x : A) → drop n xs ≡ x ∷ ys → slice_get xs n ≡ Some x
first_dropped zero [] ys x e = absurd (cc)
first_dropped zero (z ∷ xs) ys x e = cc
first_dropped (suc n) [] ys x e = absurd (cc)
first_dropped (suc n) (z ∷ xs) ys x e = first_dropped n xs ys x e

-- ---- reasons

pub untried_unlost : (seat : Seat) (packet : Judged) (d : Disposal) → disposal_untried seat packet ≡ Some d → is_lost d ≡ false
untried_unlost seat packet d e = untried_has (λ d. is_lost d ≡ false) refl refl refl refl seat packet d e

module _ (seat : Seat) (input : List Judged) where
  pub still_lost : (l more : List Told) (index : ℕ) (d : Disposal) → WasLost seat input l index d → WasLost seat input (l ++ more) index d
  still_lost l more index d h =
      let look = look_at seat h.packet h.number in
      record {
        packet = h.packet;
        here = h.here;
        before = h.before;
        number = h.number;
        calls = h.calls;
        later = h.later ++ more;
        is = ap (λ xs. xs ++ more) h.is ∙ append_assoc h.before (look ∷ (h.calls ++ h.later)) more ∙ ap (λ xs. h.before ++ (look ∷ xs)) (append_assoc h.calls h.later more);
        at = h.at;
        on = h.on;
        reason = h.reason;
      }

  pub still_reasoned : (l more : List Told) (ds : List Disposal) → AreReasoned seat input l ds → AreReasoned seat input (l ++ more) ds
  still_reasoned l more ds h index d e lost = still_lost l more index d (h index d e lost)

  pub one_more : (l : List Told) (ds : List Disposal) (d : Disposal) → AreReasoned seat input l ds → (is_lost d ≡ true → WasLost seat input l (length ds) d) → AreReasoned seat input l (ds ++ d ∷ [])
  one_more l ds d h one index e is lost = by (last_or ds d e index is)
    where
      by : (slice_get ds index ≡ Some e) ⊎ ((index ≡ length ds) × (d ≡ e)) → WasLost seat input l index e
      by (inl f) = h index e f lost
      by (inr f) = subst (λ n. WasLost seat input l n e) (sym f.0) (subst (WasLost seat input l (length ds)) f.1 (one (ap is_lost f.1 ∙ lost)))

  pub one_unlost : (l : List Told) (ds : List Disposal) (d : Disposal) → AreReasoned seat input l ds → is_lost d ≡ false → AreReasoned seat input l (ds ++ d ∷ [])
  one_unlost l ds d h kept = one_more l ds d h (λ lost. absurd (let never : false ≡ true = sym kept ∙ lost in cc))

  pub reasoned_passed : (l : List Told) (ds : List Disposal) (coming : List Judged) → AreReasoned seat input l ds → AreReasoned seat input l (passed seat ds coming).disposals
  reasoned_passed l ds [] h = h
  reasoned_passed l ds (packet ∷ later) h = by (disposal_untried seat packet) refl (λ d e. reasoned_passed l (ds ++ d ∷ []) later (one_unlost l ds d h (untried_unlost seat packet d e)))
    where
      by : (o : Option Disposal) → disposal_untried seat packet ≡ o → ((d : Disposal) → disposal_untried seat packet ≡ Some d → AreReasoned seat input l (passed seat (ds ++ d ∷ []) later).disposals)
          → AreReasoned seat input l (let here : Disposed = record { disposals = ds; coming = packet ∷ later } in settled_or o (λ d. passed seat (ds ++ d ∷ []) later) here).disposals
      by None e more = h
      by (Some d) e more = more d e
