-- A caller's own entries on one ring: all that is folded over a ring's entries is folded over these.
use Rattle.std.proofs.Common.{◌≡◌, ℕ, Bool, true, false, cond, List, [], ◌∷◌, ◌++◌, refl, ap, ◌∙◌, ⊎_elim, append-nil}
use Rattle.std.specs.List.{filter, fold}
use Rattle.std.proofs.lemmas.Bool.{cases_eq}
use Rattle.std.proofs.lemmas.List.Elements.{filter-append}
use Rattle.xsk_model.specs.Entry.{Told, Entry, told, own}
use Rattle.xsk_model.specs.Own.{is_on, part_of}
use Rattle.xsk_model.specs.declared.call.Ring.{Ring}
use Rattle.xsk_model.proofs.Folds.{own-push_same, own-push_other}

-- the entries on a ring
abbrev pub on_ring : Ring → List Told → List Told
on_ring r mine = filter (λ (t : Told). is_on r t.call) mine

pub on_ring-push_other : (r : Ring) (who : ℕ) (past : List Entry) (e : Entry) → is_on r e.call ≡ false → on_ring r (own who (past ++ e ∷ [])) ≡ on_ring r (own who past)
on_ring-push_other r who past e off = ⊎_elim
    (λ (h : e.who ≡ who).
    ap (on_ring r) (own-push_same who past e h)
    ∙ filter-append (λ (t : Told). is_on r t.call) (own who past) (told e ∷ [])
    ∙ ap (λ b. on_ring r (own who past) ++ cond b (told e ∷ []) []) off
    ∙ append-nil (on_ring r (own who past)))
    (λ (h : e.who ≡ who → ⊥). ap (on_ring r) (own-push_other who past e h))
    (cases_eq e.who who)

fold-cond : {A : Type 0} (change : A → Told → A) (a : A) (b : Bool) (t : Told) (mine : List Told)
    → fold change (cond b (change a t) a) mine ≡ fold change a (cond b (t ∷ mine) mine)
fold-cond change a true t mine = refl
fold-cond change a false t mine = refl

-- so any such fold is one over the entries on the ring
pub part_of-fold : {A : Type 0} (change : A → Told → A) (r : Ring) (a : A) (mine : List Told) → part_of change r a mine ≡ fold change a (on_ring r mine)
part_of-fold change r a [] = refl
part_of-fold change r a (t ∷ mine) =
    part_of-fold change r (cond (is_on r t.call) (change a t) a) mine ∙ fold-cond change a (is_on r t.call) t (on_ring r mine)
