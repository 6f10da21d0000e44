-- The rule after a change of the views.
use Rattle.std.proofs.Common.{◌≡◌, ◌≢◌, ℕ, ◌≤◌, List, [], ◌∷◌, ◌++◌, set, ◌∙◌, subst, ⊎_elim, inl, inr}
use mathlib.Core.Option.{some}
use lib.ListN.{get_elem?}
use Rattle.std.specs.Prelude.{Option}
use Rattle.atomic_table.specs.Table.{State}
use Rattle.atomic_table.proofs.Lists.{at_set, at_snoc}
use Rattle.xsk_lock.specs.declared.view.Known.{Known}
use Rattle.xsk_lock.specs.Rule.{times, total, mine, holder, IsOf, IsFree, IsTaken, Rule}

module _ {V : Type 0} (P : V → Type 0) where
  pub each_set : (vs : List V) (i : ℕ) (w : V) → P w → ((j : ℕ) (v : V) → get_elem? vs j ≡ some v → P v) → (j : ℕ) (v : V) → get_elem? (set vs i w) j ≡ some v → P v
  each_set vs i w here all j v e = ⊎_elim (λ (t : (j ≡ i) × (w ≡ v)). subst P t.1 here) (λ (t : (j ≢ i) × (get_elem? vs j ≡ some v)). all j v t.1) (at_set vs i j w v e)

  pub each_more : (vs : List V) (w : V) → P w → ((j : ℕ) (v : V) → get_elem? vs j ≡ some v → P v) → (j : ℕ) (v : V) → get_elem? (vs ++ w ∷ []) j ≡ some v → P v
  each_more vs w last all j v e = ⊎_elim (λ (t : get_elem? vs j ≡ some v). all j v t) (λ (t : w ≡ v). subst P t last) (at_snoc vs w v j e)

module _ {T N : Type 0} (name : T → N) (lock : N) (hands : ℕ) where
  -- the word and the slot are as they were, and as many views hold the value
  pub reseated : (s : State (Option T) (Known N)) (views : List (Known N)) → Rule name lock hands s
      → ((j : ℕ) (v : Known N) → get_elem? views j ≡ some v → IsOf lock hands v)
      → ((h : ℕ) → total (λ (v : Known N). times h (mine v)) views ≤ 1)
      → total holder views ≡ total holder s.views
      → Rule name lock hands (record { words = s.words; homes = s.homes; views = views })
  reseated s views rule seats apart same = record {
    words = rule.words;
    slots = rule.slots;
    seats = seats;
    apart = apart;
    state = ⊎_elim (λ (t : IsFree name lock s). inl (t.0, t.1, same ∙ t.2)) (λ (t : IsTaken name lock s). inr (t.0, t.1, same ∙ t.2)) rule.state;
  }
