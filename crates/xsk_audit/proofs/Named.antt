-- How lines are searched for a frame.
use Rattle.std.proofs.Common.{◌≡◌, ℕ, suc, ◌+◌, ◌-◌, ◌<◌, ◌≤◌, true, false, Some, List, [], ◌∷◌, length, take, drop, refl, sym, ap, ◌∙◌, arith}
use Rattle.std.specs.Prelude.{if◌then◌else◌}
use Rattle.std.proofs.lemmas.List.{take_all}
use Rattle.xsk_umem.specs.Geometry.{Geometry}
use Rattle.xsk_umem.specs.declared.batch.XdpDesc.{XdpDesc}
use Rattle.xsk_audit.specs.Naming.{item_in, last_from, lies_in, names}
use Rattle.xsk_audit.specs.Reading.{Reads, begins_item, desc_at}
use Rattle.xsk_audit.proofs.Cuts.{behind}

module _ (g : Geometry) (n : ℕ) where
  -- ---- an item

  pub item-none : (xs : List ℕ) → begins_item xs ≡ false → item_in g n xs ≡ false
  unfolding item_in
  item-none xs none = rw none refl

  pub item-read : (xs : List ℕ) (read : Reads XdpDesc) → begins_item xs ≡ true → read ≡ desc_at (take (length xs - 1) (drop 1 xs)) → item_in g n xs ≡ lies_in g n read
  unfolding item_in
  item-read xs read begins is = rw begins (ap (lies_in g n) (ap desc_at (sym (behind 1 xs)) ∙ sym is))

  -- ---- a line

  pub names-none : (xs : List ℕ) → length xs ≡ 0 → names g n xs ≡ false
  unfolding names
  names-none [] none = refl
  names-none (x ∷ xs) none = absurd (omega (arith, none))

  pub names-here : (xs : List ℕ) (x : ℕ) (later : List ℕ) → xs ≡ x ∷ later → item_in g n xs ≡ true → names g n xs ≡ true
  unfolding names
  names-here xs x later is here =
      let at : item_in g n (x ∷ later) ≡ true = ap (item_in g n) (sym is) ∙ here in
      rw (is, at) refl

  pub names-next : (xs : List ℕ) (x : ℕ) (later : List ℕ) → xs ≡ x ∷ later → item_in g n xs ≡ false → names g n xs ≡ names g n later
  unfolding names
  names-next xs x later is other =
      let at : item_in g n (x ∷ later) ≡ false = ap (item_in g n) (sym is) ∙ other in
      rw (is, at) refl

  -- ---- lines

  pub last-none : (k m : ℕ) (lines : List (List ℕ)) (found : Reads ℕ) → lines ≡ [] → last_from g n k (take m lines) found ≡ found
  unfolding last_from
  last-none k m lines found none = rw (none, take_all {A = List ℕ} m [] (omega arith)) refl

  pub last-over : (k m : ℕ) (lines : List (List ℕ)) (found : Reads ℕ) → m ≤ k → last_from g n k (take (m - k) lines) found ≡ found
  unfolding last_from
  last-over k m lines found past =
      let e : m - k ≡ 0 = omega (arith, past) in
      rw e refl

  pub last-next : (k m : ℕ) (lines more : List (List ℕ)) (line : List ℕ) (found : Reads ℕ) → k < m → lines ≡ line ∷ more
      → last_from g n k (take (m - k) lines) found ≡ last_from g n (k + 1) (take (m - (k + 1)) more) (if names g n line then Some (k + 1, line) else found)
  unfolding last_from
  last-next k m lines more line found within is =
      let e : m - k ≡ suc (m - (k + 1)) = omega (arith, within) in
      rw (is, e) refl
