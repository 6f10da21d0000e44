-- What holds of a new application's machine.
use Rattle.std.proofs.Common.{◌≡◌, ℕ, [], ◌∷◌, ap, ◌∙◌}

pub both_pairs : (a b x y : ℕ) → a ≡ x → b ≡ y → a ∷ b ∷ [] ≡ x ∷ y ∷ []
both_pairs a b x y e f = ap (λ (n : ℕ). n ∷ b ∷ []) e ∙ ap (λ (n : ℕ). x ∷ n ∷ []) f
