-- The bytes of a list's packets.
use Rattle.std.proofs.Common.{◌≡◌, ℕ, ◌+◌, List, [], ◌∷◌, ◌++◌, length, arith, length-append}
use Rattle.std.specs.List.{concat}

pub length_concat-push : (packets : List (List ℕ)) (packet : List ℕ) → length (concat (packets ++ packet ∷ [])) ≡ length (concat packets) + length packet
length_concat-push [] packet = omega (arith, length-append packet [])
length_concat-push (p ∷ ps) packet = omega (arith, length_concat-push ps packet, length-append p (concat (ps ++ packet ∷ [])), length-append p (concat ps))
