-- The packets of one port among those that were found.
use Rattle.std.proofs.Common.{◌≡◌, ℕ, ◌+◌, List, [], ◌∷◌, drop, map, Some, true, refl, ap, ◌∙◌, arith}
use Rattle.std.specs.Prelude.{slice_get, eqb}
use Rattle.std.proofs.lemmas.Bool.{ne_eqb}
use Rattle.xsk_umem.specs.Span.{at_span}
use Rattle.xsk_umem.proofs.Going.{first_left}
use Rattle.xsk_pcapng.specs.declared.reading.Found.{Found}
use Rattle.xsk_pcapng.specs.Blocks.{Arrival, packets_at}
use Rattle.xsk_pcapng.specs.Steps.{arrival_in}
use Rattle.xsk_pcapng.specs.Written.{bare, packets_of}

-- the packets of bare lists
pub packets_of-bare : (lists : List (List (List ℕ))) → packets_of (map bare lists) ≡ lists
packets_of-bare [] = refl
packets_of-bare (list ∷ lists) = ap (λ (ls : List (List (List ℕ))). list ∷ ls) (packets_of-bare lists)

-- the packets of a port, of what was found from place i on
abbrev pub packets_from : List ℕ → List Found → ℕ → ℕ → List (List ℕ)
packets_from bytes found port i = packets_at port (map (arrival_in bytes) (drop i found))

packets_at-here : (port : ℕ) (a : Arrival) (arrivals : List Arrival) → a.interface ≡ port → packets_at port (a ∷ arrivals) ≡ a.packet ∷ packets_at port arrivals
packets_at-here port a arrivals is =
    let same : eqb a.interface port ≡ true = grind (arith, is) in
    rw same refl

packets_at-else : (port : ℕ) (a : Arrival) (arrivals : List Arrival) → (a.interface ≡ port → ⊥) → packets_at port (a ∷ arrivals) ≡ packets_at port arrivals
packets_at-else port a arrivals not_it = rw (ne_eqb a.interface port not_it) refl

-- where the next is one of the port
pub packets_from-here : (bytes : List ℕ) (found : List Found) (port i : ℕ) (f : Found) → slice_get found i ≡ Some f → f.interface ≡ port → packets_from bytes found port i ≡ at_span bytes f.span ∷ packets_from bytes found port (i + 1)
packets_from-here bytes found port i f e is =
    ap (λ (fs : List Found). packets_at port (map (arrival_in bytes) fs)) (first_left found i f e)
    ∙ packets_at-here port (arrival_in bytes f) (map (arrival_in bytes) (drop (i + 1) found)) is

-- and where it isn't
pub packets_from-else : (bytes : List ℕ) (found : List Found) (port i : ℕ) (f : Found) → slice_get found i ≡ Some f → (f.interface ≡ port → ⊥) → packets_from bytes found port i ≡ packets_from bytes found port (i + 1)
packets_from-else bytes found port i f e not_it =
    ap (λ (fs : List Found). packets_at port (map (arrival_in bytes) fs)) (first_left found i f e)
    ∙ packets_at-else port (arrival_in bytes f) (map (arrival_in bytes) (drop (i + 1) found)) not_it
