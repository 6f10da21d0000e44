-- Texts that lists share.
use Rattle.std.proofs.Common.{◌≡◌, ℕ, ◌+◌, ◌*◌, ◌<◌, ◌≤◌, List, [], ◌∷◌, ◌++◌, length, Vec, Global, refl, sym, arith}
use Rattle.std.specs.Prelude.{Option, Some, None}
use Rattle.std.specs.Arc.{arc_value}
use Rattle.std.proofs.lemmas.List.{append-nil, length-take-le}
use Rattle.xsk_umem.specs.declared.front.Front.{Front}
use Rattle.xsk_umem.specs.Shared.{front_of, bytes_of, MaySpare}

-- ---- how long a text is

-- 64 bits count the bytes of a text
pub text_small : (text : Vec ℕ Global) → length text.items < 18446744073709551616
text_small text = omega (arith, text.ok.0, text.ok.1, text.small)

-- and those in which a list's packets stand
pub bytes_small : (own : Vec ℕ Global) (front : Option Front) → length (bytes_of own.items front) < 18446744073709551616
bytes_small own None = text_small own
bytes_small own (Some front) = omega (arith, length-take-le front.len (arc_value front.text).items front.within, front.within, text_small (arc_value front.text))

-- ---- what a list may have spare

-- a list with room has a text of its own
pub own_with_room : (front : Option Front) (spare : ℕ) → MaySpare front spare → 1 ≤ spare → front ≡ None
own_with_room None spare may some = refl
own_with_room (Some front) spare may some = let none : spare ≡ 0 = may in absurd (omega (arith, none, some))

-- what fits into the room of a list stands behind its bytes
pub bytes_of-append : (own piece : List ℕ) (front : Option Front) (spare : ℕ) → MaySpare front spare → length piece ≤ spare → bytes_of (own ++ piece) front ≡ bytes_of own front ++ piece
bytes_of-append own piece None spare may fits = refl
bytes_of-append own [] (Some front) spare may fits = sym (append-nil (front_of front))
bytes_of-append own (byte ∷ bytes) (Some front) spare may fits = let none : spare ≡ 0 = may in absurd (omega (arith, none, fits))

-- less may be spare as well
pub spare_less : (front : Option Front) (spare less : ℕ) → MaySpare front spare → less ≤ spare → MaySpare front less
spare_less None spare less may few = tt
spare_less (Some front) spare less may few = let none : spare ≡ 0 = may in omega (arith, none, few)

-- and the room of packets and their gaps together
pub spare_room : (front : Option Front) (packets gap bytes : ℕ) → MaySpare front packets → MaySpare front bytes → MaySpare front (packets * gap + bytes)
spare_room None packets gap bytes may_packets may_bytes = tt
spare_room (Some front) packets gap bytes may_packets may_bytes =
    let no_packets : packets ≡ 0 = may_packets in
    let no_bytes : bytes ≡ 0 = may_bytes in
    rw (no_packets, no_bytes) (omega arith)
