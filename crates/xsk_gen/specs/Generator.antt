-- The packets that the generator makes. This project's own.
use Rattle.std.specs.Prelude.{ℕ, ◌+◌, ◌*◌, ◌/◌, ◌%◌, ◌^◌, ◌==◌, zero, suc, nat_lt, List, [], ◌∷◌, ◌++◌, if◌then◌else◌}

-- the first n values of f, from that of 0
unfoldable pub first : {A : Type 0} → ℕ → (ℕ → A) → List A
first zero f = []
first (suc n) f = first n f ++ f n ∷ []

-- the state before the first draw
abbrev pub first_state : ℕ → ℕ → ℕ
first_state number port = (number + 65536 * port) % 2 ^ 32

-- a draw gives the state another value
abbrev pub next_state : ℕ → ℕ
next_state x = (x * 1103515245 + 12345) % 2 ^ 32

-- and gives what is drawn, by the new state
abbrev pub drawn : ℕ → ℕ
drawn x = x / 65536

-- the state after n draws
unfoldable pub state_after : ℕ → ℕ → ℕ
state_after zero x = x
state_after (suc n) x = next_state (state_after n x)

-- draw n from a state, counted from 0
abbrev pub draw : ℕ → ℕ → ℕ
draw x n = drawn (state_after (suc n) x)

-- the kind of the packet, IPv4 or IPv6
abbrev pub kind_byte : ℕ → ℕ → ℕ
kind_byte k i =
    if k % 2 == 0 then (if i == 12 then 8 else 0)
    else (if i == 12 then 134 else 221)

-- byte i of packet k, of which the draws begin at the state x: draw 0 is the length's, and the next twelve are bytes
abbrev pub byte_at : ℕ → ℕ → ℕ → ℕ
byte_at k x i =
    if nat_lt i 12 then draw x (suc i) % 256
    else if nat_lt i 14 then kind_byte k i
    else (i + k) % 256

abbrev pub length_at : ℕ → ℕ
length_at x = 60 + draw x 0 % 1455

abbrev pub packet_at : ℕ → ℕ → List ℕ
packet_at k x = first (length_at x) (byte_at k x)

-- packet k of a number and a port, from 0: each packet takes thirteen draws
abbrev pub packet : ℕ → ℕ → ℕ → List ℕ
packet number port k = packet_at k (state_after (13 * k) (first_state number port))
