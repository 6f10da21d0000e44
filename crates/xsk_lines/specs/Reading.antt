-- How the words of a line are read: numbers, rings and descriptors. A reader gives what it read, and the text behind it.
use Rattle.std.specs.Prelude.{ℕ, ◌+◌, ◌-◌, ◌*◌, ◌^◌, ◌==◌, ◌&&◌, Bool, false, nat_le, nat_lt, if◌then◌else◌, Option, None, Some, List, [], ◌∷◌, codes}
use Rattle.std.specs.Char.{is_ascii_digit}
use Rattle.std.specs.Borrow.{Bor}
use Rattle.xsk_umem.specs.declared.batch.XdpDesc.{XdpDesc}
use Rattle.xsk_model.specs.declared.call.Ring.{Ring}
use Rattle.xsk_model.specs.declared.call.Ring.TheVariants.{Fill, Comp, Rx, Tx}

-- what was read and the text behind it, or nothing
abbrev pub Reads : Type 0 → Type 0
Reads A = Option (A × List ℕ)

-- what a function read, with the text behind the reference
abbrev pub read_view : {A : Type 0} → Option (A × Bor (List ℕ)) → Reads A
read_view None = None
read_view (Some read) = Some (read.0, read.1.now)

abbrev pub text_view : Option (Bor (List ℕ)) → Option (List ℕ)
text_view None = None
text_view (Some text) = Some text.now

infixl 10 ◌>>=◌
abbrev pub ◌>>=◌ : {A B : Type 0} → Option A → (A → Option B) → Option B
None >>= f = None
Some x >>= f = f x

-- what follows a word that stands here, or else the other
abbrev pub choose : {A : Type 0} → Option (List ℕ) → (List ℕ → Option A) → Option A → Option A
choose None f other = other
choose (Some rest) f other = f rest

-- the text behind a word
unfoldable pub word_at : List ℕ → List ℕ → Option (List ℕ)
word_at [] xs = Some xs
word_at (w ∷ word) [] = None
word_at (w ∷ word) (x ∷ xs) = if x == w then word_at word xs else None

-- ---- numbers

-- the digits ended: there was one at least
abbrev pub digits_end : ℕ → ℕ → List ℕ → Reads ℕ
digits_end value len rest = if nat_lt 0 len then Some (value, rest) else None

-- whether a number has gone on behind a first digit of zero
abbrev pub is_leading_zero : ℕ → ℕ → Bool
is_leading_zero value len = value == 0 && nat_lt 0 len

-- a number, from the value and the count of the digits that were read
unfoldable pub digits_from : ℕ → ℕ → List ℕ → Reads ℕ
digits_from value len [] = digits_end value len []
digits_from value len (b ∷ rest) =
    if is_ascii_digit b then
    if is_leading_zero value len then None
    else if nat_le (2 ^ 64) (value * 10 + (b - 48)) then None
    else digits_from (value * 10 + (b - 48)) (len + 1) rest
    else digits_end value len (b ∷ rest)

-- decimal digits without leading zeros, of a number below 2^64, and below 2^32
abbrev pub number_at : List ℕ → Reads ℕ
number_at xs = digits_from 0 0 xs

abbrev pub fitting : ℕ × List ℕ → Reads ℕ
fitting read = if nat_lt read.0 (2 ^ 32) then Some read else None

unfoldable pub small_at : List ℕ → Reads ℕ
small_at xs = number_at xs >>= fitting

-- a number behind a word
abbrev pub numbered : {A : Type 0} → (ℕ → A) → List ℕ → Reads A
numbered make xs = small_at xs >>= λ read. Some (make read.0, read.1)

-- ---- rings

-- the ring of this one's kind with a number
abbrev pub ring_like : Ring → ℕ → Ring
ring_like (Fill _) n = Fill n
ring_like (Comp _) n = Comp n
ring_like (Rx _) n = Rx n
ring_like (Tx _) n = Tx n

unfoldable pub ring_at : List ℕ → Reads Ring
ring_at xs =
    choose (word_at (codes "fill.") xs) (numbered Fill)
    (choose (word_at (codes "comp.") xs) (numbered Comp)
    (choose (word_at (codes "rx.") xs) (numbered Rx)
    (choose (word_at (codes "tx.") xs) (numbered Tx) None)))

-- ---- descriptors

unfoldable pub desc_at : List ℕ → Reads XdpDesc
desc_at xs =
    number_at xs >>= λ addr. word_at (codes ":") addr.1 >>= λ rest.
    small_at rest >>= λ len. word_at (codes ":") len.1 >>= λ later.
    small_at later >>= λ options. Some (record { addr = addr.0; len = len.0; options = options.0 }, options.1)

-- an item begins here: a space and a digit
abbrev pub begins_item : List ℕ → Bool
begins_item [] = false
begins_item (x ∷ []) = false
begins_item (x ∷ y ∷ xs) = x == 32 && is_ascii_digit y
