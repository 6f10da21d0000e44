-- A field holds the number that is read from it, and a number is read from the field that holds it.
use Rattle.std.proofs.Common.{◌≡◌, ℕ, ◌+◌, ◌^◌, ◌<◌, ◌≤◌, List, ◌++◌, length, get_or, take, drop, sym, ap, ◌∙◌, arith, inl, inr}
use Rattle.std.proofs.lemmas.Bool.{cases_lt}
use Rattle.std.proofs.lemmas.List.{take-append-drop, drop-drop, length-take, length-drop, get_or-drop, get_or-take, get_or_past}
use Rattle.std.proofs.lemmas.Nat.{le_bytes_2, be_bytes_2, le_bytes_4, be_bytes_4}
use Rattle.byteorder.specs.Numbers.{big_number-reads_back, little_number-reads_back, length-bytes_high_first, length-bytes_low_first}
use Rattle.xsk_pcap.specs.declared.endianness.Endianness.{Endianness}
use Rattle.xsk_pcap.specs.declared.endianness.Endianness.TheVariants.{Little, Big}
use Rattle.xsk_pcap.specs.Numbers.{field, number_in}

abbrev pub IsBytes : List ℕ → Type 0
IsBytes bytes = (i : ℕ) → get_or bytes i 0 < 256

pub IsBytes-drop : (n : ℕ) (bytes : List ℕ) → IsBytes bytes → IsBytes (drop n bytes)
IsBytes-drop n bytes h i = rw get_or-drop (h (n + i))

IsBytes-take : (n : ℕ) (bytes : List ℕ) → IsBytes bytes → IsBytes (take n bytes)
IsBytes-take n bytes h i =
    elim (cases_lt i n) [
      | inl lt ↦ rw (get_or-take n bytes i 0 lt) (h i)
      | inr le ↦ rw (get_or_past (take n bytes) i 0 (omega (arith, length-take n bytes))) (omega arith)
    ]

-- the field of four bytes at the front, by the number in it
pub field-number_in_4 : (order : Endianness) (bytes : List ℕ) → 4 ≤ length bytes → IsBytes bytes → field order 4 (number_in order 4 bytes) ≡ take 4 bytes
field-number_in_4 Little bytes long fits =
    let at = λ (i : ℕ) (lt : i < 4). get_or-take 4 bytes i 0 lt in
    le_bytes_4 (take 4 bytes) (number_in Little 4 bytes) (omega (arith, length-take 4 bytes)) (IsBytes-take 4 bytes fits)
    (omega (arith, at 0 (omega arith), at 1 (omega arith), at 2 (omega arith), at 3 (omega arith)))
field-number_in_4 Big bytes long fits =
    let at = λ (i : ℕ) (lt : i < 4). get_or-take 4 bytes i 0 lt in
    be_bytes_4 (take 4 bytes) (number_in Big 4 bytes) (omega (arith, length-take 4 bytes)) (IsBytes-take 4 bytes fits)
    (omega (arith, at 0 (omega arith), at 1 (omega arith), at 2 (omega arith), at 3 (omega arith)))

-- the same for two bytes
pub field-number_in_2 : (order : Endianness) (bytes : List ℕ) → 2 ≤ length bytes → IsBytes bytes → field order 2 (number_in order 2 bytes) ≡ take 2 bytes
field-number_in_2 Little bytes long fits =
    let at = λ (i : ℕ) (lt : i < 2). get_or-take 2 bytes i 0 lt in
    le_bytes_2 (take 2 bytes) (number_in Little 2 bytes) (omega (arith, length-take 2 bytes)) (IsBytes-take 2 bytes fits)
    (omega (arith, at 0 (omega arith), at 1 (omega arith)))
field-number_in_2 Big bytes long fits =
    let at = λ (i : ℕ) (lt : i < 2). get_or-take 2 bytes i 0 lt in
    be_bytes_2 (take 2 bytes) (number_in Big 2 bytes) (omega (arith, length-take 2 bytes)) (IsBytes-take 2 bytes fits)
    (omega (arith, at 0 (omega arith), at 1 (omega arith)))

-- the number in a field, whatever follows it
pub number_in-field : (order : Endianness) (n x : ℕ) (rest : List ℕ) → x < 256 ^ n → number_in order n (field order n x ++ rest) ≡ x
number_in-field Little n x rest fits = little_number-reads_back n x rest fits
number_in-field Big n x rest fits = big_number-reads_back n x rest fits

pub length-field : (order : Endianness) (n x : ℕ) → length (field order n x) ≡ n
length-field Little n x = length-bytes_low_first 0 n x
length-field Big n x = length-bytes_high_first n x

-- ---- the pieces of a list, cut one after another

-- the n bytes from place k, and the bytes from place m on
pub cut : (n k m : ℕ) (bytes : List ℕ) → k + n ≡ m → take n (drop k bytes) ++ drop m bytes ≡ drop k bytes
cut n k m bytes sum =
    ap (λ (j : ℕ). take n (drop k bytes) ++ drop j bytes) (sym sum)
    ∙ ap (λ (t : List ℕ). take n (drop k bytes) ++ t) (sym (drop-drop n k bytes))
    ∙ take-append-drop n (drop k bytes)

-- the field of four bytes at place k, and the bytes from place m on
pub cut_4 : (order : Endianness) (k m : ℕ) (bytes : List ℕ) → k + 4 ≡ m → m ≤ length bytes → IsBytes bytes → field order 4 (number_in order 4 (drop k bytes)) ++ drop m bytes ≡ drop k bytes
cut_4 order k m bytes sum long fits =
    rw (field-number_in_4 order (drop k bytes) (omega (arith, length-drop k bytes)) (IsBytes-drop k bytes fits)) (cut 4 k m bytes sum)

pub cut_2 : (order : Endianness) (k m : ℕ) (bytes : List ℕ) → k + 2 ≡ m → m ≤ length bytes → IsBytes bytes → field order 2 (number_in order 2 (drop k bytes)) ++ drop m bytes ≡ drop k bytes
cut_2 order k m bytes sum long fits =
    rw (field-number_in_2 order (drop k bytes) (omega (arith, length-drop k bytes)) (IsBytes-drop k bytes fits)) (cut 2 k m bytes sum)
