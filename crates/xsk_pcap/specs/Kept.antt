-- The lists that have been added to a capture, by what it keeps: its text, how many packets each list has, and how many
-- they have together.
use Rattle.std.specs.Prelude.{◌≡◌, ℕ, zero, suc, List, [], ◌∷◌, length, take, drop, map}
use Rattle.xsk_pcap.specs.declared.endianness.Endianness.TheVariants.{Little}
use Rattle.xsk_pcap.specs.Capture.{captured_in}
use Rattle.xsk_pcap.specs.Written.{written, all_packets, IsWritable}

-- the packets of so many records
abbrev pub packets_in : ℕ → List ℕ → List (List ℕ)
packets_in zero bytes = []
packets_in (suc n) bytes = take (captured_in Little bytes) (drop 16 bytes) ∷ packets_in n (drop (captured_in Little bytes) (drop 16 bytes))

-- a list cut into lists of these lengths
abbrev pub cut_into : List ℕ → List (List ℕ) → List (List (List ℕ))
cut_into [] packets = []
cut_into (n ∷ ns) packets = take n packets ∷ cut_into ns (drop n packets)

abbrev pub lists_in : List ℕ → List ℕ → ℕ → List (List (List ℕ))
lists_in text counts number = cut_into counts (packets_in number (drop 24 text))

pub record IsKept (text counts : List ℕ) (number : ℕ) : Type 0 where
  pub text_is : text ≡ written (lists_in text counts number)
  pub counts_are : counts ≡ map length (lists_in text counts number)
  pub number_is : number ≡ length (all_packets (lists_in text counts number))
  pub writable : IsWritable (lists_in text counts number)
