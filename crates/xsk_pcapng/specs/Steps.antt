-- What the steps of reading a file find.
use Rattle.std.specs.Prelude.{◌≡◌, ℕ, ◌+◌, ◌%◌, ◌<◌, ◌≤◌, ◌==◌, List, [], ◌∷◌, ◌++◌, length, take, drop, map, All}
use Rattle.std.specs.List.{filter}
use Rattle.xsk_umem.specs.Span.{at_span, IsWithin, AreFrom}
use Rattle.xsk_umem.specs.declared.packet_list.Span.{Span}
use Rattle.xsk_pcap.specs.declared.endianness.Endianness.{Endianness}
use Rattle.xsk_pcapng.specs.declared.reading.Content.{Content}
use Rattle.xsk_pcapng.specs.declared.reading.Content.TheVariants.{Other, Interface, Packet}
use Rattle.xsk_pcapng.specs.declared.reading.Found.{Found}
use Rattle.xsk_pcapng.specs.Limits.{most_captured}
use Rattle.xsk_pcapng.specs.Blocks.{kind_in, total_in, last_in, link_in, interface_in, captured_in, least, padded, interfaces_after, Arrival, arrivals_of, arrivals_in}
use Rattle.xsk_pcapng.specs.Pcapng.{Begins}

-- the bytes are a block by its length, and then the rest
pub record CutsOff (order : Endianness) (bytes block rest : List ℕ) : Type 0 where
  pub whole : block ++ rest ≡ bytes
  pub long : 12 ≤ length block
  pub multiple : length block % 4 ≡ 0
  pub total : total_in order bytes ≡ length block

-- what a block holds for a reader
abbrev pub Holds : Endianness → ℕ → List ℕ → Content → Type 0
Holds order n block Other = (interfaces_after order n block ≡ n) × (arrivals_of order block ≡ [])
Holds order n block Interface = (interfaces_after order n block ≡ n + 1) × (arrivals_of order block ≡ [])
Holds order n block (Packet interface len) =
    (interfaces_after order n block ≡ n)
    × (arrivals_of order block ≡ (record { interface = interface; packet = take len (drop 28 block) }) ∷ [])
    × (28 + len ≤ length block)

-- the block's type, where the total length stands again at its end and is enough for the type
pub record IsEnds (order : Endianness) (block : List ℕ) (kind : ℕ) : Type 0 where
  pub kind_is : kind_in order block ≡ kind
  pub long : least kind ≤ length block
  pub last : last_in order block ≡ length block

-- an interface that may stand behind so many others
pub record FitsInterface (order : Endianness) (ports interfaces : ℕ) (block : List ℕ) : Type 0 where
  pub ethernet : link_in order block ≡ 1
  pub port : interfaces < ports

-- a packet that may stand behind so many interfaces
pub record HoldsPacket (order : Endianness) (interfaces : ℕ) (block : List ℕ) (interface captured : ℕ) : Type 0 where
  pub interface_is : interface_in order block ≡ interface
  pub captured_is : captured_in order block ≡ captured
  pub known : interface < interfaces
  pub short : captured ≤ most_captured
  pub within : 32 + padded captured ≤ length block

-- a packet that was found, as it stands in the bytes
abbrev pub arrival_in : List ℕ → Found → Arrival
arrival_in bytes found = record { interface = found.interface; packet = at_span bytes found.span }

abbrev pub IsFoundIn : List ℕ → Found → Type 0
IsFoundIn bytes found = IsWithin bytes found.span

-- where packets that were found stand
abbrev pub spans_in : List Found → List Span
spans_in found = map (λ (f : Found). f.span) found

-- and where those of one port stand
abbrev pub spans_at : ℕ → List Found → List Span
spans_at port found = spans_in (filter (λ (f : Found). f.interface == port) found)

-- the bytes are a file, and these are its packets in order
pub record Finds (order : Endianness) (ports : ℕ) (bytes : List ℕ) (found : List Found) : Type 0 where
  pub blocks : List (List ℕ)
  pub begins : Begins order ports bytes blocks []
  pub shown : map (arrival_in bytes) found ≡ arrivals_in order blocks
  pub within : All (IsFoundIn bytes) found
  pub apart : AreFrom 0 (spans_in found)
