-- Blocks (pcapng draft, "General Block Structure"): a type, the block's total length, a body, and the total length
-- again. Types, lengths and the numbers in the body stand in the section's byte order. Options, and the blocks of types
-- that aren't named here, are passed over. Which blocks may stand in a file, and that a captured length is at most
-- 262,144, is this project's own.
use Rattle.std.specs.Prelude.{◌≡◌, ◌≢◌, ℕ, ◌+◌, ◌-◌, ◌*◌, ◌/◌, ◌%◌, ◌<◌, ◌≤◌, ◌==◌, if◌then◌else◌, List, [], ◌∷◌, length, take, drop, map}
use Rattle.std.specs.List.{flat_map, filter}
use Rattle.xsk_pcap.specs.declared.endianness.Endianness.{Endianness}
use Rattle.xsk_pcapng.specs.Limits.{most_captured}
use Rattle.xsk_pcap.specs.Numbers.{number_in}

-- ---- the types of blocks

abbrev pub section_header : ℕ
section_header = 0x0a0d0d0a

abbrev pub interface_description : ℕ
interface_description = 1

-- the Packet Block, which is obsolete
abbrev pub obsolete_packet : ℕ
obsolete_packet = 2

abbrev pub simple_packet : ℕ
simple_packet = 3

abbrev pub enhanced_packet : ℕ
enhanced_packet = 6

-- ---- the fields of a block

abbrev pub kind_in : Endianness → List ℕ → ℕ
kind_in order block = number_in order 4 block

abbrev pub total_in : Endianness → List ℕ → ℕ
total_in order block = number_in order 4 (drop 4 block)

-- the total length again, in the last four bytes
abbrev pub last_in : Endianness → List ℕ → ℕ
last_in order block = number_in order 4 (drop (length block - 4) block)

-- the link type of an interface
abbrev pub link_in : Endianness → List ℕ → ℕ
link_in order block = number_in order 2 (drop 8 block)

-- the interface of a packet
abbrev pub interface_in : Endianness → List ℕ → ℕ
interface_in order block = number_in order 4 (drop 8 block)

-- the captured length of a packet
abbrev pub captured_in : Endianness → List ℕ → ℕ
captured_in order block = number_in order 4 (drop 20 block)

-- the captured bytes of a packet
abbrev pub packet_in : Endianness → List ℕ → List ℕ
packet_in order block = take (captured_in order block) (drop 28 block)

-- ---- what a block is

-- the least total length of a block of this type
abbrev pub least : ℕ → ℕ
least kind =
    if kind == section_header then 28
    else if kind == interface_description then 20
    else if kind == enhanced_packet then 32
    else 12

-- the bytes of a packet with its padding, up to a multiple of 4
abbrev pub padded : ℕ → ℕ
padded n = (n + 3) / 4 * 4

-- a block by its length
pub record IsBlock (order : Endianness) (block : List ℕ) : Type 0 where
  pub long : least (kind_in order block) ≤ length block
  pub multiple : length block % 4 ≡ 0
  pub total : total_in order block ≡ length block
  pub last : last_in order block ≡ length block

-- a block that may stand at this byte of the file, behind so many interfaces, where there are so many ports
pub record MayStand (order : Endianness) (ports at interfaces : ℕ) (block : List ℕ) : Type 0 where
  pub one_section : kind_in order block ≡ section_header → at ≡ 0
  pub ethernet : kind_in order block ≡ interface_description → link_in order block ≡ 1
  pub port : kind_in order block ≡ interface_description → interfaces < ports
  pub no_obsolete : kind_in order block ≢ obsolete_packet
  pub no_simple : kind_in order block ≢ simple_packet
  pub interface : kind_in order block ≡ enhanced_packet → interface_in order block < interfaces
  pub short : kind_in order block ≡ enhanced_packet → captured_in order block ≤ most_captured
  pub within : kind_in order block ≡ enhanced_packet → 32 + padded (captured_in order block) ≤ length block

-- ---- blocks in order

-- how many interfaces there are behind a block
abbrev pub interfaces_after : Endianness → ℕ → List ℕ → ℕ
interfaces_after order n block = if kind_in order block == interface_description then n + 1 else n

-- and behind blocks
abbrev pub interfaces_behind : Endianness → ℕ → List (List ℕ) → ℕ
interfaces_behind order n [] = n
interfaces_behind order n (block ∷ blocks) = interfaces_behind order (interfaces_after order n block) blocks

-- blocks one behind the other from this byte of the file on, behind so many interfaces
abbrev pub AreBlocks : Endianness → ℕ → ℕ → ℕ → List (List ℕ) → Type 0
AreBlocks order ports at interfaces [] = Unit {0}
AreBlocks order ports at interfaces (block ∷ blocks) =
    IsBlock order block × MayStand order ports at interfaces block
    × AreBlocks order ports (at + length block) (interfaces_after order interfaces block) blocks

-- ---- the packets of blocks

-- a packet and the number of its interface, counted from 0 in the order of the interfaces' blocks
pub record Arrival : Type 0 where
  pub interface : ℕ
  pub packet : List ℕ

abbrev pub arrivals_of : Endianness → List ℕ → List Arrival
arrivals_of order block =
    if kind_in order block == enhanced_packet then (record { interface = interface_in order block; packet = packet_in order block }) ∷ []
    else []

abbrev pub arrivals_in : Endianness → List (List ℕ) → List Arrival
arrivals_in order blocks = flat_map (arrivals_of order) blocks

-- the packets of one interface, in order
abbrev pub packets_at : ℕ → List Arrival → List (List ℕ)
packets_at i arrivals = map (λ a. a.packet) (filter (λ a. a.interface == i) arrivals)
