-- Files as they are written: the fields are those of the pcapng draft, and what they hold is this project's own.
use Rattle.std.specs.Prelude.{ℕ, None, ◌+◌, ◌-◌, ◌/◌, ◌%◌, ◌^◌, ◌≤◌, List, [], ◌∷◌, ◌++◌, length, map, replicate}
use Rattle.std.specs.List.{concat, flat_map, AllByRecursion}
use Rattle.byteorder.specs.Endian.{little_bytes}
use Rattle.xsk_umem.specs.PacketList.{PacketList}
use Rattle.xsk_pcapng.specs.Limits.{most_captured, most_packets, most_bytes, most_lists}
use Rattle.xsk_pcapng.specs.Blocks.{section_header, interface_description, enhanced_packet, padded}
use Rattle.xsk_pcapng.specs.Pcapng.{byte_order_magic}

-- a type, the total length, the body, and the total length again
abbrev pub block_bytes : ℕ → List ℕ → List ℕ
block_bytes kind body = little_bytes 4 kind ++ little_bytes 4 (12 + length body) ++ body ++ little_bytes 4 (12 + length body)

-- the magic, the version 1.0, and no section length
abbrev pub section_block : List ℕ
section_block = block_bytes section_header (little_bytes 4 byte_order_magic ++ little_bytes 2 1 ++ little_bytes 2 0 ++ little_bytes 8 (2 ^ 64 - 1))

-- the link type 1, and a snapshot length of 262,144
abbrev pub interface_block : List ℕ
interface_block = block_bytes interface_description (little_bytes 2 1 ++ little_bytes 2 0 ++ little_bytes 4 most_captured)

-- the bytes of a packet's padding
abbrev pub padding : ℕ → List ℕ
padding n = replicate (padded n - n) 0

-- packet k of all, whose time is k microseconds: the interface, the time's higher and lower half, the captured and the
-- original length, and the padded bytes
abbrev pub packet_block : ℕ → ℕ → List ℕ → List ℕ
packet_block interface k packet =
    block_bytes enhanced_packet (
    little_bytes 4 interface ++ little_bytes 4 (k / 2 ^ 32) ++ little_bytes 4 (k % 2 ^ 32)
    ++ little_bytes 4 (length packet) ++ little_bytes 4 (length packet) ++ packet ++ padding (length packet)
    )

-- the packets of one interface, numbered from k on
abbrev pub list_blocks : ℕ → ℕ → List (List ℕ) → List (List ℕ)
list_blocks interface k [] = []
list_blocks interface k (packet ∷ packets) = packet_block interface k packet ∷ list_blocks interface (k + 1) packets

-- the packets of the interfaces from this one on, numbered from k on over all
abbrev pub lists_blocks : ℕ → ℕ → List (List (List ℕ)) → List (List ℕ)
lists_blocks interface k [] = []
lists_blocks interface k (list ∷ lists) = list_blocks interface k list ++ lists_blocks (interface + 1) (k + length list) lists

-- a section header, an interface for each list, and the packets of each list in order
abbrev pub written_blocks : List (List (List ℕ)) → List (List ℕ)
written_blocks lists = section_block ∷ (replicate (length lists) interface_block ++ lists_blocks 0 0 lists)

abbrev pub written : List (List (List ℕ)) → List ℕ
written lists = concat (written_blocks lists)

-- the bytes of packets' blocks
abbrev pub size_of_blocks : List (List ℕ) → ℕ
size_of_blocks [] = 0
size_of_blocks (packet ∷ packets) = 32 + padded (length packet) + size_of_blocks packets

-- the packets of lists
abbrev pub packets_of : List PacketList → List (List (List ℕ))
packets_of lists = map (λ l. l.packets) lists

-- the list of packets that has no gaps and no room for others
abbrev pub bare : List (List ℕ) → PacketList
bare packets = record { packets = packets; gaps = None; spare_packets = 0; spare_bytes = 0 }

-- few enough bytes of one packet
abbrev pub IsShort : List ℕ → Type 0
IsShort packet = length packet ≤ most_captured

-- all packets of the lists, in order
abbrev pub all_packets : List (List (List ℕ)) → List (List ℕ)
all_packets lists = flat_map (λ list. list) lists

-- what may be written into one file; these limits are this project's own
pub record IsWritable (lists : List (List (List ℕ))) : Type 0 where
  pub few : length lists ≤ most_lists
  pub each : AllByRecursion IsShort (all_packets lists)
  pub packets : length (all_packets lists) ≤ most_packets
  pub bytes : length (concat (all_packets lists)) ≤ most_bytes
