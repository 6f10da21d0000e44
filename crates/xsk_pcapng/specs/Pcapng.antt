-- Files (pcapng draft): blocks up to the end, of which the first is a section header block. Interface i is port i, and a
-- port without an interface has no packets. That there is one section, and which check comes first, is this project's own.
use Rattle.std.specs.Prelude.{◌≡◌, ℕ, zero, suc, ◌+◌, ◌<◌, ◌≤◌, ◌⊎◌, ◌==◌, ◌%◌, ◌||◌, not, if◌then◌else◌, nat_lt, nat_le, List, [], ◌∷◌, ◌++◌, length, take, drop, Option, Some, None}
use Rattle.std.specs.List.{concat}
use Rattle.xsk_pcap.specs.declared.endianness.Endianness.{Endianness}
use Rattle.xsk_pcap.specs.declared.endianness.Endianness.TheVariants.{Little, Big}
use Rattle.xsk_pcapng.specs.declared.reading.BadPcapng.{BadPcapng}
use Rattle.xsk_pcapng.specs.declared.reading.BadPcapng.TheVariants.{ShortHeader, BadMagic, BadVersion, Truncated, BadBlock, SecondSection, BadLink, TooManyInterfaces, OtherPacket, NoInterface, RecordTooLong, OutOfMemory}
use Rattle.xsk_pcapng.specs.Limits.{most_captured}
use Rattle.xsk_pcap.specs.Numbers.{number_in}
use Rattle.xsk_pcapng.specs.Blocks.{section_header, interface_description, obsolete_packet, simple_packet, enhanced_packet, kind_in, total_in, last_in, link_in, interface_in, captured_in, least, padded, AreBlocks, interfaces_behind, Arrival, arrivals_in, packets_at}

-- ---- what a file is

abbrev pub byte_order_magic : ℕ
byte_order_magic = 0x1a2b3c4d

-- the byte order in which the magic reads so
abbrev pub order_of : List ℕ → Option Endianness
order_of bytes =
    if number_in Little 4 (drop 8 bytes) == byte_order_magic then Some Little
    else if number_in Big 4 (drop 8 bytes) == byte_order_magic then Some Big
    else None

-- the section header, whose type reads the same in both byte orders, and whose major version is 1
pub record PassesHeader (order : Endianness) (bytes : List ℕ) : Type 0 where
  pub long : 28 ≤ length bytes
  pub kind : kind_in Little bytes ≡ section_header
  pub magic : order_of bytes ≡ Some order
  pub major : number_in order 2 (drop 12 bytes) ≡ 1

-- the bytes have a section header, and are these blocks and then the rest
pub record Begins (order : Endianness) (ports : ℕ) (bytes : List ℕ) (blocks : List (List ℕ)) (rest : List ℕ) : Type 0 where
  pub header : PassesHeader order bytes
  pub are : AreBlocks order ports 0 0 blocks
  pub whole : concat blocks ++ rest ≡ bytes

-- the packets of interfaces 0 to n - 1
abbrev pub lists_of : ℕ → List Arrival → List (List (List ℕ))
lists_of zero arrivals = []
lists_of (suc n) arrivals = lists_of n arrivals ++ packets_at n arrivals ∷ []

-- the bytes are a file in which the ports have these lists of packets
pub record IsPcapng (ports : ℕ) (bytes : List ℕ) (lists : List (List (List ℕ))) : Type 0 where
  pub order : Endianness
  pub blocks : List (List ℕ)
  pub begins : Begins order ports bytes blocks []
  pub lists_are : lists_of ports (arrivals_in order blocks) ≡ lists

-- ---- what is refused

abbrev pub version_refusal : Option Endianness → List ℕ → Option BadPcapng
version_refusal None bytes = Some BadMagic
version_refusal (Some order) bytes = if not (number_in order 2 (drop 12 bytes) == 1) then Some BadVersion else None

-- the first check of the section header that fails
abbrev pub header_refusal : List ℕ → Option BadPcapng
header_refusal bytes =
    if nat_lt (length bytes) 28 then Some ShortHeader
    else if not (kind_in Little bytes == section_header) then Some BadMagic
    else version_refusal (order_of bytes) bytes

-- the first check of the length of the block at the front that fails, where the block begins at this byte of the file
abbrev pub length_refusal : Endianness → ℕ → List ℕ → Option BadPcapng
length_refusal order at bytes =
    if nat_lt (length bytes) 12 then Some (Truncated at)
    else if nat_lt (total_in order bytes) 12 || not (total_in order bytes % 4 == 0) then Some (BadBlock at)
    else if nat_lt (length bytes) (total_in order bytes) then Some (Truncated at)
    else None

abbrev pub interface_refusal : Endianness → ℕ → ℕ → ℕ → List ℕ → Option BadPcapng
interface_refusal order ports at interfaces block =
    if not (link_in order block == 1) then Some (BadLink at)
    else if nat_le ports interfaces then Some (TooManyInterfaces at)
    else None

abbrev pub packet_refusal : Endianness → ℕ → ℕ → List ℕ → Option BadPcapng
packet_refusal order at interfaces block =
    if nat_le interfaces (interface_in order block) then Some (NoInterface at)
    else if nat_lt most_captured (captured_in order block) then Some (RecordTooLong at)
    else if nat_lt (length block) (32 + padded (captured_in order block)) then Some (BadBlock at)
    else None

-- by the type of the block
abbrev pub kind_refusal : Endianness → ℕ → ℕ → ℕ → List ℕ → Option BadPcapng
kind_refusal order ports at interfaces block =
    if kind_in order block == section_header then (if at == 0 then None else Some (SecondSection at))
    else if kind_in order block == interface_description then interface_refusal order ports at interfaces block
    else if kind_in order block == obsolete_packet || kind_in order block == simple_packet then Some (OtherPacket at)
    else if kind_in order block == enhanced_packet then packet_refusal order at interfaces block
    else None

-- the first check of a block of so many bytes that fails
abbrev pub content_refusal : Endianness → ℕ → ℕ → ℕ → List ℕ → Option BadPcapng
content_refusal order ports at interfaces block =
    if not (last_in order block == length block) || nat_lt (length block) (least (kind_in order block)) then Some (BadBlock at)
    else kind_refusal order ports at interfaces block

abbrev pub or_else : Option BadPcapng → Option BadPcapng → Option BadPcapng
or_else None later = later
or_else (Some first) later = Some first

-- the first check of the block at the front that fails: its length, and then its type's own
abbrev pub block_refusal : Endianness → ℕ → ℕ → ℕ → List ℕ → Option BadPcapng
block_refusal order ports at interfaces bytes =
    or_else (length_refusal order at bytes) (content_refusal order ports at interfaces (take (total_in order bytes) bytes))

-- after whole blocks there are further bytes, and the block that begins there fails
pub record FailsAtBlock (ports : ℕ) (bytes : List ℕ) (refusal : BadPcapng) : Type 0 where
  pub order : Endianness
  pub blocks : List (List ℕ)
  pub rest : List ℕ
  pub begins : Begins order ports bytes blocks rest
  pub more : 0 < length rest
  pub fails : block_refusal order ports (length (concat blocks)) (interfaces_behind order 0 blocks) rest ≡ Some refusal

-- the first check that fails, from the front of the file
abbrev pub IsRefused : ℕ → List ℕ → BadPcapng → Type 0
IsRefused ports bytes refusal = (header_refusal bytes ≡ Some refusal) ⊎ FailsAtBlock ports bytes refusal

-- why bytes aren't read: a check fails, or all pass and memory can't be had
abbrev pub IsCause : ℕ → List ℕ → BadPcapng → Type 0
IsCause ports bytes cause =
    IsRefused ports bytes cause ⊎ ((cause ≡ OutOfMemory) × (lists : List (List (List ℕ))) × IsPcapng ports bytes lists)
