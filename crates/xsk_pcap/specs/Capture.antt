-- Captures (pcap-savefile(5)): a file header of 24 bytes, and then records up to the end of the file. A record is a
-- header of 16 bytes and the captured bytes. The limit of 262,144 captured bytes, that only version 2.4 and link type 1
-- are read, and which check comes first are this project's own.
use Rattle.std.specs.Prelude.{◌≡◌, ℕ, ◌-◌, ◌<◌, ◌≤◌, ◌⊎◌, ◌==◌, ◌&&◌, ◌||◌, not, Bool, IsTrue, if◌then◌else◌, nat_lt, List, [], ◌++◌, length, drop, map, Option, Some, None}
use Rattle.std.specs.List.{flat_map, AllByRecursion}
use Rattle.xsk_pcap.specs.declared.endianness.Endianness.{Endianness}
use Rattle.xsk_pcap.specs.declared.endianness.Endianness.TheVariants.{Little, Big}
use Rattle.xsk_pcap.specs.declared.reading.BadCapture.{BadCapture}
use Rattle.xsk_pcap.specs.declared.reading.BadCapture.TheVariants.{ShortHeader, BadMagic, BadVersion, BadLink, Truncated, RecordTooLong, OutOfMemory}
use Rattle.xsk_pcap.specs.Limits.{most_captured}
use Rattle.xsk_pcap.specs.Numbers.{field, number_in}

-- ---- what a capture is

-- the magic number of time stamps in microseconds, or in nanoseconds
abbrev pub is_magic : ℕ → Bool
is_magic magic = magic == 0xa1b2c3d4 || magic == 0xa1b23c4d

-- what may differ from one file header to another
pub record Header : Type 0 where
  pub magic : ℕ
  pub zone : ℕ
  pub figures : ℕ
  pub snaplen : ℕ

-- the magic number, the version 2.4, the time zone, the accuracy of time stamps, the snapshot length, and the link type 1
abbrev pub header_bytes : Endianness → Header → List ℕ
header_bytes order h =
    field order 4 h.magic ++ field order 2 2 ++ field order 2 4
    ++ field order 4 h.zone ++ field order 4 h.figures ++ field order 4 h.snaplen ++ field order 4 1

pub record Record : Type 0 where
  pub seconds : ℕ
  pub fraction : ℕ
  pub original : ℕ
  pub packet : List ℕ

-- the seconds and their fraction, the captured and the original length, and the captured bytes
abbrev pub record_bytes : Endianness → Record → List ℕ
record_bytes order r =
    field order 4 r.seconds ++ field order 4 r.fraction
    ++ field order 4 (length r.packet) ++ field order 4 r.original ++ r.packet

-- few enough captured bytes
abbrev pub IsShort : List ℕ → Type 0
IsShort packet = length packet ≤ most_captured

-- the bytes are the records of these packets, one after another
pub record AreRecords (order : Endianness) (bytes : List ℕ) (packets : List (List ℕ)) : Type 0 where
  pub short : AllByRecursion IsShort packets
  pub records : List Record
  pub packets_are : map (λ r. r.packet) records ≡ packets
  pub bytes_are : flat_map (record_bytes order) records ≡ bytes

-- the bytes are a file header, the records of these packets, and then the rest
pub record Begins (order : Endianness) (bytes : List ℕ) (packets : List (List ℕ)) (rest : List ℕ) : Type 0 where
  pub header : Header
  pub magic : IsTrue (is_magic header.magic)
  pub body : List ℕ
  pub records : AreRecords order body packets
  pub whole : header_bytes order header ++ (body ++ rest) ≡ bytes

abbrev pub IsCapture : List ℕ → List (List ℕ) → Type 0
IsCapture bytes packets = (order : Endianness) × Begins order bytes packets []

-- ---- what is refused

-- the byte order in which the magic reads so
abbrev pub order_of : List ℕ → Option Endianness
order_of bytes =
    if is_magic (number_in Little 4 bytes) then Some Little
    else if is_magic (number_in Big 4 bytes) then Some Big
    else None

abbrev pub fields_refusal : Option Endianness → List ℕ → Option BadCapture
fields_refusal None bytes = Some BadMagic
fields_refusal (Some order) bytes =
    if not (number_in order 2 (drop 4 bytes) == 2 && number_in order 2 (drop 6 bytes) == 4) then Some BadVersion
    else if not (number_in order 4 (drop 20 bytes) == 1) then Some BadLink
    else None

-- the first check of the file header that fails
abbrev pub header_refusal : List ℕ → Option BadCapture
header_refusal bytes =
    if nat_lt (length bytes) 24 then Some ShortHeader
    else fields_refusal (order_of bytes) bytes

-- the captured length in the record header at the front
abbrev pub captured_in : Endianness → List ℕ → ℕ
captured_in order bytes = number_in order 4 (drop 8 bytes)

-- the first check of the record at the front that fails, where the record begins at this offset of the file
abbrev pub record_refusal : Endianness → ℕ → List ℕ → Option BadCapture
record_refusal order offset bytes =
    if nat_lt (length bytes) 16 then Some (Truncated offset)
    else if nat_lt most_captured (captured_in order bytes) then Some (RecordTooLong offset)
    else if nat_lt (length bytes - 16) (captured_in order bytes) then Some (Truncated offset)
    else None

-- after whole records there are further bytes, and the record that begins there fails
pub record FailsAtRecord (bytes : List ℕ) (refusal : BadCapture) : Type 0 where
  pub order : Endianness
  pub packets : List (List ℕ)
  pub rest : List ℕ
  pub begins : Begins order bytes packets rest
  pub more : 0 < length rest
  pub fails : record_refusal order (length bytes - length rest) rest ≡ Some refusal

-- the first check that fails, from the front of the file
abbrev pub IsRefused : List ℕ → BadCapture → Type 0
IsRefused bytes refusal = (header_refusal bytes ≡ Some refusal) ⊎ FailsAtRecord bytes refusal

-- why a capture isn't read: a check fails, or all pass and memory can't be had
abbrev pub IsCause : List ℕ → BadCapture → Type 0
IsCause bytes cause = IsRefused bytes cause ⊎ ((cause ≡ OutOfMemory) × (packets : List (List ℕ)) × IsCapture bytes packets)
