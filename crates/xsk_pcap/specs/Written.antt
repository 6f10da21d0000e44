-- Captures as they are written: the fields are those of pcap-savefile(5), and what they hold is this project's own.
use Rattle.std.specs.Prelude.{ℕ, ◌+◌, ◌/◌, ◌%◌, ◌≤◌, List, [], ◌∷◌, ◌++◌, length}
use Rattle.std.specs.List.{flat_map, concat, AllByRecursion}
use Rattle.byteorder.specs.Endian.{little_bytes}
use Rattle.xsk_pcap.specs.declared.endianness.Endianness.TheVariants.{Little}
use Rattle.xsk_pcap.specs.Limits.{most_captured, most_packets, most_bytes}
use Rattle.xsk_pcap.specs.Capture.{Header, header_bytes, Record, record_bytes, IsShort}

abbrev pub written_header : Header
written_header = record { magic = 0xa1b2c3d4; zone = 0; figures = 0; snaplen = most_captured }

-- record k, whose time is k microseconds
abbrev pub written_record : ℕ → List ℕ → Record
written_record k packet = record { seconds = k / 1000000; fraction = k % 1000000; original = length packet; packet = packet }

-- the header of record k, of a packet of so many bytes
abbrev pub header_of : ℕ → ℕ → List ℕ
header_of k len = little_bytes 4 (k / 1000000) ++ little_bytes 4 (k % 1000000) ++ little_bytes 4 len ++ little_bytes 4 len

-- the records of packets, numbered from k on
abbrev pub written_records : ℕ → List (List ℕ) → List Record
written_records k [] = []
written_records k (packet ∷ packets) = written_record k packet ∷ written_records (k + 1) packets

-- the bytes of these records
abbrev pub text_of : ℕ → List (List ℕ) → List ℕ
text_of k packets = flat_map (record_bytes Little) (written_records k packets)

-- all packets of the lists, in order
abbrev pub all_packets : List (List (List ℕ)) → List (List ℕ)
all_packets lists = flat_map (λ list. list) lists

-- the records are numbered from 0 over all lists
abbrev pub written : List (List (List ℕ)) → List ℕ
written lists = header_bytes Little written_header ++ text_of 0 (all_packets lists)

-- what may be written into one capture; these limits are this project's own
pub record IsWritable (lists : List (List (List ℕ))) : Type 0 where
  pub each : AllByRecursion IsShort (all_packets lists)
  pub packets : length (all_packets lists) ≤ most_packets
  pub bytes : length (concat (all_packets lists)) ≤ most_bytes
