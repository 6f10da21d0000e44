-- What the steps of reading a capture find.
use Rattle.std.specs.Prelude.{◌≡◌, ℕ, ◌≤◌, IsTrue, List, [], ◌++◌, length, drop, map}
use Rattle.xsk_umem.specs.Span.{at_span, AreInText}
use Rattle.xsk_umem.specs.declared.packet_list.Span.{Span}
use Rattle.xsk_pcap.specs.declared.endianness.Endianness.{Endianness}
use Rattle.xsk_pcap.specs.Numbers.{number_in}
use Rattle.xsk_pcap.specs.Capture.{is_magic, Record, record_bytes, IsShort, Begins}

-- the file header passes its checks in this byte order
pub record PassesHeader (order : Endianness) (bytes : List ℕ) : Type 0 where
  pub long : 24 ≤ length bytes
  pub magic : IsTrue (is_magic (number_in order 4 bytes))
  pub major : number_in order 2 (drop 4 bytes) ≡ 2
  pub minor : number_in order 2 (drop 6 bytes) ≡ 4
  pub link : number_in order 4 (drop 20 bytes) ≡ 1

-- the bytes are a record of this packet, and then the rest
pub record BeginsRecord (order : Endianness) (bytes packet rest : List ℕ) : Type 0 where
  pub of : Record
  pub short : IsShort of.packet
  pub packet_is : of.packet ≡ packet
  pub whole : record_bytes order of ++ rest ≡ bytes

-- the bytes are a capture of the packets that stand in these spans of them
pub record Finds (order : Endianness) (bytes : List ℕ) (spans : List Span) : Type 0 where
  pub begins : Begins order bytes (map (at_span bytes) spans) []
  pub are : AreInText bytes spans
