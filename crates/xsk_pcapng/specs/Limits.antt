-- The limits of files. All of them are this project's own.
use Rattle.std.specs.Prelude.{ℕ}
-- those of one packet's captured bytes, and of the packets that are written together, are those of captures
pub use Rattle.xsk_pcap.specs.Limits.{most_captured, most_packets, most_bytes}

-- the most lists that are written into one file
abbrev pub most_lists : ℕ
most_lists = 4
