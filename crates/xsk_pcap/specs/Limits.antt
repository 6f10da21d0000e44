-- The limits of captures. All of them are this project's own.
use Rattle.std.specs.Prelude.{ℕ}

-- the most captured bytes of one record
abbrev pub most_captured : ℕ
most_captured = 262144

-- the most packets that are read or written together, and the most bytes of them all
abbrev pub most_packets : ℕ
most_packets = 65536

abbrev pub most_bytes : ℕ
most_bytes = 33554432
