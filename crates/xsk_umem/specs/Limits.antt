-- Numbers that definitions and contracts name. The 256 bytes that stand free before a packet's data are those of
-- XDP_PACKET_HEADROOM (bpf.h); how many frames and items there may be is this project's own.
use Rattle.std.specs.Prelude.{ℕ}

-- the bytes at the start of each chunk that never hold a packet's data
abbrev pub reserved_bytes : ℕ
reserved_bytes = 256

-- the most frames of a UMEM
abbrev pub most_frames : ℕ
most_frames = 4096

-- the most items of one call
abbrev pub most_items : ℕ
most_items = 32
