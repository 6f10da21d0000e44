-- The geometry of a UMEM (af_xdp.rst, "UMEM" and "UMEM fill ring"): one area of equally sized chunks. A frame is
-- named by its address, an offset in the area, and in aligned mode an address is masked to its chunk.
-- The sizes that are allowed and the 256 bytes before the data are this project's own.
use Rattle.xsk_umem.specs.Limits.{reserved_bytes, most_frames}
use Rattle.std.specs.Prelude.{◌≡◌, ℕ, ◌+◌, ◌-◌, ◌*◌, ◌/◌, ◌<◌, ◌≤◌, ◌⊎◌, Option, Some, None, if◌then◌else◌, nat_lt}

-- the number of frames, the bytes of a chunk, and the bytes that the user keeps free before the data
pub record Geometry : Type 0 where
  pub frames : ℕ
  pub chunk : ℕ
  pub headroom : ℕ

abbrev pub IsChunkSize : ℕ → Type 0
IsChunkSize chunk = (chunk ≡ 2048) ⊎ (chunk ≡ 4096)

pub record IsGeometry (g : Geometry) : Type 0 where
  pub some : 1 ≤ g.frames
  pub few : g.frames ≤ most_frames
  pub chunk : IsChunkSize g.chunk
  pub headroom : g.headroom < g.chunk - reserved_bytes

-- the bytes of the whole area
abbrev pub area_of : Geometry → ℕ
area_of g = g.frames * g.chunk

-- the bytes of a packet that one frame holds
abbrev pub payload_of : Geometry → ℕ
payload_of g = g.chunk - g.headroom - reserved_bytes

-- the address of a frame's first byte
abbrev pub base_of : Geometry → ℕ → ℕ
base_of g frame = frame * g.chunk

-- the address of a frame's data: behind the 256 reserved bytes and the headroom
abbrev pub data_of : Geometry → ℕ → ℕ
data_of g frame = base_of g frame + g.headroom + reserved_bytes

-- the frame in which an address lies
abbrev pub frame_of : Geometry → ℕ → Option ℕ
frame_of g address = if nat_lt address (area_of g) then Some (address / g.chunk) else None
