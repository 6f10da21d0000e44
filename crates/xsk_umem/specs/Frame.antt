-- A frame of a UMEM (af_xdp.rst, "UMEM"): its number in the area, and the bytes of its chunk.
use Rattle.std.specs.Prelude.{ℕ, ◌+◌, ◌<◌, List, ◌++◌, length, take, drop}
use Rattle.xsk_umem.specs.Geometry.{IsChunkSize}
use Rattle.xsk_umem.specs.Limits.{most_frames}

pub record Frame : Type 0 where
  pub number : ℕ
  pub bytes : List ℕ

pub record IsFrame (frame : Frame) : Type 0 where
  pub number : frame.number < most_frames
  pub bytes : IsChunkSize (length frame.bytes)

-- the bytes with the piece written over those from the offset on
abbrev pub written_at : List ℕ → ℕ → List ℕ → List ℕ
written_at bytes offset piece = take offset bytes ++ piece ++ drop (offset + length piece) bytes
