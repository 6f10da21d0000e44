-- The registration of a UMEM (af_xdp.rst, "XDP_UMEM_REG setsockopt"). The sizes that are refused, and in which order,
-- are this project's own.
use Rattle.std.specs.Prelude.{ℕ, zero, suc, ◌-◌, ◌/◌, ◌%◌, ◌==◌, ◌||◌, Option, Some, None, if◌then◌else◌, not, nat_lt, nat_le, List, [], ◌∷◌, ◌++◌, replicate}
use Rattle.xsk_umem.specs.Frame.{Frame}
use Rattle.xsk_umem.specs.Limits.{reserved_bytes, most_frames}
use Rattle.xsk_umem.specs.declared.umem.UmemError.{UmemError}
use Rattle.xsk_umem.specs.declared.umem.UmemError.TheVariants.{BadChunk, BadHeadroom, BadLength, TooLarge}

-- the first reason against registering an area of so many bytes with this chunk size and headroom
abbrev pub first_refusal : ℕ → ℕ → ℕ → Option UmemError
first_refusal len chunk headroom =
    if not (chunk == 2048 || chunk == 4096) then Some BadChunk
    else if nat_le (chunk - reserved_bytes) headroom then Some BadHeadroom
    else if len == 0 || not (len % chunk == 0) then Some BadLength
    else if nat_lt most_frames (len / chunk) then Some TooLarge
    else None

-- the frames 0, 1, 2 and so on up to a count, each of one chunk of zero bytes
abbrev pub fresh : ℕ → ℕ → List Frame
fresh chunk zero = []
fresh chunk (suc n) = fresh chunk n ++ (record { number = n; bytes = replicate chunk 0 }) ∷ []
