-- What stands in a ring's words: counts modulo 2 ^ 32, as the producer and the consumer of `struct xdp_ring` in the
-- kernel, and descriptors (`struct xdp_desc` of if_xdp.h) in one or two words. That words have 64 bits is this
-- project's own.
use Rattle.std.specs.Prelude.{◌≡◌, ℕ, ◌+◌, ◌-◌, ◌*◌, ◌/◌, ◌%◌, ◌^◌, ◌<◌, ◌≤◌}
use Rattle.xsk_umem.specs.declared.batch.XdpDesc.{XdpDesc}

-- how far a producer's count is before a consumer's
abbrev pub used_of : ℕ → ℕ → ℕ
used_of producer consumer = (producer + (2 ^ 32 - consumer)) % 2 ^ 32

-- the second word of a descriptor; the first is its address
abbrev pub second_word : XdpDesc → ℕ
second_word desc = desc.len + desc.options * 2 ^ 32

-- the descriptor of two words
abbrev pub unpacked : ℕ → ℕ → XdpDesc
unpacked first second = record { addr = first; len = second % 2 ^ 32; options = second / 2 ^ 32 }

-- ---- laws

-- packed and unpacked, a descriptor is as it was
abbrev pub PackedBack : Type 0
PackedBack = (desc : XdpDesc) → desc.len < 2 ^ 32 → unpacked desc.addr (second_word desc) ≡ desc

-- so are two words, unpacked and packed
abbrev pub UnpackedBack : Type 0
UnpackedBack = (first second : ℕ) → ((unpacked first second).addr ≡ first) × (second_word (unpacked first second) ≡ second)

-- counts that are less than 2 ^ 32 apart are as far apart as their words say
abbrev pub UsedIs : Type 0
UsedIs = (producer consumer : ℕ) → consumer ≤ producer → producer < consumer + 2 ^ 32 → used_of (producer % 2 ^ 32) (consumer % 2 ^ 32) ≡ producer - consumer
