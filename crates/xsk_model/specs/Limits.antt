-- Numbers that definitions and contracts name, beside those of xsk_umem.
use Rattle.std.specs.Prelude.{ℕ}

-- the most frames of a packet: CONFIG_MAX_SKB_FRAGS and one (af_xdp.rst, "Multi-Buffer Support")
abbrev pub most_fragments : ℕ
most_fragments = 18

-- the bytes of both addresses of an Ethernet header, and of all of it (if_ether.h), which each packet has at least
abbrev pub ethernet_addresses : ℕ
ethernet_addresses = 12

abbrev pub ethernet_header : ℕ
ethernet_header = 14
