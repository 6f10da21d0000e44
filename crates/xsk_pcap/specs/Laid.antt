-- The gaps that a list takes to become its capture where it stands.
use Rattle.xsk_umem.specs.declared.packet_list.Gaps.{Gaps}

-- room for the 24 bytes of a file header, and for the 16 of each record's (pcap-savefile(5))
abbrev pub capture_gaps : Gaps
capture_gaps = record { first = 24; before_each = 16 }
