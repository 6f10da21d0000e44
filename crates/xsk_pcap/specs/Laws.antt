-- What holds of captures, whoever reads or writes them.
use Rattle.std.specs.Prelude.{◌≡◌, List, ℕ}
use Rattle.xsk_pcap.specs.declared.reading.BadCapture.{BadCapture}
use Rattle.xsk_pcap.specs.Capture.{IsCapture, IsRefused}
use Rattle.xsk_pcap.specs.Written.{written, all_packets, IsWritable}

-- bytes are a capture of one list of packets at most
abbrev pub OneReading : Type 0
OneReading = (bytes : List ℕ) (some others : List (List ℕ)) → IsCapture bytes some → IsCapture bytes others → some ≡ others

-- bytes are refused for one reason at most
abbrev pub OneRefusal : Type 0
OneRefusal = (bytes : List ℕ) (some other : BadCapture) → IsRefused bytes some → IsRefused bytes other → some ≡ other

-- what is refused is no capture
abbrev pub RefusedIsNoCapture : Type 0
RefusedIsNoCapture = (bytes : List ℕ) (refusal : BadCapture) (packets : List (List ℕ)) → IsRefused bytes refusal → IsCapture bytes packets → ⊥

-- what is written reads back as all packets of the lists, in order
abbrev pub WrittenReadsBack : Type 0
WrittenReadsBack = (lists : List (List (List ℕ))) → IsWritable lists → IsCapture (written lists) (all_packets lists)
