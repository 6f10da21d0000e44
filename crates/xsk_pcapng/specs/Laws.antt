-- What holds of files, whoever reads or writes them.
use Rattle.std.specs.Prelude.{◌≡◌, List, ℕ, length}
use Rattle.std.specs.List.{AllByRecursion}
use Rattle.xsk_pcapng.specs.declared.reading.BadPcapng.{BadPcapng}
use Rattle.xsk_pcapng.specs.Pcapng.{IsPcapng, IsRefused}
use Rattle.xsk_pcapng.specs.Written.{written, all_packets, IsShort, IsWritable}

-- for one number of ports, bytes are a file of one choice of lists at most
abbrev pub OneReading : Type 0
OneReading = (ports : ℕ) (bytes : List ℕ) (some others : List (List (List ℕ))) → IsPcapng ports bytes some → IsPcapng ports bytes others → some ≡ others

-- bytes are refused for one reason at most
abbrev pub OneRefusal : Type 0
OneRefusal = (ports : ℕ) (bytes : List ℕ) (some other : BadPcapng) → IsRefused ports bytes some → IsRefused ports bytes other → some ≡ other

-- what is refused is no file
abbrev pub RefusedIsNoFile : Type 0
RefusedIsNoFile = (ports : ℕ) (bytes : List ℕ) (refusal : BadPcapng) (lists : List (List (List ℕ))) → IsRefused ports bytes refusal → IsPcapng ports bytes lists → ⊥

-- what is written reads back as the lists, one for each port
abbrev pub WrittenReadsBack : Type 0
WrittenReadsBack = (lists : List (List (List ℕ))) → IsWritable lists → IsPcapng (length lists) (written lists) lists

-- what is read has a list for each port, and no packet of more bytes than may be written
abbrev pub ReadFits : Type 0
ReadFits = (ports : ℕ) (bytes : List ℕ) (lists : List (List (List ℕ))) → IsPcapng ports bytes lists → (length lists ≡ ports) × AllByRecursion IsShort (all_packets lists)
