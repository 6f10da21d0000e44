-- In which format packets are read and written. With pcap each port has a file of its own (pcap-savefile(5)). With pcapng one
-- file has the ports as its interfaces (pcapng draft). The limits are this project's own.
use Rattle.std.specs.Prelude.{◌≡◌, ◌≢◌, ℕ, ◌<◌, ◌*◌, List, [], ◌∷◌, length, map, take, drop}
use Rattle.std.specs.List.{range_with_len}
use Rattle.xsk_pcap.specs.Written.{written, all_packets}
use Rattle.xsk_pcap.specs.declared.reading.BadCapture.{BadCapture as Cause}
use Rattle.xsk_pcapng.specs.Pcapng.{IsPcapng, IsRefused}
use Rattle.xsk_pcapng.specs.Written.{written as written_file}
use Rattle.xsk_pcapng.specs.declared.reading.BadPcapng.{BadPcapng as FileCause}
use Rattle.xsk_pcapng.specs.declared.reading.BadPcapng.TheVariants.{OutOfMemory as NoMemory}
use Rattle.xsk_cli.specs.Judged.{bytes_of, AreCaptures, IsBadCapture}
use Rattle.xsk_cli.specs.declared.format.Format.{Format}
use Rattle.xsk_cli.specs.declared.format.Format.TheVariants.{Pcap, Pcapng}

-- how many files so many ports have
abbrev pub files_of : Format → ℕ → ℕ
files_of Pcap ports = ports
files_of Pcapng ports = 1

-- the most bytes of one input: a capture of 65,536 packets with 33,554,432 bytes, or 64 MiB
abbrev pub most_input : Format → ℕ
most_input Pcap = 34603032
most_input Pcapng = 67108864

-- ---- what is read

-- the one input is a file in which the ports have these lists of packets
pub record IsFile (ports : ℕ) (inputs : List (List ℕ)) (lists : List (List (List ℕ))) : Type 0 where
  pub one : length inputs ≡ 1
  pub is : IsPcapng ports (bytes_of inputs 0) lists

-- it is none, and this is the first check of it that fails, which isn't want of memory
pub record IsBadFile (ports : ℕ) (inputs : List (List ℕ)) (cause : FileCause) : Type 0 where
  pub known : 0 < length inputs
  pub refused : IsRefused ports (bytes_of inputs 0) cause
  pub check : cause ≢ NoMemory

-- the inputs are files of the format, with these lists for so many ports
abbrev pub AreFiles : Format → ℕ → List (List ℕ) → List (List (List ℕ)) → Type 0
AreFiles Pcap ports inputs lists = AreCaptures inputs lists
AreFiles Pcapng ports inputs lists = IsFile ports inputs lists

-- one of the captures is none
abbrev pub HasBadCapture : Format → List (List ℕ) → ℕ → Cause → Type 0
HasBadCapture Pcap inputs port cause = IsBadCapture inputs port cause
HasBadCapture Pcapng inputs port cause = ⊥

-- the one file is none
abbrev pub HasBadFile : Format → ℕ → List (List ℕ) → FileCause → Type 0
HasBadFile Pcap ports inputs cause = ⊥
HasBadFile Pcapng ports inputs cause = IsBadFile ports inputs cause

-- ---- what is written

-- the texts of what the drivers of each port sent, of each port that of queue 0 first
abbrev pub outputs_of : Format → (ℕ → List (List (List ℕ))) → List ℕ → List (List ℕ)
outputs_of Pcap sent ports = map (λ port. written (sent port)) ports
outputs_of Pcapng sent ports = written_file (map (λ port. all_packets (sent port)) ports) ∷ []

-- all lists of each port as one, where there are so many for each
abbrev pub joined : ℕ → ℕ → List (List (List ℕ)) → List (List (List ℕ))
joined ports each lists = map (λ port. all_packets (take each (drop (port * each) lists))) (range_with_len 0 ports)
