-- What of the inputs is refused once their bytes are there, and in which order: an input that is too long, then the first
-- capture that is none (pcap-savefile(5)), then too many packets, then too many captured bytes. The limits and this order
-- are this project's own.
use Rattle.std.specs.Prelude.{◌≡◌, ◌≢◌, ℕ, ◌<◌, ◌≤◌, nat_lt, List, [], length, Option, Some, None, if◌then◌else◌, sum_by}
use Rattle.std.specs.List.{concat, slice_index_or}
use Rattle.xsk_pcap.specs.Capture.{IsCapture, IsRefused}
use Rattle.xsk_pcap.specs.declared.reading.BadCapture.{BadCapture as Cause}
use Rattle.xsk_pcap.specs.declared.reading.BadCapture.TheVariants.{OutOfMemory as NoMemory}
use Rattle.xsk_cli.specs.declared.status.Excess.{Excess}
use Rattle.xsk_cli.specs.declared.status.Excess.TheVariants.{Packets, Bytes}

-- the bytes of a port's input
abbrev pub bytes_of : List (List ℕ) → ℕ → List ℕ
bytes_of inputs port = slice_index_or inputs port []

-- so many ports, from 0 on, have inputs with no more bytes than the most
abbrev pub AreShort : ℕ → List (List ℕ) → ℕ → Type 0
AreShort most inputs count = (port : ℕ) → port < count → length (bytes_of inputs port) ≤ most

-- the lowest port with a longer one
pub record IsTooLong (most : ℕ) (inputs : List (List ℕ)) (port : ℕ) : Type 0 where
  pub known : port < length inputs
  pub long : most < length (bytes_of inputs port)
  pub before : AreShort most inputs port

-- all are captures, with a list of packets each
pub record AreCaptures (inputs : List (List ℕ)) (lists : List (List (List ℕ))) : Type 0 where
  pub count : length lists ≡ length inputs
  pub each : (port : ℕ) → port < length inputs → IsCapture (bytes_of inputs port) (slice_index_or lists port [])

-- the lowest port whose input is no capture, and the first check of it that fails, which isn't want of memory
pub record IsBadCapture (inputs : List (List ℕ)) (port : ℕ) (cause : Cause) : Type 0 where
  pub known : port < length inputs
  pub before : (lower : ℕ) → lower < port → (packets : List (List ℕ)) × IsCapture (bytes_of inputs lower) packets
  pub refused : IsRefused (bytes_of inputs port) cause
  pub check : cause ≢ NoMemory

-- the packets, and captured bytes, of all inputs together
abbrev pub packets_in : List (List (List ℕ)) → ℕ
packets_in lists = sum_by (λ (packets : List (List ℕ)). length packets) lists

abbrev pub bytes_in : List (List (List ℕ)) → ℕ
bytes_in lists = sum_by (λ (packets : List (List ℕ)). length (concat packets)) lists

-- the first limit that they pass
abbrev pub excess_of : List (List (List ℕ)) → Option Excess
excess_of lists =
    if nat_lt 65536 (packets_in lists) then Some (Packets (packets_in lists))
    else if nat_lt 33554432 (bytes_in lists) then Some (Bytes (bytes_in lists))
    else None
