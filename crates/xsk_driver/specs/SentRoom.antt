-- The packets that a driver sent, against the limits of a capture and the room for them.
use Rattle.std.specs.Prelude.{◌≡◌, ℕ, ◌<◌, ◌≤◌, ◌⊎◌, ◌↔◌, Bool, false, IsTrue, List, [], ◌∷◌, length}
use Rattle.std.specs.List.{concat}
use Rattle.xsk_umem.specs.declared.packet_list.Gaps.{Gaps}

abbrev pub IsShort : List ℕ → Type 0
IsShort packet = length packet ≤ 262144

-- the gaps of the list of what was sent: for a capture's file header, and the header of each record (pcap-savefile(5))
abbrev pub sent_gaps : Gaps
sent_gaps = record { first = 24; before_each = 16 }

abbrev pub last_length : List (List ℕ) → ℕ
last_length [] = 0
last_length (packet ∷ []) = length packet
last_length (packet ∷ next ∷ packets) = last_length (next ∷ packets)

-- what is shown of the packets that were sent: those that are kept, whether there were more than there was room for, and
-- the room, in packets and bytes
pub record OutboxShown : Type 0 where
  pub packets : List (List ℕ)
  pub overrun : Bool
  pub most_packets : ℕ
  pub most_bytes : ℕ

-- they are more than there was room for
abbrev pub Exceeds : OutboxShown → List (List ℕ) → Type 0
Exceeds s packets = (s.most_packets < length packets) ⊎ (s.most_bytes < length (concat packets))

-- it stands for these packets: it has overrun exactly where they are too many, and keeps them where not
pub record Sends (s : OutboxShown) (packets : List (List ℕ)) : Type 0 where
  pub exceeds : IsTrue s.overrun ↔ Exceeds s packets
  pub kept : s.overrun ≡ false → s.packets ≡ packets
