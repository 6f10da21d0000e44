-- A list of byte strings, the gaps that it keeps in its text, and the further packets and bytes for which room is reserved.
use Rattle.std.specs.Prelude.{ℕ, Option, Some, List, [], ◌∷◌, ◌++◌}
use Rattle.xsk_umem.specs.declared.packet_list.Gaps.{Gaps}

-- there are no gaps where the packets are spans of a text that was handed in, and may stand anywhere
pub record PacketList : Type 0 where
  pub packets : List (List ℕ)
  pub gaps : Option Gaps
  pub spare_packets : ℕ
  pub spare_bytes : ℕ

-- the packets with bytes appended to the last
abbrev pub with_last_extended : List (List ℕ) → List ℕ → List (List ℕ)
with_last_extended [] bytes = []
with_last_extended (packet ∷ []) bytes = (packet ++ bytes) ∷ []
with_last_extended (packet ∷ next ∷ packets) bytes = packet ∷ with_last_extended (next ∷ packets) bytes

-- the gaps of a list whose packets stand one directly behind the other
abbrev pub no_gaps : Option Gaps
no_gaps = Some (record { first = 0; before_each = 0 })
