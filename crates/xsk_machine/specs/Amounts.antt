-- So many packets with so many bytes.
use Rattle.std.specs.Prelude.{◌≡◌, ℕ, List, length}
use Rattle.std.specs.List.{concat}
use Rattle.xsk_machine.specs.declared.inputs.Amount.{Amount}

-- an amount is that of these packets
abbrev pub IsAmountOf : List (List ℕ) → Amount → Type 0
IsAmountOf packets amount = (amount.packets ≡ length packets) × (amount.bytes ≡ length (concat packets))
