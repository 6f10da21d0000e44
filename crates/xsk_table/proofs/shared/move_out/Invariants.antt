use Rattle.std.proofs.Common.{◌≡◌, ◌+◌, ◌≤◌, ◌++◌, length, vec_capacity}
use Rattle.xsk_table.proofs.Deals.{slotted}
use Rattle.xsk_table.proofs.shared.move_out.Given as goal

abbrev pub invariant-loop : goal.invariant-loop
invariant-loop l = (l.slots.items ++ slotted l.home.items ≡ slotted l.fn.home.items) × (length l.slots.items + length l.home.items ≤ vec_capacity l.slots) × (l.home.limit ≡ l.fn.home.limit)
    × (l.counter + length l.home.items ≡ length l.fn.home.items)
