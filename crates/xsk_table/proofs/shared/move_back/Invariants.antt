use Rattle.std.proofs.Common.{◌≡◌, ◌≤◌, ℕ, List, take, length, get_or, None}
use Rattle.xsk_umem.specs.Frame.{Frame}
use Rattle.xsk_table.proofs.Deals.{slotted}
use Rattle.xsk_table.proofs.shared.move_back.Given as goal

abbrev pub invariant-loop-place : goal.invariant-loop-place
invariant-loop-place l = record {
  limit : l.home.limit ≡ l.fn.home.limit;
  frames : (fs : List Frame) → l.fn.slots.items ≡ slotted fs → l.home.items ≡ take l.place fs;
  len : length l.slots.items ≡ length l.fn.slots.items;
  slots : (w : ℕ) → l.place ≤ w → get_or l.slots.items w None ≡ get_or l.fn.slots.items w None;
}
