-- A ring in numbers.
use Rattle.std.specs.Prelude.{ℕ, length}
use Rattle.xsk_umem.specs.Frame.{Frame}
use Rattle.xsk_plain.specs.Engine.{Part}
use Rattle.xsk_plain.specs.Steps.{free_in}
use Rattle.xsk_plain.specs.declared.ring_store.RingCounts.{RingCounts}

abbrev pub counts_of : ℕ → Part → RingCounts
counts_of size part = record { out = length part.out; held = part.held; reserved = part.room; free = free_in size part }

abbrev pub number_of : Frame → ℕ
number_of frame = frame.number
