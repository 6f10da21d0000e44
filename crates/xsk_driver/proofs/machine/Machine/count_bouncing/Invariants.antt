use Rattle.std.proofs.Common.{◌≡◌, ◌+◌, ◌≤◌, length}
use Rattle.std.specs.List.{concat}
use Rattle.xsk_driver.specs.Bouncing.{bouncing_from}
use Rattle.xsk_driver.proofs.machine.Machine.count_bouncing.Given as goal

abbrev pub invariant-loop-place : goal.invariant-loop-place
invariant-loop-place l = (length l.self.disposals.items ≤ l.place)
    × (l.packets + length (bouncing_from l.self l.place) ≡ length (bouncing_from l.self (length l.self.disposals.items)))
    × (l.bytes + length (concat (bouncing_from l.self l.place)) ≡ length (concat (bouncing_from l.self (length l.self.disposals.items))))
