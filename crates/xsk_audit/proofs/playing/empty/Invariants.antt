use Rattle.std.proofs.Common.{◌≡◌, ◌+◌, length}
use Rattle.xsk_audit.proofs.playing.empty.Given as goal

abbrev pub invariant-loop-item : goal.invariant-loop-item
invariant-loop-item l = length l.items + l._item ≡ l._item-end
