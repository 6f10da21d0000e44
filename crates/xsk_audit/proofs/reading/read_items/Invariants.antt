use Rattle.std.proofs.Common.{◌≡◌, ◌-◌, length}
use Rattle.xsk_audit.specs.Reading.{items_at}
use Rattle.xsk_audit.proofs.Items.{front_of}
use Rattle.xsk_audit.proofs.reading.read_items.Given as goal

abbrev pub invariant-loop-item : goal.invariant-loop-item
invariant-loop-item l = (length l.items ≡ l._item) × (front_of l.items (items_at (32 - l._item) l.rest) ≡ items_at 32 l.text)
