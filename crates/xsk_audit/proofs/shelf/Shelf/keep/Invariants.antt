use Rattle.std.proofs.Common.{◌≡◌, ◌+◌, length}
use Rattle.xsk_audit.specs.Shelf.{with_items}
use Rattle.xsk_audit.proofs.shelf.Shelf.keep.Given as goal

abbrev pub invariant-items : goal.invariant-items
invariant-items l = record {
  kept : with_items l.self l.items ≡ with_items l.initial.self l.initial.items;
  left : length l.items + l._item ≡ l._item-end;
}
