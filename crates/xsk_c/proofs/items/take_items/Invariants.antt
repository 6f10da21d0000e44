use Rattle.std.proofs.Common.{◌≡◌, ◌≤◌, ◌++◌, length, drop}
use Rattle.xsk_umem.specs.Limits.{most_items}
use Rattle.xsk_c.specs.Items.{items_of, left_by}
use Rattle.xsk_c.proofs.items.take_items.Given as goal

abbrev pub invariant-loop-i : goal.invariant-loop-i
invariant-loop-i l = record {
  count : length l.items ≡ l.i;
  few : length l.descs ≤ most_items;
  items : l.items ++ items_of l.geometry l.purse.frames.items (drop l.i l.descs) ≡ items_of l.geometry l.initial.purse.frames.items l.descs;
  left : left_by l.geometry l.purse.frames.items (drop l.i l.descs) ≡ left_by l.geometry l.initial.purse.frames.items l.descs;
}
