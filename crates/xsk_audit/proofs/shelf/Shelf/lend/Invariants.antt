use Rattle.std.proofs.Common.{◌≡◌, take, length}
use Rattle.xsk_audit.specs.Shelf.{AreInPlace, IsLent, descs_of}
use Rattle.xsk_audit.proofs.shelf.Shelf.lend.Given as goal

abbrev pub invariant-items : goal.invariant-items
invariant-items l = record {
  places : AreInPlace l.geometry l.self;
  lent : IsLent l.geometry l.initial.self l.self (take l.i (descs_of l.told)) l.items;
  count : length l.items ≡ l.i;
  size : length l.self ≡ length l.initial.self;
}
