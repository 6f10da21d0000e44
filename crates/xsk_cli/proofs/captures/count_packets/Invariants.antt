use Rattle.std.proofs.Common.{◌≡◌, ◌*◌, ◌^◌, ◌≤◌, length, take}
use Rattle.std.specs.Prelude.{sum_by}
use Rattle.xsk_cli.proofs.captures.count_packets.Given as goal

abbrev pub invariant-loop-list : goal.invariant-loop-list
invariant-loop-list l = record {
  is : l.packets ≡ sum_by (λ list. length list.packets) (take l.list-index l.lists);
  small : l.packets ≤ 2 ^ 32 * l.list-index;
}
