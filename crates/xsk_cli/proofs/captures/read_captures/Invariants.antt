use Rattle.std.proofs.Common.{◌≡◌, ◌≤◌, ◌++◌, map, length, vec_capacity}
use Rattle.std.specs.Vec.Iter.{into_iter_items}
use Rattle.xsk_cli.proofs.Judging.{HaveTaken}
use Rattle.xsk_cli.proofs.captures.read_captures.Given as goal

abbrev pub invariant-loop-bytes : goal.invariant-loop-bytes
invariant-loop-bytes l = record {
  have : HaveTaken (map (λ bytes. bytes.items) l.fn.inputs.items) l.lists.items l.port;
  port : l.port ≡ length l.yielded;
  all : l.yielded ++ into_iter_items l.bytes-iterator ≡ l.fn.inputs.items;
  room : length l.fn.inputs.items ≤ vec_capacity l.lists;
}
