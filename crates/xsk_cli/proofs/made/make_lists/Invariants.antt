use Rattle.std.proofs.Common.{◌≡◌, ◌≤◌, map, vec_len, vec_capacity}
use Rattle.std.specs.List.{range_with_len}
use Rattle.xsk_gen.specs.Generator.{first, packet}
use Rattle.xsk_cli.specs.Outcome.{listed}
use Rattle.xsk_cli.specs.Steps.{lists_in}
use Rattle.xsk_cli.proofs.made.make_lists.Given as goal

abbrev pub invariant-loop-port : goal.invariant-loop-port
invariant-loop-port l = record {
  lists : lists_in l.lists.items ≡ map (λ port. first 2000 (packet l.fn.number port)) (range_with_len 0 l.port);
  listed : l.lists.items ≡ map listed (lists_in l.lists.items);
  count : vec_len l.lists ≡ l.port;
  room : l.ports ≤ vec_capacity l.lists;
}
