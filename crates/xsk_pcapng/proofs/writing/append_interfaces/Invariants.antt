use Rattle.std.proofs.Common.{◌≡◌, ◌≤◌, ◌++◌, replicate}
use Rattle.std.specs.Prelude.{vec_capacity}
use Rattle.std.specs.List.{concat}
use Rattle.xsk_pcapng.specs.Written.{interface_block}
use Rattle.xsk_pcapng.proofs.writing.append_interfaces.Given as goal

abbrev pub invariant-loop : goal.invariant-loop
invariant-loop l = record {
  so_far : l.text.items ≡ l.fn.text.items ++ concat (replicate l.counter interface_block);
  capacity : vec_capacity l.fn.text ≤ vec_capacity l.text;
}
