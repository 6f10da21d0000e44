use Rattle.std.proofs.Common.{◌≡◌, ◌≤◌, take}
use Rattle.std.specs.Prelude.{vec_len, vec_capacity}
use Rattle.xsk_umem.proofs.behind.write_behind.Given as goal

abbrev pub invariant-loop : goal.invariant-loop
invariant-loop g l = (take (vec_len l.fn.list) l.list.items ≡ l.fn.list.items)
    × (vec_len l.fn.list ≤ vec_len l.list)
    × (vec_capacity l.fn.list ≤ vec_capacity l.list)
