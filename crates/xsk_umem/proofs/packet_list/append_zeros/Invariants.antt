use Rattle.std.proofs.Common.{◌≡◌, ◌+◌, ◌++◌, replicate}
use Rattle.std.specs.Prelude.{vec_len, vec_capacity}
use Rattle.xsk_umem.proofs.packet_list.append_zeros.Given as goal

abbrev pub invariant-loop : goal.invariant-loop
invariant-loop l = (l.text.items ≡ l.fn.text.items ++ replicate l.counter 0)
    × (vec_len l.text ≡ vec_len l.fn.text + l.counter)
    × (vec_capacity l.text ≡ vec_capacity l.fn.text)
