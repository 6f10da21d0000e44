use Rattle.std.proofs.Common.{◌≡◌, ◌+◌, ◌*◌, ◌≤◌, ◌++◌, replicate}
use Rattle.std.specs.Prelude.{vec_len, vec_capacity}
use Rattle.xsk_umem.proofs.packet_list.append_gap.Given as goal

abbrev pub invariant-loop : goal.invariant-loop
invariant-loop l = (l.text.items ≡ l.fn.text.items ++ replicate (l.counter * 16) 0)
    × (vec_len l.text ≡ vec_len l.fn.text + l.counter * 16)
    × (vec_capacity l.fn.text ≤ vec_capacity l.text)
