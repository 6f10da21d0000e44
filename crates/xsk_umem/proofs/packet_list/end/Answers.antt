use Rattle.std.proofs.Common.{◌-◌, ◌≤◌, length, sym, arith, rules}
use Rattle.xsk_umem.proofs.Spans.{end_of-last}
use Rattle.xsk_umem.proofs.packet_list.end.Goals as goal

pub overflow_add-result : goal.overflow_add-result
overflow_add-result c =
    let some : 1 ≤ length c.args.spans.now = search rules in
    let end = end_of-last 0 (length c.args.spans.now - 1) c.args.spans.now (record { start = 0; len = 0 }) (omega (arith, some)) in
    let few = rw end at c.requires in
    search rules

pub returns : goal.returns
returns c =
    let some : 1 ≤ length c.args.spans.now = search rules in
    sym (end_of-last 0 (length c.args.spans.now - 1) c.args.spans.now (record { start = 0; len = 0 }) (omega (arith, some)))
