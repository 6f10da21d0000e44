use Rattle.std.proofs.Common.{◌≡◌, take}
use Rattle.std.specs.Prelude.{sum_by}
use Rattle.xsk_umem.specs.Span.{len_of}
use Rattle.xsk_umem.proofs.packet_list.total.Given as goal

abbrev pub invariant-loop-span : goal.invariant-loop-span
invariant-loop-span l = l.total ≡ sum_by len_of (take l.span-index l.spans)
