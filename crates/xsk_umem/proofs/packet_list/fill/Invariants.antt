use Rattle.std.proofs.Common.{◌++◌, drop, map}
use Rattle.xsk_umem.specs.Span.{at_span, laid_from}
use Rattle.xsk_umem.proofs.Laying.{Filling}
use Rattle.xsk_umem.proofs.packet_list.fill.Given as goal

abbrev pub invariant-loop-number : goal.invariant-loop-number
invariant-loop-number g l =
    Filling (g.H.Headers.before l.headers) l.sizes.before_each (g.H.Headers.first l.headers ++ laid_from (g.H.Headers.before l.headers) 0 (map (at_span l.fn.text) l.spans)) l.number l.text (drop l.number l.spans)
