use Rattle.bench_rings.proofs.Loops.{Moving}
use Rattle.bench_rings.proofs.rewriting.rewrites.Given as goal

abbrev pub invariant-items : goal.invariant-items
invariant-items l = Moving l.fn.offset l.fn.len l.counter l.fn.items l.items
