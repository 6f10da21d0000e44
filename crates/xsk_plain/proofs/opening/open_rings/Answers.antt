use Rattle.std.proofs.Common.{arith}
use Rattle.xsk_plain.specs.Stores.{sizes_in}
use Rattle.xsk_plain.proofs.Openings.{sizes_step, sizes_all}
use Rattle.xsk_plain.proofs.opening.open_rings.Goals as goal

pub loop-place-preserved : goal.loop-place-preserved
loop-place-preserved c = record {
  sizes = sizes_step c.args.config.now (sizes_in c.loop-place.rings.items) (sizes_in c.add_ring.new.rings.items) c.loop-place.place c.size_at.result
      c.in_ok-add_ring.ensures.sizes c.loop-place.invariant.sizes (omega arith) c.size_at.ensures;
  blank = c.in_ok-add_ring.ensures.blank c.loop-place.invariant.blank;
}

pub returns-clause-sizes : goal.returns-clause-sizes
returns-clause-sizes c = sizes_all c.args.config.now (sizes_in c.loop-place.rings.items) c.loop-place.place c.loop-place.invariant.sizes (omega arith)
