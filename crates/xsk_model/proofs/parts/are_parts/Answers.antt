use Rattle.std.proofs.Common.{rules, ◌∙◌}
use Rattle.std.specs.Vec.{vec_items}
use Rattle.std.proofs.lemmas.List.{length-map}
use Rattle.xsk_model.proofs.parts.are_parts.Goals as goal

pub returns-then-cells-ports : goal.returns-then-cells-ports
returns-then-cells-ports c = λ geometry sg wakeup. (
  λ is. record {
    ports = c.is_port_count.ensures.0 (search rules);
    queues = c.is_queue_count.ensures.0 (search rules);
    some = (c.is_few.ensures.0 (search rules)).0;
    few = (c.is_few.ensures.0 (search rules)).1;
    pairs_some = (c.is_few-else-not-is_few.ensures.0 (search rules)).0;
    pairs_few = (c.is_few-else-not-is_few.ensures.0 (search rules)).1;
    bound = c.are_bound.ensures.0 (search rules);
    served = c.are_served.ensures.0 (search rules);
    maps = length-map c.args.cells.now vec_items ∙ c.if-cells-ports.true;
    cells = c.are_maps.ensures.0 is;
    closing = tt;
  },
  λ config. c.are_maps.ensures.1 config.cells,
)
