use Rattle.std.proofs.Common.{◌≡◌, ◌+◌, ◌%◌, ◌^◌}
use Rattle.xsk_model.specs.Config.{pool_of}
use Rattle.xsk_model.specs.declared.call.Ring.TheVariants.{Fill}
use Rattle.xsk_table.specs.Layout.{producer}
use Rattle.xsk_table.specs.Rule.{at}
use Rattle.xsk_table.specs.Opening.{Spares, IsOfFill, ArePooled}
use Rattle.xsk_table.proofs.opening.lay_pool.Given as goal

abbrev pub invariant-loop-j : goal.invariant-loop-j
invariant-loop-j l = Spares l.config (IsOfFill l.pair) l.fn.row l.row × (at l.config l.row (producer (Fill l.pair)) ≡ (l.first + pool_of l.config) % 2 ^ 32) × ArePooled l.config l.first l.pair l.j l.row
