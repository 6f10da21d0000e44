use Rattle.std.proofs.Common.{ap}
use Rattle.xsk_log.proofs.RowPlaces.{small_here, apart_here}
use Rattle.xsk_log.proofs.rows.Rows.get.Goals as goal

pub returns-then-code-lt-APART : goal.returns-then-code-lt-APART
returns-then-code-lt-APART c =
    small_here c.self.inside.apart.items c.self.inside.codes.items c.args.self.now.items c.args.i c.index-code.result.now c.small_row_of.result
    (ap (λ list. list.items) c.self.view_is) c.requires c.index-code.ensures c.if-code-lt-APART.true c.small_row_of.ensures

pub returns-else-code-lt-APART : goal.returns-else-code-lt-APART
returns-else-code-lt-APART c =
    apart_here c.self.inside.apart.items c.self.inside.codes.items c.args.self.now.items c.args.i c.index-code.result.now c.index.result.now
    (ap (λ list. list.items) c.self.view_is) c.requires c.index-code.ensures c.self.invariant.0 c.if-code-lt-APART.false c.index.ensures
