use Rattle.std.proofs.Common.{◌≡◌, ◌-◌, length}
use Rattle.xsk_turns.proofs.Object.{map_of}
use Rattle.xsk_app.specs.Ways.{first_cell}
use Rattle.xsk_app.proofs.closing.first_cell.Given as goal

abbrev pub invariant-loop-cell : goal.invariant-loop-cell
invariant-loop-cell l =
    first_cell (map_of l.config l.port) l.socket (length (map_of l.config l.port) - l.fn.index) l.fn.index ≡ first_cell (map_of l.config l.port) l.socket (length (map_of l.config l.port) - l.cell) l.cell
