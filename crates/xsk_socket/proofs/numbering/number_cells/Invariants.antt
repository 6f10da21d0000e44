use Rattle.std.proofs.Common.{◌≡◌}
use Rattle.xsk_socket.specs.Regular.{cell_in, numbered}
use Rattle.xsk_socket.proofs.numbering.number_cells.Given as goal

abbrev pub invariant-loop-index : goal.invariant-loop-index
invariant-loop-index l = l.map.items ≡ numbered l.index (cell_in l.fn.layout l.fn.port)
