-- To which socket a cell of an XSKMAP leads a packet of a port's queue (af_xdp.rst, "Usage" and "XDP_SHARED_UMEM bind
-- flag"): an empty cell leads to none, and neither does a socket that is bound to another port or another queue. Cells
-- hold the numbers of sockets counted from 1, and 0 where they are empty, which is this project's own; a number that no
-- socket has leads to none either.
use Rattle.std.specs.Prelude.{ℕ, ◌-◌, ◌==◌, ◌&&◌, ◌||◌, not, nat_lt, length, if◌then◌else◌, Result, Ok, Err}
use Rattle.xsk_model.specs.Config.{Config, socket_at}
use Rattle.xsk_prog.specs.declared.cell.Miss.{Miss}
use Rattle.xsk_prog.specs.declared.cell.Miss.TheVariants.{EmptyCell, OtherQueue}

abbrev pub redirect_of : Config → ℕ → ℕ → ℕ → Result ℕ Miss
redirect_of c port queue cell =
    if cell == 0 || nat_lt (length c.sockets) cell then Err EmptyCell
    else if not ((socket_at c.sockets (cell - 1)).port == port && (socket_at c.sockets (cell - 1)).queue == queue) then Err OtherQueue
    else Ok (cell - 1)
