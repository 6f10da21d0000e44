-- A socket with a ring more, and pairs with a socket's FILL and COMPLETION where their queue has none.
use Rattle.std.specs.Prelude.{ℕ, List, [], ◌∷◌, ◌++◌, Some, unwrap_or, if◌then◌else◌}
use Rattle.xsk_model.specs.declared.config.PairInfo.{PairInfo}
use Rattle.xsk_socket.specs.Setup.{has_pair}
use Rattle.xsk_socket.specs.declared.socket.RingKind.{RingKind}
use Rattle.xsk_socket.specs.declared.socket.RingKind.TheVariants.{Rx, Tx, Fill, Comp}
use Rattle.xsk_socket.specs.declared.socket.Socket.{Socket}

abbrev pub with_ring : RingKind → ℕ → Socket → Socket
with_ring Rx size x = record x { rx = Some size }
with_ring Tx size x = record x { tx = Some size }
with_ring Fill size x = record x { fill = Some size }
with_ring Comp size x = record x { comp = Some size }

abbrev pub paired : List PairInfo → Socket → ℕ → ℕ → List PairInfo
paired pairs own port queue =
    if has_pair pairs port queue then pairs
    else pairs ++ (record { port = port; queue = queue; fill = unwrap_or own.fill 0; comp = unwrap_or own.comp 0 }) ∷ []
