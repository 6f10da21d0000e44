-- The sizes of a configuration's rings, by place. A ring that a socket hasn't got has size 0.
use Rattle.std.specs.Prelude.{ℕ, List, ◌++◌, map, unwrap_or}
use Rattle.xsk_model.specs.Config.{Config}
use Rattle.xsk_model.specs.declared.config.SocketInfo.{SocketInfo}
use Rattle.xsk_model.specs.declared.config.PairInfo.{PairInfo}

abbrev pub fill_size : PairInfo → ℕ
fill_size pair = pair.fill

abbrev pub comp_size : PairInfo → ℕ
comp_size pair = pair.comp

abbrev pub rx_size : SocketInfo → ℕ
rx_size socket = unwrap_or socket.rx 0

abbrev pub tx_size : SocketInfo → ℕ
tx_size socket = unwrap_or socket.tx 0

abbrev pub sizes_of : Config → List ℕ
sizes_of c = map fill_size c.pairs ++ map comp_size c.pairs ++ map rx_size c.sockets ++ map tx_size c.sockets
