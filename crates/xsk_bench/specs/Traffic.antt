-- What is received: a configuration, and a list of packets for each of its ports.
use Rattle.std.specs.Prelude.{◌≡◌, All, List, length}
use Rattle.xsk_umem.specs.PacketList.{PacketList}
use Rattle.xsk_model.specs.Config.{Config}
use Rattle.xsk_turns.specs.Inputs.{inputs_of}
use Rattle.xsk_turns.specs.Owned.{IsSteady}
use Rattle.xsk_machine.specs.Acts.{HasShortPackets}
use Rattle.xsk_bench.specs.declared.traffic.Traffic.TheInside.{Inside}

pub record Received : Type 0 where
  pub config : Config
  pub packets : List PacketList

abbrev pub received_of : Inside → Received
received_of t = record { config = t.config; packets = t.packets.items }

-- each packet of each port is given to the driver of its queue
pub record IsSplit (t : Inside) : Type 0 where
  pub steady : IsSteady t.config
  pub lists : length t.packets.items ≡ t.config.ports
  pub short : All HasShortPackets t.packets.items
  pub inputs : t.inputs ≡ inputs_of t.config t.packets.items
