-- What the driver's machine shows of the packets that were sent.
use Rattle.xsk_driver.specs.SentRoom.{OutboxShown}
use Rattle.xsk_driver.specs.declared.outbox.Outbox.{Outbox}
use Rattle.xsk_driver.specs.declared.machine.Machine.{Machine}

abbrev pub outbox_of : Outbox → OutboxShown
outbox_of s = record { packets = s.list.packets; overrun = s.overrun; most_packets = s.most_packets; most_bytes = s.most_bytes }

abbrev pub sent_in : Machine → OutboxShown
sent_in m = outbox_of m.outbox
