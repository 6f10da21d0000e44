-- What a run on threads sent, by the laws of whole runs.
use Rattle.std.proofs.Common.{[]}
use Rattle.std.specs.List.{slice_index_or}
use Rattle.xsk_model.specs.Steering.{driver_on}
use Rattle.xsk_ended.proofs.Shown.{shown_forwarded, shown_expected}
use Rattle.xsk_ended.proofs.Until.{all_are_forwarded, all_are_expected}
use Rattle.xsk_workers.specs.Forwarded.{AllAreForwarded, AllAreExpected, AllAreForwardedUntil, AllAreExpectedUntil}

pub all_forwarded_until : AllAreForwardedUntil
all_forwarded_until hands s frames o port queue none regular shows in_ports in_queues =
    shown_forwarded hands s frames o.history o.sent port queue regular shows.legal shows.whole shows.sent in_ports in_queues none

pub all_expected_until : AllAreExpectedUntil
all_expected_until hands s frames o port queue none waits regular shows in_ports in_queues =
    shown_expected hands s frames o.history o.sent port queue regular shows.legal shows.whole shows.sent in_ports in_queues none waits

pub all_forwarded : AllAreForwarded
all_forwarded hands s frames o port queue none steady shows in_ports in_queues =
    all_are_forwarded s.wire s.config o.history s.packets s.verdicts port queue (slice_index_or o.sent (driver_on s.config port queue) []) steady.closes
    (all_forwarded_until hands s frames o port queue none steady.regular shows in_ports in_queues)

pub all_expected : AllAreExpected
all_expected hands s frames o port queue none waits steady shows in_ports in_queues =
    all_are_expected s.config o.history s.packets s.verdicts port queue (slice_index_or o.sent (driver_on s.config port queue) []) steady.closes
    (all_expected_until hands s frames o port queue none waits steady.regular shows in_ports in_queues)
