-- What a run that has ended sent, by the laws of whole runs.
use Rattle.std.proofs.Common.{[]}
use Rattle.std.specs.List.{slice_index_or}
use Rattle.xsk_model.specs.Entry.{own}
use Rattle.xsk_model.specs.Steering.{driver_on}
use Rattle.xsk_ended.proofs.Shown.{shown_forwarded, shown_expected}
use Rattle.xsk_ended.proofs.Until.{all_are_forwarded, all_are_expected}
use Rattle.xsk_machine.proofs.Within.{by_one}
use Rattle.xsk_sim.specs.Runs.{EndedIsForwarded, EndedIsExpected, EndedIsForwardedUntil, EndedIsExpectedUntil}

pub ended_is_forwarded_until : EndedIsForwardedUntil
ended_is_forwarded_until s frames order run port queue none regular ended in_ports in_queues =
    let h = ended.history in
    shown_forwarded 1 s frames h run.sent port queue regular ended.is.legal (λ who known. by_one s who (own who h) (ended.whole who known)) ended.sent in_ports in_queues none

pub ended_is_expected_until : EndedIsExpectedUntil
ended_is_expected_until s frames order run port queue none waits regular ended in_ports in_queues =
    let h = ended.history in
    shown_expected 1 s frames h run.sent port queue regular ended.is.legal (λ who known. by_one s who (own who h) (ended.whole who known)) ended.sent in_ports in_queues none waits

pub ended_is_forwarded : EndedIsForwarded
ended_is_forwarded s frames order run port queue none steady ended in_ports in_queues =
    all_are_forwarded s.wire s.config ended.history s.packets s.verdicts port queue (slice_index_or run.sent (driver_on s.config port queue) []) steady.closes
    (ended_is_forwarded_until s frames order run port queue none steady.regular ended in_ports in_queues)

pub ended_is_expected : EndedIsExpected
ended_is_expected s frames order run port queue none waits steady ended in_ports in_queues =
    all_are_expected s.config ended.history s.packets s.verdicts port queue (slice_index_or run.sent (driver_on s.config port queue) []) steady.closes
    (ended_is_expected_until s frames order run port queue none waits steady.regular ended in_ports in_queues)
