use Rattle.std.proofs.Common.{Err, ap, subst}
use Rattle.xsk_pcap.specs.Capture.{IsCause}
use Rattle.xsk_pcap.specs.Steps.{Finds}
use Rattle.xsk_pcap.proofs.CaptureLaws.{one_reading, refused_once, accepted_but_for_memory, refused_is_no_capture}
use Rattle.xsk_pcap.proofs.reading.read.Goals as goal

pub returns-in-Ok-clause-accepted : goal.returns-in-Ok-clause-accepted
returns-in-Ok-clause-accepted c = λ packets capture.
    let found = c.in-Ok.ensures.found in
    let here = subst (λ bytes. Finds found.0 bytes c.in-Ok.spans.items) c.as_slice.ensures.value found.1 in
    rw c.of_spans.ensures (one_reading c.args.bytes.items _ packets (found.0, here.begins) capture)

pub returns-in-Ok-clause-refused : goal.returns-in-Ok-clause-refused
returns-in-Ok-clause-refused c = λ refusal refused.
    let found = c.in-Ok.ensures.found in
    let here = subst (λ bytes. Finds found.0 bytes c.in-Ok.spans.items) c.as_slice.ensures.value found.1 in
    absurd (refused_is_no_capture c.args.bytes.items refusal _ refused (found.0, here.begins))

pub returns-in-Err-clause-accepted : goal.returns-in-Err-clause-accepted
returns-in-Err-clause-accepted c = λ packets capture.
    let cause = subst (λ bytes. IsCause bytes c.in-Err.cause) c.as_slice.ensures.value c.in-Err.ensures.cause in
    accepted_but_for_memory c.args.bytes.items _ packets cause capture

pub returns-in-Err-clause-refused : goal.returns-in-Err-clause-refused
returns-in-Err-clause-refused c = λ refusal refused.
    let cause = subst (λ bytes. IsCause bytes c.in-Err.cause) c.as_slice.ensures.value c.in-Err.ensures.cause in
    ap (λ e. Err (record { bytes = c.args.bytes; cause = e })) (refused_once c.args.bytes.items _ refusal cause refused)
