use Rattle.std.proofs.Common.{Err, List, ℕ, map, refl, ap, subst, inr}
use Rattle.xsk_pcapng.specs.Pcapng.{IsCause, lists_of}
use Rattle.xsk_pcapng.specs.Steps.{Finds, arrival_in}
use Rattle.xsk_pcapng.specs.Written.{packets_of}
use Rattle.xsk_pcapng.proofs.FileLaws.{one_reading, refused_is_no_file, refused_once, accepted_but_for_memory, file_of}
use Rattle.xsk_pcapng.proofs.reading.take.Goals as goal

pub returns-in-Err-clause-accepted : goal.returns-in-Err-clause-accepted
returns-in-Err-clause-accepted c = λ lists file.
    let cause = subst (λ (b : List ℕ). IsCause c.args.ports b c.in-Err.cause) c.as_slice.ensures.value c.in-Err.ensures.cause in
    accepted_but_for_memory c.args.ports c.args.bytes.items _ lists cause file

pub returns-in-Err-clause-refused : goal.returns-in-Err-clause-refused
returns-in-Err-clause-refused c = λ refusal refused.
    let cause = subst (λ (b : List ℕ). IsCause c.args.ports b c.in-Err.cause) c.as_slice.ensures.value c.in-Err.ensures.cause in
    ap (λ e. Err (record { bytes = c.args.bytes; cause = e })) (refused_once c.args.ports c.args.bytes.items _ refusal cause refused)

pub returns-in-Ok-lists_in-clause-found : goal.returns-in-Ok-lists_in-clause-found
returns-in-Ok-lists_in-clause-found c =
    let order = c.in-Ok.ensures.found.0 in
    let found = subst (λ (b : List ℕ). Finds order c.args.ports b c.in-Ok.found.items) c.as_slice.ensures.value c.in-Ok.ensures.found.1 in
    file_of order c.args.ports c.args.bytes.items c.in-Ok.found.items c.as_slice-2.result.now (packets_of c.in-Ok-lists_in.lists.items) found c.as_slice-2.ensures.value c.in-Ok-lists_in.ensures.packets

pub returns-in-Ok-lists_in-clause-accepted : goal.returns-in-Ok-lists_in-clause-accepted
returns-in-Ok-lists_in-clause-accepted c = λ lists file.
    let order = c.in-Ok.ensures.found.0 in
    let found = subst (λ (b : List ℕ). Finds order c.args.ports b c.in-Ok.found.items) c.as_slice.ensures.value c.in-Ok.ensures.found.1 in
    one_reading c.args.ports c.args.bytes.items (packets_of c.in-Ok-lists_in.lists.items) lists (
    file_of order c.args.ports c.args.bytes.items c.in-Ok.found.items c.as_slice-2.result.now (packets_of c.in-Ok-lists_in.lists.items) found c.as_slice-2.ensures.value c.in-Ok-lists_in.ensures.packets
    ) file

pub returns-in-Ok-lists_in-clause-refused : goal.returns-in-Ok-lists_in-clause-refused
returns-in-Ok-lists_in-clause-refused c = λ refusal refused.
    let order = c.in-Ok.ensures.found.0 in
    let found = subst (λ (b : List ℕ). Finds order c.args.ports b c.in-Ok.found.items) c.as_slice.ensures.value c.in-Ok.ensures.found.1 in
    let lists = lists_of c.args.ports (map (arrival_in c.args.bytes.items) c.in-Ok.found.items) in
    absurd (refused_is_no_file c.args.ports c.args.bytes.items refusal lists refused
    (file_of order c.args.ports c.args.bytes.items c.in-Ok.found.items c.in-Ok.found.items lists found refl refl))

pub returns-clause-refused : goal.returns-clause-refused
returns-clause-refused c = λ refusal refused.
    let order = c.in-Ok.ensures.found.0 in
    let found = subst (λ (b : List ℕ). Finds order c.args.ports b c.in-Ok.found.items) c.as_slice.ensures.value c.in-Ok.ensures.found.1 in
    let lists = lists_of c.args.ports (map (arrival_in c.args.bytes.items) c.in-Ok.found.items) in
    absurd (refused_is_no_file c.args.ports c.args.bytes.items refusal lists refused
    (file_of order c.args.ports c.args.bytes.items c.in-Ok.found.items c.in-Ok.found.items lists found refl refl))

pub returns-clause-cause : goal.returns-clause-cause
returns-clause-cause c =
    let order = c.in-Ok.ensures.found.0 in
    let found = subst (λ (b : List ℕ). Finds order c.args.ports b c.in-Ok.found.items) c.as_slice.ensures.value c.in-Ok.ensures.found.1 in
    let lists = lists_of c.args.ports (map (arrival_in c.args.bytes.items) c.in-Ok.found.items) in
    inr (refl, lists, file_of order c.args.ports c.args.bytes.items c.in-Ok.found.items c.in-Ok.found.items lists found refl refl)
