use Rattle.std.proofs.Common.{Err, map, refl, ap, ◌∙◌, inr}
use Rattle.std.proofs.lemmas.Result.{err_from_is_err_and}
use Rattle.xsk_pcapng.specs.Pcapng.{lists_of}
use Rattle.xsk_pcapng.specs.Steps.{arrival_in}
use Rattle.xsk_pcapng.specs.Written.{packets_of}
use Rattle.xsk_pcapng.proofs.FileLaws.{one_reading, refused_is_no_file, refused_once, accepted_but_for_memory, file_of}
use Rattle.xsk_pcapng.proofs.reading.read.Goals as goal

pub returns-in_err-found-clause-accepted : goal.returns-in_err-found-clause-accepted
returns-in_err-found-clause-accepted c = λ lists file.
    let p = err_from_is_err_and c.from_residual.result c.from_residual.ensures.1 in
    rw (p.1, p.2) (accepted_but_for_memory c.args.ports c.args.bytes.now _ lists c.in_err-found.ensures.cause file)

pub returns-in_err-found-clause-refused : goal.returns-in_err-found-clause-refused
returns-in_err-found-clause-refused c = λ refusal refused.
    let p = err_from_is_err_and c.from_residual.result c.from_residual.ensures.1 in
    p.1 ∙ ap Err (p.2 ∙ refused_once c.args.ports c.args.bytes.now _ refusal c.in_err-found.ensures.cause refused)

pub returns-in_default-clause-refused : goal.returns-in_default-clause-refused
returns-in_default-clause-refused c = λ refusal refused.
    let found = c.in_ok-found.ensures.found in
    let arrivals = map (arrival_in c.args.bytes.now) c.in_ok-found.found.items in
    let file = file_of found.0 c.args.ports c.args.bytes.now c.in_ok-found.found.items c.in_ok-found.found.items (lists_of c.args.ports arrivals) found.1 refl refl in
    absurd (refused_is_no_file c.args.ports c.args.bytes.now refusal (lists_of c.args.ports arrivals) refused file)

pub returns-in_default-clause-cause : goal.returns-in_default-clause-cause
returns-in_default-clause-cause c =
    let found = c.in_ok-found.ensures.found in
    let arrivals = map (arrival_in c.args.bytes.now) c.in_ok-found.found.items in
    inr (refl, lists_of c.args.ports arrivals, file_of found.0 c.args.ports c.args.bytes.now c.in_ok-found.found.items c.in_ok-found.found.items (lists_of c.args.ports arrivals) found.1 refl refl)

pub returns-clause-accepted : goal.returns-clause-accepted
returns-clause-accepted c = λ lists file.
    let found = c.in_ok-found.ensures.found in
    one_reading c.args.ports c.args.bytes.now (packets_of c.in-Ok.lists.items) lists (
    file_of found.0 c.args.ports c.args.bytes.now c.in_ok-found.found.items c.as_slice.result.now (packets_of c.in-Ok.lists.items) found.1 c.as_slice.ensures.value c.in-Ok.ensures
    ) file

pub returns-clause-refused : goal.returns-clause-refused
returns-clause-refused c = λ refusal refused.
    let found = c.in_ok-found.ensures.found in
    let arrivals = map (arrival_in c.args.bytes.now) c.in_ok-found.found.items in
    let file = file_of found.0 c.args.ports c.args.bytes.now c.in_ok-found.found.items c.in_ok-found.found.items (lists_of c.args.ports arrivals) found.1 refl refl in
    absurd (refused_is_no_file c.args.ports c.args.bytes.now refusal (lists_of c.args.ports arrivals) refused file)
