-- Where no item is changed no frame is stranded at the end: what a driver peeked are the layouts that the paired driver submitted, of
-- which each is a whole packet, and these are completed.
use Rattle.std.proofs.Common.{◌≡◌, ℕ, ◌+◌, ◌<◌, List, [], ap, ◌∙◌, arith}
use Rattle.xsk_umem.specs.declared.batch.Item.{Item}
use Rattle.xsk_model.specs.Config.{IsConfig, classes_of}
use Rattle.xsk_model.specs.History.{OwnGoesOn}
use Rattle.xsk_model.specs.Entry.{own}
use Rattle.xsk_model.specs.Own.{submitted_of}
use Rattle.xsk_model.specs.Packets.{packets, rest, bad_items}
use Rattle.xsk_model.specs.Steering.{paired_port, driver_on, socket_on}
use Rattle.xsk_model.specs.declared.call.Ring.TheVariants.{Rx}
use Rattle.xsk_model.proofs.Seats.{IsAt, is_at}
use Rattle.xsk_model.proofs.Theorems.{own_entries}
use Rattle.xsk_turns.specs.Owned.{IsSeat}
use Rattle.xsk_turns.specs.Stranded.{stranded_in, sent_count, completed_count}
use Rattle.xsk_turns.proofs.Stranding.{keeps_stranded_at_end, none_stranded}
use Rattle.xsk_laws.specs.Laws.{received_by, IsPlace, NoneAreStranded}
use Rattle.xsk_laws.proofs.Joined.{ended_runs, peeked_all, laid, few}
use Rattle.xsk_laws.proofs.Laid.{laid_items}
use Rattle.xsk_laws.proofs.Machines.{workers}

pub none_are_stranded : NoneAreStranded
none_are_stranded hands manner wire c lists verdicts frames h p q none run port queue =
    let d : ℕ = driver_on c p q in
    let config : IsConfig c = run.history.opened.config in
    let some : 0 < classes_of c = (let classes = run.steady.regular.classes in omega (arith, classes)) in
    let at : IsAt c p q 0 d (socket_on c p q 0) = is_at c p q 0 config run.steady.regular port queue some in
    let seat : IsSeat c d = record { config = config; regular = run.steady.regular; geometry = run.history.opened.geometry; known = at.pair_known } in
    let goes : OwnGoesOn c d [] (own d h) = own_entries c frames h d run.history in
    let whole = run.drivers d at.pair_known in
    let nothing : stranded_in whole.0 ≡ 0 = none_stranded wire c d (received_by c lists verdicts d) (own d h) whole.0 seat goes whole.1
    (λ k within.
    let place : IsPlace c p q k = record { in_ports = port; in_queues = queue; in_classes = within } in
    let ended = ended_runs hands manner wire c lists verdicts frames h run in
    let same = peeked_all workers hands manner wire c lists verdicts frames h p q k ended place run.steady.closes none in
    let given : List Item = submitted_of (Rx (socket_on c (paired_port p) q k)) (own (driver_on c (paired_port p) q) h) in
    let made = laid_items c.geometry c.sg run.history.opened.geometry _ given (laid workers hands manner wire c lists verdicts frames h p q k ended place) (few workers hands manner wire c lists verdicts frames h p q k ended place) in
    (ap (λ items. bad_items (packets c.geometry c.sg items)) same ∙ made.0, ap (rest c.geometry c.sg) same ∙ made.1)) in
    let kept : sent_count (own d h) ≡ stranded_in whole.0 + completed_count (own d h) = keeps_stranded_at_end wire c d (received_by c lists verdicts d) (own d h) whole.0 seat goes whole.1 in
    omega (arith, nothing, kept)
