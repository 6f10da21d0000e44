use Rattle.std.proofs.Common.{◌≡◌, ℕ, ◌<◌, ◌*◌, List, [], get_or, length, take, drop, sym, ap, subst, ◌∙◌}
use Rattle.std.specs.Prelude.{All}
use Rattle.std.specs.List.{range_with_len}
use Rattle.std.proofs.lemmas.List.{length-map}
use Rattle.xsk_sim.specs.Runs.{HasEnded}
use Rattle.xsk_pcap.specs.Capture.{IsShort}
use Rattle.xsk_pcap.specs.Written.{IsWritable}
use Rattle.xsk_pcapng.specs.Written.{IsWritable as IsWritableFile}
use Rattle.xsk_cli.specs.Format.{joined, outputs_of}
use Rattle.xsk_cli.specs.Outcome.{frames_of, setting_of}
use Rattle.xsk_cli.specs.Steps.{CanBeLaid, lists_in, outputs_in, written_in}
use Rattle.xsk_cli.proofs.Running.{lists_short, sent_in_file, sent_writable, texts_of}
use Rattle.xsk_cli.proofs.rounds.run_texts.Goals as goal

pub sent_outputs-requires-clause-writable : goal.sent_outputs-requires-clause-writable
sent_outputs-requires-clause-writable c port count in_ports few =
    let layout = c.args.terms.layout.now in
    let ran = c.in_ok-left.ensures.ended in
    let run = ran.0 in
    let by = ran.2 in
    let ended = subst (λ ls. HasEnded (setting_of layout c.args.terms.programs.now c.args.terms.wire c.args.terms.manner (lists_in ls)) (frames_of layout) c.args.terms.order run) c.as_slice.ensures.value ran.1 in
    let pairs : length run.sent ≡ layout.ports * layout.queues = ap length by.lists ∙ c.in_ok-left.ensures.pairs in
    let lists : List (List (List ℕ)) = lists_in c.args.lists.items in
    let own = c.lists.result.now in
    let same : lists_in own ≡ run.sent = c.lists.ensures.lists ∙ sym by.lists in
    let known : length lists ≡ layout.ports = length-map c.args.lists.items (λ list. list.packets) ∙ c.requires.ports in
    subst (λ (ls : List (List (List ℕ))). IsWritable (take count (drop (port * layout.queues) ls))) (sym same)
    (sent_writable layout c.args.terms.programs.now c.args.terms.wire c.args.terms.manner c.args.terms.order lists c.requires.accepted run ended pairs known c.requires.within
    (subst (λ (ls : List (List (List ℕ))). (pair : ℕ) → pair < length ls → All IsShort (get_or ls pair [])) same (lists_short own c.lists.ensures.short)) port count in_ports few)

pub sent_outputs-requires-clause-file : goal.sent_outputs-requires-clause-file
sent_outputs-requires-clause-file c =
    let layout = c.args.terms.layout.now in
    let ran = c.in_ok-left.ensures.ended in
    let run = ran.0 in
    let by = ran.2 in
    let ended = subst (λ ls. HasEnded (setting_of layout c.args.terms.programs.now c.args.terms.wire c.args.terms.manner (lists_in ls)) (frames_of layout) c.args.terms.order run) c.as_slice.ensures.value ran.1 in
    let pairs : length run.sent ≡ layout.ports * layout.queues = ap length by.lists ∙ c.in_ok-left.ensures.pairs in
    let lists : List (List (List ℕ)) = lists_in c.args.lists.items in
    let own = c.lists.result.now in
    let same : lists_in own ≡ run.sent = c.lists.ensures.lists ∙ sym by.lists in
    let known : length lists ≡ layout.ports = length-map c.args.lists.items (λ list. list.packets) ∙ c.requires.ports in
    subst (λ (ls : List (List (List ℕ))). IsWritableFile (joined layout.ports layout.queues ls)) (sym same)
    (sent_in_file layout c.args.terms.programs.now c.args.terms.wire c.args.terms.manner c.args.terms.order lists c.requires.accepted run ended pairs known c.requires.within
    (subst (λ (ls : List (List (List ℕ))). (pair : ℕ) → pair < length ls → All IsShort (get_or ls pair [])) same (lists_short own c.lists.ensures.short)))

pub returns-clause-made : goal.returns-clause-made
returns-clause-made c =
    let layout = c.args.terms.layout.now in
    let ran = c.in_ok-left.ensures.ended in
    let run = ran.0 in
    let by = ran.2 in
    let ended = subst (λ ls. HasEnded (setting_of layout c.args.terms.programs.now c.args.terms.wire c.args.terms.manner (lists_in ls)) (frames_of layout) c.args.terms.order run) c.as_slice.ensures.value ran.1 in
    let pairs : length run.sent ≡ layout.ports * layout.queues = ap length by.lists ∙ c.in_ok-left.ensures.pairs in
    let left = c.in_ok-left.left in
    let outputs = c.in_ok-outputs.outputs in
    let written : outputs_in left.lists outputs ≡ outputs_of c.args.terms.format (λ port. take layout.queues (drop (port * layout.queues) left.lists)) (range_with_len 0 layout.ports) =
    subst (λ (ls : List (List (List ℕ))). outputs_in ls outputs ≡ outputs_of c.args.terms.format (λ port. take layout.queues (drop (port * layout.queues) ls)) (range_with_len 0 layout.ports)) c.lists.ensures.lists c.in_ok-outputs.ensures.outputs in
    texts_of layout c.args.terms.programs.now c.args.terms.wire c.args.terms.manner c.args.terms.order (lists_in c.args.lists.items) c.requires.accepted run ended pairs c.args.terms.format c.args.terms.telling.journal
    (written_in left.lists (record { outputs = outputs; report = c.in_ok-left.report }))
    (written ∙ ap (λ (ls : List (List (List ℕ))). outputs_of c.args.terms.format (λ port. take layout.queues (drop (port * layout.queues) ls)) (range_with_len 0 layout.ports)) (sym by.lists))
    (by.pairs ∙ c.in_ok-left.ensures.pairs) ran.3

pub returns-clause-laid : goal.returns-clause-laid
returns-clause-laid c = subst (λ (ls : List (List (List ℕ))). CanBeLaid ls c.in_ok-outputs.outputs) c.lists.ensures.lists c.in_ok-outputs.ensures.laid
