use Rattle.std.proofs.Common.{◌≡◌, ℕ, ◌*◌, List, length, take, drop, sym, ap, subst, ◌∙◌}
use Rattle.std.specs.List.{range_with_len}
use Rattle.std.proofs.lemmas.List.{length-map}
use Rattle.xsk_machine.specs.Acts.{packets_in}
use Rattle.xsk_pcap.specs.Written.{IsWritable}
use Rattle.xsk_pcapng.specs.Written.{IsWritable as IsWritableFile}
use Rattle.xsk_cli.specs.Format.{joined, outputs_of}
use Rattle.xsk_cli.specs.Steps.{CanBeLaid, outputs_in}
use Rattle.xsk_cli.proofs.shown.shown_texts.Goals as goal

pub sent_outputs-requires-clause-count : goal.sent_outputs-requires-clause-count
sent_outputs-requires-clause-count c = sym (length-map c.lists-sent.result.now packets_in) ∙ ap length c.lists-sent.ensures ∙ c.requires.sent

pub sent_outputs-requires-clause-writable : goal.sent_outputs-requires-clause-writable
sent_outputs-requires-clause-writable c port count in_ports few =
    subst (λ (ls : List (List (List ℕ))). IsWritable (take count (drop (port * c.args.terms.layout.now.queues) ls))) (sym c.lists-sent.ensures) (c.requires.writable port count in_ports few)

pub sent_outputs-requires-clause-file : goal.sent_outputs-requires-clause-file
sent_outputs-requires-clause-file c =
    subst (λ (ls : List (List (List ℕ))). IsWritableFile (joined c.args.terms.layout.now.ports c.args.terms.layout.now.queues ls)) (sym c.lists-sent.ensures) c.requires.file

pub returns-clause-outputs : goal.returns-clause-outputs
returns-clause-outputs c =
    let layout = c.args.terms.layout.now in
    subst (λ (ls : List (List (List ℕ))). outputs_in ls c.in_ok-outputs.outputs ≡ outputs_of c.args.terms.format (λ port. take layout.queues (drop (port * layout.queues) ls)) (range_with_len 0 layout.ports)) c.lists-sent.ensures c.in_ok-outputs.ensures.outputs

pub returns-clause-laid : goal.returns-clause-laid
returns-clause-laid c = subst (λ (ls : List (List (List ℕ))). CanBeLaid ls c.in_ok-outputs.outputs) c.lists-sent.ensures c.in_ok-outputs.ensures.laid
