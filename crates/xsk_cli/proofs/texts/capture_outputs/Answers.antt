use Rattle.std.proofs.Common.{rules, ◌≡◌, ◌∙◌}
use Rattle.std.proofs.lemmas.List.{length-map}
use Rattle.xsk_cli.specs.Steps.{lists_in}
use Rattle.xsk_cli.proofs.Laying.{laid_outputs, laid_writable}
use Rattle.xsk_cli.proofs.texts.capture_outputs.Goals as goal

pub returns-then-queues-eq1-clause-outputs : goal.returns-then-queues-eq1-clause-outputs
returns-then-queues-eq1-clause-outputs c =
    let one : c.args.queues ≡ 1 = search rules in
    laid_outputs (lists_in c.args.sent.now) c.args.ports c.args.queues one (length-map c.args.sent.now (λ list. list.packets) ∙ c.requires.count)

pub returns-then-queues-eq1-clause-laid : goal.returns-then-queues-eq1-clause-laid
returns-then-queues-eq1-clause-laid c =
    let one : c.args.queues ≡ 1 = search rules in
    laid_writable (lists_in c.args.sent.now) c.args.ports c.args.queues one (length-map c.args.sent.now (λ list. list.packets) ∙ c.requires.count) c.requires.writable
