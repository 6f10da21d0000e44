use Rattle.std.proofs.Common.{rules}
use Rattle.xsk_socket.specs.Regular.{regular_of}
use Rattle.xsk_audit.specs.Telling.{IsVerdict}
use Rattle.xsk_audit.specs.declared.auditing.Verdicts.TheVariants.{Legal}
use Rattle.xsk_cli.proofs.audit.audit_texts.Goals as goal

pub returns-in_ok-legal_texts-in-Legal-clause-made : goal.returns-in_ok-legal_texts-in-Legal-clause-made
returns-in_ok-legal_texts-in-Legal-clause-made c =
    let entries = c.in-Legal.entries in
    let verdict : IsVerdict (regular_of c.args.layout.now) c.args.text.now (Legal entries) = search rules in
    (entries, verdict, search rules)
