use Rattle.std.proofs.Common.{◌≡◌, None, length, sym, subst}
use Rattle.std.specs.Prelude.{IfErr, IfOk}
use Rattle.xsk_cli.specs.Outcome.{AreTextsBy}
use Rattle.xsk_cli.specs.Steps.{FailsMaking, lists_in, written_in}
use Rattle.xsk_cli.specs.Words.{fault_in, ports_in}
use Rattle.xsk_cli.specs.declared.words.Work.{Work}
use Rattle.xsk_cli.proofs.Making.{run_makes}
use Rattle.xsk_cli.proofs.rounds.run_work.Goals as goal

pub run_texts-requires-clause-accepted : goal.run_texts-requires-clause-accepted
run_texts-requires-clause-accepted c = subst (λ (w : Work). fault_in w ≡ None) c.of.ensures.1 c.requires.accepted

pub run_texts-requires-clause-ports : goal.run_texts-requires-clause-ports
run_texts-requires-clause-ports c = subst (λ (w : Work). length c.args.lists.items ≡ ports_in w) c.of.ensures.1 c.requires.ports

pub returns-clause-made : goal.returns-clause-made
returns-clause-made c =
    subst (λ (w : Work). IfOk c.run_texts.result (λ ran. AreTextsBy w (lists_in c.args.lists.items) (written_in ran.left.lists ran.texts))) (sym c.of.ensures.1) c.run_texts.ensures.made

pub returns-clause-failed : goal.returns-clause-failed
returns-clause-failed c =
    let terms = c.of.result in
    subst (λ (w : Work). IfErr c.run_texts.result (FailsMaking w (lists_in c.args.lists.items))) (sym c.of.ensures.1)
    (run_makes terms.layout.now terms.programs.now terms.wire terms.manner terms.order c.of.ensures.0 terms.telling terms.format (lists_in c.args.lists.items) c.run_texts.result c.run_texts.ensures.failed)
