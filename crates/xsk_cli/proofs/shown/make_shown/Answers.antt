use Rattle.std.proofs.Common.{◌≡◌, None, Some, true, length, IfOk, IfErr, sym, subst}
use Rattle.xsk_workers.specs.Forwarded.{OutcomeShown}
use Rattle.xsk_cli.specs.Forward.{AreTextsFrom, HasShown}
use Rattle.xsk_cli.specs.Steps.{lists_in, written_in}
use Rattle.xsk_cli.specs.Words.{fault_in, ports_in, suits_in}
use Rattle.xsk_cli.specs.declared.words.Work.{Work}
use Rattle.xsk_cli.proofs.shown.make_shown.Goals as goal

pub run_shown-requires-clause-accepted : goal.run_shown-requires-clause-accepted
run_shown-requires-clause-accepted g c κs within = subst (λ (w : Work). fault_in w ≡ None) c.of.ensures.1 c.requires.accepted

pub run_shown-requires-clause-suits : goal.run_shown-requires-clause-suits
run_shown-requires-clause-suits g c κs within = subst (λ (w : Work). suits_in w ≡ true) c.of.ensures.1 c.requires.suits

pub run_shown-requires-clause-ports : goal.run_shown-requires-clause-ports
run_shown-requires-clause-ports g c κs within = subst (λ (w : Work). length c.args.lists.items ≡ ports_in w) c.of.ensures.1 c.requires.ports

pub returns-clause-made : goal.returns-clause-made
returns-clause-made g c =
    subst (λ (w : Work). IfOk c.run_shown.result (λ made. HasShown w (lists_in c.args.lists.items) made.left × AreTextsFrom w (lists_in c.args.lists.items) made.left (written_in made.left.sent made.texts)))
    (sym c.of.ensures.1) c.run_shown.ensures.made

pub returns-clause-shown : goal.returns-clause-shown
returns-clause-shown g c =
    subst (λ (w : Work). IfErr c.run_shown.result (λ outcome. (o : OutcomeShown) → outcome ≡ Some o → HasShown w (lists_in c.args.lists.items) o)) (sym c.of.ensures.1) c.run_shown.ensures.shown
