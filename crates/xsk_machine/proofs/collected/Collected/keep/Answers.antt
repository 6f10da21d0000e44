use Rattle.std.proofs.Common.{◌∷◌, ◌++◌, [], ◌∙◌, ap, sym, subst}
use Rattle.std.specs.Prelude.{All}
use Rattle.std.proofs.lemmas.List.Elements.{All-push}
use Rattle.xsk_machine.specs.Acts.{HasSentGaps, HasShortPackets}
use Rattle.xsk_machine.specs.Workers.{figures_kept}
use Rattle.xsk_machine.specs.declared.figures.DriverFigures.{DriverFigures}
use Rattle.xsk_machine.specs.declared.worker.AnyWorker.{AnyWorker}
use Rattle.xsk_machine.proofs.collected.Collected.keep.Goals as goal

pub invariant_of-self-clause-short : goal.invariant_of-self-clause-short
invariant_of-self-clause-short c =
    subst (All HasShortPackets) (sym c.push_reserved-in-Driver.ensures.items) (All-push HasShortPackets _ _ c.args.self.now.short c.into_sent.ensures.short)

pub invariant_of-self-clause-gaps : goal.invariant_of-self-clause-gaps
invariant_of-self-clause-gaps c =
    subst (All HasSentGaps) (sym c.push_reserved-in-Driver.ensures.items) (All-push HasSentGaps _ _ c.args.self.now.gaps c.into_sent.ensures.gaps)

pub returns-in-Driver-clause-figures : goal.returns-in-Driver-clause-figures
returns-in-Driver-clause-figures c =
    c.push_reserved.ensures.items ∙ ap (λ (figures : DriverFigures). c.args.self.now.figures.items ++ figures ∷ []) c.of_driver.ensures
    ∙ ap (λ (w : AnyWorker). c.args.self.now.figures.items ++ figures_kept c.args.classes w) (sym c.in-Driver.is)
