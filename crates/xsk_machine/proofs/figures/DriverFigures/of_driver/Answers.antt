use Rattle.std.proofs.Common.{rules, ◌∙◌, ap}
use Rattle.xsk_machine.specs.Figures.{counters_to}
use Rattle.xsk_machine.proofs.Figured.{shown_figures}
use Rattle.xsk_machine.proofs.figures.DriverFigures.of_driver.Goals as goal

pub returns : goal.returns
returns c =
    shown_figures c.args.driver.now c.args.classes _ _ _ _ _ _ c.of.ensures.figures
    (search rules) (search rules) c.disposals-disposals.ensures (search rules) (search rules)
    (c.keep_classes-counters.ensures ∙ ap (counters_to c.args.classes) c.counters.ensures) c.stranded-stranded.ensures.value
