use Rattle.xsk_stats.proofs.Lines.{on_ok, whole}
use Rattle.xsk_stats.proofs.text.push_report.Goals as goal

pub returns : goal.returns
returns c =
    on_ok c.push_stranded.result _ _
    (whole c.args.config.now c.args.figures.now c.classes-classes.result c.add_up-totals.result _ _ _ _ _ _ _ _ c.classes-classes.ensures c.add_up-totals.ensures c.requires.none
    c.in_ok-push_setting.ensures c.in_ok-push_calls.ensures c.in_ok-push_drivers.ensures c.in_ok-push_pairs.ensures c.in_ok-push_all_sockets.ensures c.in_ok-push_totals.ensures)
    c.push_stranded.ensures
