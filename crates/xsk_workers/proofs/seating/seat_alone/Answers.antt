use Rattle.std.proofs.Common.{ap, true, ◌∙◌}
use Rattle.xsk_turns.specs.Workers.{Setting}
use Rattle.xsk_table.specs.Held.{Holder}
use Rattle.xsk_workers.specs.Shown.{seat_with}
use Rattle.xsk_workers.specs.Terms.{setting_over}
use Rattle.xsk_workers.proofs.seating.seat_alone.Goals as goal

pub returns : goal.returns
returns g c several =
    ap (λ (x : Setting). seat_with x c.new.result.pass true) c.new.ensures.setting ∙ ap (λ (p : Holder). seat_with (setting_over c.args.source.terms g.V.Verdicts.verdicts) p true) c.new.ensures.pass
