use Rattle.xsk_judge.specs.declared.known.Spot.TheVariants.{First}
use Rattle.xsk_hints.specs.declared.tally.Tally.{Tally}
use Rattle.xsk_hints.specs.Told.{start_line, tally_in}
use Rattle.xsk_hints.proofs.Texts.{after, as_told, on_ok}
use Rattle.xsk_hints.proofs.hints.Hints.append.Goals as goal

pub returns : goal.returns
returns c lines stands notes =
    let start = as_told (λ (t : Tally). start_line t.count) _ _ c.tally_at.result (tally_in c.args.setting.now lines First) (c.tally_at.ensures lines stands) c.in_ok-push_start.ensures in
    on_ok c.push_sockets.result _ _
    (λ is. after _ _ _ _ _ (after _ _ _ _ _ start (c.in_ok-push_pairs.ensures lines stands notes)) is)
    (c.push_sockets.ensures lines stands notes)
