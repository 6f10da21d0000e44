use Rattle.std.proofs.Common.{◌≡◌, length, sym, ap, ◌∙◌}
use Rattle.xsk_model.specs.Entry.{own}
use Rattle.xsk_sim.proofs.Journaling.{stands, same_counts, counted}
use Rattle.xsk_sim.proofs.journal.next_round.Goals as goal

pub returns : goal.returns
returns c = λ past e are mine.
    let who = c.args.who in
    let counts = c.make_count.new.counts.items in
    let made = c.in_ok-make_count.ensures in
    let round : c.index-round.result.now ≡ length (own who past) =
    stands counts who c.index-round.result.now made.known c.index-round.ensures ∙ made.counts who ∙ are who in (
      round ∙ ap (λ k. length (own k past)) (sym mine),
      counted counts past who c.index-round.result.now e (same_counts c.args.counts.now.items counts past made.counts are) mine made.known round,
    )
