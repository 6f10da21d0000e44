use Rattle.std.proofs.Common.{◌≡◌, Err, sym, ap, ◌∙◌, rules}
use Rattle.xsk_sim.specs.declared.simulation.Unended.TheVariants.{Stalled}
use Rattle.xsk_sim.proofs.Ending.{logged_ended}
use Rattle.xsk_sim.proofs.simulation.simulate_with_object.Goals as goal

pub returns-clause-ended : goal.returns-clause-ended
returns-clause-ended g c =
    let ran = c.in_ok-plain.ensures.ended in
    record {
      verdicts = ran.1.verdicts;
      once = ran.1.once;
      asked = ran.1.asked;
      ended = logged_ended _ c.args.frames.items c.args.order c.in_ok-plain.plain c.in_ok-plain.sent ran.0 ran.1.ended ran.2;
    }

pub returns-in_err-plain-clause-stalled : goal.returns-in_err-plain-clause-stalled
returns-in_err-plain-clause-stalled g c round plain counters is =
    let error : c.from_residual.result ≡ Err c.in_err-plain.field-0.0 = search rules in
    let same : c.in_err-plain.field-0.0 ≡ Stalled round plain counters = let e = sym error ∙ is in cc in
    c.in_err-plain.ensures.stalled round plain counters (ap Err same)
