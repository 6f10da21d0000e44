use Rattle.std.proofs.Common.{◌≡◌, ℕ, Err, ap, ◌∙◌, rules}
use Rattle.xsk_sim.specs.declared.simulation.Unended.TheVariants.{Stalled}
use Rattle.xsk_sim.proofs.simulation.simulate_unlogged.Goals as goal

pub returns-in-Err-Stalled-clause-stalled : goal.returns-in-Err-Stalled-clause-stalled
returns-in-Err-Stalled-clause-stalled g c round is =
    let object = c.in-Err-Stalled.field-0-1 in
    let counters = c.in-Err-Stalled.field-0-2 in
    let now : c.in-Err-Stalled.round ≡ round = cc in
    let told : c.in-Err-Stalled.field-0 ≡ Stalled c.in-Err-Stalled.round object counters = search rules in
    (c.in-Err-Stalled.ensures.stalled round object counters (ap Err (told ∙ ap (λ (n : ℕ). Stalled n object counters) now))).under
