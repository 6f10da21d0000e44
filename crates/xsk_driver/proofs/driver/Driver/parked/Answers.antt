use Rattle.std.proofs.Common.{◌≡◌, sym, ap, ◌∙◌, is_some}
use Rattle.xsk_turns.specs.Turns.{seat_of}
use Rattle.xsk_turns.proofs.Parking.{parked_looks, ends_awake}
use Rattle.xsk_driver.specs.Shown.{Shown}
use Rattle.xsk_driver.specs.Stands.{left}
use Rattle.xsk_driver.proofs.driver.Driver.parked.Goals as goal

pub returns-clause-looks : goal.returns-clause-looks
returns-clause-looks c wire config pair input l call stands =
    let d = c.args.self.now in
    let same : c.is_some.result ≡ is_some d.kept.parked = c.is_some.ensures ∙ ap (λ (d : Shown). is_some d.kept.parked) c.self.view_is in
    let law = parked_looks wire config pair input l d.kept call (left (seat_of wire config pair) d.wait d.noted d.kept) stands.asks in
    ((λ e. law.0 (sym same ∙ e)), λ e. same ∙ law.1 e)

pub returns-clause-ended : goal.returns-clause-ended
returns-clause-ended c wire config pair input l ended =
    let d = c.args.self.now in
    c.is_some.ensures ∙ ap (λ (d : Shown). is_some d.kept.parked) c.self.view_is ∙ ap is_some (ends_awake wire config pair input l d.kept ended.ends)
