use Rattle.std.proofs.Common.{sym, ◌∙◌}
use Rattle.xsk_driver.specs.Stands.{seat_in, kept_in}
use Rattle.xsk_driver.proofs.Steps.{awake_receives}
use Rattle.xsk_driver.proofs.machine.Machine.begin_awake.Goals as goal

pub returns-in-None-clause-goes : goal.returns-in-None-clause-goes
returns-in-None-clause-goes c =
    let m = c.args.self.now in
    awake_receives (seat_in m) c.begin_receiving.new.self c.begin_receiving.new.asked (kept_in m) m.some c.requires.awake (sym c.unacknowledged.ensures ∙ c.in-None.is) c.begin_receiving.ensures.goes
