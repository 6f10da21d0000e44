use Rattle.std.proofs.Common.{refl}
use Rattle.xsk_turns.specs.Workers.{Setting}
use Rattle.xsk_machine.specs.Workers.{kept_in, setting_by}
use Rattle.xsk_sim.specs.Seats.{AreSet}
use Rattle.xsk_sim.proofs.Verdicts.{if_ok}
use Rattle.xsk_sim.proofs.simulation.all_workers.Goals as goal

pub seat_workers-requires-clause-new : goal.seat_workers-requires-clause-new
seat_workers-requires-clause-new g c =
    (setting_by c.args.config.now c.args.terms.wire c.args.terms.manner c.args.terms.packets.now (kept_in c.in_ok-drivers.drivers.items), refl, refl, c.in_ok-drivers.ensures.new c.args.terms.manner)

pub returns-clause-set : goal.returns-clause-set
returns-clause-set g c =
    let s : Setting = setting_by c.args.config.now c.args.terms.wire c.args.terms.manner c.args.terms.packets.now (kept_in c.in_ok-drivers.drivers.items) in
    if_ok c.seat_workers.result (AreSet s) _ (λ workers set. (s.verdicts, c.in_ok-drivers.ensures.once, c.in_ok-drivers.ensures.asked c.args.terms.manner, set))
    (c.seat_workers.ensures s refl refl (c.in_ok-drivers.ensures.new c.args.terms.manner))
