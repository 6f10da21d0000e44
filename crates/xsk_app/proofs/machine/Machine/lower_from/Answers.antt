use Rattle.xsk_app.specs.Stands.{kept_by}
use Rattle.xsk_app.proofs.Shutting.{lowers_some, lowers_none}
use Rattle.xsk_app.proofs.machine.Machine.lower_from.Goals as goal

pub returns-in-Some-clause-goes : goal.returns-in-Some-clause-goes
returns-in-Some-clause-goes c =
    let m = c.args.self.now in
    lowers_some m.config.now m.app c.args.socket c.args.index c.port_of-port.result c.in-Some.index (kept_by m) c.first_cell.result c.port_of-port.ensures.value c.first_cell.ensures.value c.in-Some.is

pub returns-in-None-clause-goes : goal.returns-in-None-clause-goes
returns-in-None-clause-goes c =
    let m = c.args.self.now in
    lowers_none m.config.now m.app c.args.socket c.args.index c.port_of-port.result (kept_by m) c.first_cell.result c.port_of-port.ensures.value c.first_cell.ensures.value c.in-None.is

pub invariant_of-self-in-None-clause-ready : goal.invariant_of-self-in-None-clause-ready
invariant_of-self-in-None-clause-ready c = tt
