use Rattle.std.proofs.Common.{arith, ◌<◌}
use Rattle.xsk_turns.specs.AppTurns.{lanes_of}
use Rattle.xsk_app.specs.Stands.{noted_by, kept_by}
use Rattle.xsk_app.proofs.Steps.{peek_drain}
use Rattle.xsk_app.proofs.Ways.{way_read}
use Rattle.xsk_app.proofs.machine.Machine.peek_closed.Goals as goal

pub returns-clause-goes : goal.returns-clause-goes
returns-clause-goes c =
    let m = c.args.self.now in
    let here : c.args.lane < lanes_of m.config.now = omega (arith, c.requires.lane, m.lanes) in
    let way = way_read m.config.now m.app c.args.lane m.ways.items c.index.result.now m.ways_are here c.index.ensures in
    peek_drain m.config.now m.app c.args.lane (noted_by m.turn) (kept_by m) c.index.result.now.rx m.batch here c.requires.closed way.rx m.batch_is
