use Rattle.std.proofs.Common.{arith, ap, ◌∙◌}
use Rattle.xsk_turns.proofs.Calls.{Tx, Submit}
use Rattle.xsk_turns.specs.Script.{ask}
use Rattle.xsk_app.specs.Stands.{noted_by, kept_by, left}
use Rattle.xsk_app.specs.declared.machine.Wait.TheVariants.{SubmitTx}
use Rattle.xsk_app.proofs.Steps.{submit_lane}
use Rattle.xsk_app.proofs.Ways.{way_read}
use Rattle.xsk_app.proofs.machine.Machine.send_on.Goals as goal

pub returns-clause-goes : goal.returns-clause-goes
returns-clause-goes c =
    let m = c.args.self.now in
    let lane = c.args.lane in
    let k = m.config.now in
    let now = kept_by c.put_out.new.self in
    let call = Submit (Tx c.index.result.now.tx) c.put_out.new.items in
    let way = way_read k m.app lane m.ways.items c.index.result.now m.ways_are (omega (arith, c.requires.lane, m.lanes)) c.index.ensures in
    ap (λ w. ask now call (left k m.app w (noted_by c.put_out.new.self.turn) now)) c.put_out.ensures.rest.wait
    ∙ ap (λ t. ask now call (left k m.app (SubmitTx lane) (noted_by t) now)) c.put_out.ensures.rest.turn
    ∙ submit_lane k m.app lane (noted_by m.turn) (kept_by m) now c.put_out.new.items c.index.result.now.tx c.put_out.ensures.kept c.put_out.ensures.items way.tx
