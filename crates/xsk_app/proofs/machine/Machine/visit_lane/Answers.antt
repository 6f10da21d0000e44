use Rattle.std.proofs.lemmas.List.{get_or_default}
use Rattle.std.proofs.Common.{rules, arith, ◌≡◌, ◌≢◌, true, false, ◌<◌, [], sym, ◌∙◌}
use Rattle.xsk_turns.specs.AppTurns.{lanes_of, rx_of, pending_at}
use Rattle.xsk_app.specs.Stands.{noted_by, kept_by}
use Rattle.xsk_app.proofs.Steps.{peek_lane}
use Rattle.xsk_app.proofs.TurnLemmas.{lane_full}
use Rattle.xsk_app.proofs.machine.Machine.visit_lane.Goals as goal

pub returns-then-is_empty-clause-goes : goal.returns-then-is_empty-clause-goes
returns-then-is_empty-clause-goes c =
    let m = c.args.self.now in
    let here : c.args.lane < lanes_of m.config.now = omega (arith, c.requires.lane, m.lanes) in
    let empty : pending_at (kept_by m) c.args.lane ≡ [] = search rules in
    let rx : c.index-then-is_empty.result.now.rx ≡ rx_of m.config.now m.app c.args.lane = search rules in
    peek_lane m.config.now m.app c.args.lane (noted_by m.turn) (kept_by m) c.index-then-is_empty.result.now.rx m.batch here c.requires.other empty rx m.batch_is

pub returns-else-is_empty-clause-goes : goal.returns-else-is_empty-clause-goes
returns-else-is_empty-clause-goes c =
    let m = c.args.self.now in
    let here : c.args.lane < lanes_of m.config.now = omega (arith, c.requires.lane, m.lanes) in
    let now : c.index.result.now ≡ pending_at (kept_by m) c.args.lane =
    c.index.ensures ∙ get_or_default m.pending.items c.args.lane c.index.result.now [] (omega (arith, c.requires.lane)) in
    let some : pending_at (kept_by m) c.args.lane ≢ [] = λ e. absurd (let no : false ≡ true = c.if-is_empty.ensures.1 (now ∙ e) in cc) in
    c.reserve_tx.ensures.goes ∙ sym (lane_full m.config.now m.app c.args.lane (noted_by m.turn) (kept_by m) here c.requires.other some)
