use Rattle.std.proofs.Common.{rules, arith, ◌≡◌, [], sym, ◌∙◌, slice_index_or}
use Rattle.std.proofs.lemmas.List.{get_or_default}
use Rattle.xsk_turns.specs.AppTurns.{pair_of, back_at}
use Rattle.xsk_app.specs.Stands.{noted_by, kept_by}
use Rattle.xsk_app.proofs.TurnLemmas.{side_full, group_here, group_moved}
use Rattle.xsk_model.specs.Config.{pool_of, batch_of}
use Rattle.xsk_app.proofs.Steps.{peek_side}
use Rattle.xsk_app.proofs.machine.Machine.open_side.Goals as goal

pub returns-in-Some-clause-goes : goal.returns-in-Some-clause-goes
returns-in-Some-clause-goes c =
    let m = c.args.self.now in
    let here : c.index.result.now ≡ back_at (kept_by m) c.args.side =
    c.index.ensures ∙ get_or_default m.backs.items c.args.side c.index.result.now [] (omega (arith, c.requires, m.sides)) in
    let group = group_moved c.pool.result m.batch (pool_of m.config.now) (batch_of m.config.now) c.index.result.now (back_at (kept_by m) c.args.side)
    c.in-Some.home c.in-Some.count c.in-Some.ensures.some c.pool.ensures m.batch_is here in
    let some = group_here (pool_of m.config.now) (batch_of m.config.now) (back_at (kept_by m) c.args.side) c.in-Some.home c.in-Some.count group in
    c.reserve_fill.ensures.goes ∙ sym (side_full m.config.now m.app c.args.side (noted_by m.turn) (kept_by m) c.requires some)

pub returns-in-None-clause-goes : goal.returns-in-None-clause-goes
returns-in-None-clause-goes c =
    let m = c.args.self.now in
    let empty : back_at (kept_by m) c.args.side ≡ [] = search rules in
    let pair : slice_index_or m.pairs c.args.side 0 ≡ pair_of m.config.now m.app c.args.side = search rules in
    peek_side m.config.now m.app c.args.side (noted_by m.turn) (kept_by m) (slice_index_or m.pairs c.args.side 0) m.batch c.requires empty pair m.batch_is
