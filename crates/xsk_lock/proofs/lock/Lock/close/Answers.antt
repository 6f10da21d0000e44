use Rattle.std.proofs.Common.{◌≡◌, sym, refl, ap, ◌∙◌}
use Rattle.xsk_lock.specs.Held.{Face}
use Rattle.xsk_lock.proofs.Calls.{within, last_value, all_of, value_or}
use Rattle.xsk_lock.proofs.lock.Lock.close.Goals as goal

pub unreachable-requires : goal.unreachable-requires
unreachable-requires g c = let v = c.hand.invariant.0 in let is = c.hand.invariant.1 in let t0 = within _ _ c.args.hand v _ refl c.hand.view_is is c.requires.off in
    let lock : Face g.row.T-Name.Denot = record { table = c.self.inside.table.shared.table_id; name = g.T.Named.name c.self.inside.table.shared.key.kept.value; hands = c.self.inside.table.shared.key.hands } in
    let t = last_value g.T.Named.name lock.name lock.hands c.hand.inside.seat.id c.hand.inside.seat.me.0 v _ _ c.take-kept.result c.close_with-closed.ensures.values.2 is t0.1
    (all_of lock c.args.self c.args.hand v c.self.view_is t0.0 c.requires.all) c.take-kept.ensures.value in
    c.in_default.not-Some t.0 t.1

pub returns : goal.returns
returns g c = let v = c.hand.invariant.0 in let is = c.hand.invariant.1 in let t0 = within _ _ c.args.hand v _ refl c.hand.view_is is c.requires.off in
    let lock : Face g.row.T-Name.Denot = record { table = c.self.inside.table.shared.table_id; name = g.T.Named.name c.self.inside.table.shared.key.kept.value; hands = c.self.inside.table.shared.key.hands } in
    let t = last_value g.T.Named.name lock.name lock.hands c.hand.inside.seat.id c.hand.inside.seat.me.0 v _ _ c.take-kept.result c.close_with-closed.ensures.values.2 is t0.1
    (all_of lock c.args.self c.args.hand v c.self.view_is t0.0 c.requires.all) c.take-kept.ensures.value in
    let same : t.0 ≡ c.in-Some.value = ap (value_or t.0) (sym t.1 ∙ c.in-Some.is) in
    ap g.T.Named.name (sym same) ∙ t.2 ∙ ap (λ (l : Face g.row.T-Name.Denot). l.name) c.self.view_is
