use Rattle.std.proofs.Common.{rules, ◌≡◌, ℕ, ◌+◌, ◌-◌, ◌<◌, [], ◌∷◌, map, ap, ◌∙◌, arith}
use Rattle.std.specs.List.{range_with_len}
use Rattle.xsk_lock.specs.declared.view.Known.TheVariants.{Sees}
use Rattle.xsk_lock.specs.Held.{Holder, Face, new_hand}
use Rattle.xsk_lock.proofs.Steps.{deals_keep}
use Rattle.xsk_lock.proofs.Deals.{left, first_left, others_left, two_left, one_left, hands_more, new_held}
use Rattle.xsk_lock.proofs.lock.deal.Goals as goal

pub split_seat-requires : goal.split_seat-requires
split_seat-requires g c =
    let inv = c.loop-first.invariant in
    let before : c.loop-first.first < c.args.hands - 1 = c.loop-first-test.true in
    (inv.table, c.requires.table.1, deals_keep _ _ _ _ _ _ (ap (λ m. m.0) inv.seat) (two_left c.loop-first.first (c.args.hands - c.loop-first.first) (omega arith)))

pub invariant_of-push_reserved : goal.invariant_of-push_reserved
invariant_of-push_reserved g c =
    let inv = c.loop-first.invariant in
    let before : c.loop-first.first < c.args.hands - 1 = c.loop-first-test.true in
    let name = g.T.Named.name c.args.table.now.key.kept.value in
    let own = c.split_seat.ensures.4 in
    new_held c.split_seat.result.me name c.args.hands (c.loop-first.first ∷ [])
    (ap (λ m. m.0) own ∙ first_left name c.args.hands c.loop-first.first (c.args.hands - c.loop-first.first) c.loop-first.seat.me.0 (omega arith) (ap (λ m. m.0) inv.seat))
    (ap (λ m. m.1) own)

pub loop-first-preserved : goal.loop-first-preserved
loop-first-preserved g c =
    let inv = c.loop-first.invariant in
    let before : c.loop-first.first < c.args.hands - 1 = c.loop-first-test.true in
    let name = g.T.Named.name c.args.table.now.key.kept.value in
    let lock : Face g.row.T-Name.Denot = record { table = c.args.table.now.table_id; name = name; hands = c.args.hands } in
    let split = c.split_seat.ensures in
    let is = ap (λ m. m.0) split.4 ∙ first_left name c.args.hands c.loop-first.first (c.args.hands - c.loop-first.first) c.loop-first.seat.me.0 (omega arith) (ap (λ m. m.0) inv.seat) in
    let others = others_left name c.args.hands c.loop-first.first (c.args.hands - c.loop-first.first) c.loop-first.seat.me.0 (omega arith) (ap (λ m. m.0) inv.seat) in
    let fewer : c.args.hands - c.loop-first.first - 1 ≡ c.args.hands - (c.loop-first.first + 1) = omega arith in
    let rest_is = others ∙ ap (λ (n : ℕ). Sees (left name c.args.hands (range_with_len (c.loop-first.first + 1) n))) fewer in
    let holder : Holder g.row.T-Name.Denot = record { table = c.split_seat.result.table_id; view = c.split_seat.result.me.0 } in
    let same : holder ≡ new_hand lock c.loop-first.first = λ i. record { table = (split.3 ∙ inv.table) i; view = is i } in
    record {
      table = split.0 ∙ inv.table;
      seat = split.2 ∙ (λ i. (rest_is i, ap (λ m. m.1) inv.seat i));
      row = c.push_reserved.ensures.items ∙ hands_more lock c.loop-first.first c.loop-first.row.items holder inv.row same;
      room = search rules;
      len = search rules;
    }

pub invariant_of-push_reserved-2 : goal.invariant_of-push_reserved-2
invariant_of-push_reserved-2 g c =
    let inv = c.loop-first.invariant in
    new_held c.loop-first.seat.me (g.T.Named.name c.args.table.now.key.kept.value) c.args.hands (range_with_len c.loop-first.first (c.args.hands - c.loop-first.first)) (ap (λ m. m.0) inv.seat) (ap (λ m. m.1) inv.seat)

pub returns : goal.returns
returns g c =
    let inv = c.loop-first.invariant in
    let name = g.T.Named.name c.args.table.now.key.kept.value in
    let lock : Face g.row.T-Name.Denot = record { table = c.args.table.now.table_id; name = name; hands = c.args.hands } in
    let last : c.loop-first.first + 1 ≡ c.args.hands = omega (arith, c.loop-first-test.false, c.requires.seat.0, c.loop-first.auto.first-end) in
    let holder : Holder g.row.T-Name.Denot = record { table = c.loop-first.seat.table_id; view = c.loop-first.seat.me.0 } in
    let same : holder ≡ new_hand lock c.loop-first.first = λ i. record { table = inv.table i; view = one_left name c.args.hands c.loop-first.first c.loop-first.seat.me.0 last (ap (λ m. m.0) inv.seat) i } in
    c.push_reserved-2.ensures.items ∙ hands_more lock c.loop-first.first c.loop-first.row.items holder inv.row same ∙ ap (λ (n : ℕ). map (new_hand lock) (range_with_len 0 n)) last
