use Rattle.std.proofs.Common.{◌-◌, ◌*◌, ◌≡◌, length, ap, arith, ◌∙◌}
use Rattle.xsk_plain.proofs.StoreSteps.{rx_at, tx_at}
use Rattle.xsk_plain.proofs.opening.size_at.Goals as goal

pub returns-then-place-pairs-3 : goal.returns-then-place-pairs-3
returns-then-place-pairs-3 c =
    let config = c.args.config.now in
    let pairs : length c.pairs-pairs.result.now ≡ length config.pairs = ap length c.pairs-pairs.ensures.value in
    let sockets : length c.sockets-sockets.result.now ≡ length config.sockets = ap length c.sockets-sockets.ensures.value in
    (rw (c.sockets-sockets.ensures.value, c.pairs-pairs.ensures.value) at c.unwrap_or.ensures)
    ∙ rx_at config c.args.place (c.args.place - 2 * length config.pairs) _ (omega (arith, pairs, c.if-place-pairs-2.false)) (omega (arith, pairs, sockets, c.if-place-pairs-2.false, c.if-place-pairs-3.true))

pub returns-else-place-pairs-3 : goal.returns-else-place-pairs-3
returns-else-place-pairs-3 c =
    let config = c.args.config.now in
    let pairs : length c.pairs-pairs.result.now ≡ length config.pairs = ap length c.pairs-pairs.ensures.value in
    let sockets : length c.sockets-sockets.result.now ≡ length config.sockets = ap length c.sockets-sockets.ensures.value in
    (rw (c.sockets-sockets.ensures.value, c.pairs-pairs.ensures.value) at c.unwrap_or-else-place-pairs-3.ensures)
    ∙ tx_at config c.args.place (c.args.place - 2 * length config.pairs - length config.sockets) _ (omega (arith, pairs, sockets, c.if-place-pairs-3.false))
    (omega (arith, pairs, sockets, c.if-place-pairs-3.false, c.requires))
