use Rattle.std.proofs.Common.{rules}
use Rattle.xsk_model.specs.declared.call.Ring.TheVariants.{Rx}
use Rattle.xsk_side.specs.Setting.{socket_at}
use Rattle.xsk_hints.specs.Told.{shown_lines, tx_lines, where_some}
use Rattle.xsk_hints.proofs.Texts.{after, on_ok, retold}
use Rattle.xsk_hints.proofs.rings.push_socket.Goals as goal

pub returns : goal.returns
returns c lines stands notes =
    let s = c.args.setting.now in
    let k = c.args.socket in
    let rx = retold (λ o. where_some o (shown_lines s lines (Rx k))) _ _ _ (socket_at s k).rx (c.in_ok-push_rx.ensures lines stands) (search rules) in
    on_ok c.push_tx.result _ _
    (λ is. after _ _ _ _ _ rx (retold (λ o. where_some o (tx_lines s c.args.hints.now.metadata lines k)) _ _ _ (socket_at s k).tx is (search rules)))
    (c.push_tx.ensures lines stands notes)
