use Rattle.xsk_hints.specs.Told.{socket_lines}
use Rattle.xsk_hints.proofs.Texts.{line_more}
use Rattle.xsk_hints.proofs.rings.push_sockets.Goals as goal

pub loop-socket-preserved : goal.loop-socket-preserved
loop-socket-preserved c lines stands notes =
    line_more (socket_lines c.args.setting.now c.args.hints.now.metadata lines) c.loop-socket.socket _ _ _ (c.loop-socket.invariant lines stands notes) (c.in_ok-push_socket.ensures lines stands notes)
