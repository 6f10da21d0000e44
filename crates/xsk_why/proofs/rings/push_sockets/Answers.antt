use Rattle.xsk_stats.proofs.Lines.{line_more}
use Rattle.xsk_why.specs.Rings.{socket_lines}
use Rattle.xsk_why.proofs.rings.push_sockets.Goals as goal

pub loop-socket-preserved : goal.loop-socket-preserved
loop-socket-preserved c =
    line_more (socket_lines c.args.plain.now.config c.args.plain.now.rings) c.loop-socket.socket _ _ _ c.loop-socket.invariant c.in_ok-push_socket.ensures
