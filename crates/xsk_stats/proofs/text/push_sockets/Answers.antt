use Rattle.xsk_stats.specs.Report.{socket_line}
use Rattle.xsk_stats.proofs.Lines.{line_more}
use Rattle.xsk_stats.proofs.text.push_sockets.Goals as goal

pub loop-class-preserved : goal.loop-class-preserved
loop-class-preserved c = line_more (socket_line c.args.pair.now c.args.counters.now) c.loop-class.class _ _ _ c.loop-class.invariant c.in_ok-push_socket.ensures
