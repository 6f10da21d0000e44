use Rattle.std.proofs.Common.{string_bytes, ◌++◌}
use Rattle.std.specs.Prelude.{codes}
use Rattle.xsk_stats.specs.Report.{at_queue, numbered}
use Rattle.xsk_stats.proofs.Lines.{after}
use Rattle.xsk_stats.proofs.text.push_socket.Goals as goal

pub returns : goal.returns
returns c =
    let t = string_bytes c.args.text.now in
    let queue = at_queue (codes "socket ") c.args.pair.now in
    let class = numbered (codes ".") c.args.class in
    c.push_ended.ensures t (queue ++ class) (after t queue class _ _ c.in_ok-push_queue.ensures c.in_ok-push_u32.ensures)
