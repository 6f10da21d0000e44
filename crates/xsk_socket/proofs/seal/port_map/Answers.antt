use Rattle.std.proofs.Common.{◌∙◌, ◌++◌, ap, sym}
use Rattle.xsk_socket.specs.Bound.{bound_in}
use Rattle.xsk_socket.proofs.Sealing.{map_more}
use Rattle.xsk_socket.proofs.seal.port_map.Goals as goal

pub loop-queue-preserved : goal.loop-queue-preserved
loop-queue-preserved c =
    let sockets = c.args.sockets.now in
    let queue = c.loop-queue.queue in
    c.in_ok-add_bound.ensures
    ∙ ap (λ xs. xs ++ bound_in sockets c.args.port queue) c.loop-queue.invariant
    ∙ sym (map_more sockets queue c.args.port)
