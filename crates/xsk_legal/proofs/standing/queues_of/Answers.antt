use Rattle.std.proofs.Common.{rules, ◌≡◌, length}
use Rattle.xsk_legal.proofs.Opening.{fresh_all}
use Rattle.xsk_legal.proofs.standing.queues_of.Goals as goal

pub returns-clause-each : goal.returns-clause-each
returns-clause-each c =
    let all : length c.loop-socket.queues.items ≡ length c.args.config.now.sockets = search rules in
    fresh_all c.args.config.now c.args.who c.loop-socket.queues.items all c.loop-socket.invariant.1
