use Rattle.std.proofs.Common.{rules}
use Rattle.xsk_cli.proofs.Making.{made_more}
use Rattle.xsk_cli.proofs.made.make_lists.Goals as goal

pub loop-port-preserved : goal.loop-port-preserved
loop-port-preserved c =
    let more = made_more c.args.number c.loop-port.port c.loop-port.lists.items c.in_ok-list.list c.push_reserved.new.self.items c.loop-port.invariant.lists c.loop-port.invariant.listed c.in_ok-list.ensures c.push_reserved.ensures.items in
    record {
      lists = more.0;
      listed = more.1;
      count = search rules;
      room = search rules;
    }
