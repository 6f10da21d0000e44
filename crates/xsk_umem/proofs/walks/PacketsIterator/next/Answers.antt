use Rattle.xsk_umem.proofs.Going.{first_left}
use Rattle.xsk_umem.proofs.walks.PacketsIterator.next.Goals as goal

pub returns-clause-steps : goal.returns-clause-steps
returns-clause-steps c = first_left c.args.self.now.list.now.packets c.args.self.now.next c.get-packet.result.now c.get-packet.ensures
