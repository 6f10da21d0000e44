use Rattle.xsk_umem.proofs.Going.{first_left}
use Rattle.xsk_umem.proofs.walks.ItemsIterator.next.Goals as goal

pub returns-clause-steps : goal.returns-clause-steps
returns-clause-steps c = first_left c.args.self.now.batch.now c.args.self.now.next c.item-item.result.now c.item-item.ensures
