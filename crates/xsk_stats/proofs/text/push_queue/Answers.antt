use Rattle.xsk_stats.specs.Report.{at_queue}
use Rattle.xsk_stats.proofs.Lines.{after}
use Rattle.xsk_stats.proofs.text.push_queue.Goals as goal

pub returns : goal.returns
unfolding at_queue
returns c = after _ _ _ _ _ c.in_ok-push_u32.ensures c.in_ok-push_u32-2.ensures
