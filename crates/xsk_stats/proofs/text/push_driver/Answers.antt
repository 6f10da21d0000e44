use Rattle.std.proofs.Common.{string_bytes}
use Rattle.std.specs.Prelude.{codes}
use Rattle.xsk_stats.specs.Report.{at_queue}
use Rattle.xsk_stats.proofs.text.push_driver.Goals as goal

pub returns : goal.returns
returns c = c.push_ended.ensures (string_bytes c.args.text.now) (at_queue (codes "driver ") c.args.pair.now) c.in_ok-push_queue.ensures
