use Rattle.xsk_stats.proofs.Lines.{line_more}
use Rattle.xsk_why.specs.Waiting.{lines_by}
use Rattle.xsk_why.specs.KeptWaits.{shown}
use Rattle.xsk_why.proofs.waits.push_waits.Goals as goal

pub loop-who-preserved : goal.loop-who-preserved
loop-who-preserved c = line_more (lines_by (shown c.args.waits.now)) c.loop-who.who _ _ _ c.loop-who.invariant c.in_ok-push_own.ensures
