use Rattle.xsk_side.specs.Local.{given_of}
use Rattle.xsk_judge.specs.Stands.{calls_of}
use Rattle.xsk_hints.proofs.Feeding.{drained_more}
use Rattle.xsk_hints.proofs.fills.drain.Goals as goal

pub loop-entry-preserved : goal.loop-entry-preserved
loop-entry-preserved c lines stands =
    let l = c.loop-entry in
    drained_more c.args.setting.now c.args.line (given_of c.args.setting.now (calls_of lines)) c.args.entries.now l.entry-index _ c.source-from.result l.fills.items c.drain_one.new.fills.items c.args.fills.now.items
    c.loop-entry-test.true (c.source-from.ensures lines stands) c.drain_one.ensures (l.invariant lines stands)
