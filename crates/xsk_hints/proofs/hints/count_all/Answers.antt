use Rattle.std.proofs.Common.{ap, length, ◌∙◌}
use Rattle.xsk_hints.proofs.Counting.{all_more, length-counted_if}
use Rattle.xsk_hints.proofs.hints.count_all.Goals as goal

pub loop-entry-preserved : goal.loop-entry-preserved
loop-entry-preserved c =
    let l = c.loop-entry in
    let s = c.args.setting.now in (
      all_more s c.args.metadata c.args.line c.args.ring c.args.entries.now l.entry-index _ c.find_oddity.result l.tallies.items c.count_if.new.tallies.items c.args.tallies.now.items
          c.loop-entry-test.true c.find_oddity.ensures c.count_if.ensures l.invariant.0,
      ap length c.count_if.ensures ∙ length-counted_if s c.args.line c.args.ring l.tallies.items c.find_oddity.result ∙ l.invariant.1,
    )
