use Rattle.std.proofs.Common.{◌≡◌, ◌+◌, suc, sym, ap, ◌∙◌, arith}
use Rattle.xsk_judge.specs.declared.known.Spot.TheVariants.{On}
use Rattle.xsk_hints.specs.Facts.{since_at}
use Rattle.xsk_hints.specs.Tallies.{tally_of}
use Rattle.xsk_hints.specs.Wakes.{behind}
use Rattle.xsk_hints.proofs.Waking.{behind_more}
use Rattle.xsk_hints.proofs.tally.tally_behind.Goals as goal

pub loop-frame-preserved : goal.loop-frame-preserved
loop-frame-preserved c lines stands =
    let s = c.args.setting.now in
    let f = c.loop-frame.frame in
    let spot = On c.args.ring in
    let on : f + 1 ≡ suc f = omega arith in
    c.with_behind_line-tally.ensures
    ∙ behind_more s lines spot c.args.line f c.known.result c.loop-frame.tally (c.known.ensures lines stands) (c.loop-frame.invariant lines stands)
    ∙ ap (λ n. tally_of (behind c.args.line (since_at s lines spot n))) (sym on)
