use Rattle.std.proofs.Common.{◌≡◌, ◌+◌, suc, sym, ap, ◌∙◌, arith}
use Rattle.xsk_hints.specs.Facts.{since_at}
use Rattle.xsk_hints.specs.Tallies.{tally_of}
use Rattle.xsk_hints.proofs.Tallies.{frame_more}
use Rattle.xsk_hints.proofs.tally.tally_at.Goals as goal

pub loop-frame-preserved : goal.loop-frame-preserved
loop-frame-preserved c lines stands =
    let s = c.args.setting.now in
    let f = c.loop-frame.frame in
    let on : f + 1 ≡ suc f = omega arith in
    c.with_frame-tally.ensures
    ∙ frame_more s lines c.args.spot f c.known.result c.loop-frame.tally (c.known.ensures lines stands) (c.loop-frame.invariant lines stands)
    ∙ ap (λ n. tally_of (since_at s lines c.args.spot n)) (sym on)
