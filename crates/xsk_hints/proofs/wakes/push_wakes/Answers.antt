use Rattle.std.proofs.Common.{◌<◌, length, rules}
use Rattle.xsk_hints.specs.Wakes.{wake_line, wake_lines}
use Rattle.xsk_hints.proofs.Texts.{line_more, retold}
use Rattle.xsk_hints.proofs.wakes.push_wakes.Goals as goal

pub loop-socket-preserved : goal.loop-socket-preserved
loop-socket-preserved c lines asides stands wakens =
    let s = c.args.setting.now in
    let k = c.loop-socket.socket in
    let low : k < length c.args.wakes.now = search rules in
    line_more (wake_lines s lines asides) k _ _ _ (c.loop-socket.invariant lines asides stands wakens)
    (retold (wake_line s lines k) _ _ _ _ (c.in_ok-push_wake.ensures lines stands) (wakens k low))
