use Rattle.std.proofs.Common.{rules}
use Rattle.xsk_judge.specs.Kept.{Kept}
use Rattle.xsk_judge.proofs.Beginning.{IsFirst, ready_first, stands_first}
use Rattle.xsk_judge.proofs.judge.Judge.new.Goals as goal

pub returns-clause-ready : goal.returns-clause-ready
returns-clause-ready c =
    let kept : Kept = record { frames = c.in_ok-frames.frames.items; ends = c.in_ok-ends.ends.items; queues = c.in_ok-queues.queues.items; strays = c.in_ok-strays.strays.items } in
    let first : IsFirst c.args.setting.now kept = record { frames = search rules; ends = c.in_ok-ends.ensures.value; queues = c.in_ok-queues.ensures.value; strays = search rules } in
    ready_first c.args.setting.now kept c.frames.ensures.lawful first

pub returns-clause-stands : goal.returns-clause-stands
returns-clause-stands c =
    let kept : Kept = record { frames = c.in_ok-frames.frames.items; ends = c.in_ok-ends.ends.items; queues = c.in_ok-queues.queues.items; strays = c.in_ok-strays.strays.items } in
    let first : IsFirst c.args.setting.now kept = record { frames = search rules; ends = c.in_ok-ends.ensures.value; queues = c.in_ok-queues.ensures.value; strays = search rules } in
    stands_first c.args.setting.now kept c.frames.ensures.lawful first
