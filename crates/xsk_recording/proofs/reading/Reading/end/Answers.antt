use Rattle.std.proofs.Common.{◌≡◌, ◌+◌, ◌++◌, ◌<◌, length, length-append, ap, ◌∙◌}
use Rattle.xsk_recording.specs.Text.{most_bytes}
use Rattle.xsk_recording.specs.Feeding.{Reader}
use Rattle.xsk_recording.proofs.Lines.{line-long}
use Rattle.xsk_recording.proofs.Feeds.{ends-behind}
use Rattle.xsk_recording.proofs.reading.Reading.end.Goals as goal

pub returns-then-not-branch-clause-told : goal.returns-then-not-branch-clause-told
returns-then-not-branch-clause-told c = λ r shows.
    let long : most_bytes < length c.args.self.now.begun + length c.args.part.now = rw c.if-not-branch.true at c.in_ok-keep.ensures in
    line-long r (c.args.self.now.begun ++ c.args.part.now) (rw (length-append c.args.self.now.begun c.args.part.now) long)

pub read_line-requires-2 : goal.read_line-requires-2
read_line-requires-2 c =
    let kept = (rw c.if-not-branch.false at c.in_ok-keep.ensures).0 in
    let bytes : c.self-2.inside.begun.items ≡ c.args.self.now.begun ++ c.args.part.now =
    ap (λ (x : Reader). x.begun) c.self-2.view_is ∙ ap (λ (x : Reader). x.begun) kept in
    rw (c.as_slice.ensures.value, c.replace-begun.ensures.value, bytes) (ends-behind c.args.self.now.begun c.args.part.now c.requires)
