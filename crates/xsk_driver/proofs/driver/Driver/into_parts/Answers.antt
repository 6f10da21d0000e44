use Rattle.std.proofs.Common.{◌≡◌, ◌++◌, List, ap, ◌∙◌, flat_map}
use Rattle.xsk_umem.specs.Frame.{Frame}
use Rattle.xsk_umem.specs.Frames.{Frames}
use Rattle.xsk_turns.specs.Giving.{with_frames}
use Rattle.xsk_turns.specs.Turns.{Kept, frames_in}
use Rattle.xsk_turns.proofs.Appending.{with_more}
use Rattle.xsk_driver.specs.Frames.{frames_kept}
use Rattle.xsk_driver.specs.Shown.{Shown}
use Rattle.xsk_driver.specs.Stands.{kept_in}
use Rattle.xsk_driver.proofs.Giving.{ended_frames}
use Rattle.xsk_driver.proofs.driver.Driver.into_parts.Goals as goal

pub returns-clause-frames : goal.returns-clause-frames
returns-clause-frames c =
    let kept : Kept = kept_in c.self.inside.machine in
    let queue : Frames = c.args.frames.now in
    let groups : List Frame = flat_map frames_in kept.groups in
    let finished : List Frame = flat_map frames_in kept.finished in
    let two : c.give_batches.new.frames ≡ with_frames queue (kept.spare ++ groups) =
    c.give_batches.ensures ∙ ap (λ q. with_frames q groups) c.give_frames.ensures ∙ with_more queue kept.spare groups in
    let three : c.give_finished.new.frames ≡ with_frames queue (kept.spare ++ groups ++ finished) =
    c.give_finished.ensures ∙ ap (with_frames c.give_batches.new.frames) c.into_items.ensures ∙ ap (λ q. with_frames q finished) two
    ∙ with_more queue (kept.spare ++ groups) finished in
    c.give_lost.ensures ∙ ap (λ q. with_frames q kept.lost) three ∙ with_more queue (kept.spare ++ groups ++ finished) kept.lost
    ∙ ap (λ (d : Shown). with_frames queue (frames_kept d.kept)) c.self.view_is

pub returns-clause-ended : goal.returns-clause-ended
returns-clause-ended c = λ wire config pair input l ended n. ended_frames wire config pair input c.args.self l ended n
