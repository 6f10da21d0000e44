use Rattle.std.proofs.Common.{List, ap, ◌∙◌, flat_map}
use Rattle.xsk_umem.specs.Frame.{Frame}
use Rattle.xsk_turns.specs.AppTurns.{AppKept}
use Rattle.xsk_turns.specs.Giving.{with_frames}
use Rattle.xsk_turns.specs.Turns.{frames_in}
use Rattle.xsk_turns.proofs.Appending.{with_more}
use Rattle.xsk_app.specs.Frames.{app_frames}
use Rattle.xsk_app.specs.Shown.{Shown}
use Rattle.xsk_app.specs.Stands.{kept_by}
use Rattle.xsk_app.proofs.Giving.{ended_frames}
use Rattle.xsk_app.proofs.app.App.into_frames.Goals as goal

pub returns-clause-frames : goal.returns-clause-frames
returns-clause-frames c =
    let kept : AppKept = kept_by c.self.inside.machine in
    let pending : List Frame = flat_map frames_in kept.pending in
    let backs : List Frame = flat_map (λ (back : List Frame). back) kept.back in
    c.give_backs.ensures ∙ ap (λ queue. with_frames queue backs) c.give_batches.ensures ∙ with_more c.args.frames.now pending backs
    ∙ ap (λ (s : Shown). with_frames c.args.frames.now (app_frames s.kept)) c.self.view_is

pub returns-clause-ended : goal.returns-clause-ended
returns-clause-ended c = λ m config app l ended n. ended_frames m config app c.args.self l ended n
