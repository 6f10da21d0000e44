-- The numbers of the frames that an application has.
use Rattle.std.proofs.Common.{◌≡◌, ℕ, List, ◌++◌, flat_map, ap, ◌∙◌}
use Rattle.xsk_umem.specs.Frame.{Frame}
use Rattle.xsk_model.specs.Numbers.{numbers, times}
use Rattle.xsk_model.specs.Own.{had_of}
use Rattle.xsk_turns.specs.AppOwned.{app_numbers}
use Rattle.xsk_turns.specs.AppTurns.{AppKept}
use Rattle.xsk_turns.specs.Turns.{frames_in}
use Rattle.xsk_turns.specs.Owned.{frame_numbers}
use Rattle.xsk_turns.specs.declared.manner.Manner.{Manner}
use Rattle.xsk_turns.proofs.Object.{Config}
use Rattle.xsk_turns.proofs.Calls.{Told}
use Rattle.xsk_turns.proofs.Appending.{numbers-join, numbers-items, numbers-frames}
use Rattle.xsk_turns.proofs.AppOwning.{app_keeps_frames_at_end}
use Rattle.xsk_app.specs.Frames.{app_frames}
use Rattle.xsk_app.specs.Runs.{HasEnded}
use Rattle.xsk_app.specs.Shown.{Shown}

numbers-kept : (kept : AppKept) → frame_numbers (app_frames kept) ≡ app_numbers kept
numbers-kept kept =
    let backs : List Frame = flat_map (λ (back : List Frame). back) kept.back in
    numbers-join (flat_map frames_in kept.pending) backs ∙ ap (λ ns. ns ++ frame_numbers backs) (numbers-items kept.pending)
    ∙ ap (λ ns. flat_map numbers kept.pending ++ ns) (numbers-frames kept.back)

pub ended_frames : (m : Manner) (c : Config) (app : ℕ) (s : Shown) (l : List Told) → HasEnded m c app s l → (n : ℕ) → times n (frame_numbers (app_frames s.kept)) ≡ times n (had_of l)
ended_frames m c app s l ended n = ap (times n) (numbers-kept s.kept) ∙ app_keeps_frames_at_end m c app l s.kept ended.one ended.fit ended.ends n
