-- The frames that an application has.
use Rattle.std.specs.Prelude.{List, ◌++◌, flat_map}
use Rattle.xsk_umem.specs.Frame.{Frame}
use Rattle.xsk_turns.specs.Turns.{frames_in}
use Rattle.xsk_turns.specs.AppTurns.{AppKept}

-- those of the items that are pending, lane by lane, and those that it has yet to give back, side by side
abbrev pub app_frames : AppKept → List Frame
app_frames kept = flat_map frames_in kept.pending ++ flat_map (λ (back : List Frame). back) kept.back
