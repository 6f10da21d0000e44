-- A queue of frames to which some are appended, as many as it has room for.
use Rattle.std.specs.Prelude.{List, ◌++◌, ◌-◌, length, take}
use Rattle.xsk_umem.specs.Frame.{Frame}
use Rattle.xsk_umem.specs.Frames.{Frames}

abbrev pub with_frames : Frames → List Frame → Frames
with_frames queue frames = record queue { items = queue.items ++ take (queue.limit - length queue.items) frames }
