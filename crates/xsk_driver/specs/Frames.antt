-- The frames that a driver has.
use Rattle.std.specs.Prelude.{List, ◌++◌, flat_map}
use Rattle.xsk_umem.specs.Frame.{Frame}
use Rattle.xsk_turns.specs.Turns.{Kept, frames_in}

-- those for receiving, those of packets that aren't at their end, of whole packets that it has yet to complete, and of bad
-- packets
abbrev pub frames_kept : Kept → List Frame
frames_kept kept = kept.spare ++ flat_map frames_in kept.groups ++ flat_map frames_in kept.finished ++ kept.lost
