use Rattle.xsk_turns.proofs.Rooms.{leaves_room}
use Rattle.xsk_turns.proofs.laws.leaves_room.Goals as goal

pub returns : goal.returns
returns c = leaves_room
