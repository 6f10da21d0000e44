use Rattle.xsk_socket.proofs.AllFrames.{Turning}
use Rattle.xsk_socket.proofs.frames.are_in_place.Given as goal

abbrev pub invariant-loop-number : goal.invariant-loop-number
invariant-loop-number l = Turning l.chunk l.initial.frames l.number l.all l.frames
