use Rattle.std.proofs.Common.{◌≡◌, ◌≤◌, ◌*◌, false}
use Rattle.std.specs.VecDeque.{deque_capacity}
use Rattle.xsk_driver.specs.SentRoom.{last_length}
use Rattle.xsk_driver.proofs.Sent.{SendsSoFar}
use Rattle.xsk_driver.proofs.finished.send_pieces.Given as goal

abbrev pub invariant-loop : goal.invariant-loop
invariant-loop l = SendsSoFar l.geometry l.sg l.initial.outbox l.outbox l.initial.queue.items l.queue.items l.items l.counter
    × (deque_capacity l.queue ≡ deque_capacity l.initial.queue)
    × (l.outbox.overrun ≡ false → last_length l.outbox.list.packets ≤ 4096 * l.counter)
