use Rattle.std.proofs.Common.{◌∙◌, sym, refl}
use Rattle.xsk_machine.proofs.Splitting.{numbers_from-taken, numbers_from-left}
use Rattle.xsk_machine.proofs.inputs.numbers_of_queue.Goals as goal
use Rattle.xsk_machine.proofs.inputs.numbers_of_queue.Goals.{then-queue_of-queue+in_ok-push, else-queue_of-queue}

pub loop-number-preserved : goal.loop-number-preserved
loop-number-preserved c = elim c.if-queue_of-queue.branch [
  | then-queue_of-queue+in_ok-push w ↦
      let same = numbers_from-taken c.args.queues c.args.queue c.args.list.now.packets c.loop-number.number c.get.result.now c.get.ensures (sym c.queue_of.ensures ∙ w.if-queue_of-queue.true) in
      rw (same, w.numbers-is, w.in_ok-push.ensures.items, c.loop-number.invariant) refl
  | else-queue_of-queue w ↦
      let same = numbers_from-left c.args.queues c.args.queue c.args.list.now.packets c.loop-number.number c.get.result.now c.get.ensures (λ e. w.if-queue_of-queue.false (c.queue_of.ensures ∙ e)) in
      rw (same, w.numbers-is) c.loop-number.invariant
]
