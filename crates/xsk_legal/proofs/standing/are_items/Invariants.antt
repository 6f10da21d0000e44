use Rattle.std.proofs.Common.{ℕ, ◌<◌, get_or}
use Rattle.xsk_umem.specs.declared.batch.Item.{Item}
use Rattle.xsk_model.specs.Legal.{IsItemOn}
use Rattle.xsk_legal.proofs.standing.are_items.Given as goal

abbrev pub invariant-loop-i : goal.invariant-loop-i
invariant-loop-i l = (k : ℕ) (d : Item) → k < l.i → IsItemOn l.geometry l.ring (get_or l.items k d)
