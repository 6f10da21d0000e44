use Rattle.std.proofs.Common.{ℕ, ◌<◌, get_or}
use Rattle.xsk_umem.specs.declared.batch.Item.{Item}
use Rattle.xsk_legal.specs.Pieces.{IsFill, item_source}
use Rattle.xsk_legal.proofs.standing.Standing.are_from_fill.Given as goal

abbrev pub invariant-loop-i : goal.invariant-loop-i
invariant-loop-i l = (k : ℕ) (d : Item) → k < l.i → IsFill (item_source l.self.sources (get_or l.items k d))
