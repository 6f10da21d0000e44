use Rattle.std.proofs.Common.{ℕ, ◌<◌, length}
use Rattle.xsk_model.specs.Config.{map_of}
use Rattle.xsk_table.specs.Opening.{SparesBelow, IsOfFill, IsOfCell, IsFilled, AreCells}
use Rattle.xsk_table.proofs.opening.lay_words.Given as goal

abbrev pub invariant-loop-pair : goal.invariant-loop-pair
invariant-loop-pair l = SparesBelow l.config IsOfFill l.pair l.initial.row l.row × ((d : ℕ) → d < l.pair → IsFilled l.config l.first d l.row)

abbrev pub invariant-loop-port : goal.invariant-loop-port
invariant-loop-port l = SparesBelow l.config IsOfCell l.port l.initial.row l.row × ((p : ℕ) → p < l.port → AreCells l.config p (length (map_of l.config p)) l.row)
