use Rattle.std.proofs.Common.{◌↔◌, drop}
use Rattle.xsk_legal.specs.Pieces.{ArePieces}
use Rattle.xsk_legal.proofs.standing.are_layouts.Given as goal

abbrev pub invariant-loop-i : goal.invariant-loop-i
invariant-loop-i l = ArePieces l.config.geometry l.config.sg (drop l.i l.items) ↔ ArePieces l.config.geometry l.config.sg l.items
