use Rattle.std.proofs.Common.{◌≡◌, List}
use Rattle.xsk_judge.specs.declared.known.Spot.TheVariants.{On}
use Rattle.xsk_judge.specs.Stands.{Line, StandsFor}
use Rattle.xsk_hints.specs.Facts.{since_at}
use Rattle.xsk_hints.specs.Tallies.{tally_of}
use Rattle.xsk_hints.specs.Wakes.{behind}
use Rattle.xsk_hints.proofs.tally.tally_behind.Given as goal

abbrev pub invariant-loop-frame : goal.invariant-loop-frame
invariant-loop-frame l = (lines : List Line) → StandsFor l.setting l.judge lines → l.tally ≡ tally_of (behind l.line (since_at l.setting lines (On l.ring) l.frame))
