use Rattle.std.proofs.Common.{◌≡◌, ◌++◌, drop}
use Rattle.xsk_why.specs.Frames.{ranges, ranges_from}
use Rattle.xsk_why.specs.KeptFrames.{had_by}
use Rattle.xsk_why.proofs.held.push_ranges.Given as goal

abbrev pub invariant-loop-frame : goal.invariant-loop-frame
invariant-loop-frame l = l.text.items ++ ranges_from l.begun (had_by l.who (drop l.frame-index l.held)) ≡ l.initial.text.items ++ ranges (had_by l.who l.held)
