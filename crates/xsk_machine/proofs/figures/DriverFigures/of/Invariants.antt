use Rattle.std.proofs.Common.{◌≡◌, take}
use Rattle.xsk_machine.specs.Figures.{kinds_of}
use Rattle.xsk_machine.proofs.figures.DriverFigures.of.Given as goal

abbrev pub invariant-loop-disposal : goal.invariant-loop-disposal
invariant-loop-disposal l = l.kinds ≡ kinds_of (take l.disposal-index l.disposals)
