use Rattle.std.proofs.Common.{◌≡◌, drop}
use Rattle.xsk_hints.specs.Fills.{raised}
use Rattle.xsk_hints.proofs.fills.raise.Given as goal

abbrev pub invariant-loop-entry : goal.invariant-loop-entry
invariant-loop-entry l = raised l.setting l.pair (drop l.entry-index l.entries) l.fills.items ≡ raised l.setting l.pair l.entries l.initial.fills.items
