use Rattle.std.proofs.Common.{◌≡◌, List, drop}
use Rattle.xsk_side.specs.Local.{given_of}
use Rattle.xsk_judge.specs.Stands.{Line, StandsFor, calls_of}
use Rattle.xsk_hints.specs.Fills.{drained}
use Rattle.xsk_hints.proofs.fills.drain.Given as goal

abbrev pub invariant-loop-entry : goal.invariant-loop-entry
invariant-loop-entry l = (lines : List Line) → StandsFor l.setting l.judge lines
    → drained l.setting l.line (given_of l.setting (calls_of lines)) (drop l.entry-index l.entries) l.fills.items
    ≡ drained l.setting l.line (given_of l.setting (calls_of lines)) l.entries l.initial.fills.items
