use Rattle.std.proofs.Common.{◌≡◌, ◌-◌, None, take}
use Rattle.xsk_audit.specs.Lines.{lines_of}
use Rattle.xsk_audit.specs.Naming.{last_from}
use Rattle.xsk_audit.specs.Reading.{read_view}
use Rattle.xsk_audit.proofs.naming.last_naming.Given as goal

abbrev pub invariant-loop-before : goal.invariant-loop-before
invariant-loop-before l =
    last_from l.geometry l.frame l.before (take (l.count - l.before) (lines_of l.rest)) (read_view l.found) ≡ last_from l.geometry l.frame 0 (take l.count (lines_of l.text)) None
