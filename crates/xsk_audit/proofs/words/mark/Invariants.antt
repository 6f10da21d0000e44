use Rattle.std.proofs.Common.{◌≡◌, ◌-◌}
use Rattle.xsk_audit.specs.Reading.{mark_at, mark_from}
use Rattle.xsk_audit.proofs.words.mark.Given as goal

abbrev pub invariant-loop-row : goal.invariant-loop-row
invariant-loop-row l = mark_at l.fn.text ≡ mark_from (10 - l.row) l.row l.fn.text
