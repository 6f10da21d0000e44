use Rattle.std.proofs.Common.{◌≡◌, None, replicate}
use Rattle.xsk_audit.proofs.shelf.Shelf.new.Given as goal

abbrev pub invariant-loop-place : goal.invariant-loop-place
invariant-loop-place l = l.frames.items ≡ replicate l._place None
