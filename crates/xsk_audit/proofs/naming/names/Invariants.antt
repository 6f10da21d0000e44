use Rattle.std.proofs.Common.{◌≡◌, ◌+◌, length}
use Rattle.xsk_audit.specs.Naming.{names}
use Rattle.xsk_audit.proofs.naming.names.Given as goal

abbrev pub invariant-loop-byte : goal.invariant-loop-byte
invariant-loop-byte l = (names l.geometry l.frame l.rest ≡ names l.geometry l.frame l.line) × (length l.rest + l._byte ≡ length l.line)
