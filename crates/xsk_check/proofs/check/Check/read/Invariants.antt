use Rattle.std.proofs.Common.{◌+◌, ◌≤◌, length}
use Rattle.xsk_check.specs.Checking.{IsReady}
use Rattle.xsk_check.proofs.Checking.{ReadOn}
use Rattle.xsk_check.proofs.check.Check.read.Given as goal

abbrev pub invariant-loop-line : goal.invariant-loop-line
invariant-loop-line l = record {
  ready : IsReady l.self;
  on : ReadOn l.fn.self l.self l.piece l.rest;
  short : l._line + length l.rest ≤ length l.piece;
}
