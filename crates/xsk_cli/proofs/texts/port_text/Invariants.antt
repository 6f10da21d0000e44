use Rattle.std.proofs.Common.{◌≡◌, take, drop}
use Rattle.xsk_cli.specs.Steps.{lists_in}
use Rattle.xsk_cli.proofs.texts.port_text.Given as goal

abbrev pub invariant-loop-place : goal.invariant-loop-place
invariant-loop-place l = l.capture ≡ take l.place (drop l.first (lists_in l.sent))
