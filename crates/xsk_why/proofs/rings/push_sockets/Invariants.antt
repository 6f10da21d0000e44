use Rattle.std.proofs.Common.{◌≡◌, ◌++◌}
use Rattle.std.specs.Prelude.{flat_map}
use Rattle.std.specs.List.{range_with_len}
use Rattle.xsk_why.specs.Rings.{socket_lines}
use Rattle.xsk_why.proofs.rings.push_sockets.Given as goal

abbrev pub invariant-loop-socket : goal.invariant-loop-socket
invariant-loop-socket l = l.text.items ≡ l.initial.text.items ++ flat_map (socket_lines l.plain.config l.plain.rings) (range_with_len 0 l.socket)
