use Rattle.std.proofs.Common.{◌≡◌, ◌++◌, map, take, drop}
use Rattle.xsk_c.specs.Items.{drawn_of}
use Rattle.xsk_c.proofs.items.write_descs.Given as goal

abbrev pub invariant-loop-i : goal.invariant-loop-i
invariant-loop-i l = l.descs ≡ take l.i (map drawn_of l.items) ++ drop l.i l.initial.descs
