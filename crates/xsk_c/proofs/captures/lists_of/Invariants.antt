use Rattle.std.proofs.Common.{All, drop}
use Rattle.xsk_machine.specs.Acts.{HasShortPackets}
use Rattle.xsk_c.proofs.OneMore.{Goes, Stops}
use Rattle.xsk_c.proofs.captures.lists_of.Given as goal

abbrev pub invariant-loop-i : goal.invariant-loop-i
invariant-loop-i l = record {
  short : All HasShortPackets l.lists.items;
  goes : Goes l.text l.begin (drop l.i l.ends) l.ends l.lists.items;
  stops : Stops l.text l.begin (drop l.i l.ends) l.ends;
}
