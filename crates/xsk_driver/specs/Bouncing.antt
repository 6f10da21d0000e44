-- The packets that a driver's machine is to bounce.
use Rattle.std.specs.Prelude.{ℕ, List, map, drop}
use Rattle.xsk_turns.specs.SentWith.{bouncing}
use Rattle.xsk_turns.specs.Verdicts.{judged}
use Rattle.xsk_driver.specs.Stands.{packet_at}
use Rattle.xsk_driver.specs.declared.machine.Machine.{Machine}

-- those of its packets from a place on
abbrev pub bouncing_from : Machine → ℕ → List (List ℕ)
bouncing_from m place = bouncing (drop place (judged (map (packet_at m.packets.now) m.numbers.now) m.verdicts.items))
