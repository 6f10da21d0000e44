-- What the drivers of a port delivered to a socket, by their own calls and replies, whatever the wire does.
use Rattle.std.specs.Prelude.{ℕ, List}
use Rattle.xsk_umem.specs.PacketList.{PacketList}
use Rattle.xsk_model.specs.Config.{Config}
use Rattle.xsk_model.specs.Entry.{Entry, own}
use Rattle.xsk_model.specs.Steering.{paired_port, driver_on, socket_on}
use Rattle.xsk_prog.specs.declared.rule.Verdict.{Verdict}
use Rattle.xsk_turns.specs.Turns.{seat_of}
use Rattle.xsk_turns.specs.Disposals.{attempts_of, disposals_of, with_disposal}
use Rattle.xsk_turns.specs.declared.wire.Wire.{Wire}
use Rattle.xsk_laws.specs.Expected.{received_judged}

-- the packets that a port received on a queue and that its driver, by its own calls and replies, delivered to the socket of
-- a class
abbrev pub delivered : Wire → Config → List Entry → List PacketList → List (List Verdict) → ℕ → ℕ → ℕ → List (List ℕ)
delivered wire c h lists verdicts port queue class =
    with_disposal (socket_on c port queue class) (received_judged c lists verdicts port queue)
    (disposals_of (seat_of wire c (driver_on c port queue)) (received_judged c lists verdicts port queue) (attempts_of (own (driver_on c port queue) h)))

-- those of the paired port
abbrev pub forwarded : Wire → Config → List Entry → List PacketList → List (List Verdict) → ℕ → ℕ → ℕ → List (List ℕ)
forwarded wire c h lists verdicts port queue class = delivered wire c h lists verdicts (paired_port port) queue class
