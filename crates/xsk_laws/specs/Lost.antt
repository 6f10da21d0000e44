-- What a wire that drops loses of the packets that a port received, and what is left of them (af_xdp.rst, "XDP_STATISTICS":
-- rx_dropped, rx_ring_full).
use Rattle.std.specs.Prelude.{◌≡◌, ℕ, ◌<◌, Bool, true, false, if◌then◌else◌, All, List, [], ◌∷◌}
use Rattle.std.specs.List.{filter}
use Rattle.xsk_umem.specs.Frame.{Frame}
use Rattle.xsk_umem.specs.PacketList.{PacketList}
use Rattle.xsk_model.specs.Config.{Config, classes_of}
use Rattle.xsk_model.specs.Entry.{Entry, own}
use Rattle.xsk_model.specs.Steering.{paired_port, driver_on}
use Rattle.xsk_prog.specs.declared.rule.Verdict.{Verdict}
use Rattle.xsk_turns.specs.Turns.{Judged, seat_of}
use Rattle.xsk_turns.specs.Disposals.{attempts_of, disposals_of, bytes_in}
use Rattle.xsk_turns.specs.declared.manner.Manner.{Manner}
use Rattle.xsk_turns.specs.declared.wire.Wire.{Wire}
use Rattle.xsk_turns.specs.declared.disposal.Disposal.{Disposal}
use Rattle.xsk_turns.specs.declared.disposal.Disposal.TheVariants.{NoFrames, RxFull}
use Rattle.xsk_laws.specs.Expected.{received_judged, is_redirected}
use Rattle.xsk_laws.specs.Forwarded.{forwarded}
use Rattle.xsk_laws.specs.Laws.{AreWholeRunsBy, IsPlace}

-- whether a packet was lost: there were too few frames on FILL, or there was too little room on RX
abbrev pub is_lost : Disposal → Bool
is_lost NoFrames = true
is_lost RxFull = true
is_lost disposal = false

-- the packets that were lost, and those that weren't, where the disposals are those of the packets
abbrev pub lost : List Judged → List Disposal → List Judged
lost [] disposals = []
lost (packet ∷ packets) [] = []
lost (packet ∷ packets) (disposal ∷ disposals) = if is_lost disposal then packet ∷ lost packets disposals else lost packets disposals

abbrev pub unlost : List Judged → List Disposal → List Judged
unlost [] disposals = []
unlost (packet ∷ packets) [] = []
unlost (packet ∷ packets) (disposal ∷ disposals) = if is_lost disposal then unlost packets disposals else packet ∷ unlost packets disposals

-- the disposals of what a port received on a queue, by its driver's own calls and replies
abbrev pub disposals_on : Wire → Config → List Entry → List PacketList → List (List Verdict) → ℕ → ℕ → List Disposal
disposals_on wire c h lists verdicts port queue =
    disposals_of (seat_of wire c (driver_on c port queue)) (received_judged c lists verdicts port queue) (attempts_of (own (driver_on c port queue) h))

-- what is expected of those packets that the paired port received and didn't lose
abbrev pub expected_of_unlost : Wire → Config → List Entry → List PacketList → List (List Verdict) → ℕ → ℕ → ℕ → List (List ℕ)
expected_of_unlost wire c h lists verdicts port queue class =
    bytes_in (filter (is_redirected c (paired_port port) queue class)
    (unlost (received_judged c lists verdicts (paired_port port) queue) (disposals_on wire c h lists verdicts (paired_port port) queue)))

-- what was forwarded by the socket of a class is exactly that, in order, whatever the wire does
abbrev pub ForwardedIsUnlost : Type 0
ForwardedIsUnlost = (hands : ℕ) (manner : Manner) (wire : Wire) (c : Config) (lists : List PacketList) (verdicts : List (List Verdict)) (frames : List Frame) (h : List Entry) (port queue class : ℕ)
    → AreWholeRunsBy hands manner wire c lists verdicts frames h → IsPlace c port queue class
    → forwarded wire c h lists verdicts port queue class ≡ expected_of_unlost wire c h lists verdicts port queue class

-- a packet that goes to the socket of some class
abbrev pub IsToSomeClass : Config → ℕ → ℕ → Judged → Type 0
IsToSomeClass c port queue packet = (class : ℕ) × (class < classes_of c) × (is_redirected c port queue class packet ≡ true)

-- and each packet that was lost is one that was to be delivered
abbrev pub OnlyRedirectedAreLost : Type 0
OnlyRedirectedAreLost = (hands : ℕ) (manner : Manner) (wire : Wire) (c : Config) (lists : List PacketList) (verdicts : List (List Verdict)) (frames : List Frame) (h : List Entry) (port queue : ℕ)
    → AreWholeRunsBy hands manner wire c lists verdicts frames h → port < c.ports → queue < c.queues
    → All (IsToSomeClass c port queue) (lost (received_judged c lists verdicts port queue) (disposals_on wire c h lists verdicts port queue))
