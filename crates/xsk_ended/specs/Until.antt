-- What is sent is what was delivered, and where the wire waits the redirected input, on each lane until it was cut; beside it what
-- bounces. These are laws of every history in which each worker's own entries are a whole run, whether or not a socket is closed in it,
-- whatever object and whatever order of the workers made it. How a socket is closed is this project's own.
use Rattle.std.specs.Prelude.{◌≡◌, ℕ, ◌<◌, None, List}
use Rattle.xsk_umem.specs.Frame.{Frame}
use Rattle.xsk_umem.specs.PacketList.{PacketList}
use Rattle.xsk_model.specs.Config.{Config}
use Rattle.xsk_model.specs.Entry.{Entry}
use Rattle.xsk_model.specs.Sent.{all_sent}
use Rattle.xsk_model.specs.Steering.{driver_on}
use Rattle.xsk_prog.specs.declared.rule.Verdict.{Verdict}
use Rattle.xsk_turns.specs.declared.manner.Manner.{Manner}
use Rattle.xsk_turns.specs.declared.wire.Wire.{Wire}
use Rattle.xsk_turns.specs.declared.wire.Wire.TheVariants.{Wait}
use Rattle.xsk_laws.specs.Cut.{until_cut}
use Rattle.xsk_laws.specs.Expected.{expected, bounced_on}
use Rattle.xsk_laws.specs.Forwarded.{forwarded}
use Rattle.xsk_laws.specs.Laws.{AreEndedRunsBy, AreOfClasses, AreForwarded, AreExpected}

-- packets are what was forwarded by all classes, or what is expected by them, on each lane until it was cut, and what bounces
abbrev pub AreForwardedUntil : Wire → Config → List Entry → List PacketList → List (List Verdict) → ℕ → ℕ → List (List ℕ) → Type 0
AreForwardedUntil wire c h lists verdicts port queue packets =
    AreOfClasses c (λ class. until_cut c h port queue class (forwarded wire c h lists verdicts port queue class)) (bounced_on c lists verdicts port queue) packets

abbrev pub AreExpectedUntil : Config → List Entry → List PacketList → List (List Verdict) → ℕ → ℕ → List (List ℕ) → Type 0
AreExpectedUntil c h lists verdicts port queue packets =
    AreOfClasses c (λ class. until_cut c h port queue class (expected c lists verdicts port queue class)) (bounced_on c lists verdicts port queue) packets

-- where no item is changed, all that a driver sent is what was forwarded by all classes until lanes were cut and what bounces, and
-- nothing else
abbrev pub EndedAreForwarded : Type 0
EndedAreForwarded = (hands : ℕ) (manner : Manner) (wire : Wire) (c : Config) (lists : List PacketList) (verdicts : List (List Verdict)) (frames : List Frame) (h : List Entry) (port queue : ℕ)
    → manner.mangle ≡ None → AreEndedRunsBy hands manner wire c lists verdicts frames h → port < c.ports → queue < c.queues
    → AreForwardedUntil wire c h lists verdicts port queue (all_sent c (bounced_on c lists verdicts port queue) h (driver_on c port queue))

-- where the wire waits it is what is expected by all classes until lanes were cut and what bounces, and nothing else
abbrev pub EndedAreExpected : Type 0
EndedAreExpected = (hands : ℕ) (manner : Manner) (wire : Wire) (c : Config) (lists : List PacketList) (verdicts : List (List Verdict)) (frames : List Frame) (h : List Entry) (port queue : ℕ)
    → manner.mangle ≡ None → wire ≡ Wait → AreEndedRunsBy hands manner wire c lists verdicts frames h → port < c.ports → queue < c.queues
    → AreExpectedUntil c h lists verdicts port queue (all_sent c (bounced_on c lists verdicts port queue) h (driver_on c port queue))

-- where no socket is to be closed no lane is cut, and these are all that is forwarded, or expected
abbrev pub AllAreForwarded : Type 0
AllAreForwarded = (wire : Wire) (c : Config) (h : List Entry) (lists : List PacketList) (verdicts : List (List Verdict)) (port queue : ℕ) (packets : List (List ℕ))
    → c.closing ≡ None → AreForwardedUntil wire c h lists verdicts port queue packets → AreForwarded wire c h lists verdicts port queue packets

abbrev pub AllAreExpected : Type 0
AllAreExpected = (c : Config) (h : List Entry) (lists : List PacketList) (verdicts : List (List Verdict)) (port queue : ℕ) (packets : List (List ℕ))
    → c.closing ≡ None → AreExpectedUntil c h lists verdicts port queue packets → AreExpected c lists verdicts port queue packets
