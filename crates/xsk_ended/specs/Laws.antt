-- What whole runs come to, whether or not a socket is closed: laws of every history in which each worker's own entries are a whole run,
-- whatever object and whatever order of the workers made it. How a socket is closed is this project's own.
use Rattle.std.specs.Prelude.{◌≡◌, ℕ, ◌+◌, ◌<◌, ◌≤◌, None, List, ◌++◌, length}
use Rattle.std.specs.List.{concat}
use Rattle.xsk_umem.specs.Frame.{Frame}
use Rattle.xsk_umem.specs.PacketList.{PacketList}
use Rattle.xsk_model.specs.Config.{Config, IsRegular, callers_of}
use Rattle.xsk_model.specs.Entry.{Entry, own}
use Rattle.xsk_model.specs.History.{IsHistory}
use Rattle.xsk_model.specs.Sent.{bounced_of, all_sent}
use Rattle.xsk_model.specs.Steering.{paired_port, driver_on}
use Rattle.xsk_prog.specs.declared.rule.Verdict.{Verdict}
use Rattle.xsk_turns.specs.Hands.{IsWholeRunOf}
use Rattle.xsk_turns.specs.Stranded.{stranded_of}
use Rattle.xsk_turns.specs.Wakes.{NoWakeIsLost}
use Rattle.xsk_turns.specs.Workers.{Setting}
use Rattle.xsk_turns.specs.declared.manner.Manner.{Manner}
use Rattle.xsk_turns.specs.declared.wire.Wire.{Wire}
use Rattle.xsk_laws.specs.Expected.{received, bounced_on}
use Rattle.xsk_laws.specs.Laws.{AreEndedRunsBy}

-- the packets that a driver bounced are exactly those that are to be, each once and in order
abbrev pub EndedBouncedAsSaid : Type 0
EndedBouncedAsSaid = (hands : ℕ) (manner : Manner) (wire : Wire) (c : Config) (lists : List PacketList) (verdicts : List (List Verdict)) (frames : List Frame) (h : List Entry) (port queue : ℕ)
    → AreEndedRunsBy hands manner wire c lists verdicts frames h → port < c.ports → queue < c.queues
    → bounced_of (bounced_on c lists verdicts port queue) (own (driver_on c port queue) h) ≡ bounced_on c lists verdicts port queue

-- all that the drivers of a port and the paired port sent is no more than what both received there, in packets and in bytes, whatever
-- the applications change
abbrev pub EndedIsWithin : Type 0
EndedIsWithin = (hands : ℕ) (manner : Manner) (wire : Wire) (c : Config) (lists : List PacketList) (verdicts : List (List Verdict)) (frames : List Frame) (h : List Entry) (port queue : ℕ)
    → AreEndedRunsBy hands manner wire c lists verdicts frames h → port < c.ports → queue < c.queues
    → (length (all_sent c (bounced_on c lists verdicts port queue) h (driver_on c port queue))
    + length (all_sent c (bounced_on c lists verdicts (paired_port port) queue) h (driver_on c (paired_port port) queue))
    ≤ length (received c lists port queue) + length (received c lists (paired_port port) queue))
    × (length (concat (all_sent c (bounced_on c lists verdicts port queue) h (driver_on c port queue)))
    + length (concat (all_sent c (bounced_on c lists verdicts (paired_port port) queue) h (driver_on c (paired_port port) queue)))
    ≤ length (concat (received c lists port queue)) + length (concat (received c lists (paired_port port) queue)))

-- all that a driver sent is no more than what is to bounce of what its port received there and what the paired port received
abbrev pub EndedLeavesWithin : Type 0
EndedLeavesWithin = (hands : ℕ) (manner : Manner) (wire : Wire) (c : Config) (lists : List PacketList) (verdicts : List (List Verdict)) (frames : List Frame) (h : List Entry) (port queue : ℕ)
    → AreEndedRunsBy hands manner wire c lists verdicts frames h → port < c.ports → queue < c.queues
    → (length (all_sent c (bounced_on c lists verdicts port queue) h (driver_on c port queue))
    ≤ length (bounced_on c lists verdicts port queue) + length (received c lists (paired_port port) queue))
    × (length (concat (all_sent c (bounced_on c lists verdicts port queue) h (driver_on c port queue)))
    ≤ length (concat (bounced_on c lists verdicts port queue)) + length (concat (received c lists (paired_port port) queue)))

-- where no item is changed no frame is stranded: each that a driver peeked on its TX rings it has submitted on COMPLETION
abbrev pub EndedStrandNone : Type 0
EndedStrandNone = (hands : ℕ) (manner : Manner) (wire : Wire) (c : Config) (lists : List PacketList) (verdicts : List (List Verdict)) (frames : List Frame) (h : List Entry) (port queue : ℕ)
    → manner.mangle ≡ None → AreEndedRunsBy hands manner wire c lists verdicts frames h → port < c.ports → queue < c.queues
    → stranded_of (own (driver_on c port queue) h) ≡ 0

-- after each prefix of a history in which all workers have run to their ends no wake is lost
abbrev pub EndedLoseNoWakes : Type 0
EndedLoseNoWakes = (hands : ℕ) (s : Setting) (frames : List Frame) (h more : List Entry) (d : ℕ) → IsRegular s.config → IsHistory s.config frames (h ++ more)
    → ((who : ℕ) → who < callers_of s.config → IsWholeRunOf hands s who (own who (h ++ more))) → d < length s.config.pairs → NoWakeIsLost s.config frames h d
