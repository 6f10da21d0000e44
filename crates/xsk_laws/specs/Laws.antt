-- What is sent is what was delivered, and where the wire waits exactly the redirected input, beside what bounces: laws of every
-- history in which each worker's own entries are a whole run, whatever object and whatever order of the workers made it, and
-- whatever the programs' verdicts are.
use Rattle.std.specs.Prelude.{◌≡◌, ℕ, ◌+◌, ◌<◌, ◌≤◌, ◌==◌, Bool, true, false, IfSome, Option, Some, None, List, [], ◌∷◌, length, map, All}
use Rattle.std.specs.List.{concat, filter, slice_index_or}
use Rattle.std.specs.Option.{is_none}
use Rattle.xsk_umem.specs.Frame.{Frame}
use Rattle.xsk_umem.specs.PacketList.{PacketList}
use Rattle.xsk_model.specs.Config.{Config, IsConfig, IsRegular, pair_at, map_of, classes_of}
use Rattle.xsk_model.specs.Rings.{caller_of}
use Rattle.xsk_model.specs.Marks.{apps_of}
use Rattle.xsk_model.specs.Entry.{Entry, own}
use Rattle.xsk_model.specs.History.{IsHistory}
use Rattle.xsk_model.specs.Sent.{sent, sent_by, bounced_of, all_sent}
use Rattle.xsk_model.specs.Steering.{paired_port, driver_on, socket_on}
use Rattle.xsk_turns.specs.Inputs.{packets_of_port}
use Rattle.xsk_prog.specs.declared.rule.Rule.{Rule}
use Rattle.xsk_prog.specs.declared.rule.Rule.TheVariants.{Redirect as ByClass}
use Rattle.xsk_prog.specs.declared.rule.Verdict.{Verdict}
use Rattle.xsk_turns.specs.Owned.{IsSteady}
use Rattle.xsk_turns.specs.Stranded.{stranded_of}
use Rattle.xsk_turns.specs.Turns.{Judged, IsWholeDriverRun}
use Rattle.xsk_turns.specs.Verdicts.{judged, MeetRules}
use Rattle.xsk_turns.specs.Hands.{IsWholeAppRunOf}
use Rattle.xsk_turns.specs.declared.manner.Manner.{Manner}
use Rattle.xsk_turns.specs.declared.wire.Wire.{Wire}
use Rattle.xsk_turns.specs.declared.wire.Wire.TheVariants.{Wait}
use Rattle.xsk_laws.specs.Expected.{received, expected, has_length, bounced_on, none_bounces}
use Rattle.xsk_laws.specs.Forwarded.{forwarded}

-- what the driver of a pair receives, each packet with its verdict
abbrev pub received_by : Config → List PacketList → List (List Verdict) → ℕ → List Judged
received_by c lists verdicts d = judged (received c lists (pair_at c.pairs d).port (pair_at c.pairs d).queue) (slice_index_or verdicts d [])

-- a history of a regular configuration that all workers have run to their ends: the own entries of each driver are a whole run over what it
-- receives, with this wire, and so are those of each application, with this manner, made by so many hands
pub record AreEndedRunsBy (hands : ℕ) (manner : Manner) (wire : Wire) (c : Config) (lists : List PacketList) (verdicts : List (List Verdict)) (frames : List Frame) (h : List Entry) : Type 0 where
  pub regular : IsRegular c
  pub history : IsHistory c frames h
  pub drivers : (d : ℕ) → d < length c.pairs → IsWholeDriverRun wire c d (received_by c lists verdicts d) (own d h)
  pub apps : (a : ℕ) → a < apps_of c → IsWholeAppRunOf hands manner c a (own (caller_of c a) h)

-- and one in which no socket is closed
pub record AreWholeRunsBy (hands : ℕ) (manner : Manner) (wire : Wire) (c : Config) (lists : List PacketList) (verdicts : List (List Verdict)) (frames : List Frame) (h : List Entry) : Type 0 where
  pub steady : IsSteady c
  pub history : IsHistory c frames h
  pub drivers : (d : ℕ) → d < length c.pairs → IsWholeDriverRun wire c d (received_by c lists verdicts d) (own d h)
  pub apps : (a : ℕ) → a < apps_of c → IsWholeAppRunOf hands manner c a (own (caller_of c a) h)

-- by one hand each application runs its machine
abbrev pub AreWholeRuns : Manner → Wire → Config → List PacketList → List (List Verdict) → List Frame → List Entry → Type 0
AreWholeRuns manner wire c lists verdicts frames h = AreWholeRunsBy 1 manner wire c lists verdicts frames h

-- a port, a queue and a class of the configuration
pub record IsPlace (c : Config) (port queue class : ℕ) : Type 0 where
  pub in_ports : port < c.ports
  pub in_queues : queue < c.queues
  pub in_classes : class < classes_of c

-- where no item is changed, what a driver sent by the socket of a class is what the driver of the paired port delivered to the paired socket: these
-- packets, each whole and in order, and no others
abbrev pub SentIsForwarded : Type 0
SentIsForwarded = (hands : ℕ) (manner : Manner) (wire : Wire) (c : Config) (lists : List PacketList) (verdicts : List (List Verdict)) (frames : List Frame) (h : List Entry) (port queue class : ℕ)
    → manner.mangle ≡ None → AreWholeRunsBy hands manner wire c lists verdicts frames h → IsPlace c port queue class
    → sent_by c h (driver_on c port queue) (socket_on c port queue class) ≡ forwarded wire c h lists verdicts port queue class

-- where the wire waits it is what is expected there: the packets of the paired port that go to the paired socket
abbrev pub SentIsExpected : Type 0
SentIsExpected = (hands : ℕ) (manner : Manner) (wire : Wire) (c : Config) (lists : List PacketList) (verdicts : List (List Verdict)) (frames : List Frame) (h : List Entry) (port queue class : ℕ)
    → manner.mangle ≡ None → wire ≡ Wait → AreWholeRunsBy hands manner wire c lists verdicts frames h → IsPlace c port queue class
    → sent_by c h (driver_on c port queue) (socket_on c port queue class) ≡ expected c lists verdicts port queue class

-- the packets that a driver bounced are exactly those that are to be, each once and in order
abbrev pub BouncedAsSaid : Type 0
BouncedAsSaid = (hands : ℕ) (manner : Manner) (wire : Wire) (c : Config) (lists : List PacketList) (verdicts : List (List Verdict)) (frames : List Frame) (h : List Entry) (port queue : ℕ)
    → AreWholeRunsBy hands manner wire c lists verdicts frames h → port < c.ports → queue < c.queues
    → bounced_of (bounced_on c lists verdicts port queue) (own (driver_on c port queue) h) ≡ bounced_on c lists verdicts port queue

-- where no rule of the chain lets a packet bounce, all that a driver sent was completed
abbrev pub OnlyCompleted : Type 0
OnlyCompleted = (rules : List Rule) (c : Config) (lists : List PacketList) (verdicts : List (List Verdict)) (h : List Entry) (port queue : ℕ) → none_bounces rules ≡ true
    → MeetRules rules queue (received c lists port queue) (slice_index_or verdicts (driver_on c port queue) [])
    → all_sent c (bounced_on c lists verdicts port queue) h (driver_on c port queue) ≡ sent c h (driver_on c port queue)

-- a packet that is sent, and the class by whose socket; one that bounced went by none
pub record Departure : Type 0 where
  pub class : Option ℕ
  pub packet : List ℕ

abbrev pub packets_in : List Departure → List (List ℕ)
packets_in departures = map (λ (x : Departure). x.packet) departures

abbrev pub is_of : ℕ → Option ℕ → Bool
is_of class None = false
is_of class (Some k) = k == class

-- packets are those of all classes together, and these that bounced: each goes by the socket of a class or bounced, those that go
-- by one are, in order, the packets of this class, and those that bounced are, in order, these
pub record AreOfClasses (c : Config) (of_class : ℕ → List (List ℕ)) (bounced : List (List ℕ)) (packets : List (List ℕ)) : Type 0 where
  pub departures : List Departure
  pub all : packets ≡ packets_in departures
  pub known : All (λ (x : Departure). IfSome x.class (λ class. class < classes_of c)) departures
  pub each : (class : ℕ) → class < classes_of c → packets_in (filter (λ (x : Departure). is_of class x.class) departures) ≡ of_class class
  pub others : packets_in (filter (λ (x : Departure). is_none x.class) departures) ≡ bounced

-- they are what is expected by all classes, or what was forwarded, and what bounces
abbrev pub AreExpected : Config → List PacketList → List (List Verdict) → ℕ → ℕ → List (List ℕ) → Type 0
AreExpected c lists verdicts port queue packets = AreOfClasses c (expected c lists verdicts port queue) (bounced_on c lists verdicts port queue) packets

abbrev pub AreForwarded : Wire → Config → List Entry → List PacketList → List (List Verdict) → ℕ → ℕ → List (List ℕ) → Type 0
AreForwarded wire c h lists verdicts port queue packets = AreOfClasses c (forwarded wire c h lists verdicts port queue) (bounced_on c lists verdicts port queue) packets

-- so all that a driver sent is what was forwarded by all classes and what bounces, and nothing else
abbrev pub AllAreForwarded : Type 0
AllAreForwarded = (hands : ℕ) (manner : Manner) (wire : Wire) (c : Config) (lists : List PacketList) (verdicts : List (List Verdict)) (frames : List Frame) (h : List Entry) (port queue : ℕ)
    → manner.mangle ≡ None → AreWholeRunsBy hands manner wire c lists verdicts frames h → port < c.ports → queue < c.queues
    → AreForwarded wire c h lists verdicts port queue (all_sent c (bounced_on c lists verdicts port queue) h (driver_on c port queue))

-- where the wire waits it is what is expected by all classes and what bounces, and nothing else
abbrev pub NothingElseIsSent : Type 0
NothingElseIsSent = (hands : ℕ) (manner : Manner) (wire : Wire) (c : Config) (lists : List PacketList) (verdicts : List (List Verdict)) (frames : List Frame) (h : List Entry) (port queue : ℕ)
    → manner.mangle ≡ None → wire ≡ Wait → AreWholeRunsBy hands manner wire c lists verdicts frames h → port < c.ports → queue < c.queues
    → AreExpected c lists verdicts port queue (all_sent c (bounced_on c lists verdicts port queue) h (driver_on c port queue))

-- all that a driver completed is what was forwarded by all classes, and where the wire waits what is expected by them
abbrev pub CompletedAreForwarded : Type 0
CompletedAreForwarded = (hands : ℕ) (manner : Manner) (wire : Wire) (c : Config) (lists : List PacketList) (verdicts : List (List Verdict)) (frames : List Frame) (h : List Entry) (port queue : ℕ)
    → manner.mangle ≡ None → AreWholeRunsBy hands manner wire c lists verdicts frames h → port < c.ports → queue < c.queues
    → AreOfClasses c (forwarded wire c h lists verdicts port queue) [] (sent c h (driver_on c port queue))

abbrev pub CompletedAreExpected : Type 0
CompletedAreExpected = (hands : ℕ) (manner : Manner) (wire : Wire) (c : Config) (lists : List PacketList) (verdicts : List (List Verdict)) (frames : List Frame) (h : List Entry) (port queue : ℕ)
    → manner.mangle ≡ None → wire ≡ Wait → AreWholeRunsBy hands manner wire c lists verdicts frames h → port < c.ports → queue < c.queues
    → AreOfClasses c (expected c lists verdicts port queue) [] (sent c h (driver_on c port queue))

-- where each queue has one socket, all that a driver completed is what was forwarded by this one
abbrev pub AllIsForwarded : Type 0
AllIsForwarded = (hands : ℕ) (manner : Manner) (wire : Wire) (c : Config) (lists : List PacketList) (verdicts : List (List Verdict)) (frames : List Frame) (h : List Entry) (port queue : ℕ)
    → manner.mangle ≡ None → AreWholeRunsBy hands manner wire c lists verdicts frames h → port < c.ports → queue < c.queues → classes_of c ≡ 1
    → sent c h (driver_on c port queue) ≡ forwarded wire c h lists verdicts port queue 0

-- and where the wire waits too, what is expected by it
abbrev pub AllIsExpected : Type 0
AllIsExpected = (hands : ℕ) (manner : Manner) (wire : Wire) (c : Config) (lists : List PacketList) (verdicts : List (List Verdict)) (frames : List Frame) (h : List Entry) (port queue : ℕ)
    → manner.mangle ≡ None → wire ≡ Wait → AreWholeRunsBy hands manner wire c lists verdicts frames h → port < c.ports → queue < c.queues → classes_of c ≡ 1
    → sent c h (driver_on c port queue) ≡ expected c lists verdicts port queue 0

-- and no frame is stranded: each that a driver peeked on its TX rings it has submitted on COMPLETION
abbrev pub NoneAreStranded : Type 0
NoneAreStranded = (hands : ℕ) (manner : Manner) (wire : Wire) (c : Config) (lists : List PacketList) (verdicts : List (List Verdict)) (frames : List Frame) (h : List Entry) (port queue : ℕ)
    → manner.mangle ≡ None → AreWholeRunsBy hands manner wire c lists verdicts frames h → port < c.ports → queue < c.queues
    → stranded_of (own (driver_on c port queue) h) ≡ 0

-- all that a driver sent are, in packets and in bytes, those that it completed and those that bounce
abbrev pub AllAreBoth : Type 0
AllAreBoth = (hands : ℕ) (manner : Manner) (wire : Wire) (c : Config) (lists : List PacketList) (verdicts : List (List Verdict)) (frames : List Frame) (h : List Entry) (port queue : ℕ)
    → AreWholeRunsBy hands manner wire c lists verdicts frames h → port < c.ports → queue < c.queues
    → (length (all_sent c (bounced_on c lists verdicts port queue) h (driver_on c port queue)) ≡ length (sent c h (driver_on c port queue)) + length (bounced_on c lists verdicts port queue))
    × (length (concat (all_sent c (bounced_on c lists verdicts port queue) h (driver_on c port queue)))
    ≡ length (concat (sent c h (driver_on c port queue))) + length (concat (bounced_on c lists verdicts port queue)))

-- all that a driver completed is no more than what the paired port received on the queue, in packets and in bytes, whatever the
-- applications change
abbrev pub SentIsWithin : Type 0
SentIsWithin = (hands : ℕ) (manner : Manner) (wire : Wire) (c : Config) (lists : List PacketList) (verdicts : List (List Verdict)) (frames : List Frame) (h : List Entry) (port queue : ℕ)
    → AreWholeRunsBy hands manner wire c lists verdicts frames h → port < c.ports → queue < c.queues
    → (length (sent c h (driver_on c port queue)) ≤ length (received c lists (paired_port port) queue))
    × (length (concat (sent c h (driver_on c port queue))) ≤ length (concat (received c lists (paired_port port) queue)))

-- with what bounces of it, it is still no more: each packet leaves at most once
abbrev pub LeavesOnce : Type 0
LeavesOnce = (hands : ℕ) (manner : Manner) (wire : Wire) (c : Config) (lists : List PacketList) (verdicts : List (List Verdict)) (frames : List Frame) (h : List Entry) (port queue : ℕ)
    → AreWholeRunsBy hands manner wire c lists verdicts frames h → port < c.ports → queue < c.queues
    → (length (sent c h (driver_on c port queue)) + length (bounced_on c lists verdicts (paired_port port) queue) ≤ length (received c lists (paired_port port) queue))
    × (length (concat (sent c h (driver_on c port queue))) + length (concat (bounced_on c lists verdicts (paired_port port) queue)) ≤ length (concat (received c lists (paired_port port) queue)))

-- so all that the drivers of a port and the paired port sent is no more than what both received there
abbrev pub AllIsWithin : Type 0
AllIsWithin = (hands : ℕ) (manner : Manner) (wire : Wire) (c : Config) (lists : List PacketList) (verdicts : List (List Verdict)) (frames : List Frame) (h : List Entry) (port queue : ℕ)
    → AreWholeRunsBy hands manner wire c lists verdicts frames h → port < c.ports → queue < c.queues
    → (length (all_sent c (bounced_on c lists verdicts port queue) h (driver_on c port queue))
    + length (all_sent c (bounced_on c lists verdicts (paired_port port) queue) h (driver_on c (paired_port port) queue))
    ≤ length (received c lists port queue) + length (received c lists (paired_port port) queue))
    × (length (concat (all_sent c (bounced_on c lists verdicts port queue) h (driver_on c port queue)))
    + length (concat (all_sent c (bounced_on c lists verdicts (paired_port port) queue) h (driver_on c (paired_port port) queue)))
    ≤ length (concat (received c lists port queue)) + length (concat (received c lists (paired_port port) queue)))

-- one queue with one socket on each port, and each port's one cell holding the port's own socket
pub record HasOwnSockets (c : Config) : Type 0 where
  pub queues : c.queues ≡ 1
  pub classes : classes_of c ≡ 1
  pub cells : (port : ℕ) → port < c.ports → map_of c port ≡ (port + 1) ∷ []

-- then, where each packet is redirected by its class, what is expected of a port are all packets of the paired port that
-- have 14 bytes up to the limit
abbrev pub ExpectedIsOther : Type 0
ExpectedIsOther = (c : Config) (lists : List PacketList) (verdicts : List (List Verdict)) (port : ℕ) → IsConfig c → HasOwnSockets c → port < c.ports
    → MeetRules (ByClass 1 ∷ []) 0 (received c lists (paired_port port) 0) (slice_index_or verdicts (driver_on c (paired_port port) 0) [])
    → expected c lists verdicts port 0 0 ≡ filter (has_length c) (packets_of_port lists (paired_port port))
