-- What a command's work makes of the bytes of its inputs. There is one outcome of them.
use Rattle.std.specs.Prelude.{◌≡◌, ◌&&◌, ◌==◌, ℕ, ◌<◌, nat_le, Bool, true, List, [], ◌∷◌, ◌++◌, length, map, filter, codes, None, Some, if◌then◌else◌}
use Rattle.std.specs.Fmt.{decimal}
use Rattle.std.specs.List.{concat, range_with_len, slice_index_or}
use Rattle.xsk_umem.specs.PacketList.{PacketList}
use Rattle.xsk_umem.specs.Registration.{fresh}
use Rattle.xsk_umem.specs.Frame.{Frame}
use Rattle.xsk_model.specs.Sent.{all_sent, bounced_of}
use Rattle.xsk_model.specs.Config.{callers_of, map_of}
use Rattle.xsk_model.specs.Entry.{Entry, own}
use Rattle.xsk_model.specs.Steering.{packet_class, paired_port, driver_on, socket_on}
use Rattle.xsk_gen.specs.Generator.{first, packet}
use Rattle.xsk_laws.specs.Expected.{bounced_on, expected, has_length, leads_to, none_bounces}
use Rattle.xsk_laws.specs.Laws.{AreExpected, AreForwarded, IsPlace}
use Rattle.xsk_ended.specs.Until.{AreExpectedUntil, AreForwardedUntil}
use Rattle.xsk_socket.specs.declared.layout.Layout.{Layout}
use Rattle.xsk_socket.specs.Layout.{fault_of}
use Rattle.xsk_socket.specs.Regular.{regular_of}
use Rattle.xsk_machine.specs.HistoryFigures.{figures_of}
use Rattle.xsk_stats.specs.Report.{report_text}
use Rattle.xsk_sim.specs.Journal.{journal_of, rounds_of}
use Rattle.xsk_sim.specs.Rounds.{AreInRounds}
use Rattle.xsk_sim.specs.Shown.{Shown}
use Rattle.xsk_args.specs.declared.program.Program.{Program}
use Rattle.xsk_args.specs.declared.program.Program.TheVariants.{Redirect, Pass, Drop, EtherType, Fixed, Bounce, BounceType}
use Rattle.xsk_prog.specs.Rules.{chain_verdict_of}
use Rattle.xsk_prog.specs.declared.rule.Rule.{Rule}
use Rattle.xsk_prog.specs.declared.rule.Rule.TheVariants.{Redirect as ByClass, Pass as PassAll, Drop as DropAll, EtherType as TypeByClass, Fixed as ByCell, Bounce as BounceAll, BounceType as BounceByType}
use Rattle.xsk_turns.specs.Inputs.{packets_of_queue}
use Rattle.xsk_turns.specs.Turns.{bounces}
use Rattle.xsk_prog.specs.declared.rule.Verdict.{Verdict}
use Rattle.xsk_turns.specs.Workers.{Setting, IsWholeRun, ruled_by, verdicts_to}
use Rattle.xsk_turns.specs.declared.wire.Wire.{Wire}
use Rattle.xsk_turns.specs.declared.wire.Wire.TheVariants.{Wait}
use Rattle.xsk_sim.specs.Runs.{HasEnded}
use Rattle.xsk_pcap.specs.Written.{written}
use Rattle.xsk_pcap.specs.declared.reading.BadCapture.{BadCapture as Cause}
use Rattle.xsk_audit.specs.Telling.{IsVerdict}
use Rattle.xsk_audit.specs.declared.auditing.Verdicts.TheVariants.{Legal, NotLegal}
use Rattle.xsk_cli.specs.Judged.{bytes_of, AreShort, IsTooLong, excess_of}
use Rattle.xsk_pcapng.specs.declared.reading.BadPcapng.{BadPcapng as FileCause}
use Rattle.xsk_cli.specs.Format.{AreFiles, HasBadCapture, HasBadFile, outputs_of}
use Rattle.xsk_cli.specs.Stalls.{IsStall}
use Rattle.xsk_cli.specs.Words.{format_in, most_of, ports_in}
use Rattle.xsk_cli.specs.declared.format.Format.{Format}
use Rattle.xsk_cli.specs.declared.words.Work.{Work}
use Rattle.xsk_cli.specs.declared.words.Work.TheVariants.{Simulate, Generate, Audit}
use Rattle.xsk_cli.specs.declared.status.Excess.{Excess}
use Rattle.xsk_turns.specs.declared.manner.Manner.{Manner}

-- what is written: a text for each output, and one for the report
pub record Written : Type 0 where
  pub outputs : List (List ℕ)
  pub report : List ℕ

-- an input is too long, or no capture, or the one input is no pcapng file; the limits are passed; the run stalls in a round, and
-- so much is told of it behind the line of the stall; or there are texts; or a journal isn't legal from a line on
pub data Outcome : Type 0 where
  long : ℕ → Outcome
  bad : ℕ → Cause → Outcome
  bad_file : FileCause → Outcome
  passed : Excess → Outcome
  stalled : ℕ → List ℕ → Outcome
  made : Written → Outcome
  illegal : ℕ → Outcome

-- ---- the packets

-- the packets that are made of a number, for the first ports
abbrev pub made_lists : ℕ → ℕ → List (List (List ℕ))
made_lists number ports = map (λ port. first 2000 (packet number port)) (range_with_len 0 ports)

-- the packets of all ports: those of the files, or those that are made, where nothing is read
abbrev pub AreListsOf : Work → List (List ℕ) → List (List (List ℕ)) → Type 0
AreListsOf (Simulate layout programs wire manner order None telling format) inputs lists = AreFiles format layout.ports inputs lists
AreListsOf (Simulate layout programs wire manner order (Some number) telling format) inputs lists = (inputs ≡ []) × (lists ≡ made_lists number layout.ports)
AreListsOf (Generate number) inputs lists = (inputs ≡ []) × (lists ≡ made_lists number 1)
AreListsOf (Audit layout why) inputs lists = ⊥

-- ---- the run

-- the list of a port's packets, with no room for others
abbrev pub listed : List (List ℕ) → PacketList
listed packets = record { packets = packets; gaps = None; spare_packets = 0; spare_bytes = 0 }

-- the rule of a program, where each queue has so many sockets (af_xdp.rst, "XSKMAP / BPF_MAP_TYPE_XSKMAP")
abbrev pub rule_by : ℕ → Program → Rule
rule_by sockets Redirect = ByClass sockets
rule_by sockets Pass = PassAll
rule_by sockets Drop = DropAll
rule_by sockets (EtherType kind) = TypeByClass kind sockets
rule_by sockets (Fixed cell) = ByCell cell
rule_by sockets Bounce = BounceAll
rule_by sockets (BounceType kind) = BounceByType kind

-- the rules of programs, in the order in which they are asked
abbrev pub rules_by : ℕ → List Program → List Rule
rules_by sockets programs = map (rule_by sockets) programs

-- what is run: the layout's configuration and the wire over the packets of all ports, each with the verdict that the programs'
-- rules give it, with frames of zero bytes, in order
abbrev pub setting_of : Layout → List Program → Wire → Manner → List (List (List ℕ)) → Setting
setting_of layout programs wire manner lists = ruled_by (rules_by layout.sockets programs) wire manner (regular_of layout) (map listed lists)

-- the verdicts, for each pair those of its packets
abbrev pub verdicts_by : Layout → List Program → List (List (List ℕ)) → List (List Verdict)
verdicts_by layout programs lists = map (verdicts_to (rules_by layout.sockets programs) (regular_of layout) (map listed lists)) (regular_of layout).pairs

abbrev pub frames_of : Layout → List Frame
frames_of layout = fresh layout.chunk layout.frames

-- ---- the texts

-- the report of a run: its figures, each a count over its history
abbrev pub report_of : Layout → List Program → Wire → Manner → List (List (List ℕ)) → List Entry → List ℕ
report_of layout programs wire manner lists history = report_text (regular_of layout) (figures_of (setting_of layout programs wire manner lists) history)

-- and behind it the journal of its history, where that was asked for
abbrev pub told_of : Layout → List Program → Wire → Manner → List (List (List ℕ)) → Bool → List Entry → List ℕ
told_of layout programs wire manner lists journal history =
    report_of layout programs wire manner lists history ++ (if journal then journal_of (length (regular_of layout).pairs) history else [])

-- the one line of packets that were made
abbrev pub report_on : List (List ℕ) → List ℕ
report_on packets = codes "packets " ++ decimal (length packets) ++ codes " bytes " ++ decimal (length (concat packets)) ++ codes "\n"

abbrev pub capture_of : List (List ℕ) → List ℕ
capture_of packets = written (packets ∷ [])

abbrev pub ports_of : Layout → List ℕ
ports_of layout = range_with_len 0 layout.ports

abbrev pub queues_of : Layout → List ℕ
queues_of layout = range_with_len 0 layout.queues

-- what a port received on a queue, where there is one list of packets for each port
abbrev pub received_on : Layout → List (List (List ℕ)) → ℕ → ℕ → List (List ℕ)
received_on layout lists port queue = packets_of_queue layout.queues queue (slice_index_or lists port [])

-- whether a packet that a port received on a queue goes back by this port: it has an Ethernet header, and the programs let it bounce
-- (XDP_TX)
abbrev pub goes_back : Layout → List Program → ℕ → List ℕ → Bool
goes_back layout programs queue packet = nat_le 14 (length packet) && bounces (chain_verdict_of (rules_by layout.sockets programs) packet queue)

-- what goes back of what a port received on a queue, in order and whole
abbrev pub going_back : Layout → List Program → List (List (List ℕ)) → ℕ → ℕ → List (List ℕ)
going_back layout programs lists port queue = filter (goes_back layout programs queue) (received_on layout lists port queue)

-- What the driver of a port's queue sent by a history: the packets that it completed, and those that bounced, in the history's
-- order. And what all drivers of the port sent, that of queue 0 first.
abbrev pub sent_on : Layout → List Program → List (List (List ℕ)) → List Entry → ℕ → ℕ → List (List ℕ)
sent_on layout programs lists history port queue =
    all_sent (regular_of layout) (going_back layout programs lists port queue) history (driver_on (regular_of layout) port queue)

abbrev pub sent_from : Layout → List Program → List (List (List ℕ)) → List Entry → ℕ → List (List (List ℕ))
sent_from layout programs lists history port = map (sent_on layout programs lists history port) (queues_of layout)

-- whether a packet that a port received on a queue goes on by the socket of a class: it has 14 bytes up to the number that a
-- frame holds or, with `sg`, that 18 frames hold, and the programs redirect it to a cell that the port's map has and that
-- holds this socket
abbrev pub goes_on : Layout → List Program → ℕ → ℕ → ℕ → List ℕ → Bool
goes_on layout programs port queue class packet = has_length (regular_of layout) packet
    && leads_to (map_of (regular_of layout) port) (socket_on (regular_of layout) port queue class) (chain_verdict_of (rules_by layout.sockets programs) packet queue)

-- what goes on of what a port received on a queue, in order and whole
abbrev pub going_on : Layout → List Program → List (List (List ℕ)) → ℕ → ℕ → ℕ → List (List ℕ)
going_on layout programs lists port queue class = filter (goes_on layout programs port queue class) (received_on layout lists port queue)

-- where each queue has one socket: all that goes on to a port, that of queue 0 first
abbrev pub sent_on_by : Layout → List Program → List (List (List ℕ)) → ℕ → List (List (List ℕ))
sent_on_by layout programs lists port = map (λ queue. going_on layout programs lists (paired_port port) queue 0) (queues_of layout)

-- no packet goes back
abbrev pub NoneGoesBack : Layout → List Program → List (List (List ℕ)) → Type 0
NoneGoesBack layout programs lists = (port queue : ℕ) → port < layout.ports → queue < layout.queues → going_back layout programs lists port queue ≡ []

-- The texts of a history of these packets: what the drivers of each port sent in it, and what is told of it. What the driver of a
-- queue bounced is all that goes back there, in order, whatever the wire does and applications change. Where applications change
-- nothing and no socket is closed, what it sent beside that is what the paired port's driver delivered to the sockets of all classes,
-- whatever the wire does, and nothing else. Where the wire waits it is what is expected there of all classes; with one socket on each
-- queue, and where no packet goes back, each text is then that of all that goes on to its port. Where a socket is closed, on its two
-- lanes these are the first packets, as many as its application passed on.
pub record AreTextsIn (format : Format) (layout : Layout) (programs : List Program) (wire : Wire) (manner : Manner) (lists : List (List (List ℕ))) (history : List Entry) (told : List ℕ) (texts : Written) : Type 0 where
  pub sent : texts.outputs ≡ outputs_of format (sent_from layout programs lists history) (ports_of layout)
  pub bounced : (port queue : ℕ) → port < layout.ports → queue < layout.queues
      → bounced_of (going_back layout programs lists port queue) (own (driver_on (regular_of layout) port queue) history) ≡ going_back layout programs lists port queue
  pub forwarded : (port queue : ℕ) → manner.mangle ≡ None → layout.close ≡ None → port < layout.ports → queue < layout.queues
      → AreForwarded wire (regular_of layout) history (map listed lists) (verdicts_by layout programs lists) port queue
      (sent_on layout programs lists history port queue)
  pub redirected : (port queue : ℕ) → manner.mangle ≡ None → layout.close ≡ None → wire ≡ Wait → port < layout.ports → queue < layout.queues
      → AreExpected (regular_of layout) (map listed lists) (verdicts_by layout programs lists) port queue
      (sent_on layout programs lists history port queue)
  pub forwarded_until : (port queue : ℕ) → manner.mangle ≡ None → port < layout.ports → queue < layout.queues
      → AreForwardedUntil wire (regular_of layout) history (map listed lists) (verdicts_by layout programs lists) port queue
      (sent_on layout programs lists history port queue)
  pub redirected_until : (port queue : ℕ) → manner.mangle ≡ None → wire ≡ Wait → port < layout.ports → queue < layout.queues
      → AreExpectedUntil (regular_of layout) history (map listed lists) (verdicts_by layout programs lists) port queue
      (sent_on layout programs lists history port queue)
  pub one_socket : manner.mangle ≡ None → layout.close ≡ None → wire ≡ Wait → layout.sockets ≡ 1 → NoneGoesBack layout programs lists → texts.outputs ≡ outputs_of format (sent_on_by layout programs lists) (ports_of layout)
  pub report : texts.report ≡ told

-- Those of a run in rounds that has ended: its figures are told, and the journal, which tells of each entry the round in which it
-- stands.
pub record AreTextsOf (format : Format) (layout : Layout) (programs : List Program) (wire : Wire) (manner : Manner) (order : ℕ) (lists : List (List (List ℕ))) (journal : Bool) (texts : Written) : Type 0 where
  pub run : Shown
  pub ended : HasEnded (setting_of layout programs wire manner lists) (frames_of layout) order run
  pub are : AreTextsIn format layout programs wire manner lists ended.history (told_of layout programs wire manner lists journal ended.history) texts
  pub rounds : AreInRounds (IsWholeRun (setting_of layout programs wire manner lists)) (callers_of (regular_of layout)) order ended.count ended.history (rounds_of ended.history)

-- the texts that the work makes of packets: of a run, or of the packets themselves
abbrev pub AreTextsBy : Work → List (List (List ℕ)) → Written → Type 0
AreTextsBy (Simulate layout programs wire manner order number telling format) lists texts = AreTextsOf format layout programs wire manner order lists telling.journal texts
AreTextsBy (Generate number) lists texts =
    (texts.outputs ≡ map capture_of lists) × (texts.report ≡ report_on (slice_index_or lists 0 []))
AreTextsBy (Audit layout why) lists texts = ⊥

-- the work's run of packets stalls in a round, and this is told of it
abbrev pub IsStalledBy : Work → List (List (List ℕ)) → ℕ → List ℕ → Type 0
IsStalledBy (Simulate layout programs wire manner order number telling format) lists round told =
    IsStall (setting_of layout programs wire manner lists) (frames_of layout) order round telling told
IsStalledBy (Generate number) lists round told = ⊥
IsStalledBy (Audit layout why) lists round told = ⊥

-- ---- the outcome

-- what packets come to
abbrev pub IsOutcomeOf : Work → List (List (List ℕ)) → Outcome → Type 0
IsOutcomeOf work lists (long port) = ⊥
IsOutcomeOf work lists (bad port cause) = ⊥
IsOutcomeOf work lists (bad_file cause) = ⊥
IsOutcomeOf work lists (passed excess) = excess_of lists ≡ Some excess
IsOutcomeOf work lists (stalled round told) = (excess_of lists ≡ None) × IsStalledBy work lists round told
IsOutcomeOf work lists (made texts) = (excess_of lists ≡ None) × AreTextsBy work lists texts
IsOutcomeOf work lists (illegal line) = ⊥

-- what inputs that have packets come to
abbrev pub IsOutcomeIn : Work → List (List ℕ) → Outcome → Type 0
IsOutcomeIn work inputs outcome = (lists : List (List (List ℕ))) × AreListsOf work inputs lists × IsOutcomeOf work lists outcome

-- the one line of a journal that is legal, with so many entries
abbrev pub legal_text : ℕ → List ℕ
legal_text entries = codes "legal " ++ decimal entries ++ codes "\n"

-- what a text's journal comes to, for the layout's configuration: it is that of a legal history, or isn't from a line on
abbrev pub IsAudited : Layout → List ℕ → Outcome → Type 0
IsAudited layout text (made texts) = (entries : ℕ) × IsVerdict (regular_of layout) text (Legal entries) × (texts ≡ record { outputs = []; report = legal_text entries })
IsAudited layout text (illegal line) = IsVerdict (regular_of layout) text (NotLegal line)
IsAudited layout text outcome = ⊥

-- work on packets, which are read or made, and not on a journal
abbrev pub IsOnPackets : Work → Type 0
IsOnPackets (Simulate layout programs wire manner order number telling format) = Unit {0}
IsOnPackets (Generate number) = Unit {0}
IsOnPackets (Audit layout why) = ⊥

-- the texts that are made of inputs: of their packets, or of their journal
abbrev pub AreMadeOf : Work → List (List ℕ) → Written → Type 0
AreMadeOf (Simulate layout programs wire manner order number telling format) inputs texts = IsOutcomeIn (Simulate layout programs wire manner order number telling format) inputs (made texts)
AreMadeOf (Generate number) inputs texts = IsOutcomeIn (Generate number) inputs (made texts)
AreMadeOf (Audit layout why) inputs texts = IsAudited layout (bytes_of inputs 0) (made texts)

-- their journal isn't legal from a line on
abbrev pub IsIllegalIn : Work → List (List ℕ) → ℕ → Type 0
IsIllegalIn (Simulate layout programs wire manner order number telling format) inputs line = ⊥
IsIllegalIn (Generate number) inputs line = ⊥
IsIllegalIn (Audit layout why) inputs line = IsAudited layout (bytes_of inputs 0) (illegal line)

-- what inputs come to
abbrev pub IsOutcome : Work → List (List ℕ) → Outcome → Type 0
IsOutcome work inputs (long port) = IsTooLong (most_of work) inputs port
IsOutcome work inputs (bad port cause) = AreShort (most_of work) inputs (length inputs) × HasBadCapture (format_in work) inputs port cause × IsOnPackets work
IsOutcome work inputs (bad_file cause) = AreShort (most_of work) inputs (length inputs) × HasBadFile (format_in work) (ports_in work) inputs cause
IsOutcome work inputs (passed excess) = AreShort (most_of work) inputs (length inputs) × IsOutcomeIn work inputs (passed excess)
IsOutcome work inputs (stalled round told) = AreShort (most_of work) inputs (length inputs) × IsOutcomeIn work inputs (stalled round told)
IsOutcome work inputs (made texts) = AreShort (most_of work) inputs (length inputs) × AreMadeOf work inputs texts
IsOutcome work inputs (illegal line) = AreShort (most_of work) inputs (length inputs) × IsIllegalIn work inputs line

-- it is a function of the work and of their bytes
abbrev pub OneOutcome : Type 0
OneOutcome = (work : Work) (inputs : List (List ℕ)) (some other : Outcome) → IsOutcome work inputs some → IsOutcome work inputs other → some ≡ other

-- ---- what is expected, off the inputs and the words alone

-- what is expected of a class on a port's queue is what goes on by its socket at the paired port
abbrev pub ExpectedGoesOn : Type 0
ExpectedGoesOn = (layout : Layout) (programs : List Program) (lists : List (List (List ℕ))) (port queue class : ℕ) → fault_of layout ≡ None
    → IsPlace (regular_of layout) port queue class
    → expected (regular_of layout) (map listed lists) (verdicts_by layout programs lists) port queue class ≡ going_on layout programs lists (paired_port port) queue class

-- where each packet is redirected and no cell is left empty, all packets of the class go on that have such a length
abbrev pub ClassGoesOn : Type 0
ClassGoesOn = (layout : Layout) (lists : List (List (List ℕ))) (port queue class : ℕ) → layout.empty ≡ None
    → port < layout.ports → queue < layout.queues → class < layout.sockets
    → going_on layout (Redirect ∷ []) lists port queue class
    ≡ filter (λ packet. has_length (regular_of layout) packet && (packet_class layout.sockets packet == class)) (received_on layout lists port queue)

-- so with one queue and one socket on each port all that have such a length
abbrev pub AllGoOn : Type 0
AllGoOn = (layout : Layout) (lists : List (List (List ℕ))) (port : ℕ) → layout.queues ≡ 1 → layout.sockets ≡ 1 → layout.empty ≡ None → paired_port port < layout.ports
    → sent_on_by layout (Redirect ∷ []) lists port ≡ filter (has_length (regular_of layout)) (slice_index_or lists (paired_port port) []) ∷ []

-- ---- what goes back

-- what is to bounce of what a port receives on a queue is what goes back there
abbrev pub BouncedGoesBack : Type 0
BouncedGoesBack = (layout : Layout) (programs : List Program) (lists : List (List (List ℕ))) (port queue : ℕ) → fault_of layout ≡ None
    → port < layout.ports → queue < layout.queues
    → bounced_on (regular_of layout) (map listed lists) (verdicts_by layout programs lists) port queue ≡ going_back layout programs lists port queue

-- where no program lets a packet bounce, none goes back
abbrev pub NoneBounces : Type 0
NoneBounces = (layout : Layout) (programs : List Program) (lists : List (List (List ℕ))) → fault_of layout ≡ None → none_bounces (rules_by layout.sockets programs) ≡ true
    → NoneGoesBack layout programs lists

-- where each packet bounces, all packets go back that have an Ethernet header, and none goes on
abbrev pub AllGoBack : Type 0
AllGoBack = (layout : Layout) (lists : List (List (List ℕ))) (port queue class : ℕ)
    → (going_back layout (Bounce ∷ []) lists port queue ≡ filter (λ packet. nat_le 14 (length packet)) (received_on layout lists port queue))
    × (going_on layout (Bounce ∷ []) lists port queue class ≡ [])
