-- Which words are a command, and what it does. This project's own.
use Rattle.std.specs.Prelude.{ℕ, codes, Bool, List, [], ◌∷◌, length, take, drop, Option, None, Some, is_some, option_and_then, option_map, if◌then◌else◌, unwrap_or, nat_le, nat_lt, not, true, ◌==◌, ◌&&◌, ◌||◌}
use Rattle.std.specs.Str.{bytes_eq}
use Rattle.xsk_args.specs.Words.{Text, is_dashed}
use Rattle.xsk_args.specs.Number.{number_in}
use Rattle.xsk_args.specs.Program.{programs_in}
use Rattle.xsk_args.specs.declared.program.Program.{Program}
use Rattle.xsk_args.specs.declared.program.Program.TheVariants.{Redirect}
use Rattle.xsk_args.specs.Meaning.{Key, Meaning, meaning, number_said, one_value}
use Rattle.xsk_turns.specs.declared.manner.Manner.{Manner}
use Rattle.xsk_turns.specs.declared.wire.Wire.{Wire}
use Rattle.xsk_turns.specs.declared.wire.Wire.TheVariants.{Wait, Drop as Drops}
use Rattle.xsk_socket.specs.declared.layout.Layout.{Layout}
use Rattle.xsk_socket.specs.declared.layout.Unlawful.{Unlawful}
use Rattle.xsk_socket.specs.Layout.{fault_of, usual}
use Rattle.xsk_cli.specs.Format.{files_of, most_input}
use Rattle.xsk_cli.specs.Options as option
use Rattle.xsk_cli.specs.declared.format.Format.{Format}
use Rattle.xsk_cli.specs.declared.format.Format.TheVariants.{Pcap, Pcapng}
use Rattle.xsk_cli.specs.declared.words.Telling.{Telling}
use Rattle.xsk_cli.specs.declared.words.Work.{Work}
use Rattle.xsk_cli.specs.declared.words.Work.TheVariants.{Simulate, Generate, Audit}

-- the files that a command reads and those that it writes, and what it does between
pub record Plan : Type 0 where
  pub inputs : List Text
  pub outputs : List Text
  pub work : Work

abbrev pub no_plan : Plan
no_plan = record { inputs = []; outputs = []; work = Generate 0 }

-- ---- `simulate`

-- the number that was said of an option, or the one that stands where none was
abbrev pub number_of : Meaning → Key → Option ℕ
number_of said key = number_said said key.0

abbrev pub number_or : Meaning → Key → ℕ → ℕ
number_or said key standing = unwrap_or (number_of said key) standing

abbrev pub is_said : Meaning → Key → Bool
is_said said key = is_some (said key.0)

-- the programs that were said, or the one that redirects each packet
abbrev pub programs_of : Meaning → List Program
programs_of said = unwrap_or (option_and_then programs_in (one_value (said option.prog.0))) (Redirect ∷ [])

-- what the wire does with a packet that finds too few frames on FILL or no room on RX (af_xdp.rst, "XDP_STATISTICS
-- getsockopt": rx_dropped, rx_ring_full; that it may wait is this project's own): it drops it where `drop` was said, and else waits
abbrev pub wire_named : Option Text → Wire
wire_named None = Wait
wire_named (Some word) = if bytes_eq word (codes "drop") then Drops else Wait

abbrev pub wire_of : Meaning → Wire
wire_of said = wire_named (one_value (said option.wire.0))

abbrev pub files_in : Meaning → List Text
files_in said = unwrap_or (said (codes "FILE")) []

-- whether the packets are made, so that no inputs are named
abbrev pub are_made : Meaning → Bool
are_made said = is_some (number_of said option.gen)

-- the format that was said
abbrev pub format_of : Meaning → Format
format_of said = if is_said said option.pcapng then Pcapng else Pcap

-- a number of files, where it has 32 bits
abbrev pub counted : ℕ → ℕ
counted n = if nat_lt n 4294967296 then n else 4294967295

-- the ports of a command
abbrev pub ports_of : Meaning → ℕ
ports_of said = number_or said option.ports usual.ports

-- how many files are counted for the layout, and how many it wants for each port. The one file of pcapng and its one output
-- are no port's, so none is wanted
abbrev pub files_counted : Format → ℕ → ℕ
files_counted Pcap count = counted count
files_counted Pcapng count = 0

abbrev pub wanted_per_port : Format → Bool → ℕ
wanted_per_port Pcap made = if made then 1 else 2
wanted_per_port Pcapng made = 0

-- what is asked for: its ports, the queues of each and the sockets of each queue, all over one UMEM (af_xdp.rst,
-- "XDP_SHARED_UMEM bind flag"); with `sg` packets may have several frames ("XDP_USE_SG bind flag"); with `empty` one cell of
-- each port's XSKMAP holds no socket; with `close` one socket is closed while traffic flows, and with `hands` each application is
-- so many threads: both this project's own
abbrev pub layout_by : Meaning → Layout
layout_by said = record {
  ports = ports_of said;
  queues = number_or said option.queues usual.queues;
  sockets = number_or said option.sockets usual.sockets;
  files = files_counted (format_of said) (length (files_in said));
  files_wanted_per_port = wanted_per_port (format_of said) (are_made said);
  chunk = number_or said option.chunk usual.chunk;
  headroom = number_or said option.headroom usual.headroom;
  frames = number_or said option.frames usual.frames;
  rx = number_or said option.rx usual.rx;
  tx = number_or said option.tx usual.tx;
  fill = number_or said option.fill usual.fill;
  comp = number_or said option.comp usual.comp;
  sg = is_said said option.sg;
  wakeup = is_said said option.wakeup;
  empty = number_of said option.empty;
  close = number_of said option.close;
  hands = number_or said option.hands usual.hands;
}

-- the files are an input for each port, or one of pcapng, but where the packets are made, and then as many outputs
abbrev pub inputs_named : Meaning → ℕ
inputs_named said = if are_made said then 0 else files_of (format_of said) (ports_of said)

-- what the applications change of what they send, and after how many packets of its RX a socket is closed: this project's own
abbrev pub manner_of : Meaning → Manner
manner_of said = record { mangle = number_of said option.mangle; after = number_or said option.after 0 }

-- what is told of a run in rounds besides its figures
abbrev pub telling_of : Meaning → Telling
telling_of said = record { journal = is_said said option.journal; why = is_said said option.why }

abbrev pub plan_by : Meaning → Plan
plan_by said = record {
  inputs = take (inputs_named said) (files_in said);
  outputs = drop (inputs_named said) (files_in said);
  work = Simulate (layout_by said) (programs_of said) (wire_of said) (manner_of said) (number_or said option.order 0) (number_of said option.gen) (telling_of said) (format_of said);
}

-- with pcapng there are two files, or one where the packets are made
abbrev pub are_enough : Format → Bool → ℕ → Bool
are_enough Pcap made count = true
are_enough Pcapng made count = count == (if made then 1 else 2)

abbrev pub has_files : Meaning → Bool
has_files said = are_enough (format_of said) (are_made said) (length (files_in said))

-- `after` is said of the socket that is closed, whose application is one thread
abbrev pub go_together : Bool → Bool → ℕ → Bool
go_together closes after hands = if closes then nat_le hands 1 else not after

abbrev pub do_go_together : Meaning → Bool
do_go_together said = go_together (is_said said option.close) (is_said said option.after) (number_or said option.hands usual.hands)

abbrev pub is_planned : Meaning → Bool
is_planned said = has_files said && do_go_together said

abbrev pub planned_by : Meaning → Option Plan
planned_by said = if is_planned said then Some (plan_by said) else None

abbrev pub simulate_plan : List Text → Option Plan
simulate_plan words = option_and_then planned_by (meaning (codes "simulate") option.of_simulate words)

-- ---- `gen`

-- the words behind `gen` are a number and a file
abbrev pub gen_plan : List Text → Option Plan
gen_plan (number ∷ file ∷ []) =
    if is_dashed file then None
    else option_map (λ n. record { inputs = []; outputs = file ∷ []; work = Generate n }) (number_in number)
gen_plan _ = None

-- ---- `audit`

-- a layout that wants no files of its ports
abbrev pub without_files : Layout → Layout
without_files layout = record layout { files = 0; files_wanted_per_port = 0 }

-- the one file is the journal
abbrev pub audit_plan_by : Meaning → List Text → Option Plan
audit_plan_by said (file ∷ []) = Some (record { inputs = file ∷ []; outputs = []; work = Audit (without_files (layout_by said)) (is_said said option.why) })
audit_plan_by said _ = None

abbrev pub audit_plan : List Text → Option Plan
audit_plan words = option_and_then (λ said. audit_plan_by said (files_in said)) (meaning (codes "audit") option.of_audit words)

-- ---- all

abbrev pub plan_of : List Text → Option Plan
plan_of [] = None
plan_of (first ∷ rest) =
    if bytes_eq first (codes "gen") then gen_plan rest
    else if bytes_eq first (codes "audit") then audit_plan (first ∷ rest)
    else simulate_plan (first ∷ rest)

-- why the work is refused, where it is
abbrev pub fault_in : Work → Option Unlawful
fault_in (Simulate layout programs wire manner order number telling format) = fault_of layout
fault_in (Generate number) = None
fault_in (Audit layout why) = fault_of layout

-- an application of several threads closes no socket, and so waits for no items to close one
abbrev pub suits_hands : Layout → Manner → Bool
suits_hands layout manner = layout.hands == 1 || (not (is_some layout.close) && manner.after == 0)

abbrev pub suits_in : Work → Bool
suits_in (Simulate layout programs wire manner order number telling format) = suits_hands layout manner
suits_in (Generate number) = true
suits_in (Audit layout why) = true

-- how many ports have packets
abbrev pub ports_in : Work → ℕ
ports_in (Simulate layout programs wire manner order number telling format) = layout.ports
ports_in (Generate number) = 1
ports_in (Audit layout why) = 0

-- the format of the files of packets
abbrev pub format_in : Work → Format
format_in (Simulate layout programs wire manner order number telling format) = format
format_in (Generate number) = Pcap
format_in (Audit layout why) = Pcap

-- the most bytes of one input: of a file of packets, or of a journal
abbrev pub most_of : Work → ℕ
most_of (Simulate layout programs wire manner order number telling format) = most_input format
most_of (Generate number) = most_input Pcap
most_of (Audit layout why) = 67108864
