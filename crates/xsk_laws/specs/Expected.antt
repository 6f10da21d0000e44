-- What each port sends: of the packets that its paired port receives those that go to a socket, and of its own those that bounce,
-- each whole and in order. It is read off the input with its verdicts and the configuration alone.
use Rattle.std.specs.Prelude.{ℕ, ◌+◌, ◌==◌, ◌&&◌, not, Bool, true, false, nat_lt, nat_le, List, [], ◌∷◌, length, slice_index}
use Rattle.std.specs.List.{filter, slice_index_or}
use Rattle.xsk_umem.specs.PacketList.{PacketList}
use Rattle.xsk_model.specs.Config.{Config, map_of}
use Rattle.xsk_model.specs.Steering.{packet_limit, paired_port, driver_on, socket_on}
use Rattle.xsk_prog.specs.declared.rule.Rule.{Rule}
use Rattle.xsk_prog.specs.declared.rule.Rule.TheVariants.{Bounce as BounceAll, BounceType}
use Rattle.xsk_prog.specs.declared.rule.Verdict.{Verdict}
use Rattle.xsk_prog.specs.declared.rule.Verdict.TheVariants.{Drop, Pass, Redirect, Bounce}
use Rattle.xsk_turns.specs.Inputs.{packets_of_port, packets_of_queue}
use Rattle.xsk_turns.specs.Turns.{Judged}
use Rattle.xsk_turns.specs.Disposals.{bytes_in}
use Rattle.xsk_turns.specs.SentWith.{bouncing}
use Rattle.xsk_turns.specs.Verdicts.{judged}

-- what a port receives on a queue
abbrev pub received : Config → List PacketList → ℕ → ℕ → List (List ℕ)
received c lists port queue = packets_of_queue c.queues queue (packets_of_port lists port)

-- each of them with its verdict, of which there is a list for each driver
abbrev pub received_judged : Config → List PacketList → List (List Verdict) → ℕ → ℕ → List Judged
received_judged c lists verdicts port queue = judged (received c lists port queue) (slice_index_or verdicts (driver_on c port queue) [])

-- ---- what is redirected

-- whether the cell exists and holds the socket, whose number is counted from 1 there
abbrev pub holds_socket : List ℕ → ℕ → ℕ → Bool
holds_socket map cell socket = nat_lt cell (length map) && (slice_index map cell == socket + 1)

-- whether a verdict redirects to such a cell
abbrev pub leads_to : List ℕ → ℕ → Verdict → Bool
leads_to map socket Drop = false
leads_to map socket Pass = false
leads_to map socket (Redirect cell) = holds_socket map cell socket
leads_to map socket Bounce = false

-- whether a packet has 14 bytes up to the limit
abbrev pub has_length : Config → List ℕ → Bool
has_length c packet = nat_le 14 (length packet) && nat_le (length packet) (packet_limit c)

-- whether a packet that a port receives on a queue goes to the socket of this class: it has such a length, and its verdict
-- redirects it to a cell that holds that socket
abbrev pub is_redirected : Config → ℕ → ℕ → ℕ → Judged → Bool
is_redirected c port queue class packet = has_length c packet.bytes && leads_to (map_of c port) (socket_on c port queue class) packet.verdict

-- what a port sends on a queue by the socket of a class, where there is one list of received packets for each port
abbrev pub expected : Config → List PacketList → List (List Verdict) → ℕ → ℕ → ℕ → List (List ℕ)
expected c lists verdicts port queue class =
    bytes_in (filter (is_redirected c (paired_port port) queue class) (received_judged c lists verdicts (paired_port port) queue))

-- ---- what bounces

-- what a port sends on a queue of the packets that it receives there (XDP_TX)
abbrev pub bounced_on : Config → List PacketList → List (List Verdict) → ℕ → ℕ → List (List ℕ)
bounced_on c lists verdicts port queue = bouncing (received_judged c lists verdicts port queue)

-- whether a rule lets a packet bounce, and that none of these does
abbrev pub may_bounce : Rule → Bool
may_bounce BounceAll = true
may_bounce (BounceType kind) = true
may_bounce rule = false

abbrev pub none_bounces : List Rule → Bool
none_bounces [] = true
none_bounces (rule ∷ rules) = not (may_bounce rule) && none_bounces rules
