-- The packets that a driver sent: those that its Submits on COMPLETION completed, in order, and beside them those that it
-- bounced.
use Rattle.std.specs.Prelude.{ℕ, ◌+◌, ◌&&◌, ◌==◌, if◌then◌else◌, List, [], ◌∷◌, ◌++◌, ◌-◌, map, flat_map, take, drop}
use Rattle.xsk_umem.specs.declared.batch.Item.{Item}
use Rattle.xsk_model.specs.Config.{Config, pair_at}
use Rattle.xsk_model.specs.Packets.{bytes_of}
use Rattle.xsk_model.specs.Entry.{Told, Entry, own}
use Rattle.xsk_model.specs.Own.{waiting, completed_by, tx_work_of}
use Rattle.xsk_model.specs.declared.config.SocketInfo.{SocketInfo}
use Rattle.xsk_model.specs.declared.call.Ring.TheVariants.{Fill, Comp, Rx, Tx}
use Rattle.xsk_model.specs.declared.call.Mark.TheVariants.{Bounced}
use Rattle.xsk_model.specs.declared.call.Call.{Call}
use Rattle.xsk_model.specs.declared.call.Call.TheVariants.{Reserve, Submit, Peek, Release, Swap, Look}

-- the sockets of a port's queue, of which the first has the number n
abbrev pub sockets_from : ℕ → List SocketInfo → ℕ → ℕ → List ℕ
sockets_from n [] port queue = []
sockets_from n (socket ∷ sockets) port queue =
    if socket.port == port && socket.queue == queue
    then n ∷ sockets_from (n + 1) sockets port queue
    else sockets_from (n + 1) sockets port queue

-- the sockets of a pair's queue
abbrev pub sockets_of : Config → ℕ → List ℕ
sockets_of c d = sockets_from 0 c.sockets (pair_at c.pairs d).port (pair_at c.pairs d).queue

-- the packets of these sockets' TX rings that a call completes after earlier calls and replies
abbrev pub completed_in : Config → List ℕ → List Told → Call → List (List Item)
completed_in c sockets past (Reserve r n) = []
completed_in c sockets past (Submit (Fill d) items) = []
completed_in c sockets past (Submit (Comp d) items) = flat_map (λ s. completed_by items (waiting c (tx_work_of c s past))) sockets
completed_in c sockets past (Submit (Rx s) items) = []
completed_in c sockets past (Submit (Tx s) items) = []
completed_in c sockets past (Peek r n) = []
completed_in c sockets past (Release r n) = []
completed_in c sockets past (Swap m value) = []
completed_in c sockets past (Look m) = []

-- the bytes of the packets that calls complete, after earlier ones
abbrev pub sent_from : Config → List ℕ → List Told → List Told → List (List ℕ)
sent_from c sockets past [] = []
sent_from c sockets past (t ∷ mine) = map (bytes_of c.geometry c.sg) (completed_in c sockets past t.call) ++ sent_from c sockets (past ++ t ∷ []) mine

-- what a driver sent, and what of it was peeked on the TX ring of one socket
abbrev pub sent : Config → List Entry → ℕ → List (List ℕ)
sent c h d = sent_from c (sockets_of c d) [] (own d h)

abbrev pub sent_by : Config → List Entry → ℕ → ℕ → List (List ℕ)
sent_by c h d socket = sent_from c (socket ∷ []) [] (own d h)

-- ---- bounced packets

-- The packet that a call bounces, of those that the caller is to bounce: to set Bounced to v is to send the v-th. Where the
-- list has none, nothing is sent.
abbrev pub bounced_in : List (List ℕ) → Call → List (List ℕ)
bounced_in bounces (Swap (Bounced d) value) = take 1 (drop (value - 1) bounces)
bounced_in bounces call = []

-- the packets that a caller bounced
abbrev pub bounced_of : List (List ℕ) → List Told → List (List ℕ)
bounced_of bounces mine = flat_map (λ (t : Told). bounced_in bounces t.call) mine

abbrev pub all_sent_from : Config → List ℕ → List (List ℕ) → List Told → List Told → List (List ℕ)
all_sent_from c sockets bounces past [] = []
all_sent_from c sockets bounces past (t ∷ mine) =
    map (bytes_of c.geometry c.sg) (completed_in c sockets past t.call) ++ bounced_in bounces t.call ++ all_sent_from c sockets bounces (past ++ t ∷ []) mine

-- all that a driver sent, where these are the packets that it is to bounce
abbrev pub all_sent : Config → List (List ℕ) → List Entry → ℕ → List (List ℕ)
all_sent c bounces h d = all_sent_from c (sockets_of c d) bounces [] (own d h)
