-- The lists of a caller's own calls and replies for which a standing stands: what it keeps is what they leave.
-- A Submit and a Peek are noted item by item, so a standing may also stand for a list and the first items of one more
-- call.
use Rattle.std.specs.Prelude.{◌≡◌, ℕ, ◌<◌, nat_lt, Bool, false, if◌then◌else◌, Option, None, List, [], ◌∷◌, ◌++◌, length, map, take, drop, flat_map}
use Rattle.std.specs.List.{fold, slice_index_or, slice_set}
use Rattle.xsk_umem.specs.declared.batch.Item.{Item}
use Rattle.xsk_umem.specs.declared.batch.XdpDesc.{XdpDesc}
use Rattle.xsk_model.specs.Config.{Config, HasRing, callers_of}
use Rattle.xsk_model.specs.Packets.{rest}
use Rattle.xsk_model.specs.Numbers.{times, numbers}
use Rattle.xsk_model.specs.Rings.{place, places_of, consumer}
use Rattle.xsk_model.specs.Object.{call_ring, submitted, taken}
use Rattle.xsk_model.specs.Entry.{Told}
use Rattle.xsk_model.specs.Own.{TxWork, room_of, held_of, is_same, waiting, tx_work_of}
use Rattle.xsk_model.specs.History.{OwnGoesOn}
use Rattle.xsk_model.specs.declared.call.Ring.{Ring}
use Rattle.xsk_model.specs.declared.call.Ring.TheVariants.{Fill, Comp, Rx, Tx}
use Rattle.xsk_model.specs.declared.call.Call.TheVariants.{Submit, Peek}
use Rattle.xsk_model.specs.declared.call.Reply.TheVariants.{Submitted, Items}
use Rattle.xsk_legal.specs.declared.standing.Places.{Places}
use Rattle.xsk_legal.specs.Noted.{Queue, Noted}
use Rattle.xsk_legal.specs.Marked.{IsMarked}

-- ---- frames

abbrev pub source_step : ℕ → Option Ring → Told → Option Ring
source_step n before t =
    if nat_lt 0 (times n (numbers (taken t.reply))) then call_ring t.call
    else if nat_lt 0 (times n (numbers (submitted t.call))) then None
    else before

-- the ring from which the caller last got a frame, if it has it
abbrev pub source_of : ℕ → List Told → Option Ring
source_of n mine = fold (source_step n) None mine

-- ---- TX rings

abbrev pub desc_of : Item → XdpDesc
desc_of item = item.desc

-- the items of the packets that wait, and those of the packet that is not at its end
abbrev pub uncompleted : Config → TxWork → List Item
uncompleted c sending = flat_map (λ (packet : List Item). packet) (waiting c sending) ++ rest c.geometry c.sg sending.peeked

-- the next packet that waits begins with these frames
abbrev pub begins : List ℕ → List (List Item) → Bool
begins ns [] = false
begins ns (packet ∷ later) = is_same ns (take (length ns) (numbers packet))

-- how many items of the next packet of a TX ring were given back by the first items of a Submit
abbrev pub given_back : Config → List Told → Ring → List Item → ℕ → ℕ
given_back c mine (Fill d) done s = 0
given_back c mine (Comp d) done s = if begins (numbers done) (waiting c (tx_work_of c s mine)) then length done else 0
given_back c mine (Rx t) done s = 0
given_back c mine (Tx t) done s = 0

-- ---- what is kept

abbrev pub places_at : Noted → ℕ → Places
places_at kept i = slice_index_or kept.places i (record { room = 0; held = 0 })

abbrev pub source_at : Noted → ℕ → Option Ring
source_at kept n = slice_index_or kept.sources n None

abbrev pub no_queue : Queue
no_queue = record { descs = []; begun = 0; limit = 0 }

abbrev pub queue_at : Noted → ℕ → Queue
queue_at kept s = slice_index_or kept.queues s no_queue

-- with something else kept of the ring of a place
abbrev pub with_places : Noted → ℕ → Places → Noted
with_places kept i places = record kept { places = slice_set kept.places i places }

-- Room, held items, frames and marks are those that `mine` leaves. The queues are those that `queued` leaves, without the first
-- `back` items of each.
-- There is room for all frames on each TX ring that the caller consumes.
pub record Keeps (c : Config) (kept : Noted) (mine queued : List Told) (back : ℕ → ℕ) : Type 0 where
  pub rings : length kept.places ≡ places_of c
  pub frames : length kept.sources ≡ c.geometry.frames
  pub sockets : length kept.queues ≡ length c.sockets
  pub limits : (s : ℕ) → HasRing c (Tx s) → kept.who ≡ consumer c (Tx s) → (queue_at kept s).limit ≡ c.geometry.frames
  pub room : (r : Ring) → HasRing c r → (places_at kept (place c r)).room ≡ room_of r mine
  pub held : (r : Ring) → HasRing c r → (places_at kept (place c r)).held ≡ held_of r mine
  pub sources : (n : ℕ) → n < c.geometry.frames → source_at kept n ≡ source_of n mine
  pub descs : (s : ℕ) → HasRing c (Tx s) → (queue_at kept s).descs ≡ drop (back s) (map desc_of (uncompleted c (tx_work_of c s queued)))
  pub begun : (s : ℕ) → HasRing c (Tx s) → (queue_at kept s).begun ≡ length (rest c.geometry c.sg (tx_work_of c s queued).peeked)
  pub marked : IsMarked c kept.who kept.marked mine

abbrev pub none_back : ℕ → ℕ
none_back s = 0

-- it stands for a list of own calls and replies, each legal and each reply one that fits
pub record StandsFor (c : Config) (kept : Noted) (mine : List Told) : Type 0 where
  pub caller : kept.who < callers_of c
  pub own : OwnGoesOn c kept.who [] mine
  pub keeps : Keeps c kept mine mine none_back

-- the queue of a TX ring of which nothing was peeked
pub record IsFresh (c : Config) (who s : ℕ) (queue : Queue) : Type 0 where
  pub descs : queue.descs ≡ []
  pub begun : queue.begun ≡ 0
  pub limit : HasRing c (Tx s) → who ≡ consumer c (Tx s) → queue.limit ≡ c.geometry.frames

-- ---- calls that are noted in part

-- a Submit of some items, and a Peek that gave them; nothing where there is none
abbrev pub placing : Ring → List Item → List Told
placing r [] = []
placing r (item ∷ items) = (record { call = Submit r (item ∷ items); reply = Submitted }) ∷ []

abbrev pub fetching : Ring → List Item → List Told
fetching r [] = []
fetching r (item ∷ items) = (record { call = Peek r (length (item ∷ items)); reply = Items (item ∷ items) }) ∷ []

-- it stands for the list and the first items of a Submit
pub record IsPlacing (c : Config) (kept : Noted) (mine : List Told) (r : Ring) (done : List Item) : Type 0 where
  pub caller : kept.who < callers_of c
  pub own : OwnGoesOn c kept.who [] mine
  pub keeps : Keeps c kept (mine ++ placing r done) mine (given_back c mine r done)

-- it stands for the list and the first items of a Peek's reply
pub record IsFetching (c : Config) (kept : Noted) (mine : List Told) (r : Ring) (done : List Item) : Type 0 where
  pub caller : kept.who < callers_of c
  pub own : OwnGoesOn c kept.who [] mine
  pub keeps : Keeps c kept (mine ++ fetching r done) (mine ++ fetching r done) none_back
