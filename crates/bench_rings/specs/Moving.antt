-- The configuration of the bench, and what its threads know of the items that they move.
use Rattle.std.specs.Prelude.{◌≡◌, ℕ, ◌+◌, ◌*◌, ◌<◌, ◌≤◌, All, IfSome, List, [], ◌∷◌, length, Some, None, false}
use Rattle.xsk_umem.specs.Frame.{Frame}
use Rattle.xsk_umem.specs.Geometry.{Geometry}
use Rattle.xsk_umem.specs.declared.batch.Item.{Item}
use Rattle.xsk_model.specs.Config.{Config}
use Rattle.xsk_model.specs.Numbers.{times, numbers}
use Rattle.xsk_model.specs.Entry.{Told, with_told}
use Rattle.xsk_model.specs.Legal.{IsItemOn}
use Rattle.xsk_model.specs.declared.config.PairInfo.{PairInfo}
use Rattle.xsk_model.specs.declared.config.SocketInfo.{SocketInfo}
use Rattle.xsk_model.specs.declared.call.Ring.{Ring}
use Rattle.xsk_model.specs.declared.call.Call.TheVariants.{Peek}
use Rattle.xsk_model.specs.declared.call.Reply.TheVariants.{Items}
use Rattle.xsk_table.specs.Held.{Holder}
use Rattle.xsk_rings.specs.Rounds.{mine_of}

-- two ports, of which the first alone moves anything; its FILL and its RX have 2,048 entries
abbrev pub pair_on : ℕ → PairInfo
pair_on port = record { port = port; queue = 0; fill = 2048; comp = 2048 }

abbrev pub socket_on : ℕ → SocketInfo
socket_on port = record { port = port; queue = 0; rx = Some 2048; tx = None }

abbrev pub moving_on : Geometry → Config
moving_on g = record {
  geometry = g;
  ports = 2;
  queues = 1;
  sockets = socket_on 0 ∷ socket_on 1 ∷ [];
  pairs = pair_on 0 ∷ pair_on 1 ∷ [];
  cells = (1 ∷ []) ∷ (2 ∷ []) ∷ [];
  sg = false;
  wakeup = false;
  closing = None;
}

abbrev pub geometry : Geometry
geometry = record { frames = 2048; chunk = 2048; headroom = 0 }

abbrev pub moving : Config
moving = moving_on geometry

-- a pass's last call took these items
pub record Took (p : Holder) (r : Ring) (most : ℕ) (items : List Item) : Type 0 where
  pub before : List Told
  pub mine : mine_of p ≡ with_told before (Peek r most) (Items items)
  pub lawful : All (IsItemOn p.view.setup.config.geometry r) items
  pub some : 1 ≤ length items
  pub few : length items ≤ most

-- an item's frame, where it has one, is one of the UMEM, and whole
abbrev pub IsWhole : Item → Type 0
IsWhole x = IfSome x.frame (λ (f : Frame). (f.number < 2048) × (length f.bytes ≡ 2048))

-- an item with a frame, of which its descriptor tells so many bytes at an offset
pub record IsMoved (offset len : ℕ) (y : Item) : Type 0 where
  pub frame : Frame
  pub is : y.frame ≡ Some frame
  pub number : frame.number < 2048
  pub body : length frame.bytes ≡ 2048
  pub desc : y.desc ≡ record { addr = frame.number * 2048 + offset; len = len; options = 0 }

-- so are all, with the frames that there were
pub record Moved (offset len : ℕ) (items after : List Item) : Type 0 where
  pub all : All (IsMoved offset len) after
  pub same : (n : ℕ) → times n (numbers after) ≡ times n (numbers items)
  pub count : length after ≡ length items
