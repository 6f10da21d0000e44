-- What a standing keeps of a caller's earlier calls and replies.
use Rattle.std.specs.Prelude.{ℕ, List, Option}
use Rattle.xsk_umem.specs.declared.batch.XdpDesc.{XdpDesc}
use Rattle.xsk_model.specs.declared.call.Ring.{Ring}
use Rattle.xsk_legal.specs.declared.marked.Marked.{Marked}
use Rattle.xsk_legal.specs.declared.standing.Places.{Places}

-- of one TX ring: the descriptors of its packets that are not completed, in order, with those of the packet that is not
-- at its end behind them; the number of the latter; and how many descriptors there is room for
pub record Queue : Type 0 where
  pub descs : List XdpDesc
  pub begun : ℕ
  pub limit : ℕ

-- the caller; its rings by place; for each frame the ring from which the caller last got it, if the caller has it; its
-- TX rings by socket; and what it set and saw of closing and bouncing
pub record Noted : Type 0 where
  pub who : ℕ
  pub places : List Places
  pub sources : List (Option Ring)
  pub queues : List Queue
  pub marked : Marked
