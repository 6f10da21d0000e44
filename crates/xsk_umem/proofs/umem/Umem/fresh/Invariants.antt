use Rattle.std.proofs.Common.{◌≡◌, ℕ, length}
use Rattle.xsk_umem.specs.Frames.{Frames}
use Rattle.xsk_umem.specs.Registration.{fresh}
use Rattle.xsk_umem.proofs.umem.Umem.fresh.Given as goal

-- so many frames stand in the queue, the first ones in order
pub record HasFirst (frames : Frames) (chunk number count : ℕ) : Type 0 where
  pub items : frames.items ≡ fresh chunk number
  pub len : length frames.items ≡ number
  pub limit : frames.limit ≡ count

abbrev pub invariant-loop-number : goal.invariant-loop-number
invariant-loop-number l = HasFirst l.frames l.chunk l.number l.count
